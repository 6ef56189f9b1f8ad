-- `unit_alarms_list::list::seal` meets its contract. Assumes nothing.
use Rattle.unit_alarms_list.specs.OpenAlarms.{sealed}
use borrow.Author.Rules.{rules}
use Rattle.unit_alarms_list.proofs.list.seal.Statement.{statement}
use Rattle.unit_alarms_list.proofs.list.seal.Tie as tie

gravest-of-requires : tie.Need-gravest_of-g-requires
gravest-of-requires c κs = search rules

put-number-requires : tie.Need-put_number-requires
put-number-requires c κs = search rules

put-alarm-requires : tie.Need-put_alarm-requires
put-alarm-requires c κs = search rules

same_length : tie.Need-shape_of-s
same_length c = search rules

returns : tie.Need-returns
unfolding sealed
returns c =
    rw (c.put_alarm.ensures, c.put_number.ensures, c.gravest_of-g.ensures)

pub seal_spec : {M : Type 1} → statement M
seal_spec =
    tie.close
    (tie.spec gravest-of-requires put-number-requires put-alarm-requires same_length returns)
