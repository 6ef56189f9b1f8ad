-- `unit_alarms_list::gravest` meets its contract. Assumes nothing.
use Rattle.unit_alarms_list.specs.OpenAlarms.{gravest_kept}
use borrow.Author.Rules.{rules}
use Rattle.unit_alarms_list.proofs.gravest.Statement.{statement}
use Rattle.unit_alarms_list.proofs.gravest.Tie as tie

alarm-at-requires : tie.Need-alarm_at-requires
alarm-at-requires c κs = search rules

returns : tie.Need-returns
unfolding gravest_kept
returns c = c.alarm_at.ensures.0

pub gravest_spec : {M : Type 1} → statement M
gravest_spec = tie.close (tie.spec alarm-at-requires returns)
