-- `unit_alarms_list::fields::put_alarm` meets its contract. Assumes nothing.
use Rattle.unit_alarms_list.proofs.ByteLaws.{put-fields}
use borrow.Author.Rules.{rules}
use Rattle.unit_alarms_list.proofs.fields.put_alarm.Statement.{statement}
use Rattle.unit_alarms_list.proofs.fields.put_alarm.Tie as tie

put-number-requires : tie.Need-put_number-requires
put-number-requires c κs = search rules

add-put-number : tie.Need-overflow_add-at
add-put-number c = search rules

put-number-requires-2 : tie.Need-put_number-requires-2
put-number-requires-2 c κs = search rules

add-put-number-2 : tie.Need-overflow_add-at-2
add-put-number-2 c = search rules

put-number-requires-3 : tie.Need-put_number-requires-3
put-number-requires-3 c κs = search rules

same_length : tie.Need-shape_of-s
same_length c = search rules

returns : tie.Need-returns
returns c =
    rw (c.put_number-3.ensures, c.put_number-2.ensures, c.put_number.ensures) (put-fields _ _ _)

pub put_alarm_spec : {M : Type 1} → statement M
put_alarm_spec =
    tie.close
    (tie.spec
    put-number-requires
    add-put-number
    put-number-requires-2
    add-put-number-2
    put-number-requires-3
    same_length
    returns)
