-- `unit_alarms_list::fields::alarm_at` meets its contract. Assumes nothing.
use native.Mathlib.Omega.{arith}
use Rattle.unit_alarms_list.proofs.ByteLaws.{word-alarm}
use borrow.Author.Rules.{rules}
use Rattle.unit_alarms_list.proofs.fields.alarm_at.Statement.{statement}
use Rattle.unit_alarms_list.proofs.fields.alarm_at.Tie as tie

number-requires : tie.Need-number-w-requires
number-requires c κs = search rules

returns : tie.Need-returns
returns c =
    let w = c.number-w.ensures in
    (word-alarm _ _ (λ i. omega (arith, c.shared_slice_known-1.given i)) w.0, record { identity = omega arith; class = omega arith; second = omega arith })

pub alarm_at_spec : {M : Type 1} → statement M
alarm_at_spec = tie.close (tie.spec number-requires returns)
