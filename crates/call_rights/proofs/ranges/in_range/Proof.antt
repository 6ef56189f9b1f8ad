-- `call_rights::in_range` meets its contract. Assumes nothing.
use native.Mathlib.Omega.{arith}
use Rattle.call_rights.proofs.RightsLaws.{range-wrapped}
use borrow.Author.Rules.{rules}
use Rattle.call_rights.proofs.ranges.in_range.Statement.{statement}
use Rattle.call_rights.proofs.ranges.in_range.Tie as tie

number-requires : tie.Need-number-first-requires
number-requires c κs = search rules

add-number : tie.Need-overflow_add-at
add-number c = search rules

number-requires-2 : tie.Need-number-n-requires
number-requires-2 c κs = search rules

wrapped-difference-requires : tie.Need-wrapped_difference-requires
wrapped-difference-requires c κs = search rules

returns : tie.Need-returns
returns c =
    let a = c.number-first.ensures in
    let b = c.number-n.ensures in
    range-wrapped _ _ _ _ _ _ a.0 b.0 a.1 b.1 (omega arith) c.wrapped_difference.ensures

pub in_range_spec : {M : Type 1} → statement M
in_range_spec =
    tie.close
    (tie.spec number-requires add-number number-requires-2 wrapped-difference-requires returns)
