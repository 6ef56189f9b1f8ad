-- `base_order::asked_of_four` meets its contract: each return follows the tests that led to it. Assumes nothing.
use borrow.Author.Rules.{rules}
use native.Mathlib.Omega.{arith}
use Rattle.base_order.proofs.AskedLaws.{all-four, four-none}
use Rattle.base_order.proofs.pending.asked_of_four.Statement.{statement}
use Rattle.base_order.proofs.pending.asked_of_four.Tie as tie

mul-number : tie.Need-overflow_mul-from
mul-number c = search rules

add-number : tie.Need-overflow_add-from
add-number c = search rules

number-requires : tie.Need-number-requires
number-requires c κs = search rules

returns : tie.Need-returns-then-number-eq0
returns c = (four-none _ _ _ c.number.ensures.0 c.if-number-eq0.true, omega arith)

asked-requires : tie.Need-asked-requires
asked-requires c κs = search rules

add-asked : tie.Need-overflow_add-from-2
add-asked c = search rules

asked-requires-2 : tie.Need-asked-requires-2
asked-requires-2 c κs = search rules

add-result : tie.Need-overflow_add-result
add-result c = search rules

add-asked-2 : tie.Need-overflow_add-from-3
add-asked-2 c = search rules

asked-requires-3 : tie.Need-asked-requires-3
asked-requires-3 c κs = search rules

add-result-2 : tie.Need-overflow_add-result-2
add-result-2 c = search rules

add-asked-3 : tie.Need-overflow_add-from-4
add-asked-3 c = search rules

asked-requires-4 : tie.Need-asked-requires-4
asked-requires-4 c κs = search rules

add-result-3 : tie.Need-overflow_add-result-3
add-result-3 c = search rules

returns-2 : tie.Need-returns
returns-2 c =
    let d = c.asked-4.ensures in
    let e = c.asked-3.ensures in
    let f = c.asked-2.ensures in
    let g = c.asked.ensures in
    (all-four _ _ _ _ _ _ g.0 f.0 e.0 d.0, omega (arith, d.1, e.1, f.1, g.1))

pub asked_of_four_spec : {M : Type 1} → statement M
asked_of_four_spec =
    tie.close
    (tie.spec
    mul-number
    add-number
    number-requires
    returns
    asked-requires
    add-asked
    asked-requires-2
    add-result
    add-asked-2
    asked-requires-3
    add-result-2
    add-asked-3
    asked-requires-4
    add-result-3
    returns-2)
