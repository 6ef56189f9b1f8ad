-- `call_rights::in_entry` meets its contract. Assumes nothing.
use borrow.Author.Rules.{rules}
use mathlib.Core.Path.{◌∙◌}
use native.Mathlib.Omega.{arith}
use Rattle.call_rights.proofs.PlaceLaws.{range-raw, last-range}
use Rattle.call_rights.proofs.RightsLaws.{ranges-first, ranges-second, ranges-third, ranges-fourth}
use Rattle.call_rights.proofs.ranges.in_entry.Statement.{statement}
use Rattle.call_rights.proofs.ranges.in_entry.Tie as tie

add-in-range : tie.Need-overflow_add-place
add-in-range c = search rules

in-range-requires : tie.Need-in_range-requires
in-range-requires c κs = search rules

returns : tie.Need-returns-then-in_range
returns c = ranges-first _ _ _ _ (c.in_range.ensures ∙ range-raw _ _ _ _ (omega arith)) c.if-in_range.true

add-in-range-2 : tie.Need-overflow_add-o
add-in-range-2 c = search rules

add-in-range-3 : tie.Need-overflow_add-place-2
add-in-range-3 c = search rules

in-range-requires-2 : tie.Need-in_range-requires-2
in-range-requires-2 c κs = search rules

returns-2 : tie.Need-returns-then-in_range-2
returns-2 c = ranges-second _ _ _ _ (c.in_range.ensures ∙ range-raw _ _ _ _ (omega arith)) _ (c.in_range-2.ensures ∙ range-raw _ _ _ _ (omega arith)) c.if-in_range.false c.if-in_range-2.true

add-in-range-4 : tie.Need-overflow_add-o-2
add-in-range-4 c = search rules

add-in-range-5 : tie.Need-overflow_add-place-3
add-in-range-5 c = search rules

in-range-requires-3 : tie.Need-in_range-requires-3
in-range-requires-3 c κs = search rules

returns-3 : tie.Need-returns-then-in_range-3
returns-3 c = ranges-third _ _ _ _ (c.in_range.ensures ∙ range-raw _ _ _ _ (omega arith)) _ (c.in_range-2.ensures ∙ range-raw _ _ _ _ (omega arith)) c.if-in_range.false _ (c.in_range-3.ensures ∙ range-raw _ _ _ _ (omega arith)) c.if-in_range-2.false c.if-in_range-3.true

add-in-range-6 : tie.Need-overflow_add-o-then-o-lt48
add-in-range-6 c = search rules

add-in-range-7 : tie.Need-overflow_add-place-then-o-lt48
add-in-range-7 c = search rules

in-range-requires-4 : tie.Need-in_range-requires-then-o-lt48
in-range-requires-4 c κs = search rules

returns-4 : tie.Need-returns-then-o-lt48
returns-4 c = ranges-fourth _ _ _ _ (c.in_range.ensures ∙ range-raw _ _ _ _ (omega arith)) _ (c.in_range-2.ensures ∙ range-raw _ _ _ _ (omega arith)) c.if-in_range.false _ (c.in_range-3.ensures ∙ range-raw _ _ _ _ (omega arith)) c.if-in_range-2.false _ (c.in_range-then-o-lt48.ensures ∙ range-raw _ _ _ _ (omega arith)) c.if-in_range-3.false

in-last-requires : tie.Need-in_last-requires
in-last-requires c κs = search rules

returns-5 : tie.Need-returns
returns-5 c = ranges-fourth _ _ _ _ (c.in_range.ensures ∙ range-raw _ _ _ _ (omega arith)) _ (c.in_range-2.ensures ∙ range-raw _ _ _ _ (omega arith)) c.if-in_range.false _ (c.in_range-3.ensures ∙ range-raw _ _ _ _ (omega arith)) c.if-in_range-2.false _ (c.in_last.ensures ∙ last-range _ _ _ (omega (arith, c.if-o-lt48.false))) c.if-in_range-3.false

pub in_entry_spec : {M : Type 1} → statement M
in_entry_spec =
    tie.close
    (tie.spec
    add-in-range
    in-range-requires
    returns
    add-in-range-2
    add-in-range-3
    in-range-requires-2
    returns-2
    add-in-range-4
    add-in-range-5
    in-range-requires-3
    returns-3
    add-in-range-6
    add-in-range-7
    in-range-requires-4
    returns-4
    in-last-requires
    returns-5)
