-- `call_rights::in_ranges` meets its contract. Assumes nothing.
use borrow.Author.Rules.{rules}
use Rattle.call_rights.proofs.RightsLaws.{ranges-first, ranges-second, ranges-third, ranges-fourth}
use Rattle.call_rights.proofs.ranges.in_ranges.Statement.{statement}
use Rattle.call_rights.proofs.ranges.in_ranges.Tie as tie

in-range-requires : tie.Need-in_range-requires
in-range-requires c κs = search rules

returns : tie.Need-returns-then-in_range
returns c = ranges-first _ _ _ _ c.in_range.ensures c.if-in_range.true

add-in-range : tie.Need-overflow_add-at
add-in-range c = search rules

in-range-requires-2 : tie.Need-in_range-requires-2
in-range-requires-2 c κs = search rules

returns-2 : tie.Need-returns-then-in_range-2
returns-2 c = ranges-second _ _ _ _ c.in_range.ensures _ c.in_range-2.ensures c.if-in_range.false c.if-in_range-2.true

add-in-range-2 : tie.Need-overflow_add-at-2
add-in-range-2 c = search rules

in-range-requires-3 : tie.Need-in_range-requires-3
in-range-requires-3 c κs = search rules

returns-3 : tie.Need-returns-then-in_range-3
returns-3 c = ranges-third _ _ _ _ c.in_range.ensures _ c.in_range-2.ensures c.if-in_range.false _ c.in_range-3.ensures c.if-in_range-2.false c.if-in_range-3.true

add-in-range-3 : tie.Need-overflow_add-at-3
add-in-range-3 c = search rules

in-range-requires-4 : tie.Need-in_range-requires-4
in-range-requires-4 c κs = search rules

returns-4 : tie.Need-returns
returns-4 c = ranges-fourth _ _ _ _ c.in_range.ensures _ c.in_range-2.ensures c.if-in_range.false _ c.in_range-3.ensures c.if-in_range-2.false _ c.in_range-4.ensures c.if-in_range-3.false

pub in_ranges_spec : {M : Type 1} → statement M
in_ranges_spec =
    tie.close
    (tie.spec
    in-range-requires
    returns
    add-in-range
    in-range-requires-2
    returns-2
    add-in-range-2
    in-range-requires-3
    returns-3
    add-in-range-3
    in-range-requires-4
    returns-4)
