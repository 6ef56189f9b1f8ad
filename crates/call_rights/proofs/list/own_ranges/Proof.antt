-- `call_rights::own_ranges` meets its contract. Assumes nothing.
use borrow.Author.Rules.{rules}
use Rattle.call_rights.proofs.PlaceLaws.{ranges-home, ranges-entry}
use Rattle.call_rights.proofs.list.own_ranges.Statement.{statement}
use Rattle.call_rights.proofs.list.own_ranges.Tie as tie

add-in-ranges : tie.Need-overflow_add-at
add-in-ranges c = search rules

mul-in-ranges : tie.Need-overflow_mul-at
mul-in-ranges c = search rules

add-in-ranges-2 : tie.Need-overflow_add-at-then-found-eq0
add-in-ranges-2 c = search rules

in-ranges-requires : tie.Need-in_ranges-requires
in-ranges-requires c κs = search rules

returns : tie.Need-returns-then-found-eq0
returns c = ranges-home _ _ _ _ _ _ _ c.if-found-eq0.true c.requires.2 c.in_ranges.ensures

in-entry-requires : tie.Need-in_entry-requires
in-entry-requires c κs = let k = c.requires.3 c.if-found-eq0.false in (k.0, k.1, c.requires.2)

returns-2 : tie.Need-returns
returns-2 c = ranges-entry _ _ _ _ _ _ _ c.if-found-eq0.false c.in_entry.ensures

pub own_ranges_spec : {M : Type 1} → statement M
own_ranges_spec =
    tie.close
    (tie.spec
    add-in-ranges
    mul-in-ranges
    add-in-ranges-2
    in-ranges-requires
    returns
    in-entry-requires
    returns-2)
