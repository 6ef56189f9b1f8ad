-- `call_rights::open_unsigned` meets its contract. Assumes nothing.
use borrow.Author.Rules.{rules}
use native.Mathlib.Omega.{arith}
use Rattle.call_rights.proofs.RightsLaws.{copy-open, copy-none, sign-silent}
use Rattle.call_rights.proofs.list.open_unsigned.Statement.{statement}
use Rattle.call_rights.proofs.list.open_unsigned.Tie as tie

none-kept-requires : tie.Need-none_kept-requires
none-kept-requires c κs = let p = c.requires in (p.0.holds p.2, p.0.low)

open-kept-requires : tie.Need-open_kept-requires
open-kept-requires c κs = let p = c.requires in (p.0, p.1, p.2, p.3, p.4)

returns : tie.Need-returns-then-not-none_kept
returns c = let p = c.requires in sign-silent _ _ _ _ _ p.0 p.2 _ _ _ _ p.5 p.6 c.open_kept.ensures

add-in-ranges : tie.Need-overflow_add-at
add-in-ranges c = search rules

in-ranges-requires : tie.Need-in_ranges-requires
in-ranges-requires c κs = let p = c.requires in omega (arith, p.0.long, p.2, p.3, p.4)

returns-2 : tie.Need-returns-then-in_ranges
returns-2 c =
    let p = c.requires in
    sign-silent _ _ _ _ _ p.0 p.2 _ _ _ _ p.5 p.6
    (copy-open _ _ _ _ _ p.0 p.2 (c.none_kept.ensures (c.if-not-none_kept.false)) _ _ _ p.3 p.4 c.in_ranges.ensures c.if-in_ranges.true)

none-in-copy-requires : tie.Need-none_in_copy-requires
none-in-copy-requires c κs = let p = c.requires in omega (arith, p.0.long, p.2)

returns-3 : tie.Need-returns
returns-3 c =
    let p = c.requires in
    sign-silent _ _ _ _ _ p.0 p.2 _ _ _ _ p.5 p.6
    (copy-none _ _ _ _ _ p.0 p.2 (c.none_kept.ensures (c.if-not-none_kept.false)) _ _ _ _ p.3 p.4 c.in_ranges.ensures c.if-in_ranges.false
    c.none_in_copy.ensures)

pub open_unsigned_spec : {M : Type 1} → statement M
open_unsigned_spec =
    tie.close
    (tie.spec
    none-kept-requires
    open-kept-requires
    returns
    add-in-ranges
    in-ranges-requires
    returns-2
    none-in-copy-requires
    returns-3)
