-- `call_rights::open_kept` meets its contract. Assumes nothing.
use mathlib.Core.Path.{sym, ◌∙◌}
use native.Mathlib.Omega.{arith}
use Rattle.call_rights.proofs.PlaceLaws.{fits, ranges-by}
use Rattle.call_rights.proofs.RightsLaws.{ranges-own, open-inside, open-outside}
use Rattle.call_rights.proofs.list.open_kept.Statement.{statement}
use Rattle.call_rights.proofs.list.open_kept.Tie as tie

place-requires : tie.Need-place-found-requires
place-requires c κs = let p = c.requires in (p.0.search, p.1, p.0.holds p.2, p.0.low, omega arith, p.2)

own-ranges-requires : tie.Need-own_ranges-requires
own-ranges-requires c κs = let p = c.requires in (omega (arith, p.0.long, p.2), p.3, p.4, fits _ _ _ _ _ c.place-found.ensures p.0.search)

returns : tie.Need-returns-then-own_ranges
returns c =
    let p = c.requires in
    open-inside _ _ _ _ _
    (ranges-by _ _ _ _ _ _ _ c.place-found.ensures _ _ _ c.own_ranges.ensures ∙ sym (ranges-own _ _ _ _ _ p.0 p.2 _ _ p.3 p.4))
    c.if-own_ranges.true

all-zeros-requires : tie.Need-all_zeros-requires
all-zeros-requires c κs = let p = c.requires in (p.0, p.1, p.2)

returns-2 : tie.Need-returns
returns-2 c =
    let p = c.requires in
    open-outside _ _ _ _ _ _ p.2
    (ranges-by _ _ _ _ _ _ _ c.place-found.ensures _ _ _ c.own_ranges.ensures ∙ sym (ranges-own _ _ _ _ _ p.0 p.2 _ _ p.3 p.4))
    c.if-own_ranges.false c.all_zeros.ensures

pub open_kept_spec : {M : Type 1} → statement M
open_kept_spec = tie.close (tie.spec place-requires own-ranges-requires returns all-zeros-requires returns-2)
