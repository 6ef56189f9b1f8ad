-- `call_rights::open_listed` meets its contract. Assumes nothing.
use mathlib.Core.Path.{sym, ◌∙◌}
use native.Mathlib.Omega.{arith}
use Rattle.call_rights.proofs.PlaceLaws.{fits, ranges-by}
use Rattle.call_rights.proofs.RightsLaws.{ranges-own}
use Rattle.call_rights.proofs.list.open_listed.Statement.{statement}
use Rattle.call_rights.proofs.list.open_listed.Tie as tie

place-requires : tie.Need-place-found-requires
place-requires c κs = let p = c.requires in (p.0.search, p.1, p.0.holds p.2, p.0.low, omega arith, p.2)

own-ranges-requires : tie.Need-own_ranges-requires
own-ranges-requires c κs = let p = c.requires in (omega (arith, p.0.long, p.2), p.3, p.4, fits _ _ _ _ _ c.place-found.ensures p.0.search)

returns : tie.Need-returns
returns c = let p = c.requires in ranges-by _ _ _ _ _ _ _ c.place-found.ensures _ _ _ c.own_ranges.ensures ∙ sym (ranges-own _ _ _ _ _ p.0 p.2 _ _ p.3 p.4)

pub open_listed_spec : {M : Type 1} → statement M
open_listed_spec = tie.close (tie.spec place-requires own-ranges-requires returns)
