-- `call_rights::other_zero` meets its contract. Assumes nothing.
use native.Mathlib.Omega.{arith}
use Rattle.call_rights.proofs.PlaceLaws.{own-zero, fits, zero-by}
use Rattle.call_rights.proofs.list.other_zero.Statement.{statement}
use Rattle.call_rights.proofs.list.other_zero.Tie as tie

returns : tie.Need-returns-then-i-own
returns c = own-zero _ _ _ _ _ _ _ c.if-i-own.true c.requires.4

place-requires : tie.Need-place-found-requires
place-requires c κs = let p = c.requires in (p.0.search, p.1, p.0.holds p.2, p.0.low, p.3, p.2)

is-zero-requires : tie.Need-is_zero-requires
is-zero-requires c κs = let p = c.requires in (omega (arith, p.0.long, p.2), p.3, fits _ _ _ _ _ c.place-found.ensures p.0.search)

returns-2 : tie.Need-returns
returns-2 c = zero-by _ _ _ _ _ _ _ c.place-found.ensures _ c.is_zero.ensures

pub other_zero_spec : {M : Type 1} → statement M
other_zero_spec = tie.close (tie.spec returns place-requires is-zero-requires returns-2)
