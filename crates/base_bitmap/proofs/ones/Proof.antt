-- `base_bitmap::ones` meets its contract. Assumes nothing.
use native.Mathlib.Omega.{arith}
use lib.Count.{ones-le}
use Rattle.base_bitmap.proofs.WordLaws.{ones-bits}
use Rattle.base_bitmap.proofs.ones.Statement.{statement}
use Rattle.base_bitmap.proofs.ones.Tie as tie

cast-result : tie.Need-overflow_cast-result
cast-result c = omega (arith, ones-le 64 c.args.w c.ranges.w.fits)

returns : tie.Need-returns
returns c = (ones-bits c.args.w c.ranges.w.fits, ones-le 64 c.args.w c.ranges.w.fits)

pub ones_spec : {M : Type 1} → statement M
ones_spec = tie.close (tie.spec cast-result returns)
