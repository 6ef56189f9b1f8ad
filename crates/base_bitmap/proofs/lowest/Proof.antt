-- `base_bitmap::lowest` meets its contract. Assumes nothing.
use mathlib.Core.Path.{refl}
use native.Mathlib.Omega.{arith}
use lib.Count.{trailing_le, leading_le}
use Rattle.base_bitmap.proofs.WordLaws.{lowest-lt, lowest-first, lowest_set}
use Rattle.base_bitmap.proofs.lowest.Statement.{statement}
use Rattle.base_bitmap.proofs.lowest.Tie as tie

cast-result : tie.Need-overflow_cast-result
cast-result c = omega (arith, trailing_le 64 c.args.w, leading_le 64 c.args.w)

returns : tie.Need-returns
returns c = (
  lowest-first c.args.w c.requires c.ranges.w.fits,
  lowest-lt c.args.w c.requires c.ranges.w.fits,
  refl,
  lowest_set c.args.w c.requires c.ranges.w.fits,
)

pub lowest_spec : {M : Type 1} → statement M
lowest_spec = tie.close (tie.spec cast-result returns)
