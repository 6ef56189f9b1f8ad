-- `base_bitmap::clear_lowest` meets its contract. Assumes nothing.
use borrow.Author.Rules.{rules}
use Rattle.base_bitmap.proofs.WordLaws.{cleared-lt, cleared-rest, cleared-others}
use Rattle.base_bitmap.proofs.clear_lowest.Statement.{statement}
use Rattle.base_bitmap.proofs.clear_lowest.Tie as tie

sub-result : tie.Need-overflow_sub-result
sub-result c = search rules

returns : tie.Need-returns
returns c = (
  cleared-lt c.args.w c.requires,
  cleared-rest c.args.w c.requires c.ranges.w.fits,
  cleared-others c.args.w c.requires c.ranges.w.fits,
)

pub clear_lowest_spec : {M : Type 1} → statement M
clear_lowest_spec = tie.close (tie.spec sub-result returns)
