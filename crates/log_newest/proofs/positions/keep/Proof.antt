-- `log_newest::keep` meets its contract. Assumes nothing.
use borrow.Author.Rules.{rules}
use Rattle.log_newest.proofs.PositionLaws.{keep-written}
use Rattle.log_newest.proofs.positions.keep.Statement.{statement}
use Rattle.log_newest.proofs.positions.keep.Tie as tie

mul-put-number : tie.Need-overflow_mul-home
mul-put-number c = search rules

put-number-requires : tie.Need-put_number-requires
put-number-requires c κs = search rules

same_length : tie.Need-shape_of-newest
same_length c = search rules

returns : tie.Need-returns
returns c = keep-written _ _ _ _ c.put_number.ensures

pub keep_spec : {M : Type 1} → statement M
keep_spec = tie.close (tie.spec mul-put-number put-number-requires same_length returns)
