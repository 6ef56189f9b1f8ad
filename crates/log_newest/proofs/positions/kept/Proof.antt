-- `log_newest::kept` meets its contract. Assumes nothing.
use borrow.Author.Rules.{rules}
use Rattle.log_newest.proofs.PositionLaws.{kept_read}
use Rattle.log_newest.proofs.positions.kept.Statement.{statement}
use Rattle.log_newest.proofs.positions.kept.Tie as tie

mul-number : tie.Need-overflow_mul-home
mul-number c = search rules

number-requires : tie.Need-number-requires
number-requires c κs = search rules

returns : tie.Need-returns
returns c = kept_read _ _ _ c.number.ensures.0

pub kept_spec : {M : Type 1} → statement M
kept_spec = tie.close (tie.spec mul-number number-requires returns)
