-- `log_search::other_at` meets its contract. Assumes nothing.
use native.Mathlib.Omega.{arith}
use borrow.Author.Tests.{eqb-false, not-true}
use Rattle.log_search.proofs.SoughtLaws.{bits-other}
use borrow.Author.Rules.{rules}
use Rattle.log_search.proofs.sought.other_at.Statement.{statement}
use Rattle.log_search.proofs.sought.other_at.Tie as tie

mul-number : tie.Need-overflow_mul-k
mul-number c = search rules

add-number : tie.Need-overflow_add-k
add-number c = search rules

number-requires : tie.Need-number-requires
number-requires c κs = search rules

returns : tie.Need-returns
returns c t home back e h b = bits-other _ _ _ _ c.number.ensures.0 (omega (arith, c.number.ensures.1)) (eqb-false _ _ (not-true _ t)) home back e

pub other_at_spec : {M : Type 1} → statement M
other_at_spec = tie.close (tie.spec mul-number add-number number-requires returns)
