-- `base_state::one_more` meets its contract. Assumes nothing.
use borrow.Author.Rules.{rules}
use native.Mathlib.Omega.{arith}
use Rattle.model.specs.State.{one_more_than}
use Rattle.base_state.proofs.writers.one_more.Statement.{statement}
use Rattle.base_state.proofs.writers.one_more.Tie as tie

returns : tie.Need-returns-then-less-eq18446744073709551615
unfolding one_more_than
returns c = omega (arith, c.if-less-eq18446744073709551615.true)

add-result : tie.Need-overflow_add-result
add-result c = search rules

returns-2 : tie.Need-returns
unfolding one_more_than
returns-2 c = omega (arith, c.if-less-eq18446744073709551615.false)

pub one_more_spec : {M : Type 1} → statement M
one_more_spec = tie.close (tie.spec returns add-result returns-2)
