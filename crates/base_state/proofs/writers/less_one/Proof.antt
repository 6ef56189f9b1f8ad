-- `base_state::less_one` meets its contract. Assumes nothing.
use borrow.Author.Rules.{rules}
use native.Mathlib.Omega.{arith}
use Rattle.model.specs.State.{less_one}
use Rattle.base_state.proofs.writers.less_one.Statement.{statement}
use Rattle.base_state.proofs.writers.less_one.Tie as tie

returns : tie.Need-returns-then-count-eq0
unfolding less_one
returns c = omega (arith, c.if-count-eq0.true)

sub-result : tie.Need-overflow_sub-result
sub-result c = search rules

returns-2 : tie.Need-returns
unfolding less_one
returns-2 c = omega (arith, c.if-count-eq0.false)

pub less_one_spec : {M : Type 1} → statement M
less_one_spec = tie.close (tie.spec returns sub-result returns-2)
