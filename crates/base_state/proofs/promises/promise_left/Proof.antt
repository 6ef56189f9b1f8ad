-- `base_state::promise_left` meets its contract. Assumes nothing.
use borrow.Author.Rules.{rules}
use native.Mathlib.Omega.{arith}
use Rattle.model.specs.State.{promise_left}
use Rattle.base_state.proofs.promises.promise_left.Statement.{statement}
use Rattle.base_state.proofs.promises.promise_left.Tie as tie

promise-requires : tie.Need-promise-n-requires
promise-requires c κs = search rules

returns : tie.Need-returns-then-n-eq0
unfolding promise_left
returns c = omega (arith, c.promise-n.ensures.0)

sub-result : tie.Need-overflow_sub-result
sub-result c = search rules

returns-2 : tie.Need-returns
unfolding promise_left
returns-2 c = omega (arith, c.promise-n.ensures.0)

pub promise_left_spec : {M : Type 1} → statement M
promise_left_spec = tie.close (tie.spec promise-requires returns sub-result returns-2)
