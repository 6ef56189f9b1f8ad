-- `base_state::promise` meets its contract. Assumes nothing.
use borrow.Author.Rules.{rules}
use native.Mathlib.Omega.{arith}
use Rattle.model.specs.State.{promise_of, promise_offset}
use Rattle.base_state.proofs.promises.promise.Statement.{statement}
use Rattle.base_state.proofs.promises.promise.Tie as tie

mul-number : tie.Need-overflow_mul-w
mul-number c = search rules

add-number : tie.Need-overflow_add-w
add-number c = search rules

number-requires : tie.Need-number-requires
number-requires c κs = search rules

returns : tie.Need-returns
unfolding promise_of promise_offset
returns c = (c.number.ensures.0, omega (arith, c.number.ensures.1))

pub promise_spec : {M : Type 1} → statement M
promise_spec = tie.close (tie.spec mul-number add-number number-requires returns)
