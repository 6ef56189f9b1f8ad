-- `base_state::set_promise` meets its contract. Assumes nothing.
use borrow.Author.Rules.{rules}
use Rattle.model.specs.State.{set_promise, promise_offset}
use Rattle.base_state.proofs.promises.set_promise.Statement.{statement}
use Rattle.base_state.proofs.promises.set_promise.Tie as tie

mul-put-number : tie.Need-overflow_mul-w
mul-put-number c = search rules

add-put-number : tie.Need-overflow_add-w
add-put-number c = search rules

put-number-requires : tie.Need-put_number-requires
put-number-requires c κs = search rules

same_length : tie.Need-shape_of-s
same_length c = search rules

returns : tie.Need-returns
unfolding set_promise promise_offset
returns c = c.put_number.ensures

pub set_promise_spec : {M : Type 1} → statement M
set_promise_spec = tie.close (tie.spec mul-put-number add-put-number put-number-requires same_length returns)
