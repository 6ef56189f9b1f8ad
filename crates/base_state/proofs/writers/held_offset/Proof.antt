-- `base_state::held_offset` meets its contract. Assumes nothing.
use Rattle.model.specs.State.{held_offset}
use native.Mathlib.Omega.{arith}
use mathlib.Core.Path.{refl}
use borrow.Author.Rules.{rules}
use Rattle.base_state.proofs.writers.held_offset.Statement.{statement}
use Rattle.base_state.proofs.writers.held_offset.Tie as tie

mul-result : tie.Need-overflow_mul-result
mul-result c = search rules

add-result : tie.Need-overflow_add-result
add-result c = search rules

returns : tie.Need-returns
unfolding held_offset
returns c = (refl, omega arith)

pub held_offset_spec : {M : Type 1} → statement M
held_offset_spec = tie.close (tie.spec mul-result add-result returns)
