-- `base_state::offset` meets its contract. Assumes nothing.
use borrow.Author.Rules.{rules}
use mathlib.Core.Path.{refl}
use native.Mathlib.Omega.{arith}
use Rattle.model.specs.State.{writer_offset}
use Rattle.base_state.proofs.writers.offset.Statement.{statement}
use Rattle.base_state.proofs.writers.offset.Tie as tie

mul-result : tie.Need-overflow_mul-result
mul-result c = search rules

add-result : tie.Need-overflow_add-result
add-result c = search rules

returns : tie.Need-returns
unfolding writer_offset
returns c = (refl, omega arith)

pub offset_spec : {M : Type 1} → statement M
offset_spec = tie.close (tie.spec mul-result add-result returns)
