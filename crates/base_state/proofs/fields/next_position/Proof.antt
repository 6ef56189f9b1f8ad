-- `base_state::next_position` meets its contract. Assumes nothing.
use borrow.Author.Rules.{rules}
use mathlib.Core.Path.{refl}
use Rattle.model.specs.State.{next_position}
use Rattle.base_state.proofs.fields.next_position.Statement.{statement}
use Rattle.base_state.proofs.fields.next_position.Tie as tie

mul-result : tie.Need-overflow_mul-result
mul-result c = search rules

add-result : tie.Need-overflow_add-result
add-result c = search rules

returns : tie.Need-returns
unfolding next_position
returns c = refl

pub next_position_spec : {M : Type 1} → statement M
next_position_spec = tie.close (tie.spec mul-result add-result returns)
