-- `base_state::set_held` meets its contract. Assumes nothing.
use Rattle.model.specs.State.{set_held}
use mathlib.Core.Path.{◌∙◌}
use borrow.Author.Rules.{rules}
use Rattle.base_state.proofs.writers.set_held.Statement.{statement}
use Rattle.base_state.proofs.writers.set_held.Tie as tie

held-offset-requires : tie.Need-held_offset-at-requires
held-offset-requires c κs = search rules

copy-requires : tie.Need-copy-requires
copy-requires c κs = search rules

same_length : tie.Need-shape_of-s
same_length c = search rules

returns : tie.Need-returns
unfolding set_held
returns c = c.copy.ensures ∙ rw c.held_offset-at.ensures.0

pub set_held_spec : {M : Type 1} → statement M
set_held_spec = tie.close (tie.spec held-offset-requires copy-requires same_length returns)
