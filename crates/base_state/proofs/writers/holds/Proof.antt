-- `base_state::holds` meets its contract. Assumes nothing.
use mathlib.Core.Path.{refl}
use Rattle.model.specs.State.{holds}
use Rattle.base_state.proofs.writers.holds.Statement.{statement}
use Rattle.base_state.proofs.writers.holds.Tie as tie

returns : tie.Need-returns
unfolding holds
returns c = refl

pub holds_spec : {M : Type 1} → statement M
holds_spec = tie.close (tie.spec returns)
