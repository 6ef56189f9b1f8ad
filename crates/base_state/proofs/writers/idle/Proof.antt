-- `base_state::idle` meets its contract. Assumes nothing.
use mathlib.Core.Path.{refl}
use Rattle.model.specs.State.{idle}
use Rattle.base_state.proofs.writers.idle.Statement.{statement}
use Rattle.base_state.proofs.writers.idle.Tie as tie

returns : tie.Need-returns
unfolding idle
returns c = refl

pub idle_spec : {M : Type 1} → statement M
idle_spec = tie.close (tie.spec returns)
