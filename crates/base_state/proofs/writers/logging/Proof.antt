-- `base_state::logging` meets its contract. Assumes nothing.
use mathlib.Core.Path.{refl}
use Rattle.model.specs.State.{logging}
use Rattle.base_state.proofs.writers.logging.Statement.{statement}
use Rattle.base_state.proofs.writers.logging.Tie as tie

returns : tie.Need-returns
unfolding logging
returns c = refl

pub logging_spec : {M : Type 1} → statement M
logging_spec = tie.close (tie.spec returns)
