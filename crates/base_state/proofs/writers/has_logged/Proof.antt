-- `base_state::has_logged` meets its contract. Assumes nothing.
use mathlib.Core.Path.{refl}
use Rattle.model.specs.State.{has_logged}
use Rattle.base_state.proofs.writers.has_logged.Statement.{statement}
use Rattle.base_state.proofs.writers.has_logged.Tie as tie

returns : tie.Need-returns
unfolding has_logged
returns c = refl

pub has_logged_spec : {M : Type 1} → statement M
has_logged_spec = tie.close (tie.spec returns)
