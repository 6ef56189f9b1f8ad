-- `base_state::holding` meets its contract. Assumes nothing.
use mathlib.Core.Path.{refl}
use Rattle.model.specs.State.{holding}
use Rattle.base_state.proofs.writers.holding.Statement.{statement}
use Rattle.base_state.proofs.writers.holding.Tie as tie

returns : tie.Need-returns
unfolding holding
returns c = refl

pub holding_spec : {M : Type 1} → statement M
holding_spec = tie.close (tie.spec returns)
