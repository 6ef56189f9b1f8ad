-- `base_state::is_open` meets its contract. Assumes nothing.
use mathlib.Core.Path.{refl}
use Rattle.model.specs.State.{is_open_now}
use Rattle.base_state.proofs.writers.is_open.Statement.{statement}
use Rattle.base_state.proofs.writers.is_open.Tie as tie

returns : tie.Need-returns
unfolding is_open_now
returns c = refl

pub is_open_spec : {M : Type 1} → statement M
is_open_spec = tie.close (tie.spec returns)
