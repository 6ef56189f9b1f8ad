-- `base_state::begun` meets its contract. Assumes nothing.
use mathlib.Core.Path.{refl}
use Rattle.model.specs.State.{begun}
use Rattle.base_state.proofs.writers.begun.Statement.{statement}
use Rattle.base_state.proofs.writers.begun.Tie as tie

returns : tie.Need-returns
unfolding begun
returns c = refl

pub begun_spec : {M : Type 1} → statement M
begun_spec = tie.close (tie.spec returns)
