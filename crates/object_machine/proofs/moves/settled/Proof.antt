-- `object_machine::moves::settled` meets its contract. Assumes nothing.
use mathlib.Core.Path.{refl}
use Rattle.object_machine.specs.Moves.{settled}
use Rattle.object_machine.proofs.moves.settled.Statement.{statement}
use Rattle.object_machine.proofs.moves.settled.Tie as tie

returns : tie.Need-returns
unfolding settled
returns c = refl

pub settled_spec : {M : Type 1} → statement M
settled_spec = tie.close (tie.spec returns)
