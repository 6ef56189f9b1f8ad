-- `object_machine::moves::held_back` meets its contract. Assumes nothing.
use mathlib.Core.Path.{refl}
use Rattle.object_machine.specs.Moves.{held_back_by}
use Rattle.object_machine.proofs.moves.held_back.Statement.{statement}
use Rattle.object_machine.proofs.moves.held_back.Tie as tie

returns : tie.Need-returns
unfolding held_back_by
returns c = refl

pub held_back_spec : {M : Type 1} → statement M
held_back_spec = tie.close (tie.spec returns)
