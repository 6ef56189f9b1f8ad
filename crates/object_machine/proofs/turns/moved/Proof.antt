-- `object_machine::turns::moved` meets its contract. Assumes nothing.
use mathlib.Core.Path.{refl}
use Rattle.object_machine.specs.Moves.{moved}
use Rattle.object_machine.proofs.turns.moved.Statement.{statement}
use Rattle.object_machine.proofs.turns.moved.Tie as tie

returns : tie.Need-returns
unfolding moved
returns c = refl

pub moved_spec : {M : Type 1} → statement M
moved_spec = tie.close (tie.spec returns)
