-- `object_machine::turns::done` meets its contract. Assumes nothing.
use mathlib.Core.Path.{refl}
use Rattle.object_machine.specs.Moves.{done}
use Rattle.object_machine.proofs.turns.done.Statement.{statement}
use Rattle.object_machine.proofs.turns.done.Tie as tie

returns : tie.Need-returns
unfolding done
returns c = refl

pub done_spec : {M : Type 1} → statement M
done_spec = tie.close (tie.spec returns)
