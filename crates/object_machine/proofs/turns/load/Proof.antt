-- `object_machine::turns::load` meets its contract. Assumes nothing.
use mathlib.Core.Path.{refl}
use Rattle.object_machine.specs.Moves.{load}
use Rattle.object_machine.proofs.turns.load.Statement.{statement}
use Rattle.object_machine.proofs.turns.load.Tie as tie

returns : tie.Need-returns
unfolding load
returns c = refl

pub load_spec : {M : Type 1} → statement M
load_spec = tie.close (tie.spec returns)
