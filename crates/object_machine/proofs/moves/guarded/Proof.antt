-- `object_machine::moves::guarded` meets its contract. Assumes nothing.
use mathlib.Core.Path.{refl}
use Rattle.object_machine.specs.Moves.{guarded}
use Rattle.object_machine.proofs.moves.guarded.Statement.{statement}
use Rattle.object_machine.proofs.moves.guarded.Tie as tie

returns : tie.Need-returns
unfolding guarded
returns c = refl

pub guarded_spec : {M : Type 1} → statement M
guarded_spec = tie.close (tie.spec returns)
