-- `object_machine::turns::pass` meets its contract. Assumes nothing.
use mathlib.Core.Path.{refl}
use Rattle.object_machine.specs.Moves.{pass}
use Rattle.object_machine.proofs.turns.pass.Statement.{statement}
use Rattle.object_machine.proofs.turns.pass.Tie as tie

returns : tie.Need-returns
unfolding pass
returns c = refl

pub pass_spec : {M : Type 1} → statement M
pass_spec = tie.close (tie.spec returns)
