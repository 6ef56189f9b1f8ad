-- `object_machine::moves::tells_holder` meets its contract. Assumes nothing.
use Rattle.object_machine.specs.Moves.{tells_holder}
use Rattle.object_machine.proofs.moves.tells_holder.Statement.{statement}
use Rattle.object_machine.proofs.moves.tells_holder.Tie as tie

returns : tie.Need-returns-then-code
unfolding tells_holder
returns c = rw c.if-code.true

returns-2 : tie.Need-returns
unfolding tells_holder
returns-2 c = rw c.if-code.false

pub tells_holder_spec : {M : Type 1} → statement M
tells_holder_spec = tie.close (tie.spec returns returns-2)
