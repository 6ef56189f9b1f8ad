-- `object_machine::moves::headed` meets its contract. Assumes nothing.
use borrow.Author.Tests.{eq-eqb, ne_eqb}
use Rattle.object_machine.specs.Moves.{headed_at}
use Rattle.object_machine.proofs.moves.headed.Statement.{statement}
use Rattle.object_machine.proofs.moves.headed.Tie as tie

returns : tie.Need-returns-then-c-eq1
unfolding headed_at
returns c = rw (eq-eqb _ 1 c.if-c-eq1.true)

returns-2 : tie.Need-returns
unfolding headed_at
returns-2 c = rw (ne_eqb _ 1 c.if-c-eq1.false)

pub headed_spec : {M : Type 1} → statement M
headed_spec = tie.close (tie.spec returns returns-2)
