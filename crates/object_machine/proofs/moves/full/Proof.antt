-- `object_machine::moves::full` meets its contract. Assumes nothing.
use borrow.Author.Tests.{eq-eqb, ne_eqb}
use Rattle.object_machine.specs.Moves.{full}
use Rattle.object_machine.proofs.moves.full.Statement.{statement}
use Rattle.object_machine.proofs.moves.full.Tie as tie

returns : tie.Need-returns-then-stage-eq2
unfolding full
returns c = rw (eq-eqb _ 2 c.if-stage-eq2.true)

returns-2 : tie.Need-returns-then-stage-eq5
unfolding full
returns-2 c = rw (ne_eqb _ 2 c.if-stage-eq2.false, eq-eqb _ 5 c.if-stage-eq5.true)

returns-3 : tie.Need-returns-then-stage
unfolding full
returns-3 c = rw (ne_eqb _ 2 c.if-stage-eq2.false, ne_eqb _ 5 c.if-stage-eq5.false, c.if-stage.true)

returns-4 : tie.Need-returns
unfolding full
returns-4 c = rw (ne_eqb _ 2 c.if-stage-eq2.false, ne_eqb _ 5 c.if-stage-eq5.false, c.if-stage.false)

pub full_spec : {M : Type 1} → statement M
full_spec = tie.close (tie.spec returns returns-2 returns-3 returns-4)
