-- `object_machine::asks::condition_for` meets its contract. Assumes nothing.
use borrow.Author.Tests.{eq-eqb, ne_eqb}
use Rattle.object_machine.specs.Next.{condition_for}
use Rattle.object_machine.proofs.asks.condition_for.Statement.{statement}
use Rattle.object_machine.proofs.asks.condition_for.Tie as tie

returns : tie.Need-returns-then-stage-eq19
unfolding condition_for
returns c = rw (eq-eqb _ 19 c.if-stage-eq19.true)

returns-2 : tie.Need-returns
unfolding condition_for
returns-2 c = rw (ne_eqb _ 19 c.if-stage-eq19.false)

pub condition_for_spec : {M : Type 1} → statement M
condition_for_spec = tie.close (tie.spec returns returns-2)
