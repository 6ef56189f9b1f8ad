-- `object_machine::asks::shut` meets its contract. Assumes nothing.
use borrow.Author.Tests.{eq-eqb, ne_eqb}
use Rattle.object_machine.specs.Next.{shut}
use Rattle.object_machine.proofs.asks.shut.Statement.{statement}
use Rattle.object_machine.proofs.asks.shut.Tie as tie

returns : tie.Need-returns-then-c-eq2
unfolding shut
returns c = rw (eq-eqb _ 2 c.if-c-eq2.true)

returns-2 : tie.Need-returns-then-c-eq1
unfolding shut
returns-2 c = rw (ne_eqb _ 2 c.if-c-eq2.false, eq-eqb _ 1 c.if-c-eq1.true)

returns-3 : tie.Need-returns
unfolding shut
returns-3 c = rw (ne_eqb _ 2 c.if-c-eq2.false, ne_eqb _ 1 c.if-c-eq1.false)

pub shut_spec : {M : Type 1} → statement M
shut_spec = tie.close (tie.spec returns returns-2 returns-3)
