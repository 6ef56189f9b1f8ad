-- `object_machine::asks::maintain_stage` meets its contract. Assumes nothing.
use borrow.Author.Tests.{eq-eqb, ne_eqb}
use Rattle.object_machine.specs.Next.{maintain_stage}
use Rattle.object_machine.proofs.asks.maintain_stage.Statement.{statement}
use Rattle.object_machine.proofs.asks.maintain_stage.Tie as tie

returns : tie.Need-returns-then-most-eq0
unfolding maintain_stage
returns c = rw (eq-eqb _ 0 c.if-most-eq0.true)

returns-2 : tie.Need-returns
unfolding maintain_stage
returns-2 c = rw (ne_eqb _ 0 c.if-most-eq0.false)

pub maintain_stage_spec : {M : Type 1} → statement M
maintain_stage_spec = tie.close (tie.spec returns returns-2)
