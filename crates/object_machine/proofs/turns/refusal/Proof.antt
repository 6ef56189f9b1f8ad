-- `object_machine::turns::refusal` meets its contract. Assumes nothing.
use borrow.Author.Tests.{eq-eqb, ne_eqb}
use Rattle.object_machine.specs.Next.{refusal}
use borrow.Author.Rules.{rules}
use Rattle.object_machine.proofs.turns.refusal.Statement.{statement}
use Rattle.object_machine.proofs.turns.refusal.Tie as tie

done-requires : tie.Need-done-requires
done-requires c κs = search rules

returns : tie.Need-returns-then-code-eq65
unfolding refusal
returns c = rw (eq-eqb _ 65 c.if-code-eq65.true) c.done.ensures

done-requires-2 : tie.Need-done-requires-2
done-requires-2 c κs = search rules

returns-2 : tie.Need-returns
unfolding refusal
returns-2 c = rw (ne_eqb _ 65 c.if-code-eq65.false) c.done-2.ensures

pub refusal_spec : {M : Type 1} → statement M
refusal_spec = tie.close (tie.spec done-requires returns done-requires-2 returns-2)
