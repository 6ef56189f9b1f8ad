-- `object_machine::turns::fails` meets its contract. Assumes nothing.
use Rattle.object_machine.specs.Next.{fails}
use borrow.Author.Rules.{rules}
use Rattle.object_machine.proofs.turns.fails.Statement.{statement}
use Rattle.object_machine.proofs.turns.fails.Tie as tie

with-condition-requires : tie.Need-with_condition-requires
with-condition-requires c κs = search rules

done-requires : tie.Need-done-requires
done-requires c κs = search rules

moved-requires : tie.Need-moved-requires
moved-requires c κs = search rules

returns : tie.Need-returns
unfolding fails
returns c = rw (← c.with_condition.ensures, ← c.done.ensures) c.moved.ensures

pub fails_spec : {M : Type 1} → statement M
fails_spec = tie.close (tie.spec with-condition-requires done-requires moved-requires returns)
