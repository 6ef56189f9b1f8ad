-- `object_machine::turns::answers` meets its contract. Assumes nothing.
use Rattle.object_machine.specs.Moves.{answers}
use borrow.Author.Rules.{rules}
use Rattle.object_machine.proofs.turns.answers.Statement.{statement}
use Rattle.object_machine.proofs.turns.answers.Tie as tie

with-stage-requires : tie.Need-with_stage-requires
with-stage-requires c κs = search rules

done-requires : tie.Need-done-requires
done-requires c κs = search rules

moved-requires : tie.Need-moved-requires
moved-requires c κs = search rules

returns : tie.Need-returns
unfolding answers
returns c = rw (← c.with_stage.ensures, ← c.done.ensures) c.moved.ensures

pub answers_spec : {M : Type 1} → statement M
answers_spec = tie.close (tie.spec with-stage-requires done-requires moved-requires returns)
