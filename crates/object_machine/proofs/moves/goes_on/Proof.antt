-- `object_machine::moves::goes_on` meets its contract. Assumes nothing.
use Rattle.object_machine.specs.Moves.{goes_further}
use borrow.Author.Rules.{rules}
use Rattle.object_machine.proofs.moves.goes_on.Statement.{statement}
use Rattle.object_machine.proofs.moves.goes_on.Tie as tie

answers-requires : tie.Need-answers-requires
answers-requires c κs = search rules

returns : tie.Need-returns-then-to-size
unfolding goes_further
returns c = rw c.if-to-size.true c.answers.ensures

with-batch-requires : tie.Need-with_batch-requires
with-batch-requires c κs = search rules

passes-requires : tie.Need-passes-requires
passes-requires c κs = search rules

returns-2 : tie.Need-returns
unfolding goes_further
returns-2 c = rw (c.if-to-size.false, ← c.with_batch.ensures) c.passes.ensures

pub goes_on_spec : {M : Type 1} → statement M
goes_on_spec = tie.close (tie.spec answers-requires returns with-batch-requires passes-requires returns-2)
