-- `object_machine::moves::uncalled` meets its contract. Assumes nothing.
use borrow.Author.Tests.{eq-eqb, ne_eqb}
use Rattle.object_machine.specs.Moves.{uncalled}
use borrow.Author.Rules.{rules}
use Rattle.object_machine.proofs.moves.uncalled.Statement.{statement}
use Rattle.object_machine.proofs.moves.uncalled.Tie as tie

with-stage-requires : tie.Need-with_stage-requires
with-stage-requires c κs = search rules

load-requires : tie.Need-load-requires
load-requires c κs = search rules

moved-requires : tie.Need-moved-requires
moved-requires c κs = search rules

returns : tie.Need-returns-then-c-eq19
unfolding uncalled
returns c = rw (eq-eqb _ 19 c.if-c-eq19.true, ← c.with_stage.ensures, ← c.load.ensures) c.moved.ensures

with-stage-requires-2 : tie.Need-with_stage-requires-then-c-eq20
with-stage-requires-2 c κs = search rules

load-requires-2 : tie.Need-load-requires-then-c-eq20
load-requires-2 c κs = search rules

moved-requires-2 : tie.Need-moved-requires-then-c-eq20
moved-requires-2 c κs = search rules

returns-2 : tie.Need-returns-then-c-eq20
unfolding uncalled
returns-2 c = rw (ne_eqb _ 19 c.if-c-eq19.false, eq-eqb _ 20 c.if-c-eq20.true, ← c.with_stage-then-c-eq20.ensures, ← c.load-then-c-eq20.ensures) c.moved-then-c-eq20.ensures

with-condition-requires : tie.Need-with_condition-requires
with-condition-requires c κs = search rules

done-requires : tie.Need-done-requires
done-requires c κs = search rules

moved-requires-3 : tie.Need-moved-requires-then-c-eq21
moved-requires-3 c κs = search rules

returns-3 : tie.Need-returns-then-c-eq21
unfolding uncalled
returns-3 c = rw (ne_eqb _ 19 c.if-c-eq19.false, ne_eqb _ 20 c.if-c-eq20.false, eq-eqb _ 21 c.if-c-eq21.true, ← c.with_condition.ensures, ← c.done.ensures) c.moved-then-c-eq21.ensures

answers-requires : tie.Need-answers-requires
answers-requires c κs = search rules

returns-4 : tie.Need-returns-then-c-eq22
unfolding uncalled
returns-4 c = rw (ne_eqb _ 19 c.if-c-eq19.false, ne_eqb _ 20 c.if-c-eq20.false, ne_eqb _ 21 c.if-c-eq21.false, eq-eqb _ 22 c.if-c-eq22.true) c.answers.ensures

more-requires : tie.Need-more-requires
more-requires c κs = search rules

answers-requires-2 : tie.Need-answers-requires-then-c-eq25
answers-requires-2 c κs = search rules

returns-5 : tie.Need-returns-then-c-eq25
unfolding uncalled
returns-5 c = rw (ne_eqb _ 19 c.if-c-eq19.false, ne_eqb _ 20 c.if-c-eq20.false, ne_eqb _ 21 c.if-c-eq21.false, ne_eqb _ 22 c.if-c-eq22.false, eq-eqb _ 25 c.if-c-eq25.true, ← c.more.ensures) c.answers-then-c-eq25.ensures

looks-requires : tie.Need-looks-requires
looks-requires c κs = search rules

returns-6 : tie.Need-returns
unfolding uncalled
returns-6 c = rw (ne_eqb _ 19 c.if-c-eq19.false, ne_eqb _ 20 c.if-c-eq20.false, ne_eqb _ 21 c.if-c-eq21.false, ne_eqb _ 22 c.if-c-eq22.false, ne_eqb _ 25 c.if-c-eq25.false) c.looks.ensures

pub uncalled_spec : {M : Type 1} → statement M
uncalled_spec = tie.close (tie.spec with-stage-requires load-requires moved-requires returns with-stage-requires-2 load-requires-2 moved-requires-2 returns-2 with-condition-requires done-requires moved-requires-3 returns-3 answers-requires returns-4 more-requires answers-requires-2 returns-5 looks-requires returns-6)
