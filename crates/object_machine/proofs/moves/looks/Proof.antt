-- `object_machine::moves::looks` meets its contract. Assumes nothing.
use borrow.Author.Tests.{eq-eqb, ne_eqb}
use Rattle.object_machine.specs.Moves.{looks}
use borrow.Author.Rules.{rules}
use Rattle.object_machine.proofs.moves.looks.Statement.{statement}
use Rattle.object_machine.proofs.moves.looks.Tie as tie

with-stage-requires : tie.Need-with_stage-requires
with-stage-requires c κs = search rules

passes-requires : tie.Need-passes-requires
passes-requires c κs = search rules

returns : tie.Need-returns-then-st-c
unfolding looks
returns c = rw (ne_eqb _ _ c.if-st-c.true, ← c.with_stage.ensures) c.passes.ensures

settled-requires : tie.Need-settled-requires
settled-requires c κs = search rules

with-stage-requires-2 : tie.Need-with_stage-requires-then-c-settled
with-stage-requires-2 c κs = search rules

passes-requires-2 : tie.Need-passes-requires-then-c-settled
passes-requires-2 c κs = search rules

returns-2 : tie.Need-returns-then-c-settled
unfolding looks
returns-2 c = rw (eq-eqb _ _ c.if-st-c.false, ← c.settled.ensures, c.if-c-settled.true, ← c.with_stage-then-c-settled.ensures) c.passes-then-c-settled.ensures

gives-up-requires : tie.Need-gives_up-requires
gives-up-requires c κs = search rules

returns-3 : tie.Need-returns
unfolding looks
returns-3 c = rw (eq-eqb _ _ c.if-st-c.false, ← c.settled.ensures, c.if-c-settled.false) c.gives_up.ensures

pub looks_spec : {M : Type 1} → statement M
looks_spec = tie.close (tie.spec with-stage-requires passes-requires returns settled-requires with-stage-requires-2 passes-requires-2 returns-2 gives-up-requires returns-3)
