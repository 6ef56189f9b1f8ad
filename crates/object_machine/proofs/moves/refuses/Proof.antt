-- `object_machine::moves::refuses` meets its contract. Assumes nothing.
use Rattle.object_machine.specs.Moves.{refuses}
use borrow.Author.Rules.{rules}
use Rattle.object_machine.proofs.moves.refuses.Statement.{statement}
use Rattle.object_machine.proofs.moves.refuses.Tie as tie

full-requires : tie.Need-full-requires
full-requires c κs = search rules

may-make-room-requires : tie.Need-may_make_room-requires
may-make-room-requires c κs = search rules

with-room-requires : tie.Need-with_room-requires
with-room-requires c κs = search rules

passes-requires : tie.Need-passes-requires
passes-requires c κs = search rules

returns : tie.Need-returns-then-code-full
unfolding refuses
returns c = rw (← c.full.ensures, ← c.may_make_room.ensures, c.if-code-full.true, ← c.with_room.ensures) c.passes.ensures

with-stage-requires : tie.Need-with_stage-requires
with-stage-requires c κs = search rules

passes-requires-2 : tie.Need-passes-requires-then-c-code
passes-requires-2 c κs = search rules

returns-2 : tie.Need-returns-then-c-code
unfolding refuses
returns-2 c = rw (← c.full.ensures, ← c.may_make_room.ensures, c.if-code-full.false, c.if-c-code.true, ← c.with_stage.ensures) c.passes-then-c-code.ensures

tells-holder-requires : tie.Need-tells_holder-requires
tells-holder-requires c κs = search rules

answers-requires : tie.Need-answers-requires
answers-requires c κs = search rules

returns-3 : tie.Need-returns
unfolding refuses
returns-3 c = rw (← c.full.ensures, ← c.may_make_room.ensures, c.if-code-full.false, c.if-c-code.false, ← c.tells_holder.ensures) c.answers.ensures

pub refuses_spec : {M : Type 1} → statement M
refuses_spec = tie.close (tie.spec full-requires may-make-room-requires with-room-requires passes-requires returns with-stage-requires passes-requires-2 returns-2 tells-holder-requires answers-requires returns-3)
