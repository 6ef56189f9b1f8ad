-- `object_machine::moves::chosen` meets its contract. Assumes nothing.
use borrow.Author.Tests.{le-leb, lt-leb}
use Rattle.object_machine.specs.Moves.{chosen}
use borrow.Author.Rules.{rules}
use Rattle.object_machine.proofs.moves.chosen.Statement.{statement}
use Rattle.object_machine.proofs.moves.chosen.Tie as tie

returns : tie.Need-returns-then-c-gt18
unfolding chosen
returns c = rw (lt-leb _ 18 c.if-c-gt18.true)

guarded-requires : tie.Need-guarded-requires
guarded-requires c κs = search rules

returns-2 : tie.Need-returns-then-c-guarded
unfolding chosen
returns-2 c = rw (le-leb _ 18 c.if-c-gt18.false, ← c.guarded.ensures, c.if-c-guarded.true)

settled-requires : tie.Need-settled-requires
settled-requires c κs = search rules

returns-3 : tie.Need-returns-then-c-settled
unfolding chosen
returns-3 c = rw (le-leb _ 18 c.if-c-gt18.false, ← c.guarded.ensures, c.if-c-guarded.false, ← c.settled.ensures, c.if-c-settled.true)

at-stage-requires : tie.Need-at_stage-requires
at-stage-requires c κs = search rules

returns-4 : tie.Need-returns
unfolding chosen
returns-4 c = rw (le-leb _ 18 c.if-c-gt18.false, ← c.guarded.ensures, c.if-c-guarded.false, ← c.settled.ensures, c.if-c-settled.false) c.at_stage.ensures

pub chosen_spec : {M : Type 1} → statement M
chosen_spec = tie.close (tie.spec returns guarded-requires returns-2 settled-requires returns-3 at-stage-requires returns-4)
