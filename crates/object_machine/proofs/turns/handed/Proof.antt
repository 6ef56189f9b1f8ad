-- `object_machine::turns::handed` meets its contract. Assumes nothing.
use Rattle.object_machine.specs.Next.{handed}
use borrow.Author.Rules.{rules}
use Rattle.object_machine.proofs.turns.handed.Statement.{statement}
use Rattle.object_machine.proofs.turns.handed.Tie as tie

with-cursor-requires : tie.Need-with_cursor-requires
with-cursor-requires c κs = search rules

moved-requires : tie.Need-moved-requires
moved-requires c κs = search rules

returns : tie.Need-returns-then-a
unfolding handed
returns c = rw (c.if-a.true, ← c.with_cursor.ensures) c.moved.ensures

fails-requires : tie.Need-fails-requires
fails-requires c κs = search rules

returns-2 : tie.Need-returns
unfolding handed
returns-2 c = rw c.if-a.false c.fails.ensures

pub handed_spec : {M : Type 1} → statement M
handed_spec = tie.close (tie.spec with-cursor-requires moved-requires returns fails-requires returns-2)
