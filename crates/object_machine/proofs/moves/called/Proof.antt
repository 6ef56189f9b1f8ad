-- `object_machine::moves::called` meets its contract. Assumes nothing.
use borrow.Author.Tests.{eq-eqb, ne_eqb}
use Rattle.object_machine.specs.Moves.{called}
use borrow.Author.Rules.{rules}
use Rattle.object_machine.proofs.moves.called.Statement.{statement}
use Rattle.object_machine.proofs.moves.called.Tie as tie

headed-requires : tie.Need-headed-requires
headed-requires c κs = search rules

with-cursor-requires : tie.Need-with_cursor-d-requires
with-cursor-requires c κs = search rules

after-requires : tie.Need-after-requires
after-requires c κs = search rules

goes-on-requires : tie.Need-goes_on-requires
goes-on-requires c κs = search rules

returns : tie.Need-returns-then-code-eq0
unfolding called
returns c = rw (eq-eqb _ 0 c.if-code-eq0.true, ← c.headed.ensures, ← c.with_cursor-d.ensures, ← c.after.ensures) c.goes_on.ensures

refuses-requires : tie.Need-refuses-requires
refuses-requires c κs = search rules

returns-2 : tie.Need-returns
unfolding called
returns-2 c = rw (ne_eqb _ 0 c.if-code-eq0.false) c.refuses.ensures

pub called_spec : {M : Type 1} → statement M
called_spec = tie.close (tie.spec headed-requires with-cursor-requires after-requires goes-on-requires returns refuses-requires returns-2)
