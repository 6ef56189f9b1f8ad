-- `object_machine::asks::kagutin_machine` meets its contract. Assumes nothing.
use borrow.Author.Tests.{eq-eqb, ne_eqb}
use Rattle.object_machine.specs.Next.{init_call}
use borrow.Author.Rules.{rules}
use Rattle.object_machine.proofs.asks.kagutin_machine.Statement.{statement}
use Rattle.object_machine.proofs.asks.kagutin_machine.Tie as tie

done-requires : tie.Need-done-requires
done-requires c κs = search rules

returns : tie.Need-returns-then-control-ne256
unfolding init_call
returns c = rw (ne_eqb _ 256 c.if-control-ne256.true, ← c.done.ensures)

fresh-requires : tie.Need-fresh-requires
fresh-requires c κs = search rules

set-control-requires : tie.Need-set_control-requires
set-control-requires c κs = search rules

done-requires-2 : tie.Need-done-requires-2
done-requires-2 c κs = search rules

same_length : tie.Need-shape_of-control
same_length c = search rules

returns-2 : tie.Need-returns
unfolding init_call
returns-2 c = rw (eq-eqb _ 256 c.if-control-ne256.false, ← c.fresh.ensures, c.set_control.ensures, ← c.done-2.ensures)

pub kagutin_machine_spec : {M : Type 1} → statement M
kagutin_machine_spec = tie.close (tie.spec done-requires returns fresh-requires set-control-requires done-requires-2 same_length returns-2)
