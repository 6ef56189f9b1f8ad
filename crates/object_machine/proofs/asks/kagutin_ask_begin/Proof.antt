-- `object_machine::asks::kagutin_ask_begin` meets its contract. Assumes nothing.
use borrow.Author.Tests.{eq-eqb, ne_eqb}
use Rattle.object_machine.specs.Next.{at_once, begin_turn}
use borrow.Author.Rules.{rules}
use Rattle.object_machine.proofs.asks.kagutin_ask_begin.Statement.{statement}
use Rattle.object_machine.proofs.asks.kagutin_ask_begin.Tie as tie

ready-requires : tie.Need-ready-t-requires
ready-requires c κs = search rules

returns : tie.Need-returns-then-t-ne0
unfolding begin_turn at_once
returns c = rw (← c.ready-t.ensures, ne_eqb _ 0 c.if-t-ne0.true)

kagutin-begin-requires : tie.Need-kagutin_begin-r-requires
kagutin-begin-requires c κs = search rules

done-requires : tie.Need-done-requires
done-requires c κs = search rules

same_length : tie.Need-shape_of-state
same_length c = search rules

returns-2 : tie.Need-returns
unfolding begin_turn at_once
returns-2 c = rw (← c.ready-t.ensures, eq-eqb _ 0 c.if-t-ne0.false, ← c.kagutin_begin-r.ensures, ← c.done.ensures)

pub kagutin_ask_begin_spec : {M : Type 1} → statement M
kagutin_ask_begin_spec = tie.close (tie.spec ready-requires returns kagutin-begin-requires done-requires same_length returns-2)
