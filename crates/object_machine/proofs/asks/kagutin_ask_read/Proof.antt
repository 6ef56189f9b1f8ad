-- `object_machine::asks::kagutin_ask_read` meets its contract. Assumes nothing.
use borrow.Author.Tests.{eq-eqb, ne_eqb}
use Rattle.object_machine.specs.Next.{at_once, read_turn}
use borrow.Author.Rules.{rules}
use Rattle.object_machine.proofs.asks.kagutin_ask_read.Statement.{statement}
use Rattle.object_machine.proofs.asks.kagutin_ask_read.Tie as tie

ready-requires : tie.Need-ready-t-requires
ready-requires c κs = search rules

returns : tie.Need-returns-then-t-ne0
unfolding read_turn at_once
returns c = rw (← c.ready-t.ensures, ne_eqb _ 0 c.if-t-ne0.true)

kagutin-read-requires : tie.Need-kagutin_read-r-requires
kagutin-read-requires c κs = search rules

done-requires : tie.Need-done-requires
done-requires c κs = search rules

same_length : tie.Need-shape_of-block
same_length c = search rules

returns-2 : tie.Need-returns
unfolding read_turn at_once
returns-2 c = rw (← c.ready-t.ensures, eq-eqb _ 0 c.if-t-ne0.false, ← c.kagutin_read-r.ensures, ← c.done.ensures)

pub kagutin_ask_read_spec : {M : Type 1} → statement M
kagutin_ask_read_spec = tie.close (tie.spec ready-requires returns kagutin-read-requires done-requires same_length returns-2)
