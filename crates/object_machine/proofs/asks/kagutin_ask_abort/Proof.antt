-- `object_machine::asks::kagutin_ask_abort` meets its contract. Assumes nothing.
use borrow.Author.Tests.{eq-eqb, ne_eqb}
use Rattle.object_machine.specs.Next.{abort_turn, at_once}
use borrow.Author.Rules.{rules}
use Rattle.object_machine.proofs.asks.kagutin_ask_abort.Statement.{statement}
use Rattle.object_machine.proofs.asks.kagutin_ask_abort.Tie as tie

ready-requires : tie.Need-ready-t-requires
ready-requires c κs = search rules

returns : tie.Need-returns-then-t-ne0
unfolding abort_turn at_once
returns c = rw (← c.ready-t.ensures, ne_eqb _ 0 c.if-t-ne0.true)

kagutin-abort-requires : tie.Need-kagutin_abort-r-requires
kagutin-abort-requires c κs = search rules

done-requires : tie.Need-done-requires
done-requires c κs = search rules

same_length : tie.Need-shape_of-state
same_length c = search rules

returns-2 : tie.Need-returns
unfolding abort_turn at_once
returns-2 c = rw (← c.ready-t.ensures, eq-eqb _ 0 c.if-t-ne0.false, ← c.kagutin_abort-r.ensures, ← c.done.ensures)

pub kagutin_ask_abort_spec : {M : Type 1} → statement M
kagutin_ask_abort_spec = tie.close (tie.spec ready-requires returns kagutin-abort-requires done-requires same_length returns-2)
