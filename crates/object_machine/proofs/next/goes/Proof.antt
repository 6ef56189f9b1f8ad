-- `object_machine::next::goes` meets its contract. Assumes nothing.
use borrow.Author.Tests.{eq-eqb, le-ltb, lt-ltb, ne_eqb}
use Rattle.object_machine.specs.Next.{goes, stays}
use borrow.Author.Rules.{rules}
use Rattle.object_machine.proofs.next.goes.Statement.{statement}
use Rattle.object_machine.proofs.next.goes.Tie as tie

fails-requires : tie.Need-fails-requires
fails-requires c κs = search rules

returns : tie.Need-returns-then-res-ne0
unfolding goes stays
returns c = rw (ne_eqb _ 0 c.if-res-ne0.true, ← c.fails.ensures)

hands-out-requires : tie.Need-hands_out-requires
hands-out-requires c κs = search rules

same_length : tie.Need-shape_of-log-then-c
same_length c = search rules

same-length-2 : tie.Need-shape_of-area-then-c
same-length-2 c = search rules

same-length-3 : tie.Need-shape_of-state-then-c
same-length-3 c = search rules

same-length-4 : tie.Need-shape_of-newest-then-c
same-length-4 c = search rules

same-length-5 : tie.Need-shape_of-batch-then-c
same-length-5 c = search rules

returns-2 : tie.Need-returns-then-c
unfolding goes stays
returns-2 c = rw (eq-eqb _ 0 c.if-res-ne0.false, lt-ltb _ _ c.if-c.true, ← c.hands_out.ensures)

onward-requires : tie.Need-onward-requires
onward-requires c κs = search rules

same-length-6 : tie.Need-shape_of-log
same-length-6 c = search rules

same-length-7 : tie.Need-shape_of-area
same-length-7 c = search rules

same-length-8 : tie.Need-shape_of-state
same-length-8 c = search rules

same-length-9 : tie.Need-shape_of-newest
same-length-9 c = search rules

same-length-10 : tie.Need-shape_of-batch
same-length-10 c = search rules

returns-3 : tie.Need-returns
unfolding goes
returns-3 c = rw (eq-eqb _ 0 c.if-res-ne0.false, le-ltb _ _ c.if-c.false) c.onward.ensures

pub goes_spec : {M : Type 1} → statement M
goes_spec = tie.close (tie.spec fails-requires returns hands-out-requires same_length same-length-2 same-length-3 same-length-4 same-length-5 returns-2 onward-requires same-length-6 same-length-7 same-length-8 same-length-9 same-length-10 returns-3)
