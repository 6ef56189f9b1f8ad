-- `object_machine::next::kagutin_next` meets its contract. Assumes nothing.
use borrow.Author.Tests.{eq-eqb, ne_eqb}
use mathlib.Core.Bool.{not}
use mathlib.Core.Path.{◌∙◌, ap, sym}
use native.Mathlib.Omega.{arith}
use Rattle.call_ask.proofs.LengthTests.{sizes}
use Rattle.object_machine.specs.Next.{keeps, lengths_right, next_call, refused}
use borrow.Author.Rules.{rules}
use Rattle.object_machine.proofs.next.kagutin_next.Statement.{statement}
use Rattle.object_machine.proofs.next.kagutin_next.Tie as tie

done-requires : tie.Need-done-requires
done-requires c κs = search rules

returns : tie.Need-returns-then-control-ne256
unfolding next_call refused
returns c = rw (ne_eqb _ 256 c.if-control-ne256.true, ← c.done.ensures)

read-control-requires : tie.Need-read_control-c-requires
read-control-requires c κs = search rules

under-way-requires : tie.Need-under_way-requires
under-way-requires c κs = search rules

done-requires-2 : tie.Need-done-requires-then-not-under_way
done-requires-2 c κs = search rules

same_length : tie.Need-shape_of-control-then-not-under_way
same_length c = search rules

returns-2 : tie.Need-returns-then-not-under_way
unfolding next_call refused
returns-2 c = rw (eq-eqb _ 256 c.if-control-ne256.false, ← c.read_control-c.ensures, sym c.under_way.ensures ∙ c.if-not-under_way.true, ← c.done-then-not-under_way.ensures)

lengths-right-requires : tie.Need-lengths_right-requires
lengths-right-requires c κs = search rules

done-requires-3 : tie.Need-done-requires-then-not-lengths_right
done-requires-3 c κs = search rules

same-length-2 : tie.Need-shape_of-control-then-not-lengths_right
same-length-2 c = search rules

same-length-3 : tie.Need-shape_of-log-then-not-lengths_right
same-length-3 c = search rules

same-length-4 : tie.Need-shape_of-area-then-not-lengths_right
same-length-4 c = search rules

same-length-5 : tie.Need-shape_of-state-then-not-lengths_right
same-length-5 c = search rules

returns-3 : tie.Need-returns-then-not-lengths_right
unfolding next_call refused lengths_right
returns-3 c = rw (eq-eqb _ 256 c.if-control-ne256.false, ← c.read_control-c.ensures, sym c.under_way.ensures ∙ c.if-not-under_way.false, sym c.lengths_right.ensures ∙ c.if-not-lengths_right.true, ← c.done-then-not-lengths_right.ensures)

goes-requires : tie.Need-goes-m-requires
goes-requires c κs = let z = sizes _ _ _ _ c.lengths_right.ensures (ap not c.if-not-lengths_right.false) in (z.state-length, z.groups-most)

set-control-requires : tie.Need-set_control-requires
set-control-requires c κs = omega (arith, c.if-control-ne256.false)

same-length-6 : tie.Need-shape_of-control
same-length-6 c = search rules

same-length-7 : tie.Need-shape_of-log
same-length-7 c = search rules

same-length-8 : tie.Need-shape_of-area
same-length-8 c = search rules

same-length-9 : tie.Need-shape_of-state
same-length-9 c = search rules

same-length-10 : tie.Need-shape_of-newest
same-length-10 c = search rules

same-length-11 : tie.Need-shape_of-batch
same-length-11 c = search rules

returns-4 : tie.Need-returns
unfolding next_call keeps lengths_right
returns-4 c = rw (eq-eqb _ 256 c.if-control-ne256.false, ← c.read_control-c.ensures, sym c.under_way.ensures ∙ c.if-not-under_way.false, sym c.lengths_right.ensures ∙ c.if-not-lengths_right.false, ← c.goes-m.ensures, c.set_control.ensures)

pub kagutin_next_spec : {M : Type 1} → statement M
kagutin_next_spec = tie.close (tie.spec done-requires returns read-control-requires under-way-requires done-requires-2 same_length returns-2 lengths-right-requires done-requires-3 same-length-2 same-length-3 same-length-4 same-length-5 returns-3 goes-requires set-control-requires same-length-6 same-length-7 same-length-8 same-length-9 same-length-10 same-length-11 returns-4)
