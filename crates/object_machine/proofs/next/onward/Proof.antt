-- `object_machine::next::onward` meets its contract. Assumes nothing.
use mathlib.Core.Path.{refl}
use Rattle.object_machine.proofs.TurnLaws.{onward-is}
use borrow.Author.Rules.{rules}
use Rattle.object_machine.proofs.next.onward.Statement.{statement}
use Rattle.object_machine.proofs.next.onward.Tie as tie

picks-requires : tie.Need-picks-k-requires
picks-requires c κs = search rules

makes-requires : tie.Need-makes-r-requires
makes-requires c κs = search rules

ends-requires : tie.Need-ends-requires
ends-requires c κs = search rules

same_length : tie.Need-shape_of-log
same_length c = search rules

same-length-2 : tie.Need-shape_of-area
same-length-2 c = search rules

same-length-3 : tie.Need-shape_of-state
same-length-3 c = search rules

same-length-4 : tie.Need-shape_of-newest
same-length-4 c = search rules

same-length-5 : tie.Need-shape_of-batch
same-length-5 c = search rules

returns : tie.Need-returns
returns c = onward-is _ _ _ _ c.picks-k.ensures c.makes-r.ensures _ _ refl refl c.ends.ensures

pub onward_spec : {M : Type 1} → statement M
onward_spec = tie.close (tie.spec picks-requires makes-requires ends-requires same_length same-length-2 same-length-3 same-length-4 same-length-5 returns)
