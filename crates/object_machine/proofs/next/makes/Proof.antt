-- `object_machine::next::makes` meets its contract. Assumes nothing.
use Rattle.object_machine.specs.Next.{makes}
use borrow.Author.Rules.{rules}
use Rattle.object_machine.proofs.next.makes.Statement.{statement}
use Rattle.object_machine.proofs.next.makes.Tie as tie

writers-call-requires : tie.Need-writers_call-requires
writers-call-requires c κs = search rules

same_length : tie.Need-shape_of-log-then-k
same_length c = search rules

same-length-2 : tie.Need-shape_of-area-then-k
same-length-2 c = search rules

same-length-3 : tie.Need-shape_of-state-then-k
same-length-3 c = search rules

same-length-4 : tie.Need-shape_of-newest-then-k
same-length-4 c = search rules

same-length-5 : tie.Need-shape_of-batch-then-k
same-length-5 c = search rules

returns : tie.Need-returns-then-k
unfolding makes
returns c = rw c.if-k.true c.writers_call.ensures

room-call-requires : tie.Need-room_call-requires
room-call-requires c κs = search rules

same-length-6 : tie.Need-shape_of-log
same-length-6 c = search rules

same-length-7 : tie.Need-shape_of-area
same-length-7 c = search rules

same-length-8 : tie.Need-shape_of-state
same-length-8 c = search rules

same-length-9 : tie.Need-shape_of-newest
same-length-9 c = search rules

same-length-10 : tie.Need-shape_of-batch
same-length-10 c = search rules

returns-2 : tie.Need-returns
unfolding makes
returns-2 c = rw c.if-k.false c.room_call.ensures

pub makes_spec : {M : Type 1} → statement M
makes_spec = tie.close (tie.spec writers-call-requires same_length same-length-2 same-length-3 same-length-4 same-length-5 returns room-call-requires same-length-6 same-length-7 same-length-8 same-length-9 same-length-10 returns-2)
