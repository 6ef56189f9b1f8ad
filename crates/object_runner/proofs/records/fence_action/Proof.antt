-- `object_runner::records::fence_action` meets its contract. Assumes nothing.
use native.Mathlib.Omega.{arith}
use Rattle.object_runner.proofs.NextLaws.{due-lt, fence-due, fence-past}
use borrow.Author.Rules.{rules}
use Rattle.object_runner.proofs.records.fence_action.Statement.{statement}
use Rattle.object_runner.proofs.records.fence_action.Tie as tie

due-requires : tie.Need-due-requires
due-requires c κs = search rules

due-action-requires : tie.Need-due_action-requires
due-action-requires c κs =
    (c.requires.1, c.requires.2, omega (arith, due-lt _ _ _ _ c.due.ensures c.if-due.true))

returns : tie.Need-returns-then-due
returns c = fence-due _ _ _ _ _ _ c.due.ensures c.if-due.true c.due_action.ensures

add-t7 : tie.Need-overflow_add-past
add-t7 c = search rules

bare-requires : tie.Need-bare-requires
bare-requires c κs = search rules

returns-2 : tie.Need-returns
returns-2 c = fence-past _ _ _ _ _ _ c.due.ensures c.if-due.false c.bare.ensures

pub fence_action_spec : {M : Type 1} → statement M
fence_action_spec =
    tie.close (tie.spec due-requires due-action-requires returns add-t7 bare-requires returns-2)
