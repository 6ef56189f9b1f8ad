-- A turn's parts put together, from what each of them gives. Assumes nothing.
use Prim.Native.Nat.{ℕ, ◌-◌, ◌≤◌}
use mathlib.Core.Path.{◌≡◌}
use mathlib.Core.List.{List}
use native.Mathlib.Omega.{arith}
use lib.ListN.{length, take, drop}
use borrow.Author.Tests.{le-leb}
use Rattle.model.specs.Bytes.{part}
use Rattle.model.specs.Layout.{group_count, home_count}
use Rattle.model.specs.State.{state_of}
use Rattle.model.specs.Calls.{Outcome}
use Rattle.call_ask.specs.Lent.{lent_all, leaves_everything}
use Rattle.object_runner.specs.declared.Action.{Action}
use Rattle.object_runner.specs.Next.{cursor, next_action}
use Rattle.object_machine.specs.Control.{Control, Moved}
use Rattle.object_machine.specs.Moves.{chosen}
use Rattle.object_machine.specs.Next.{Lent, gone, handed, hands_out_now, holder_for, given, makes, follows, left_under, onward}

-- the front of a lent batch
lent-front : (x : List ℕ) (n : ℕ) → take (n - 0) (drop 0 x) ≡ part x 0 n
unfolding part
lent-front x n = let k : n - 0 ≡ n = omega arith in rw k

pub hands-out-is : (l : Lent) (c : Control) (groups homes next : ℕ) (a : Action) (m : Moved) → c.size ≤ length l.batch
    → groups ≡ group_count (length l.log) → homes ≡ home_count (length l.area) → next ≡ (state_of l.state).next
    → a ≡ next_action c.landing groups homes next (take (c.size - 0) (drop 0 l.batch)) (cursor c.at c.headed c.step)
    → m ≡ handed c a → m ≡ hands_out_now l c
unfolding hands_out_now
hands-out-is l c groups homes next a m h eg eh en ea em =
    rw (le-leb c.size (length l.batch) h, ← eg, ← eh, ← en, ← lent-front l.batch c.size, ← ea) em

left_by : (l : Lent) (c : Control) (o : Outcome) (code figure size : ℕ) (log area state newest block batch : List ℕ) (m : Moved)
    → leaves_everything code figure size log area state newest block batch ≡ o
    → m ≡ follows c code figure size (group_count (length l.log)) (length l.log) (length l.area) (state_of state) (holder_for c.stage code state)
    → gone m log area state newest batch ≡ left_under l c o
unfolding left_under
left_by l c o code figure size log area state newest block batch m e f = rw (← e, ← f)

-- what next does when a batch has been carried out: the call that the state asks for, and what follows from its answer
pub onward-is : (l : Lent) (c : Control) {code figure size : ℕ} {log area state newest batch : List ℕ} (k : ℕ) (m : Moved)
    → k ≡ chosen c (state_of l.state) (home_count (length l.area))
    → leaves_everything code figure size log area state newest l.block batch
    ≡ makes k (lent_all l.log l.area l.state l.newest l.block l.batch c.writer c.home) c.number
    → (log₁ area₁ : ℕ) → log₁ ≡ length l.log → area₁ ≡ length l.area
    → m ≡ follows c code figure size (group_count log₁) log₁ area₁ (state_of state) (holder_for c.stage code state)
    → gone m log area state newest batch ≡ onward l c
unfolding onward given
onward-is l c {code} {figure} {size} {log} {area} {state} {newest} {batch} k m e f log₁ area₁ el ea g =
    rw (← e) (left_by l c _ code figure size log area state newest l.block batch m f (rw (← el, ← ea) g))
