-- The claims of specs/Claims. Assumes nothing.
use Prim.Native.Nat.{ℕ, ◌<◌}
use mathlib.Core.Path.{◌≡◌, refl}
use mathlib.Core.Bool.{Bool, true, false, cond, ◌||◌, and-false, false≢true}
use native.Mathlib.Omega.{arith}
use lib.Dec.{eqb, leb}
use lib.ListN.{length}
use borrow.Author.Tests.{eq-eqb, ne_eqb, lt-ltb}
use Rattle.object_runner.specs.declared.Action.{Action}
use Rattle.object_machine.specs.Control.{Control, Moved}
use Rattle.object_machine.specs.Moves.{done, moved, answers, full, may_make_room, refuses}
use Rattle.object_machine.specs.Next.{Lent, stays, fails, handed, hands_out_now, goes, shut, refusal, ask_answer, asks, ask_call}
use Rattle.object_machine.specs.Claims.{FailedStays, NothingLeft, RoomOnce}

pub failed-stays : FailedStays
unfolding ask_call asks ask_answer shut refusal
failed-stays s stage writer home n size k idle failed other = rw (eq-eqb _ 256 size, k, eq-eqb _ 0 idle, ne_eqb _ 19 other, failed)

-- a turn of two kinds: where it is an end, it is one with 65
either : (b : Bool) (x y : Moved) → (b ≡ true → x.turn.kind ≡ 0 → x.turn.code ≡ 65) → y.turn.code ≡ 65 → (cond b x y).turn.kind ≡ 0
    → (cond b x y).turn.code ≡ 65
either true x y f e h = f refl h
either false x y f e h = e

not-zero : (k : ℕ) → (eqb k 1 || eqb k 2) ≡ true → k ≡ 0 → ⊥
not-zero k t z = false≢true (rw z at t)

hands_end : (c : Control) (a : Action) → (handed c a).turn.kind ≡ 0 → (handed c a).turn.code ≡ 65
unfolding handed fails moved done
hands_end c a h = either (eqb a.kind 1 || eqb a.kind 2) _ _ (λ t z. absurd (not-zero a.kind t z)) refl h

out-ends : (l : Lent) (c : Control) → (hands_out_now l c).turn.kind ≡ 0 → (hands_out_now l c).turn.code ≡ 65
unfolding hands_out_now fails moved done
out-ends l c h = either (leb c.size (length l.batch)) _ _ (λ t z. hands_end c _ z) refl h

hands_out : (l : Lent) (c : Control) → c.at < c.size → (goes l c 0).moved ≡ hands_out_now l c
unfolding goes stays
hands_out l c h = rw (lt-ltb c.at c.size h)

pub nothing_left : NothingLeft
nothing_left l c h over = rw (hands_out l c h) (out-ends l c (rw (hands_out l c h) at over))

pub room-once : RoomOnce
unfolding refuses may_make_room answers moved done
room-once c code groups st h low tried =
    rw (tried, and-false (eqb code (full c.stage)), ne_eqb c.stage 7 (λ e. omega arith)) (refl, refl)
