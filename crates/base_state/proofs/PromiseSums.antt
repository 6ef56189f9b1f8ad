-- The promises as the code sums and compares them. Assumes nothing.
use mathlib.Core.Path.{◌≡◌, refl, sym, ◌∙◌}
use mathlib.Core.Bool.{true, false}
use mathlib.Core.Logic.{◌≢◌}
use mathlib.Core.List.{List}
use Prim.Native.Nat.{ℕ, zero, suc, ◌+◌, ◌-◌, ◌*◌, ◌≤◌, ◌<◌}
use native.Mathlib.Decide.{dec_lt}
use native.Mathlib.Numerals.{add-one}
use native.Mathlib.Omega.{arith}
use lib.Dec.{leb, ltb}
use borrow.Author.Tests.{le-leb, lt-leb, lt-ltb, le-ltb, eq-eqb, ne_eqb}
use Rattle.model.specs.declared.State.{State}
use Rattle.model.specs.Bytes.{number}
use Rattle.model.specs.State.{state_of, next_position, promise_offset, promise_of, promised, places, free_places}
use Rattle.model.specs.Questions.{room_for, may_promise, keeps_promises}
use Rattle.base_codec.proofs.JoinLaws.{number-join}
use Rattle.base_state.specs.Order.{GroupsInOrder}

-- the next position lies in the log, or at its end
pub position-most : (st : State) → GroupsInOrder st → next_position st ≤ 7 * (st.start + st.groups)
unfolding next_position
position-most st g = go (dec_lt st.next (st.start + st.groups))
  where
    go : Dec (st.next < st.start + st.groups) → 7 * st.next + st.filled ≤ 7 * (st.start + st.groups)
    go (yes h) = omega (arith, g.filled-most)
    go (no h) = let e : st.next ≡ st.start + st.groups = omega (arith, g.next-most) in omega (arith, g.filled_none e)

-- a part-filled group lies in it
pub part-fits : (st : State) → GroupsInOrder st → st.filled ≢ 0 → st.next < st.start + st.groups
part-fits st g n = go (dec_lt st.next (st.start + st.groups))
  where
    go : Dec (st.next < st.start + st.groups) → st.next < st.start + st.groups
    go (yes h) = h
    go (no h) = let e : st.next ≡ st.start + st.groups = omega (arith, g.next-most) in absurd (n (g.filled_none e))

pub sum-none : (s : List ℕ) → 0 ≡ promised s 0
unfolding promised
sum-none s = refl

pub sum-turn : (s : List ℕ) (w sum n : ℕ) → sum ≡ promised s w → n ≡ promise_of s w → sum + n ≡ promised s (w + 1)
unfolding promised
sum-turn s w sum n e f = rw (add-one w, e, f)

-- promises that are zero as two words
module _ (s : List ℕ) where
  quarters : (at : ℕ) → number 8 s at ≡ 0
      → (number 2 s at ≡ 0) × (number 2 s (at + 2) ≡ 0) × (number 2 s (at + 4) ≡ 0) × (number 2 s (at + 6) ≡ 0)
  quarters at e = (
    omega (arith, e, number-join 2 6 s at),
    omega (arith, e, number-join 2 6 s at, number-join 2 4 s (at + 2)),
    omega (arith, e, number-join 4 4 s at, number-join 2 2 s (at + 4)),
    omega (arith, e, number-join 6 2 s at),
  )

  pub both_zero : number 8 s 72 ≡ 0 → number 8 s 80 ≡ 0 → (w : ℕ) → w < 8 → promise_of s w ≡ 0
  unfolding promise_of promise_offset
  both_zero e f zero h = (quarters 72 e).0
  both_zero e f (suc zero) h = (quarters 72 e).1
  both_zero e f (suc (suc zero)) h = (quarters 72 e).2
  both_zero e f (suc (suc (suc zero))) h = (quarters 72 e).3
  both_zero e f (suc (suc (suc (suc zero)))) h = (quarters 80 f).0
  both_zero e f (suc (suc (suc (suc (suc zero))))) h = (quarters 80 f).1
  both_zero e f (suc (suc (suc (suc (suc (suc zero)))))) h = (quarters 80 f).2
  both_zero e f (suc (suc (suc (suc (suc (suc (suc zero))))))) h = (quarters 80 f).3
  both_zero e f (suc (suc (suc (suc (suc (suc (suc (suc w)))))))) h = absurd (omega arith)

  pub sum-zero : (n : ℕ) → ((w : ℕ) → w < n → promise_of s w ≡ 0) → promised s n ≡ 0
  unfolding promised
  sum-zero zero h = refl
  sum-zero (suc n) h = rw (sum-zero n (λ w l. h w (omega arith)), h n (omega arith))

pub free-none : (s : List ℕ) (st : State) (all taken : ℕ) → st ≡ state_of s → all ≡ places st → taken ≡ promised s 8 → all < taken → 0 ≡ free_places s
unfolding free_places
free-none s st all taken e p q h = rw (← e, ← p, ← q) (omega arith)

pub free-some : (s : List ℕ) (st : State) (all taken : ℕ) → st ≡ state_of s → all ≡ places st → taken ≡ promised s 8 → all - taken ≡ free_places s
unfolding free_places
free-some s st all taken e p q = rw (← e, ← p, ← q)

pub room-own : (s : List ℕ) (w n : ℕ) → n ≡ promise_of s w → n ≢ 0 → true ≡ room_for s w
unfolding room_for
room-own s w n e h = rw (le-leb 1 (promise_of s w) (omega arith))

pub room-free : (s : List ℕ) (st : State) (w n taken all : ℕ) → st ≡ state_of s → n ≡ promise_of s w → n ≡ 0 → taken ≡ promised s 8 → all ≡ places st
    → ltb taken all ≡ room_for s w
unfolding room_for
room-free s st w n taken all e p z q f = rw (lt-leb 1 (promise_of s w) (omega arith), ← e, ← q, ← f)

pub room-clear : (s : List ℕ) (st : State) (w : ℕ) → st ≡ state_of s → GroupsInOrder st → w < 8 → ((w : ℕ) → w < 8 → promise_of s w ≡ 0)
    → ltb st.next (st.start + st.groups) ≡ room_for s w
unfolding room_for places next_position
room-clear s st w e g h z =
    rw (lt-leb 1 (promise_of s w) (omega (arith, z w h)), sum-zero s 8 z, ← e) (go (dec_lt st.next (st.start + st.groups)))
  where
    go : Dec (st.next < st.start + st.groups)
        → ltb st.next (st.start + st.groups) ≡ ltb 0 (7 * (st.start + st.groups) - (7 * st.next + st.filled))
    go (yes l) =
        lt-ltb st.next (st.start + st.groups) l
        ∙ sym (lt-ltb 0 (7 * (st.start + st.groups) - (7 * st.next + st.filled)) (omega (arith, g.filled-most)))
    go (no l) =
        le-ltb st.next (st.start + st.groups) (omega arith)
        ∙ sym (le-ltb 0 (7 * (st.start + st.groups) - (7 * st.next + st.filled)) (omega arith))

pub may_none : (s : List ℕ) (n : ℕ) → n ≡ 0 → false ≡ may_promise s n
unfolding may_promise
may_none s n h = rw (lt-leb 1 n (omega arith))

pub may-some : (s : List ℕ) (n free : ℕ) → n ≢ 0 → free ≡ free_places s → leb n free ≡ may_promise s n
unfolding may_promise
may-some s n free h e = rw (le-leb 1 n (omega arith), e)

pub keeps-none : (s : List ℕ) (st : State) → st ≡ state_of s → st.filled ≡ 0 → true ≡ keeps_promises s
unfolding keeps_promises
keeps-none s st e h = rw (← e, eq-eqb st.filled 0 h)

pub keeps-part : (s : List ℕ) (st : State) (taken : ℕ) → st ≡ state_of s → st.filled ≢ 0 → taken ≡ promised s 8
    → leb taken (7 * (st.start + st.groups) - 7 * (st.next + 1)) ≡ keeps_promises s
unfolding keeps_promises
keeps-part s st taken e h q = rw (← e, ne_eqb st.filled 0 h, q)
