-- What the promises ask for tells whether they are in order, and with the round and the records whether the strip is. Assumes nothing.
use mathlib.Core.Path.{◌≡◌, refl, sym, ap, ◌∙◌}
use mathlib.Core.Bool.{Bool, true, false, cond, false≢true, ◌&&◌, or-true}
use mathlib.Core.Logic.{◌≢◌}
use mathlib.Core.List.{List}
use Prim.Native.Nat.{ℕ, zero, suc, ◌+◌, ◌*◌, ◌≤◌, ◌<◌}
use native.Mathlib.Decide.{dec_lt}
use native.Mathlib.Numerals.{add-one}
use native.Mathlib.Omega.{arith}
use borrow.Author.Tests.{ne_eqb, le-leb, lt-leb}
use lib.Dec.{leb}
use Rattle.model.specs.Bytes.{number}
use Rattle.model.specs.declared.State.{State}
use Rattle.model.specs.State.{state_of, mode_offset, writer_of, is_open_now, promise_offset, promise_of, promised, places, next_position, promise_in_order, writer_in_order, writer_at_in_order, writers_in_order, is_in_order}
use Rattle.base_codec.proofs.JoinLaws.{number-join}
use Rattle.base_state.specs.Order.{GroupsInOrder, Agrees, BoundsInOrder, round_in_order}
use Rattle.base_state.proofs.PromiseSums.{sum-zero}
use Rattle.base_order.specs.Asked.{asked, asked_all}
use Rattle.base_order.proofs.OrderTests.{record-held, writers-none, writers-turn, round-none, round-refused, numbers-held, numbers-not, too_many, by-writers}

both : (a b : Bool) → (a && b) ≡ true → (a ≡ true) × (b ≡ true)
both true true e = (refl, refl)
both true false e = absurd (false≢true e)
both false b e = absurd (false≢true e)

-- ---- one writer

module _ (s : List ℕ) (w : ℕ) where
  asked-zero : promise_of s w ≡ 0 → 0 ≡ asked s w
  unfolding asked promise_in_order
  asked-zero z = rw (z, or-true)

  mode-there : number 1 s (104 + w) ≡ (writer_of s w).mode
  unfolding writer_of mode_offset
  mode-there = refl

  module _ (n : ℕ) (e : n ≡ promise_of s w) where
    pub asked-none : n ≡ 0 → 0 ≡ asked s w
    asked-none z = asked-zero (sym e ∙ z)

    pub asked-idle : (m : ℕ) → n ≢ 0 → m ≡ number 1 s (104 + w) → m ≡ 0 → 7169 ≡ asked s w
    unfolding asked promise_in_order is_open_now
    asked-idle m k f z =
        rw (lt-leb 1 (writer_of s w).mode (omega (arith, f, mode-there)), ne_eqb (promise_of s w) 0 (λ q. k (e ∙ q)))

    pub asked-open : (m : ℕ) → m ≡ number 1 s (104 + w) → m ≢ 0 → n ≡ asked s w
    unfolding asked promise_in_order is_open_now
    asked-open m f k = rw (le-leb 1 (writer_of s w).mode (omega (arith, f, mode-there))) e

  asked-held : asked s w ≤ 7168 → (asked s w ≡ promise_of s w) × (true ≡ promise_in_order (writer_of s w) (promise_of s w))
  unfolding asked
  asked-held h = go (promise_in_order (writer_of s w) (promise_of s w)) h
    where
      go : (b : Bool) → cond b (promise_of s w) 7169 ≤ 7168 → (cond b (promise_of s w) 7169 ≡ promise_of s w) × (true ≡ b)
      go true k = (refl, refl)
      go false k = absurd (omega arith)

  asked-full : true ≡ promise_in_order (writer_of s w) (promise_of s w) → asked s w ≡ promise_of s w
  unfolding asked
  asked-full h = rw (← h)

-- ---- all of them

module _ (s : List ℕ) where
  all-turn : (w n : ℕ) → n ≡ w + 1 → asked_all s n ≡ asked_all s w + asked s w
  unfolding asked_all
  all-turn w n e = rw (e, add-one w)

  all_none : asked_all s 0 ≡ 0
  unfolding asked_all
  all_none = refl

  pub all-four : (from a b c d : ℕ) → a ≡ asked s from → b ≡ asked s (from + 1) → c ≡ asked s (from + 2) → d ≡ asked s (from + 3)
      → asked_all s from + (a + b + c + d) ≡ asked_all s (from + 4)
  all-four from a b c d ea eb ec ed =
      omega (
        arith,
        all-turn from (from + 1) (omega arith),
        all-turn (from + 1) (from + 2) (omega arith),
        all-turn (from + 2) (from + 3) (omega arith),
        all-turn (from + 3) (from + 4) (omega arith),
      )

  -- four promises that are zero as one word
  pub four-none : (from n : ℕ) → n ≡ number 8 s (72 + 2 * from) → n ≡ 0 → asked_all s from + 0 ≡ asked_all s (from + 4)
  unfolding promise_of promise_offset
  four-none from n f z =
      let at = 72 + 2 * from in
      let e : number 8 s at ≡ 0 = sym f ∙ z in
      let z0 : number 2 s at ≡ 0 = omega (arith, e, number-join 2 6 s at) in
      let z1 : number 2 s (at + 2) ≡ 0 = omega (arith, e, number-join 2 6 s at, number-join 2 4 s (at + 2)) in
      let z2 : number 2 s (at + 4) ≡ 0 = omega (arith, e, number-join 4 4 s at, number-join 2 2 s (at + 4)) in
      let z3 : number 2 s (at + 6) ≡ 0 = omega (arith, e, number-join 6 2 s at) in
      let p1 : number 2 s (72 + 2 * (from + 1)) ≡ 0 = ap (number 2 s) (omega arith) ∙ z1 in
      let p2 : number 2 s (72 + 2 * (from + 2)) ≡ 0 = ap (number 2 s) (omega arith) ∙ z2 in
      let p3 : number 2 s (72 + 2 * (from + 3)) ≡ 0 = ap (number 2 s) (omega arith) ∙ z3 in
      all-four from 0 0 0 0 (asked-zero s from z0) (asked-zero s (from + 1) p1) (asked-zero s (from + 2) p2) (asked-zero s (from + 3) p3)

  all_held : (n : ℕ) → asked_all s n ≤ 7168
      → (asked_all s n ≡ promised s n) × ((w : ℕ) → w < n → true ≡ promise_in_order (writer_of s w) (promise_of s w))
  unfolding asked_all promised
  all_held zero h = (refl, λ w l. absurd (omega arith))
  all_held (suc n) h = held (all_held n (omega arith)) (asked-held s n (omega arith))
    where
      held : (asked_all s n ≡ promised s n) × ((w : ℕ) → w < n → true ≡ promise_in_order (writer_of s w) (promise_of s w))
          → (asked s n ≡ promise_of s n) × (true ≡ promise_in_order (writer_of s n) (promise_of s n))
          → (asked_all s n + asked s n ≡ promised s n + promise_of s n) × ((w : ℕ) → w < suc n → true ≡ promise_in_order (writer_of s w) (promise_of s w))
      held below here = (omega (arith, below.0, here.0), at)
        where
          at : (w : ℕ) → w < suc n → true ≡ promise_in_order (writer_of s w) (promise_of s w)
          at w l = go (dec_lt w n)
            where
              go : Dec (w < n) → true ≡ promise_in_order (writer_of s w) (promise_of s w)
              go (yes k) = below.1 w k
              go (no k) = let e : w ≡ n = omega arith in rw e here.1

  all-full : (n : ℕ) → ((w : ℕ) → w < n → true ≡ promise_in_order (writer_of s w) (promise_of s w)) → asked_all s n ≡ promised s n
  unfolding asked_all promised
  all-full zero h = refl
  all-full (suc n) h = rw (all-full n (λ w l. h w (omega arith)), asked-full s n (h n (omega arith)))

-- ---- the round with them

module _ (s : List ℕ) (st : State) (e : st ≡ state_of s) where
  pub pending-no : false ≡ round_in_order st → false ≡ (round_in_order (state_of s) && leb (asked_all s 8) (places (state_of s)))
  pending-no h = rw (← e, ← h)

  pub pending-sum : (a b room : ℕ) → true ≡ round_in_order st → asked_all s 0 + a ≡ asked_all s 4 → asked_all s 4 + b ≡ asked_all s 8 → room ≡ places st
      → leb (a + b) room ≡ (round_in_order (state_of s) && leb (asked_all s 8) (places (state_of s)))
  pending-sum a b room h fa fb r =
      let q : a + b ≡ asked_all s 8 = omega (arith, all_none s) in
      rw (← e, ← h, q, r)

-- ---- the writers, and the strip

module _ (s : List ℕ) (st : State) where
  writers-all : ((w : ℕ) → w < 8 → true ≡ writer_in_order st (writer_of s w)) → ((w : ℕ) → w < 8 → true ≡ promise_in_order (writer_of s w) (promise_of s w))
      → true ≡ writers_in_order s st 8
  writers-all r p = go 8 (omega arith)
    where
      go : (n : ℕ) → n ≤ 8 → true ≡ writers_in_order s st n
      go zero h = writers-none s st
      go (suc n) h = rw (← add-one n) (writers-turn s st n (go n (omega arith)) (record-held s st n (r n (omega arith)) (p n (omega arith))))

  writers-promise : (n : ℕ) → writers_in_order s st n ≡ true → (w : ℕ) → w < n → true ≡ promise_in_order (writer_of s w) (promise_of s w)
  unfolding writers_in_order writer_at_in_order
  writers-promise zero e w h = absurd (omega arith)
  writers-promise (suc n) e w h =
      let f = both (writers_in_order s st n) (writer_at_in_order s st n) e in
      go (dec_lt w n) (writers-promise n f.0 w) f.1
    where
      go : Dec (w < n) → (w < n → true ≡ promise_in_order (writer_of s w) (promise_of s w)) → writer_at_in_order s st n ≡ true
          → true ≡ promise_in_order (writer_of s w) (promise_of s w)
      go (yes l) below here = below l
      go (no l) below here =
          let q : w ≡ n = omega arith in
          rw q (sym (both (writer_in_order st (writer_of s n)) (promise_in_order (writer_of s n) (promise_of s n)) here).1)

promise-none : (s : List ℕ) (w : ℕ) → promise_of s w ≡ 0 → true ≡ promise_in_order (writer_of s w) (promise_of s w)
unfolding promise_in_order
promise-none s w z = rw (z, or-true)

places-most : (st : State) → GroupsInOrder st → places st ≤ 7168
unfolding places next_position
places-most st g = omega (arith, g.start-next, g.groups-most)

module _ (s : List ℕ) (groups homes : ℕ) (a : Agrees (state_of s) groups homes) (b : BoundsInOrder (state_of s))
    (r : (w : ℕ) → w < 8 → true ≡ writer_in_order (state_of s) (writer_of s w)) where
  -- no round is under way and nothing is promised
  pub quiet-tells : (state_of s).round ≡ 0 → ((w : ℕ) → w < 8 → promise_of s w ≡ 0) → true ≡ is_in_order s groups homes
  quiet-tells z p =
      writers-all s (state_of s) r (λ w h. promise-none s w (p w h))
      ∙ by-writers s (state_of s) groups homes refl a.groups-same a.homes_same
      (numbers-held (state_of s) a.in_order b (round-none (state_of s) z)) (omega (arith, sum-zero s 8 p))

  -- whatever is
  pub pending-tells : (p : Bool) → p ≡ (round_in_order (state_of s) && leb (asked_all s 8) (places (state_of s))) → p ≡ is_in_order s groups homes
  pending-tells p e = e ∙ go (round_in_order (state_of s)) refl
    where
      few : true ≡ round_in_order (state_of s) → Dec (places (state_of s) < asked_all s 8) → leb (asked_all s 8) (places (state_of s)) ≡ is_in_order s groups homes
      few o (no h) =
          let f = all_held s 8 (omega (arith, places-most (state_of s) a.in_order)) in
          le-leb (asked_all s 8) (places (state_of s)) (omega arith)
          ∙ writers-all s (state_of s) r f.1
          ∙ by-writers s (state_of s) groups homes refl a.groups-same a.homes_same (numbers-held (state_of s) a.in_order b o) (omega (arith, f.0))
      few o (yes h) = lt-leb (asked_all s 8) (places (state_of s)) h ∙ many (dec_lt (places (state_of s)) (promised s 8))
        where
          many : Dec (places (state_of s) < promised s 8) → false ≡ is_in_order s groups homes
          many (yes k) = too_many s (state_of s) groups homes refl k
          many (no k) = none (writers_in_order s (state_of s) 8) refl
              ∙ by-writers s (state_of s) groups homes refl a.groups-same a.homes_same (numbers-held (state_of s) a.in_order b o) (omega arith)
            where
              none : (x : Bool) → writers_in_order s (state_of s) 8 ≡ x → false ≡ writers_in_order s (state_of s) 8
              none true q = absurd (omega (arith, all-full s 8 (writers-promise s (state_of s) 8 q)))
              none false q = sym q

      go : (o : Bool) → round_in_order (state_of s) ≡ o → (round_in_order (state_of s) && leb (asked_all s 8) (places (state_of s))) ≡ is_in_order s groups homes
      go true q = rw q (few (sym q) (dec_lt (places (state_of s)) (asked_all s 8)))
      go false q = rw q (numbers-not s (state_of s) groups homes refl (round-refused (state_of s) (sym q)))
