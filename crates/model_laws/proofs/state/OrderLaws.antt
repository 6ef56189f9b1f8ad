-- Question 2 (specs/State): what a strip in order is, as plain facts. And the strip that an opening leaves, which is in order. Assumes nothing.
use mathlib.Core.Path.{◌≡◌, refl, ◌∙◌}
use mathlib.Core.Bool.{Bool, true, false, ◌&&◌, ◌||◌}
use mathlib.Core.Logic.{◌⊎◌, inl, inr, ◌↔◌, ◌≢◌}
use mathlib.Core.List.{List}
use Prim.Native.Nat.{ℕ, zero, suc, ◌+◌, ◌*◌, ◌^◌, ◌≤◌, ◌<◌}
use native.Mathlib.Decide.{dec_lt, ℕ_discrete}
use native.Mathlib.Omega.{arith}
use borrow.Author.Tests.{leb-true, leb-false, eqb-true, eqb-false, le-leb, lt-leb, eq-eqb, ne_eqb}
use lib.Dec.{leb, eqb}
use lib.ListN.{length, get_or}
use Rattle.model.specs.Bytes.{zeros}
use Rattle.model.specs.declared.State.{State}
use Rattle.model.specs.declared.Writer.{Writer}
use Rattle.model.specs.State.{state_of, writer_of, one_more_than, idle, is_open_now, promise_of, promised, places, fresh_numbers, fresh_state, next_position, numbers_in_order, writer_in_order, promise_in_order, writer_at_in_order, writers_in_order, is_in_order}
use Rattle.model_laws.proofs.bytes.ByteLaws.{length-zeros}
use Rattle.model_laws.proofs.state.StateLaws.{length-laws, state-laws, writer-laws}
use Rattle.model_laws.proofs.state.PromiseLaws.{promise-laws, promise-zeros, promised-none, promise-most}
use Rattle.model_laws.proofs.state.ListedLaws.{length-set_listed, state-set_listed, writer-set_listed, promise-set_listed}
use Rattle.model_laws.proofs.state.SignLaws.{length-set_list_sign, state-set_list_sign, writer-set_list_sign, promise-set_list_sign}
use Rattle.model_laws.proofs.bytes.LayoutLaws.{number-zeros}

-- ---- tests and what they tell: simp by the set turns a chain of tests into its facts, and back

pub both : (a b : Bool) → ((a && b) ≡ true) ↔ ((a ≡ true) × (b ≡ true))
both true b = (λ h. (refl, h), λ h. h.1)
both false b = (λ h. (h, cc), λ h. h.0)

pub either : (a b : Bool) → ((a || b) ≡ true) ↔ (a ≡ false → b ≡ true)
either true b = (λ h k. cc, λ h. refl)
either false b = (λ h k. h, λ h. h refl)

pub at_most : (a b : ℕ) → (leb a b ≡ true) ↔ (a ≤ b)
at_most a b = (leb-true a b, le-leb a b)

pub above : (a b : ℕ) → (leb a b ≡ false) ↔ (b < a)
above a b = (leb-false a b, lt-leb a b)

pub equal : (a b : ℕ) → (eqb a b ≡ true) ↔ (a ≡ b)
equal a b = (eqb-true a b, eq-eqb a b)

pub unequal : (a b : ℕ) → (eqb a b ≡ false) ↔ (a ≢ b)
unequal a b = (eqb-false a b, ne_eqb a b)

pub ruleset tests = (both, either, at_most, above, equal, unequal)

-- ---- question 2 as plain facts

pub record WriterInOrder (st : State) (r : Writer) : Type 0 where
  pub mode : r.mode ≤ 3
  pub home : 2 ≤ r.mode → r.home < st.homes
  pub logged : 3 ≤ r.mode
      → (7 * st.start ≤ r.first) × (r.first < next_position st) × (1 ≤ r.count) × (r.first + r.count ≤ next_position st)

-- the promises: together at most the places from the next position on, and none for an idle writer
pub record Reserved (s : List ℕ) : Type 0 where
  pub within : promised s 8 ≤ places (state_of s)
  pub none-idle : (w : ℕ) → w < 8 → (writer_of s w).mode ≡ 0 → promise_of s w ≡ 0

pub record InOrder (s : List ℕ) (groups homes : ℕ) : Type 0 where
  pub groups-same : (state_of s).groups ≡ groups
  pub homes_same : (state_of s).homes ≡ homes
  pub start-most : (state_of s).start ≤ 2 ^ 47
  pub start-next : (state_of s).start ≤ (state_of s).next
  pub next-most : (state_of s).next ≤ (state_of s).start + (state_of s).groups
  pub filled-most : (state_of s).filled ≤ 6
  pub filled_none : (state_of s).next ≡ (state_of s).start + (state_of s).groups → (state_of s).filled ≡ 0
  pub start-settled : 7 * (state_of s).start ≤ (state_of s).settled
  pub settled-fenced : (state_of s).settled ≤ (state_of s).fenced
  pub fenced-next : (state_of s).fenced ≤ 7 * (state_of s).next
  pub durable-fenced : (state_of s).durable ≤ (state_of s).fenced
  pub last-closing : (state_of s).last ≤ next_position (state_of s)
  pub round-settled : 1 ≤ (state_of s).round → (state_of s).settled < (state_of s).round
  pub round-fenced : (state_of s).round ≤ (state_of s).fenced + 1
  pub promises : Reserved s
  pub writers : (w : ℕ) → w < 8 → WriterInOrder (state_of s) (writer_of s w)

-- ---- a writer, and the first n writers

pub writer-order : (st : State) (r : Writer) → writer_in_order st r ≡ true → WriterInOrder st r
unfolding writer_in_order
writer-order st r h =
    let f = simp tests at h in
    record { mode = omega arith; home = λ k. f.0.1 (omega arith); logged = λ k. let g = f.1 (omega arith) in omega arith }

pub order-writer : (st : State) (r : Writer) → WriterInOrder st r → writer_in_order st r ≡ true
unfolding writer_in_order
order-writer st r h = simp tests ((h.mode, λ k. h.home (omega arith)), λ k. let g = h.logged (omega arith) in omega arith)

promise-order : (r : Writer) (n : ℕ) → promise_in_order r n ≡ true → r.mode ≡ 0 → n ≡ 0
unfolding promise_in_order is_open_now
promise-order r n h e = let f = simp tests at h in f (omega arith)

order-promise : (r : Writer) (n : ℕ) → (r.mode ≡ 0 → n ≡ 0) → promise_in_order r n ≡ true
unfolding promise_in_order is_open_now
order-promise r n h = simp tests (λ k. h (omega arith))

writer-among : (s : List ℕ) (st : State) (n w : ℕ) → writers_in_order s st n ≡ true → w < n → writer_at_in_order s st w ≡ true
unfolding writers_in_order
writer-among s st zero w h k = absurd (omega arith)
writer-among s st (suc n) w h k =
    let f = (both (writers_in_order s st n) (writer_at_in_order s st n)).0 h in
    go (dec_lt w n) (writer-among s st n w f.0) f.1
  where
    go : Dec (w < n) → (w < n → writer_at_in_order s st w ≡ true) → writer_at_in_order s st n ≡ true → writer_at_in_order s st w ≡ true
    go (yes l) f g = f l
    go (no l) f g = let e : w ≡ n = omega arith in rw e g

among-writers : (s : List ℕ) (st : State) (n : ℕ) → ((w : ℕ) → w < n → writer_at_in_order s st w ≡ true) → writers_in_order s st n ≡ true
unfolding writers_in_order
among-writers s st zero f = refl
among-writers s st (suc n) f =
    (both (writers_in_order s st n) (writer_at_in_order s st n)).1 (among-writers s st n (λ w k. f w (omega arith)), f n (omega arith))

-- a writer's record and its promise
at-order : (s : List ℕ) (st : State) (w : ℕ) → writer_at_in_order s st w ≡ true
    → WriterInOrder st (writer_of s w) × ((writer_of s w).mode ≡ 0 → promise_of s w ≡ 0)
unfolding writer_at_in_order
at-order s st w h =
    let f = (both (writer_in_order st (writer_of s w)) (promise_in_order (writer_of s w) (promise_of s w))).0 h in
    (writer-order st (writer_of s w) f.0, promise-order (writer_of s w) (promise_of s w) f.1)

order-at : (s : List ℕ) (st : State) (w : ℕ) → WriterInOrder st (writer_of s w) → ((writer_of s w).mode ≡ 0 → promise_of s w ≡ 0)
    → writer_at_in_order s st w ≡ true
unfolding writer_at_in_order
order-at s st w o p =
    (both (writer_in_order st (writer_of s w)) (promise_in_order (writer_of s w) (promise_of s w))).1
    (order-writer st (writer_of s w) o, order-promise (writer_of s w) (promise_of s w) p)

-- ---- the whole strip

pub in_order : (s : List ℕ) (groups homes : ℕ) → is_in_order s groups homes ≡ true → InOrder s groups homes
unfolding is_in_order numbers_in_order
in_order s groups homes h =
    let f = simp tests at h in
    record {
      groups-same = omega arith;
      homes_same = omega arith;
      start-most = omega arith;
      start-next = omega arith;
      next-most = omega arith;
      filled-most = omega arith;
      filled_none = λ e. f.0.0.1.0.0.0.0.0.0.1 (omega arith);
      start-settled = omega arith;
      settled-fenced = omega arith;
      fenced-next = omega arith;
      durable-fenced = omega arith;
      last-closing = omega arith;
      round-settled = λ k. (f.0.0.1.1 (λ e. omega arith)).0;
      round-fenced = fixed (ℕ_discrete (state_of s).round 0) f.0.0.1.1;
      promises =
          record { within = f.0.1; none-idle = λ w k. (at-order s (state_of s) w (writer-among s (state_of s) 8 w f.1 k)).1 };
      writers = λ w k. (at-order s (state_of s) w (writer-among s (state_of s) 8 w f.1 k)).0;
    }
  where
    fixed : Dec ((state_of s).round ≡ 0)
        → ((state_of s).round ≢ 0 → ((state_of s).settled < (state_of s).round) × ((state_of s).round ≤ (state_of s).fenced + 1))
        → (state_of s).round ≤ (state_of s).fenced + 1
    fixed (yes e) k = omega arith
    fixed (no e) k = (k e).1

pub order-in : (s : List ℕ) (groups homes : ℕ) → InOrder s groups homes → is_in_order s groups homes ≡ true
unfolding is_in_order numbers_in_order
order-in s groups homes o =
    simp tests (
      (
        (
          (o.groups-same, o.homes_same),
          (
            (
              (((((omega arith, λ h. o.filled_none (omega arith)), o.start-settled), o.settled-fenced), o.fenced-next), o.durable-fenced),
              o.last-closing,
            ),
            λ h. (o.round-settled (omega arith), o.round-fenced),
          ),
        ),
        o.promises.within,
      ),
      among-writers s (state_of s) 8 (λ w k. order-at s (state_of s) w (o.writers w k) (o.promises.none-idle w k)),
    )

-- where a place is left the next group is below start + G
pub place-below : (s : List ℕ) (groups homes w : ℕ) → InOrder s groups homes → w < 8 → (1 ≤ promise_of s w) ⊎ (promised s 8 < places (state_of s))
    → (state_of s).next < (state_of s).start + (state_of s).groups
unfolding places next_position
place-below s groups homes w o l (inl h) = omega (arith, promise-most s w 8 l, o.promises.within)
place-below s groups homes w o l (inr h) = omega arith

-- the next position is at most one past the ring's last
pub next-within : (s : List ℕ) (groups homes : ℕ) → InOrder s groups homes → next_position (state_of s) ≤ 7 * ((state_of s).start + groups)
unfolding next_position
next-within s groups homes o = go (ℕ_discrete (state_of s).next ((state_of s).start + (state_of s).groups))
  where
    go : Dec ((state_of s).next ≡ (state_of s).start + (state_of s).groups) → 7 * (state_of s).next + (state_of s).filled ≤ 7 * ((state_of s).start + groups)
    go (yes e) = omega (arith, o.groups-same, o.filled_none e)
    go (no e) = omega (arith, o.groups-same, o.next-most, o.filled-most)

-- ---- zeros

pub byte-zeros : (n i : ℕ) → get_or (zeros n) i 0 ≡ 0
unfolding zeros
byte-zeros zero i = refl
byte-zeros (suc n) zero = refl
byte-zeros (suc n) (suc i) = byte-zeros n i

state-zeros : (n : ℕ) → state_of (zeros n)
    ≡ record { groups = 0; homes = 0; start = 0; next = 0; filled = 0; settled = 0; fenced = 0; durable = 0; last = 0; round = 0; cursor = 0 }
unfolding state_of
state-zeros n = simp number-zeros

writer-zeros : (n w : ℕ) → writer_of (zeros n) w ≡ idle
unfolding writer_of one_more_than idle
writer-zeros n w = simp number-zeros

idle-in-order : (st : State) → writer_in_order st idle ≡ true
unfolding writer_in_order idle
idle-in-order st = refl

-- ---- the strip that an opening leaves

module _ (groups homes start sign : ℕ) where
  pub length-fresh : length (fresh_state groups homes start sign) ≡ 1024
  unfolding fresh_state fresh_numbers
  length-fresh = length-set_list_sign _ _ ∙ length-set_listed _ _ ∙ simp (length-laws, length-zeros)

  pub state-fresh : groups < 2 ^ 64 → homes < 2 ^ 64 → 7 * start < 2 ^ 64
      → state_of (fresh_state groups homes start sign)
      ≡ record {
        groups = groups;
        homes = homes;
        start = start;
        next = start;
        filled = 0;
        settled = 7 * start;
        fenced = 7 * start;
        durable = 7 * start;
        last = 0;
        round = 0;
        cursor = 0;
      }
  unfolding fresh_state fresh_numbers
  state-fresh g h k =
      let q : start < 2 ^ 64 = omega arith in
      state-set_list_sign _ _ ∙ state-set_listed _ _ ∙ simp (state-laws, length-laws, length-zeros, state-zeros)

  pub writer-fresh : (w : ℕ) → w < 8 → writer_of (fresh_state groups homes start sign) w ≡ idle
  unfolding fresh_state fresh_numbers
  writer-fresh w l = writer-set_list_sign _ _ w l ∙ writer-set_listed _ _ w l ∙ simp (writer-laws, writer-zeros)

  pub promise-fresh : (w : ℕ) → w < 8 → promise_of (fresh_state groups homes start sign) w ≡ 0
  unfolding fresh_state fresh_numbers
  promise-fresh w l = promise-set_list_sign _ _ w l ∙ promise-set_listed _ _ w l ∙ simp (promise-laws, promise-zeros)

  pub in-order-fresh : start ≤ 2 ^ 47 → groups ≤ 1024 → homes ≤ 65535 → is_in_order (fresh_state groups homes start sign) groups homes ≡ true
  unfolding is_in_order numbers_in_order next_position
  in-order-fresh h g d =
      rw (state-fresh (omega arith) (omega arith) (omega arith), promised-none (fresh_state groups homes start sign) 8 promise-fresh)
      (simp tests (
        omega arith,
        among-writers (fresh_state groups homes start sign) _ 8
            (λ w k. order-at (fresh_state groups homes start sign) _ w (rw (writer-fresh w k) (writer-order _ idle (idle-in-order _))) (λ e. promise-fresh w k)),
      ))
