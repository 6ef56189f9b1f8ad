-- Places promised beforehand (specs/Reserved), for every history. Assumes nothing.
use Prim.Native.Nat.{ℕ, ◌+◌, ◌-◌, ◌*◌, ◌≤◌, ◌<◌}
use mathlib.Core.Path.{◌≡◌, refl, sym, ◌∙◌}
use mathlib.Core.Logic.{◌⊎◌, inl, inr, ◌↔◌, ◌≢◌}
use mathlib.Core.Bool.{Bool, true, false, not, ◌&&◌, ◌||◌, false≢true}
use mathlib.Core.List.{List, [], ◌∷◌}
use native.Mathlib.Omega.{arith}
use lib.Dec.{eqb, leb}
use borrow.Author.Tests.{le-leb, lt-ltb, leb-true, leb-false, eqb-true, eqb-false}
use Rattle.model.specs.Bytes.{same}
use Rattle.model.specs.State.{state_of, promise_of, promised, free_places, writer_of, is_open_now}
use Rattle.model.specs.declared.Writer.{Writer}
use Rattle.model.specs.Effects.{Given, store_effect, commit_effect, flush_effect, reserve_effect}
use Rattle.model.specs.Questions.{ask, areas_right, state_right, state_in_order, writer_known, writer_open, room_for, room, may_promise, keeps_promises, store_logs, commit_logs, batch_fits, ask_state, ask_newest, ask_block, reserve_answer, store_answer, commit_answer, flush_answer}
use Rattle.model.specs.Calls.{size_of, reserve_call, store_call, commit_call, flush_call}
use Rattle.model.specs.Book.{idle}
use Rattle.model.specs.History.{reserve, store, commit, flush, Event, World, lent, ends, change_ends, step, AllAllowed, unopened, empty_store}
use Rattle.model.specs.Reserved.{none, grant, entries_of, Promised, PromisedThroughout, ReservedKept, filling, busy_log}
use Rattle.model_laws.proofs.bytes.LayoutLaws.{groups-in, homes_in, log-length-right, data-length-right}
use Rattle.model_laws.proofs.state.OrderLaws.{order-in}
use Rattle.model_laws.proofs.state.QuestionLaws.{ask-no, ask-yes}
use Rattle.model_laws.proofs.trace.Trace.{Ev}
use Rattle.theorems.proofs.invariant.Invariant.{Sizes, TaskOk, Running, Invariant}
use Rattle.theorems.proofs.steps.DoneLaws.{outcome-code}
use Rattle.theorems.proofs.steps.Beginning.{format-closed}
use Rattle.theorems.proofs.steps.FormatRuns.{from-format}
use Rattle.theorems.proofs.demands.DemandThree.{keeps}
use Rattle.model.proofs.examples.Computing.{all-definitions}
use Rattle.theorems.proofs.reserved.PromiseLedger.{Agree, Ledger, ledger-keeps}

-- ---- chains of questions

-- a chain that never answers m
ask-never : (b : Bool) (k v m : ℕ) → k ≢ m → v ≢ m → ask b k v ≢ m
unfolding ask
ask-never true k v m p q = q
ask-never false k v m p q = p

-- a question that is answered yes does not answer m
yes-never : (b : Bool) (k v m : ℕ) → b ≡ true → v ≢ m → ask b k v ≢ m
unfolding ask
yes-never true k v m e q = q
yes-never false k v m e q = absurd (false≢true e)

room-left : (s : List ℕ) (w : ℕ) (b : Bool) → 1 ≤ promise_of s w → (not b || room_for s w) ≡ true
unfolding room_for
room-left s w false l = refl
room-left s w true l = rw (le-leb 1 (promise_of s w) l)

store-never : (g : Given) (size : ℕ) → 1 ≤ promise_of g.state g.writer → store_answer g size ≢ 8
unfolding store_answer ask_block room
store-never g size l =
    ask-never _ 1 _ 8 (λ e. omega arith)
    (ask-never _ 2 _ 8 (λ e. omega arith)
    (ask-never _ 4 _ 8 (λ e. omega arith)
    (ask-never _ 5 _ 8 (λ e. omega arith)
    (ask-never _ 19 _ 8 (λ e. omega arith)
    (ask-never _ 7 _ 8 (λ e. omega arith)
    (yes-never _ 8 _ 8 (room-left g.state g.writer (store_logs g) l) (ask-never _ 9 _ 8 (λ e. omega arith) (λ e. omega arith))))))))

commit-never : (g : Given) (size : ℕ) → 1 ≤ promise_of g.state g.writer → commit_answer g size ≢ 8
unfolding commit_answer ask_newest room
commit-never g size l =
    ask-never _ 1 _ 8 (λ e. omega arith)
    (ask-never _ 2 _ 8 (λ e. omega arith)
    (ask-never _ 4 _ 8 (λ e. omega arith)
    (ask-never _ 7 _ 8 (λ e. omega arith)
    (yes-never _ 8 _ 8 (room-left g.state g.writer (commit_logs g) l) (ask-never _ 9 _ 8 (λ e. omega arith) (λ e. omega arith))))))

-- the last question of a chain
last-asked : (b : Bool) (k : ℕ) → k ≢ 0 → (ask b k 0 ≡ k) ↔ (b ≡ false)
unfolding ask
last-asked true k n = (λ e. absurd (n (sym e)), λ e. absurd (false≢true (sym e)))
last-asked false k n = (λ e. refl, λ e. refl)

may-not : (s : List ℕ) (n : ℕ) → (may_promise s n ≡ false) ↔ ((n ≡ 0) ⊎ (free_places s < n))
unfolding may_promise
may-not s n = go (leb 1 n) refl (leb n (free_places s)) refl
  where
    go : (x : Bool) → leb 1 n ≡ x → (y : Bool) → leb n (free_places s) ≡ y → ((x && y) ≡ false) ↔ ((n ≡ 0) ⊎ (free_places s < n))
    go false p y q = (λ e. inl (omega (arith, leb-false 1 n p)), λ e. refl)
    go true p false q = (λ e. inr (leb-false n (free_places s) q), λ e. refl)
    go true p true q = (λ e. absurd (false≢true (sym e)), λ e. absurd (neither (leb-true 1 n p) (leb-true n (free_places s) q) e))
      where
        neither : 1 ≤ n → n ≤ free_places s → (n ≡ 0) ⊎ (free_places s < n) → ⊥
        neither a b (inl c) = omega arith
        neither a b (inr c) = omega arith

breaks : (s : List ℕ) → (keeps_promises s ≡ false)
    ↔ ((1 ≤ (state_of s).filled) × (7 * ((state_of s).start + (state_of s).groups) - 7 * ((state_of s).next + 1) < promised s 8))
unfolding keeps_promises
breaks s = go (eqb (state_of s).filled 0) refl (leb (promised s 8) after) refl
  where
    after : ℕ
    after = 7 * ((state_of s).start + (state_of s).groups) - 7 * ((state_of s).next + 1)

    go : (x : Bool) → eqb (state_of s).filled 0 ≡ x → (y : Bool) → leb (promised s 8) after ≡ y
        → ((x || y) ≡ false) ↔ ((1 ≤ (state_of s).filled) × (after < promised s 8))
    go true p y q = (λ e. absurd (false≢true (sym e)), λ e. absurd (omega (arith, eqb-true (state_of s).filled 0 p, e.0)))
    go false p false q =
        (λ e. (let n = eqb-false (state_of s).filled 0 p in omega arith, leb-false (promised s 8) after q), λ e. refl)
    go false p true q = (λ e. absurd (false≢true (sym e)), λ e. absurd (omega (arith, leb-true (promised s 8) after q, e.1)))

idle-mode : (b : ℕ) (tr : List Ev) (r : Writer) (held ps : List ℕ) → TaskOk b tr r held ps idle → r.mode ≡ 0
idle-mode b tr r held ps (inl h) = h.0
idle-mode b tr r held ps (inr (inl h)) = absurd (false≢true cc)
idle-mode b tr r held ps (inr (inr (inl h))) = absurd (false≢true cc)
idle-mode b tr r held ps (inr (inr (inr h))) = absurd (false≢true cc)

-- ---- in an era

module _ (G D : ℕ) (z : Sizes G D) (w : World) (r : Running G D w) (granted : ℕ → ℕ) (a : Agree granted w.state w.book.tasks) where
  -- questions 1 and 2 are answered yes
  asked : (batch : List ℕ) (v n : ℕ) → ask_state (lent w [] batch v 0) n ≡ n
  unfolding ask_state areas_right state_right state_in_order lent
  asked batch v n =
      rw (
        r.copies.log_size,
        r.copies.area_size,
        r.copies.state_size,
        (log-length-right G z.low z.high).1,
        (data-length-right D z.some-home z.homes).1,
        groups-in G,
        homes_in D,
        order-in w.state G D r.copies.order,
      ) (ask-yes true 1 _ refl ∙ ask-yes true 2 n refl)

  promise-there : (v : ℕ) → v < 8 → entries_of (w.book.tasks v) < granted v → 1 ≤ promise_of w.state v
  promise-there v l h = omega (arith, a v l)

  store-room : (v home : ℕ) (block batch : List ℕ) → v < 8 → entries_of (w.book.tasks v) < granted v → (ends w (store v home block batch)).code ≢ 8
  unfolding ends change_ends store_call
  store-room v home block batch l h e =
      let g : Given = lent w block batch v home in
      store-never g (size_of (store_effect g)) (unfold lent in promise-there v l h) (sym (outcome-code g (store_answer g (size_of (store_effect g))) (store_effect g)) ∙ e)

  commit-room : (v : ℕ) (batch : List ℕ) → v < 8 → entries_of (w.book.tasks v) < granted v → (ends w (commit v batch)).code ≢ 8
  unfolding ends change_ends commit_call
  commit-room v batch l h e =
      let g : Given = lent w [] batch v 0 in
      commit-never g (size_of (commit_effect g)) (unfold lent in promise-there v l h) (sym (outcome-code g (commit_answer g (size_of (commit_effect g))) (commit_effect g)) ∙ e)

  -- an idle writer's reserve is asked 17 last
  reserve-asks : (v n : ℕ) → v < 8 → w.book.tasks v ≡ idle → reserve_answer (lent w [] [] v 0) n ≡ ask (may_promise w.state n) 17 0
  unfolding reserve_answer writer_known writer_open is_open_now lent
  reserve-asks v n l t =
      let m : (writer_of w.state v).mode ≡ 0 = idle-mode r.b r.tr (writer_of w.state v) _ _ (rw t at (r.copies.tasks v l)) in
      asked [] v _ ∙ rw (lt-ltb v 8 l, m) (ask-yes true 4 _ refl ∙ ask-yes true 6 _ refl)

  reserve-17 : (v n : ℕ) → v < 8 → w.book.tasks v ≡ idle → ((ends w (reserve v n)).code ≡ 17) ↔ ((n ≡ 0) ⊎ (free_places w.state < n))
  unfolding ends change_ends reserve_call
  reserve-17 v n l t =
      let g : Given = lent w [] [] v 0 in
      let e : (ends w (reserve v n)).code ≡ ask (may_promise w.state n) 17 0 = outcome-code g (reserve_answer g n) (reserve_effect g n) ∙ reserve-asks v n l t in
      let p = last-asked (may_promise w.state n) 17 (λ x. omega arith) in
      let q = may-not w.state n in
      (λ h. q.0 (p.0 (sym e ∙ h)), λ h. e ∙ p.1 (q.1 h))

  -- a flush is asked 18 before 9
  flush-18 : (batch : List ℕ) → ((ends w (flush batch)).code ≡ 18)
      ↔ ((1 ≤ (state_of w.state).filled)
      × (7 * ((state_of w.state).start + (state_of w.state).groups) - 7 * ((state_of w.state).next + 1) < promised w.state 8))
  unfolding ends change_ends flush_call flush_answer
  flush-18 batch =
      let g : Given = lent w [] batch 0 0 in
      let size : ℕ = size_of (flush_effect g) in
      let e : (ends w (flush batch)).code ≡ ask (keeps_promises w.state) 18 (ask (batch_fits g size) 9 0) =
      outcome-code g (flush_answer g size) (flush_effect g) ∙ asked batch 0 _ ∙ (unfold lent in refl) in
      let q = breaks w.state in
      (λ h. q.0 (refuses (keeps_promises w.state) (batch_fits g size) (sym e ∙ h)), λ h. e ∙ ask-no (keeps_promises w.state) 18 _ (q.1 h))
    where
      refuses : (x y : Bool) → ask x 18 (ask y 9 0) ≡ 18 → x ≡ false
      refuses false y h = refl
      refuses true y h = absurd (ask-never y 9 0 18 (λ k. omega arith) (λ k. omega arith) (sym (ask-yes true 18 (ask y 9 0) refl) ∙ h))

  promised-now : Promised w granted
  promised-now =
      record {
        within = r.copies.order.promises.within;
        left = a;
        storing = store-room;
        committing = commit-room;
        granting = reserve-17;
        flushing = flush-18;
      }

-- ---- every history

module _ (G D : ℕ) (z : Sizes G D) where
  promised-ready : (w : World) (granted : ℕ → ℕ) → Invariant G D w → Ledger granted w → w.ready ≡ true → Promised w granted
  promised-ready w granted (inl k) a h = absurd (false≢true (sym k.ready ∙ h))
  promised-ready w granted (inr r) a h = promised-now G D z w r granted (a h)

  promised-throughout : (es : List Event) (w : World) (granted : ℕ → ℕ) → Invariant G D w → Ledger granted w → AllAllowed w es
      → PromisedThroughout w granted es
  promised-throughout [] w granted i a p = promised-ready w granted i a
  promised-throughout (e ∷ es) w granted i a p = (
    promised-ready w granted i a,
    promised-throughout es (step w e) (grant granted w e) (keeps G D z w i e p.0).0 (ledger-keeps G D z granted w i a e p.0) p.1,
  )

pub promises-kept : ReservedKept
promises-kept =
    from-format (λ w es. PromisedThroughout w none es)
    (λ G D z es p.
    promised-throughout G D z es (empty_store G D) none (inl (format-closed G D z)) (λ h. absurd (false≢true (unfold empty_store unopened in h))) p)

-- a log that others have filled: the claim says something
pub busy-log : same busy_log (8 ∷ 8 ∷ 18 ∷ 17 ∷ 0 ∷ 0 ∷ []) ≡ true
unfolding all-definitions busy_log filling
busy-log = refl
