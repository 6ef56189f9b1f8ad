-- What the strip has for each writer is what it was granted, by the calls and answers, less the entries that it has logged since: every event of a
-- history keeps that. Assumes nothing.
use Prim.Native.Nat.{ℕ, zero, suc, ◌+◌, ◌-◌, ◌*◌, ◌^◌, ◌≤◌, ◌<◌}
use mathlib.Core.Path.{◌≡◌, refl, sym, ap, ◌∙◌, subst}
use mathlib.Core.Logic.{◌⊎◌, inl, inr}
use mathlib.Core.Bool.{Bool, true, false, cond, not, false≢true}
use mathlib.Core.List.{List, [], ◌∷◌, ◌++◌}
use mathlib.Core.Option.{Option, none, some}
use native.Mathlib.Omega.{arith}
use lib.Dec.{eqb}
use lib.ListN.{length, length-append}
use borrow.Author.Tests.{eq-eqb, ne_eqb, eqb-true, leb-true, leb-false, ltb-true}
use Rattle.model.specs.State.{state_of, next_position, set_next, set_filled, writer_of, set_writer, held_of, set_held, promise_of, set_promise, promise_left, promised, places, free_places, is_open_now, holds, begun, holding, idle as idle_writer}
use Rattle.model.specs.declared.Writer.{Writer}
use Rattle.model.specs.Effects.{Given, Effect, new_state, begin_effect, reserve_effect, abort_effect, logged, log_held, log_closing, store_first, store_again, store_other, store_effect, commit_held, commit_effect, flush_none, flush_part, flush_effect, open_effect, open_start}
use Rattle.model.specs.Questions.{begin_answer, reserve_answer, abort_answer, store_answer, commit_answer, flush_answer, open_answer, writer_known, writer_open, block_right}
use Rattle.model.specs.Calls.{Outcome, done, size_of, outcome, begin_call, reserve_call, abort_call, store_call, commit_call, flush_call, open_call}
use Rattle.model.specs.Book.{Entry, Held, Task, idle, opened, Book, with_task, filled_up, entry_of, submit, add_commit, store_task, commit_task, hold, with_commits}
use Rattle.model.specs.Book as book
use Rattle.model.specs.History.{Change, begins, reserves, aborts, stores, commits, flushes, Service, Call, opening, confirm, change, service, Event, call, crash, World, lent, loaded, ends, change_ends, feed, feed_change, is_opening, after_done, after_call, step, Allowed}
use Rattle.model.specs.Reserved.{none as nothing, grant_to, grant_change, grant_done, grant_call, grant, entries_of}
use Rattle.model_laws.proofs.state.PromiseLaws.{promise-set_next, promise-set_filled, promise-set_fenced, promise-set_last, promise-set_writer, promise-set_held, promise-set_promise, promise-set_promise-other, promise-most}
use Rattle.model_laws.proofs.state.WriterLaws.{length-set_writer, length-set_held}
use Rattle.model_laws.proofs.state.StateLaws.{length-set_last}
use Rattle.model_laws.proofs.state.SignLaws.{promise-keep_list}
use Rattle.model_laws.proofs.state.OrderLaws.{promise-fresh}
use Rattle.model_laws.proofs.state.QuestionLaws.{begin-ready, reserve-ready, may-promise, abort-ready, StoreReady, store-ready, CommitReady, commit-ready}
use Rattle.model_laws.proofs.trace.Trace.{Ev}
use Rattle.theorems.proofs.steps.Footprint.{shares, Touch, Spares, frame}
use Rattle.theorems.proofs.invariant.Invariant.{Sizes, TaskOk, entries_for, Running, Invariant}
use Rattle.theorems.proofs.steps.RefusalLaws.{left-as-lent}
use Rattle.theorems.proofs.steps.DoneLaws.{outcome-code}
use Rattle.theorems.proofs.steps.WriterSteps.{each-writer, task-here, task-other}
use Rattle.theorems.proofs.steps.HeldLogs.{filled-tasks}
use Rattle.theorems.proofs.steps.LogRuns.{logged-writers}
use Rattle.theorems.proofs.demands.Yields.{ends-done}

-- strip and book agree on every writer's promise
abbrev pub Agree : (ℕ → ℕ) → List ℕ → (ℕ → Task) → Type 0
Agree granted s tasks = (x : ℕ) → x < 8 → promise_of s x ≡ granted x - entries_of (tasks x)

abbrev pub Ledger : (ℕ → ℕ) → World → Type 0
Ledger granted w = w.ready ≡ true → Agree granted w.state w.book.tasks

grant-here : (granted : ℕ → ℕ) (v n : ℕ) → grant_to granted v n v ≡ n
unfolding grant_to
grant-here granted v n = rw (eq-eqb v v refl)

grant-other : (granted : ℕ → ℕ) (v n x : ℕ) → (x ≡ v → ⊥) → grant_to granted v n x ≡ granted x
unfolding grant_to
grant-other granted v n x d = rw (ne_eqb v x (λ e. d (sym e)))

-- a call that grants one writer n places, and changes that writer's promise and task only
agree-grant : (granted : ℕ → ℕ) (s t : List ℕ) (b : Book) (v n : ℕ) (k : Task) → Agree granted s b.tasks → promise_of t v ≡ n → entries_of k ≡ 0
    → ((x : ℕ) → x < 8 → (x ≡ v → ⊥) → promise_of t x ≡ promise_of s x) → Agree (grant_to granted v n) t (with_task b v k).tasks
agree-grant granted s t b v n k a p q f x l =
    each-writer (λ y. promise_of t y ≡ grant_to granted v n y - entries_of ((with_task b v k).tasks y)) v x
    (rw (grant-here granted v n, task-here b v k, q) (omega (arith, p)))
    (λ d. rw (grant-other granted v n x d, task-other b v x k d, f x l d) (a x l))

-- by the answer: refused, nothing changes
ledger-by : (granted : ℕ → ℕ) (w : World) (c : Call) → Ledger granted w → ((ends w c).code ≡ 0 → Ledger (grant_done granted c) (after_done w c (ends w c)))
    → Ledger (grant granted w (call c)) (step w (call c))
unfolding step after_call grant grant_call
ledger-by granted w c p f = go (ends w c).code refl
  where
    go : (n : ℕ) → (ends w c).code ≡ n → Ledger (grant_call granted c n) (after_call w c (ends w c) n)
    go zero e = f e
    go (suc n) e = subst (λ (x : World). Ledger granted x) (sym (left-as-lent w c n e)) p

-- the strip that a done call leaves
state-done : (o : Outcome) (g : Given) (a : ℕ) (e : Effect) → o ≡ outcome g a e → o.code ≡ 0 → o.state ≡ e.state
unfolding done
state-done o g a e q h = ap (λ (x : Outcome). x.state) (ends-done o g a e q h)

answer-done : (o : Outcome) (g : Given) (a : ℕ) (e : Effect) → o ≡ outcome g a e → o.code ≡ 0 → a ≡ 0
answer-done o g a e q h = sym (outcome-code g a e) ∙ ap (λ (x : Outcome). x.code) (sym q) ∙ h

writer-lt : (g : Given) → writer_known g ≡ true → g.writer < 8
unfolding writer_known
writer-lt g h = ltb-true g.writer 8 h

flush-tasks : (b : Book) → (book.flush b).tasks ≡ b.tasks
unfolding book.flush submit
flush-tasks b = go (eqb b.filled 0)
  where
    go : (d : Bool) → (cond d b (submit b)).tasks ≡ b.tasks
    go true = refl
    go false = refl

-- a store: by the writer's task
store-none : (b : Book) (v home : ℕ) (block : List ℕ) (es : List Entry) → b.tasks v ≡ opened es none
    → book.store b v home block ≡ with_task b v (opened es (hold home block))
unfolding book.store store_task
store-none b v home block es e = rw e

store_same : (b : Book) (v home : ℕ) (block old : List ℕ) (es : List Entry) (x : ℕ) → b.tasks v ≡ opened es (some (record { home = x; block = old }))
    → eqb x home ≡ true → book.store b v home block ≡ with_task b v (opened es (hold home block))
unfolding book.store store_task
store_same b v home block old es x e h = rw (e, h)

store-next : (b : Book) (v home : ℕ) (block old : List ℕ) (es : List Entry) (x : ℕ) → b.tasks v ≡ opened es (some (record { home = x; block = old }))
    → eqb x home ≡ false
    → book.store b v home block ≡ with_task (filled_up b) v (opened (es ++ (entry_of b (record { home = x; block = old }) ∷ [])) (hold home block))
unfolding book.store store_task
store-next b v home block old es x e h = rw (e, h)

-- the entries of a writer that holds a block
holding-task : (b : ℕ) (tr : List Ev) (r : Writer) (held ps : List ℕ) (t : Task) → 2 ≤ r.mode → TaskOk b tr r held ps t
    → (es : List Entry) × (t ≡ opened es (some (record { home = r.home; block = held })))
holding-task b tr r held ps t m (inl k) = absurd (omega arith)
holding-task b tr r held ps t m (inr (inl k)) = absurd (omega arith)
holding-task b tr r held ps t m (inr (inr (inl k))) = ([], k.1)
holding-task b tr r held ps t m (inr (inr (inr k))) = (entries_for b tr ps, k.1)

begun-task : (b : ℕ) (tr : List Ev) (r : Writer) (held ps : List ℕ) (t : Task) → r.mode ≡ 1 → TaskOk b tr r held ps t → t ≡ opened [] none
begun-task b tr r held ps t m (inl k) = absurd (omega arith)
begun-task b tr r held ps t m (inr (inl k)) = k.1
begun-task b tr r held ps t m (inr (inr (inl k))) = absurd (omega arith)
begun-task b tr r held ps t m (inr (inr (inr k))) = absurd (omega arith)

module _ (G D : ℕ) (z : Sizes G D) (granted : ℕ → ℕ) (w : World) (r : Running G D w) (a : Agree granted w.state w.book.tasks) where
  abbrev s : List ℕ
  s = w.state

  abbrev tasks : ℕ → Task
  tasks = w.book.tasks

  size : length s ≡ 1024
  size = r.copies.state_size

  begin-agrees : (v : ℕ) → begin_answer (lent w [] [] v 0) ≡ 0
      → Agree (grant_to granted v 0) (begin_effect (lent w [] [] v 0)).state (book.begin w.book v).tasks
  unfolding begin_effect new_state lent book.begin writer_open is_open_now entries_of
  begin-agrees v h =
      let k = begin-ready (lent w [] [] v 0) h in
      let l : v < 8 = writer-lt (lent w [] [] v 0) k.1 in
      let m : (writer_of s v).mode ≡ 0 = omega (arith, leb-false 1 (writer_of s v).mode k.2) in
      agree-grant granted s (set_writer s v begun) w.book v 0 (opened [] none) a
      (promise-set_writer s v begun v l ∙ r.copies.order.promises.none-idle v l m) refl (λ x n d. promise-set_writer s v begun x n)

  reserve-agrees : (v n : ℕ) → reserve_answer (lent w [] [] v 0) n ≡ 0
      → Agree (grant_to granted v n) (reserve_effect (lent w [] [] v 0) n).state (book.begin w.book v).tasks
  unfolding reserve_effect new_state lent book.begin entries_of
  reserve-agrees v n h =
      let k = reserve-ready (lent w [] [] v 0) n h in
      let l : v < 8 = writer-lt (lent w [] [] v 0) k.1 in
      let s₁ = set_writer s v begun in
      let q : n ≤ places (state_of s) - promised s 8 = unfold free_places in (may-promise s n k.3).1 in
      let few : n < 2 ^ 16 = unfold places next_position in omega (arith, r.copies.order.groups-same, r.copies.order.start-next, z.high) in
      agree-grant granted s (set_promise s₁ v n) w.book v n (opened [] none) a
      (promise-set_promise s₁ v n (length-set_writer s v begun ∙ size) l few) refl
      (λ x m d. promise-set_promise-other s₁ v n x d ∙ promise-set_writer s v begun x m)

  abort-agrees : (v : ℕ) → v < 8 → Agree (grant_to granted v 0) (abort_effect (lent w [] [] v 0)).state (with_task w.book v idle).tasks
  unfolding abort_effect new_state lent entries_of
  abort-agrees v l =
      let s₁ = set_writer s v idle_writer in
      agree-grant granted s (set_promise s₁ v 0) w.book v 0 idle a
      (promise-set_promise s₁ v 0 (length-set_writer s v idle_writer ∙ size) l (omega arith)) refl
      (λ x m d. promise-set_promise-other s₁ v 0 x d ∙ promise-set_writer s v idle_writer x m)

  abort-done : (v : ℕ) → abort_answer (lent w [] [] v 0) ≡ 0
      → Agree (grant_to granted v 0) (abort_effect (lent w [] [] v 0)).state (book.abort w.book v).tasks
  unfolding book.abort lent
  abort-done v h = abort-agrees v (writer-lt (lent w [] [] v 0) (abort-ready (lent w [] [] v 0) h).1)

  -- the strip after an entry is logged has the same promises
  logged-promise : (word : ℕ) (block : List ℕ) (x : ℕ) → promise_of (logged s w.log word block).state x ≡ promise_of s x
  logged-promise word block x = (logged-writers s w.log word block size).promise x

  logged-size : (word : ℕ) (block : List ℕ) → length (logged s w.log word block).state ≡ 1024
  logged-size word block = (logged-writers s w.log word block size).size

  -- a store that logs nothing
  kept-agrees : (t : List ℕ) (v : ℕ) (es : List Entry) (held : Option Held) → v < 8 → entries_of (tasks v) ≡ length es
      → ((x : ℕ) → x < 8 → promise_of t x ≡ promise_of s x) → Agree granted t (with_task w.book v (opened es held)).tasks
  unfolding entries_of
  kept-agrees t v es held lv e f x l =
      rw (f x l)
      (each-writer (λ y. promise_of s y ≡ granted y - entries_of ((with_task w.book v (opened es held)).tasks y)) v x
      (rw (task-here w.book v (opened es held)) (rw e at (a v lv)))
      (λ d. rw (task-other w.book v x (opened es held) d) (a x l)))

  -- one that logs the held block
  used-agrees : (t : List ℕ) (v : ℕ) (es : List Entry) (e : Entry) (held : Option Held) → v < 8 → entries_of (tasks v) ≡ length es
      → promise_of t v ≡ promise_of s v - 1 → ((x : ℕ) → x < 8 → (x ≡ v → ⊥) → promise_of t x ≡ promise_of s x)
      → Agree granted t (with_task (filled_up w.book) v (opened (es ++ (e ∷ [])) held)).tasks
  unfolding entries_of
  used-agrees t v es e held lv h p f x l =
      each-writer (λ y. promise_of t y ≡ granted y - entries_of ((with_task (filled_up w.book) v (opened (es ++ (e ∷ [])) held)).tasks y)) v x
      (rw (task-here (filled_up w.book) v (opened (es ++ (e ∷ [])) held)) (omega (arith, p, rw h at (a v lv), length-append es (e ∷ []))))
      (λ d. rw (f x l d, task-other (filled_up w.book) v x (opened (es ++ (e ∷ [])) held) d, filled-tasks w.book) (a x l))

  module _ (v home : ℕ) (block batch : List ℕ) (h : store_answer (lent w block batch v home) (size_of (store_effect (lent w block batch v home))) ≡ 0) where
    abbrev g : Given
    g = lent w block batch v home

    k : StoreReady g (size_of (store_effect g))
    k = store-ready g (size_of (store_effect g)) h

    lv : v < 8
    unfolding lent
    lv = writer-lt g k.writer

    block_size : length block ≡ 64
    unfolding block_right lent
    block_size = eqb-true (length block) 64 k.block

    mode-open : 1 ≤ (writer_of s v).mode
    unfolding writer_open is_open_now lent
    mode-open = leb-true 1 (writer_of s v).mode k.opened

    first-agrees : holds (writer_of s v) ≡ false → Agree granted (store_effect g).state (book.store w.book v home block).tasks
    unfolding store_effect store_first new_state lent holds entries_of
    first-agrees f =
        let m : (writer_of s v).mode ≡ 1 = omega (arith, leb-false 2 (writer_of s v).mode f, mode-open) in
        let t = begun-task r.b r.tr (writer_of s v) (held_of s v) _ (tasks v) m (r.copies.tasks v lv) in
        rw (f, store-none w.book v home block [] t)
        (kept-agrees (set_held (set_writer s v (holding home)) v block) v [] (hold home block) lv (rw t)
        (λ x l. promise-set_held (set_writer s v (holding home)) v block x block_size l ∙ promise-set_writer s v (holding home) x l))

    again-agrees : holds (writer_of s v) ≡ true → eqb (writer_of s v).home home ≡ true
        → Agree granted (store_effect g).state (book.store w.book v home block).tasks
    unfolding store_effect store_again new_state lent holds entries_of
    again-agrees f q =
        let t = holding-task r.b r.tr (writer_of s v) (held_of s v) _ (tasks v) (leb-true 2 (writer_of s v).mode f) (r.copies.tasks v lv) in
        rw (f, q, store_same w.book v home block (held_of s v) t.0 (writer_of s v).home t.1 q)
        (kept-agrees (set_held s v block) v t.0 (hold home block) lv (ap entries_of t.1) (λ x l. promise-set_held s v block x block_size l))

    other-agrees : holds (writer_of s v) ≡ true → eqb (writer_of s v).home home ≡ false
        → Agree granted (store_effect g).state (book.store w.book v home block).tasks
    unfolding store_effect store_other log_held lent holds entries_of promise_left
    other-agrees f q =
        let t = holding-task r.b r.tr (writer_of s v) (held_of s v) _ (tasks v) (leb-true 2 (writer_of s v).mode f) (r.copies.tasks v lv) in
        let few : promise_of s v < 2 ^ 16 =
        unfold places next_position in
        omega (arith, promise-most s v 8 lv, r.copies.order.promises.within, r.copies.order.groups-same, r.copies.order.start-next, z.high) in
        rw (f, q, store-next w.book v home block (held_of s v) t.0 (writer_of s v).home t.1 q)
        (used-agrees _ v t.0 _ (hold home block) lv (ap entries_of t.1)
        (promise-set_promise _ v (promise_of s v - 1)
        (length-set_held _ v block ∙ length-set_writer _ v _ ∙ logged-size _ _) lv (omega (arith, few)))
        (λ x l d. promise-set_promise-other _ v (promise_of s v - 1) x d ∙ promise-set_held _ v block x block_size l ∙ promise-set_writer _ v _ x l ∙ logged-promise _ _ x))

    store-agrees : Agree granted (store_effect g).state (book.store w.book v home block).tasks
    store-agrees = go (holds (writer_of s v)) refl (eqb (writer_of s v).home home) refl
      where
        go : (d : Bool) → holds (writer_of s v) ≡ d → (e : Bool) → eqb (writer_of s v).home home ≡ e
            → Agree granted (store_effect g).state (book.store w.book v home block).tasks
        go false f e q = first-agrees f
        go true f true q = again-agrees f q
        go true f false q = other-agrees f q

  module _ (v : ℕ) (batch : List ℕ) (figure : ℕ) (h : commit_answer (lent w [] batch v 0) (size_of (commit_effect (lent w [] batch v 0))) ≡ 0) where
    abbrev g₂ : Given
    g₂ = lent w [] batch v 0

    k₂ : CommitReady g₂ (size_of (commit_effect g₂))
    k₂ = commit-ready g₂ (size_of (commit_effect g₂)) h

    lv₂ : v < 8
    unfolding lent
    lv₂ = writer-lt g₂ k₂.writer

    none-agrees : holds (writer_of s v) ≡ false → Agree (grant_to granted v 0) (commit_effect g₂).state (book.commit w.book v figure).tasks
    unfolding commit_effect abort_effect new_state lent holds book.commit commit_task writer_open is_open_now
    none-agrees f =
        let m : (writer_of s v).mode ≡ 1 = omega (arith, leb-false 2 (writer_of s v).mode f, leb-true 1 (writer_of s v).mode k₂.opened) in
        let t = begun-task r.b r.tr (writer_of s v) (held_of s v) _ (tasks v) m (r.copies.tasks v lv₂) in
        rw (f, t) (abort-agrees v lv₂)

    held-agrees : holds (writer_of s v) ≡ true → Agree (grant_to granted v 0) (commit_effect g₂).state (book.commit w.book v figure).tasks
    unfolding commit_effect commit_held log_closing lent holds book.commit commit_task add_commit entries_of
    held-agrees f =
        let t = holding-task r.b r.tr (writer_of s v) (held_of s v) _ (tasks v) (leb-true 2 (writer_of s v).mode f) (r.copies.tasks v lv₂) in
        rw (f, t.1)
        (agree-grant granted s _ _ v 0 idle (rw (filled-tasks w.book) a)
        (promise-keep_list _ v lv₂ ∙ promise-set_promise _ v 0 (length-set_writer _ v idle_writer ∙ length-set_last _ _ ∙ logged-size _ _) lv₂ (omega arith)) refl
        (λ x l d. promise-keep_list _ x l ∙ promise-set_promise-other _ v 0 x d ∙ promise-set_writer _ v idle_writer x l ∙ promise-set_last _ _ x ∙ logged-promise _ _ x))

    commit-agrees : Agree (grant_to granted v 0) (commit_effect g₂).state (book.commit w.book v figure).tasks
    commit-agrees = go (holds (writer_of s v)) refl
      where
        go : (d : Bool) → holds (writer_of s v) ≡ d → Agree (grant_to granted v 0) (commit_effect g₂).state (book.commit w.book v figure).tasks
        go false f = none-agrees f
        go true f = held-agrees f

  flush-agrees : (batch : List ℕ) → Agree granted (flush_effect (lent w [] batch 0 0)).state (book.flush w.book).tasks
  unfolding flush_effect flush_none flush_part lent
  flush-agrees batch = rw (flush-tasks w.book) (go (eqb (state_of s).filled 0))
    where
      go : (d : Bool) → Agree granted (cond d (flush_none (lent w [] batch 0 0) (state_of s)) (flush_part (lent w [] batch 0 0) (state_of s))).state tasks
      go true x l = rw (promise-set_fenced s (7 * (state_of s).next) x) (a x l)
      go false x l =
          rw (promise-set_fenced (set_filled (set_next s ((state_of s).next + 1)) 0) (7 * ((state_of s).next + 1)) x, promise-set_filled (set_next s ((state_of s).next + 1)) 0 x, promise-set_next s ((state_of s).next + 1) x)
          (a x l)

  -- ---- a done call

  change-agrees : (c : Change) → (ends w (change c)).code ≡ 0
      → Agree (grant_change granted c) (ends w (change c)).state (feed_change w.book c (ends w (change c)).figure).tasks
  unfolding grant_change feed_change ends change_ends begin_call reserve_call abort_call store_call commit_call flush_call
  change-agrees (begins v) h =
      let g = lent w [] [] v 0 in
      rw (state-done (begin_call g) g (begin_answer g) (begin_effect g) refl h) (begin-agrees v (answer-done (begin_call g) g (begin_answer g) (begin_effect g) refl h))
  change-agrees (reserves v n) h =
      let g = lent w [] [] v 0 in
      rw (state-done (reserve_call g n) g (reserve_answer g n) (reserve_effect g n) refl h)
      (reserve-agrees v n (answer-done (reserve_call g n) g (reserve_answer g n) (reserve_effect g n) refl h))
  change-agrees (aborts v) h =
      let g = lent w [] [] v 0 in
      rw (state-done (abort_call g) g (abort_answer g) (abort_effect g) refl h) (abort-done v (answer-done (abort_call g) g (abort_answer g) (abort_effect g) refl h))
  change-agrees (stores v home block batch) h =
      let g = lent w block batch v home in
      let e : Effect = store_effect g in
      rw (state-done (store_call g) g (store_answer g (size_of e)) e refl h)
      (store-agrees v home block batch (answer-done (store_call g) g (store_answer g (size_of e)) e refl h))
  change-agrees (commits v batch) h =
      let g = lent w [] batch v 0 in
      let e : Effect = commit_effect g in
      rw (state-done (commit_call g) g (commit_answer g (size_of e)) e refl h)
      (commit-agrees v batch _ (answer-done (commit_call g) g (commit_answer g (size_of e)) e refl h))
  change-agrees (flushes batch) h =
      let g = lent w [] batch 0 0 in
      let e : Effect = flush_effect g in
      rw (state-done (flush_call g) g (flush_answer g (size_of e)) e refl h) (flush-agrees batch)

  -- one that leaves the promises
  spared : (c : Call) → (ends w c).code ≡ 0 → Spares shares c → Agree granted (ends w c).state tasks
  spared c h f x l = f.0 w h x l ∙ a x l

  service-agrees : (c : Service) → (ends w (service c)).code ≡ 0 → Agree granted (ends w (service c)).state tasks
  service-agrees c h = go c h (frame shares (service c))
    where
      go : (c : Service) → (ends w (service c)).code ≡ 0 → Touch shares (service c) ⊎ Spares shares (service c) → Agree granted (ends w (service c)).state tasks
      go c h (inl touched) = elim touched [ ]
      go c h (inr f) = spared (service c) h f

  confirm-agrees : (ends w confirm).code ≡ 0 → Agree granted (ends w confirm).state tasks
  confirm-agrees h = go (frame shares confirm)
    where
      go : Touch shares confirm ⊎ Spares shares confirm → Agree granted (ends w confirm).state tasks
      go (inl touched) = elim touched [ ]
      go (inr f) = spared confirm h f

  pub call-agrees : (c : Call) → is_opening c ≡ false → (ends w c).code ≡ 0
      → Agree (grant_done granted c) (ends w c).state (feed w.book c (ends w c).figure).tasks
  unfolding is_opening grant_done feed with_commits
  call-agrees (opening state newest batch) e h = absurd (false≢true (sym e))
  call-agrees confirm e h = confirm-agrees h
  call-agrees (change c) e h = change-agrees c h
  call-agrees (service c) e h = service-agrees c h

-- an opening forgets all promises
open-agrees : (w : World) (state newest batch : List ℕ) (tasks : ℕ → Task) → (ends w (opening state newest batch)).code ≡ 0
    → Agree nothing (ends w (opening state newest batch)).state tasks
unfolding ends open_call nothing
open-agrees w state newest batch tasks h x l =
    let g = loaded w state newest batch in
    let e : Effect = open_effect g in
    rw (state-done (open_call g) g (open_answer g (open_start g) (size_of e)) e refl h) (unfold open_effect in (promise-fresh _ _ _ _ x l ∙ omega arith))

opening-agrees : (granted : ℕ → ℕ) (w : World) (c : Call) → is_opening c ≡ true → (ends w c).code ≡ 0 → Ledger (grant_done granted c) (after_done w c (ends w c))
unfolding is_opening grant_done after_done
opening-agrees granted w (opening state newest batch) e h q = open-agrees w state newest batch _ h
opening-agrees granted w confirm e h q = absurd (false≢true e)
opening-agrees granted w (change c) e h q = absurd (false≢true e)
opening-agrees granted w (service c) e h q = absurd (false≢true e)

running-agrees : (G D : ℕ) → Sizes G D → (granted : ℕ → ℕ) (w : World) → Running G D w → Ledger granted w → (c : Call) → is_opening c ≡ false
    → (ends w c).code ≡ 0 → Ledger (grant_done granted c) (after_done w c (ends w c))
unfolding after_done
running-agrees G D z granted w r a c e h q = call-agrees G D z granted w r (a r.ready) c e h

pub ledger-keeps : (G D : ℕ) → Sizes G D → (granted : ℕ → ℕ) (w : World) → Invariant G D w → Ledger granted w → (e : Event) → Allowed w e
    → Ledger (grant granted w e) (step w e)
ledger-keeps G D z granted w (inl k) a (call c) p = ledger-by granted w c a (opening-agrees granted w c (p ∙ ap not k.ready))
ledger-keeps G D z granted w (inr r) a (call c) p = ledger-by granted w c a (running-agrees G D z granted w r a c (p ∙ ap not r.ready))
ledger-keeps G D z granted w i a (crash passed chosen) p = λ h. absurd (false≢true (unfold step Rattle.model.specs.History.after_crash in h))
