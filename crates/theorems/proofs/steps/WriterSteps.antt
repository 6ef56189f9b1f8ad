-- Calls that change one writer's record and promise and nothing else: begin, reserve, abort, a store that logs nothing, a commit of nothing.
use mathlib.Core.Path.{◌≡◌, refl, sym, ap, ◌∙◌, subst}
use mathlib.Core.Logic.{inl, inr}
use mathlib.Core.Bool.{true, false}
use mathlib.Core.List.{List, [], append-nil}
use mathlib.Core.Option.{none, some}
use Prim.Native.Nat.{ℕ, ◌+◌, ◌-◌, ◌*◌, ◌^◌, ◌≤◌, ◌<◌}
use native.Mathlib.Omega.{arith}
use native.Mathlib.Decide.{ℕ_discrete}
use lib.ListN.{length}
use borrow.Author.Tests.{eq-eqb, ne_eqb, ltb-true, leb-false}
use Rattle.model.specs.State.{state_of, next_position, writer_of, set_writer, held_of, set_held, promise_of, set_promise, promised, places, free_places, is_open_now, idle, begun, holding}
use Rattle.model.specs.declared.State.{State}
use Rattle.model.specs.declared.Writer.{Writer}
use Rattle.model.specs.Effects.{begin_effect, reserve_effect, abort_effect, store_first, store_again, new_state}
use Rattle.model.specs.Questions.{begin_answer, reserve_answer, writer_known, writer_open}
use Rattle.model.specs.Book.{Entry, Task, opened, idle as idle', Book, Commit, with_task, set_task, begin as book-begin, store as book-store, store_task as book-store_task, hold as book-hold}
use Rattle.model.specs.History.{Call, World, lent, feed, is_confirm, begin, reserve, store, feed_change}
use Rattle.model_laws.proofs.state.QuestionLaws.{begin-ready, reserve-ready, may-promise}
use Rattle.model_laws.proofs.state.WriterLaws.{length-set_writer, length-set_held, state-set_writer, writer-set_writer, writer-set_writer-other, held-set_writer, state-set_held, writer-set_held, held-set_held, held-set_held-other, fits-begun, fits-idle, fits-holding}
use Rattle.model_laws.proofs.state.PromiseLaws.{promise-set_writer, promise-set_held, length-set_promise, state-set_promise, writer-set_promise, held-set_promise, promise-set_promise, promise-set_promise-other, promised-change}
use Rattle.theorems.proofs.steps.DoneLaws.{after}
use Rattle.model_laws.proofs.state.OrderLaws.{InOrder, WriterInOrder, Reserved}
use Rattle.model_laws.proofs.trace.Trace.{Ev, hist}
use Rattle.theorems.proofs.invariant.Invariant.{Copies, Submitted, Confirmed, Running, TaskOk, entries_for}

-- a strip that differs from another in the record, the block and the promise of one writer at most
pub record SameBut (v : ℕ) (s t : List ℕ) : Type 0 where
  pub size : length t ≡ 1024
  pub numbers : state_of t ≡ state_of s
  pub writer : (x : ℕ) → x < 8 → (x ≡ v → ⊥) → writer_of t x ≡ writer_of s x
  pub held : (x : ℕ) → (x ≡ v → ⊥) → held_of t x ≡ held_of s x
  pub promise : (x : ℕ) → x < 8 → (x ≡ v → ⊥) → promise_of t x ≡ promise_of s x

-- what holds of writer v, and of every other
by-writer : (P : ℕ → Type 0) (v x : ℕ) → P v → ((x ≡ v → ⊥) → P x) → Dec (x ≡ v) → P x
by-writer P v x h f (yes e) = subst P (sym e) h
by-writer P v x h f (no n) = f n

pub each-writer : (P : ℕ → Type 0) (v x : ℕ) → P v → ((x ≡ v → ⊥) → P x) → P x
each-writer P v x h f = by-writer P v x h f (ℕ_discrete x v)

-- its promises are in order if that writer's is, and all of them together find places
pub promises-same : (v : ℕ) (s t : List ℕ) → v < 8 → SameBut v s t → Reserved s → ((writer_of t v).mode ≡ 0 → promise_of t v ≡ 0)
    → promised s 8 + promise_of t v ≤ places (state_of s) + promise_of s v → Reserved t
promises-same v s t l b p h k =
    let e : state_of s ≡ state_of t = sym b.numbers in
    let c = promised-change s t v 8 l b.promise in
    let q : promised t 8 ≤ places (state_of s) = omega (arith, c) in
    record {
      within = rw e at q;
      none-idle = λ x m. each-writer (λ y. (writer_of t y).mode ≡ 0 → promise_of t y ≡ 0) v x h (λ n. rw (b.writer x m n, b.promise x m n) (p.none-idle x m));
    }

-- as they are if the promise stays and the writer is open
pub promises-kept : (v : ℕ) (s t : List ℕ) → v < 8 → SameBut v s t → Reserved s → promise_of t v ≡ promise_of s v → 1 ≤ (writer_of t v).mode → Reserved t
promises-kept v s t l b p e m = promises-same v s t l b p (λ z. absurd (omega arith)) (omega (arith, e, p.within))

pub order_same : (v : ℕ) (s t : List ℕ) (G D : ℕ) → SameBut v s t → InOrder s G D → WriterInOrder (state_of s) (writer_of t v) → Reserved t → InOrder t G D
order_same v s t G D b o h p =
    let e : state_of s ≡ state_of t = sym b.numbers in
    record {
      groups-same = rw e at o.groups-same;
      homes_same = rw e at o.homes_same;
      start-most = rw e at o.start-most;
      start-next = rw e at o.start-next;
      next-most = rw e at o.next-most;
      filled-most = rw e at o.filled-most;
      filled_none = rw e at o.filled_none;
      start-settled = rw e at o.start-settled;
      settled-fenced = rw e at o.settled-fenced;
      fenced-next = rw e at o.fenced-next;
      durable-fenced = rw e at o.durable-fenced;
      last-closing = rw e at o.last-closing;
      round-settled = rw e at o.round-settled;
      round-fenced = rw e at o.round-fenced;
      promises = p;
      writers = λ x l.
          each-writer (λ y. WriterInOrder (state_of t) (writer_of t y)) v x (rw e at h) (λ n. rw (b.writer x l n) (rw e at (o.writers x l)));
    }

pub task-here : (b : Book) (v : ℕ) (t : Task) → (with_task b v t).tasks v ≡ t
unfolding with_task set_task
task-here b v t = rw (eq-eqb v v refl)

pub task-other : (b : Book) (v x : ℕ) (t : Task) → (x ≡ v → ⊥) → (with_task b v t).tasks x ≡ b.tasks x
unfolding with_task set_task
task-other b v x t n = rw (ne_eqb v x (λ e. n (sym e)))

-- the copies after such a call
pub copies-writer : (G D b : ℕ) (tr : List Ev) (w u : World) (v : ℕ) (t : Task) → Copies G D b tr w → SameBut v w.state u.state → v < 8
    → WriterInOrder (state_of w.state) (writer_of u.state v) → Reserved u.state
    → TaskOk b tr (writer_of u.state v) (held_of u.state v) ((hist (7 * b) tr).open_transaction v) t
    → u.homes ≡ w.homes → u.log ≡ w.log → u.area ≡ w.area → u.book ≡ with_task w.book v t → Copies G D b tr u
unfolding with_task
copies-writer G D b tr w u v t c s l o p k eh el ea eb =
    let e : state_of w.state ≡ state_of u.state = sym s.numbers in
    record {
      homes = eh ∙ c.homes;
      state_size = s.size;
      log_size = ap length el ∙ c.log_size;
      area_size = ap length ea ∙ c.area_size;
      order = order_same v w.state u.state G D s c.order o p;
      from = rw e at c.from;
      position = rw e at c.position;
      sound = c.sound;
      groups = rw el (rw e at c.groups);
      apart = rw e at c.apart;
      links = rw e at c.links;
      last = rw e at c.last;
      tasks = λ x h.
          each-writer (λ y. TaskOk b tr (writer_of u.state y) (held_of u.state y) ((hist (7 * b) tr).open_transaction y) (u.book.tasks y)) v x
          (rw (ap (λ (z : Book). z.tasks v) eb ∙ task-here w.book v t) k)
          (λ n. rw (ap (λ (z : Book). z.tasks x) eb ∙ task-other w.book v x t n, s.writer x h n, s.held x n) (c.tasks x h));
      rows = ap (λ (z : Book). z.rows) eb ∙ (rw e at c.rows);
      filled = ap (λ (z : Book). z.filled) eb ∙ (rw e at c.filled);
      settled_homes = rw (ea, ap (λ (z : Book). z.commits) eb) (rw e at c.settled_homes);
    }

-- the records since the last crash, where nothing is written and the strip's numbers stay
pub submitted-same : (G D b : ℕ) (tr : List Ev) (old : List Commit) (w u : World) → Submitted G D b tr old w → state_of u.state ≡ state_of w.state
    → u.pending ≡ w.pending → u.memory ≡ w.memory → u.area ≡ w.area → u.book.commits ≡ w.book.commits → Submitted G D b tr old u
submitted-same G D b tr old w u s e ep em ea ec =
    let e' : state_of w.state ≡ state_of u.state = sym e in
    record {
      fenced = s.fenced;
      group = s.group;
      count = s.count;
      content = s.content;
      tail = s.tail;
      done = s.done;
      split = ep ∙ s.split;
      mixed = s.mixed;
      groups_of = s.groups_of;
      homes_of = rw ea s.homes_of;
      behind = rw e' at s.behind;
      area = rw (em, ea) s.area;
      at_fence = rw e' at s.at_fence;
      next = rw e' at s.next;
      low = s.low;
      written = s.written;
      contents = s.contents;
      log_size = rw em s.log_size;
      area_size = rw em s.area_size;
      homes = rw (em, ec) (rw e' at s.homes);
      header = rw em s.header;
      start = rw em (rw e' at s.start);
      numbers = rw em s.numbers;
      there = rw em (rw e' at s.there);
      turned = rw em (rw e' at s.turned);
      images = rw (em, ec) s.images;
      bounded = rw em (rw e' at s.bounded);
    }

pub confirmed-same : (G b : ℕ) (w u : World) → Confirmed G b w → state_of u.state ≡ state_of w.state → u.pending ≡ w.pending → u.passed ≡ w.passed
    → u.book.commits ≡ w.book.commits → Confirmed G b u
confirmed-same G b w u c es ep eq ec =
    record {
      before = c.before;
      after = c.after;
      split = ep ∙ c.split;
      count = c.count ∙ sym eq;
      ends = c.ends;
      owed = rw ec c.owed;
      reached = rw es c.reached;
    }

pub running-writer : (G D : ℕ) (w u : World) (v : ℕ) (t : Task) (r : Running G D w) → SameBut v w.state u.state → v < 8
    → WriterInOrder (state_of w.state) (writer_of u.state v) → Reserved u.state
    → TaskOk r.b r.tr (writer_of u.state v) (held_of u.state v) ((hist (7 * r.b) r.tr).open_transaction v) t
    → u.homes ≡ w.homes → u.log ≡ w.log → u.area ≡ w.area → u.memory ≡ w.memory → u.pending ≡ w.pending → u.passed ≡ w.passed
    → u.ready ≡ true → u.book ≡ with_task w.book v t → Running G D u
unfolding with_task
running-writer G D w u v t r s l o p k eh el ea em ep eq er eb =
    let ec : u.book.commits ≡ w.book.commits = ap (λ (z : Book). z.commits) eb in
    record {
      b = r.b;
      tr = r.tr;
      old = r.old;
      ready = er;
      since = rw em r.since;
      commits = rw ec r.commits;
      copies = copies-writer G D r.b r.tr w u v t r.copies s l o p k eh el ea eb;
      submitted = submitted-same G D r.b r.tr r.old w u r.submitted s.numbers ep em ea ec;
      confirmed = confirmed-same G r.b w u r.confirmed s.numbers ep eq ec;
    }

-- strips that differ so
pub same_writer : (s : List ℕ) (v : ℕ) (r : Writer) → length s ≡ 1024 → v < 8 → SameBut v s (set_writer s v r)
same_writer s v r h l =
    record {
      size = length-set_writer s v r ∙ h;
      numbers = state-set_writer s v r;
      writer = λ x k n. writer-set_writer-other s v r x l k n;
      held = λ x n. held-set_writer s v r x l;
      promise = λ x l n. promise-set_writer s v r x l;
    }

pub same-held : (s : List ℕ) (v : ℕ) (block : List ℕ) → length s ≡ 1024 → length block ≡ 64 → SameBut v s (set_held s v block)
same-held s v block h k =
    record {
      size = length-set_held s v block ∙ h;
      numbers = state-set_held s v block k;
      writer = λ x l n. writer-set_held s v block x l k;
      held = λ x n. held-set_held-other s v block x n k;
      promise = λ x l n. promise-set_held s v block x k l;
    }

pub same-promise : (s : List ℕ) (v n : ℕ) → length s ≡ 1024 → v < 8 → SameBut v s (set_promise s v n)
same-promise s v n h l =
    record {
      size = length-set_promise s v n ∙ h;
      numbers = state-set_promise s v n l;
      writer = λ x m d. writer-set_promise s v n x l;
      held = λ x d. held-set_promise s v n x l;
      promise = λ x m d. promise-set_promise-other s v n x d;
    }

pub same_then : (v : ℕ) (s t u : List ℕ) → SameBut v s t → SameBut v t u → SameBut v s u
same_then v s t u a b =
    record {
      size = b.size;
      numbers = b.numbers ∙ a.numbers;
      writer = λ x l n. b.writer x l n ∙ a.writer x l n;
      held = λ x n. b.held x n ∙ a.held x n;
      promise = λ x l n. b.promise x l n ∙ a.promise x l n;
    }

-- records that are in order
pub order-idle : (st : State) → WriterInOrder st idle
unfolding idle
order-idle st = omega arith

pub order-begun : (st : State) → WriterInOrder st begun
unfolding begun
order-begun st = omega arith

pub order-holding : (st : State) (home : ℕ) → home < st.homes → WriterInOrder st (holding home)
unfolding holding
order-holding st home h = omega arith

-- begin
pub begin-runs : (G D : ℕ) (w : World) (v : ℕ) → Running G D w → begin_answer (lent w [] [] v 0) ≡ 0
    → Running G D (after w (begin v) (begin_effect (lent w [] [] v 0)))
unfolding begin_effect new_state lent feed feed_change is_confirm book-begin writer_known
begin-runs G D w v r a =
    let h = begin-ready (lent w [] [] v 0) a in
    let l : v < 8 = ltb-true v 8 h.1 in
    let c = r.copies in
    let e : writer_of (set_writer w.state v begun) v ≡ begun = writer-set_writer w.state v begun c.state_size l fits-begun in
    let b = same_writer w.state v begun c.state_size l in
    running-writer G D w _ v (opened [] none) r b l (rw e (order-begun _))
    (promises-kept v w.state (set_writer w.state v begun) l b c.order.promises (promise-set_writer w.state v begun v l) (rw e (unfold begun in omega arith)))
    (rw e (inr (inl (unfold begun in (refl, refl))))) refl refl refl refl (append-nil w.pending) refl refl refl

-- reserve
pub reserve-runs : (G D : ℕ) (w : World) (v n : ℕ) → Running G D w → G ≤ 1024 → reserve_answer (lent w [] [] v 0) n ≡ 0
    → Running G D (after w (reserve v n) (reserve_effect (lent w [] [] v 0) n))
unfolding reserve_effect new_state lent feed feed_change is_confirm book-begin writer_known
reserve-runs G D w v n r g a =
    let h = reserve-ready (lent w [] [] v 0) n a in
    let l : v < 8 = ltb-true v 8 h.1 in
    let c = r.copies in
    let s = w.state in
    let s₁ = set_writer s v begun in
    let t = set_promise s₁ v n in
    let size : length s₁ ≡ 1024 = length-set_writer s v begun ∙ c.state_size in
    let b : SameBut v s t = same_then v s s₁ t (same_writer s v begun c.state_size l) (same-promise s₁ v n size l) in
    let k = may-promise s n h.3 in
    let m : (writer_of s v).mode ≡ 0 = (unfold writer_open is_open_now in omega (arith, leb-false 1 (writer_of s v).mode h.2)) in
    let q : n ≤ places (state_of s) - promised s 8 = unfold free_places in k.1 in
    let few : n < 2 ^ 16 = unfold places next_position in omega (arith, c.order.groups-same, c.order.start-next) in
    let e : writer_of t v ≡ begun = writer-set_promise s₁ v n v l ∙ writer-set_writer s v begun c.state_size l fits-begun in
    let z : promise_of t v ≡ n = promise-set_promise s₁ v n size l few in
    running-writer G D w _ v (opened [] none) r b l (rw e (order-begun _))
    (promises-same v s t l b c.order.promises (rw e (unfold begun in (λ x. absurd (omega arith))))
    (omega (arith, z, c.order.promises.none-idle v l m, c.order.promises.within)))
    (rw e (inr (inl (unfold begun in (refl, refl))))) refl refl refl refl (append-nil w.pending) refl refl refl

-- abort
pub abort-runs : (G D : ℕ) (w : World) (v : ℕ) → Running G D w → v < 8 → (c : Call) → is_confirm c ≡ false → feed w.book c 0 ≡ with_task w.book v idle'
    → Running G D (after w c (abort_effect (lent w [] [] v 0)))
unfolding abort_effect new_state lent
abort-runs G D w v r l c f eb =
    let k = r.copies in
    let s = w.state in
    let s₁ = set_writer s v idle in
    let t = set_promise s₁ v 0 in
    let size : length s₁ ≡ 1024 = length-set_writer s v idle ∙ k.state_size in
    let b : SameBut v s t = same_then v s s₁ t (same_writer s v idle k.state_size l) (same-promise s₁ v 0 size l) in
    let e : writer_of t v ≡ idle = writer-set_promise s₁ v 0 v l ∙ writer-set_writer s v idle k.state_size l fits-idle in
    let z : promise_of t v ≡ 0 = promise-set_promise s₁ v 0 size l (omega arith) in
    running-writer G D w _ v idle' r b l (rw e (order-idle _))
    (promises-same v s t l b k.order.promises (λ x. z) (omega (arith, z, k.order.promises.within)))
    (rw e (inl (unfold idle in (refl, refl)))) refl refl refl refl (append-nil w.pending) (rw f refl) refl eb

-- a store that holds a first block
pub store-first-runs : (G D : ℕ) (w : World) (v home : ℕ) (block batch : List ℕ) → Running G D w → v < 8 → home < D → D ≤ 65535 → length block ≡ 64
    → (writer_of w.state v).mode ≡ 1 → w.book.tasks v ≡ opened [] none
    → Running G D (after w (store v home block batch) (store_first (lent w block batch v home)))
unfolding store_first new_state lent feed feed_change is_confirm book-store book-store_task book-hold
store-first-runs G D w v home block batch r l h d k m t =
    let c = r.copies in
    let s = w.state in
    let s₁ = set_writer s v (holding home) in
    let e₁ : writer_of s₁ v ≡ holding home = writer-set_writer s v (holding home) c.state_size l (fits-holding home (omega arith)) in
    let size : length s₁ ≡ 1024 = length-set_writer s v (holding home) ∙ c.state_size in
    let e₂ : writer_of (set_held s₁ v block) v ≡ holding home = writer-set_held s₁ v block v l k ∙ e₁ in
    let e₃ : held_of (set_held s₁ v block) v ≡ block = held-set_held s₁ v block size l k in
    let b : SameBut v s (set_held s₁ v block) =
    same_then v s s₁ (set_held s₁ v block) (same_writer s v (holding home) c.state_size l) (same-held s₁ v block size k) in
    running-writer G D w _ v (opened [] (some (record { home = home; block = block }))) r b l
    (rw e₂ (order-holding (state_of s) home (rw c.order.homes_same h)))
    (promises-kept v s (set_held s₁ v block) l b c.order.promises (promise-set_held s₁ v block v k l ∙ promise-set_writer s v (holding home) v l)
    (rw e₂ (unfold holding in omega arith)))
    (rw (e₂, e₃) (inr (inr (inl (unfold holding in (refl, refl)))))) refl refl refl refl (append-nil w.pending) refl refl (rw t)

-- the task of a writer that holds a block, with another block held for the same home
again : (b : ℕ) (tr : List Ev) (r : Writer) (old block : List ℕ) (ps : List ℕ) (t : Task) → 2 ≤ r.mode → TaskOk b tr r old ps t
    → (es : List Entry) × (t ≡ opened es (some (record { home = r.home; block = old })))
    × TaskOk b tr r block ps (opened es (some (record { home = r.home; block = block })))
again b tr r old block ps t m (inl k) = absurd (omega arith)
again b tr r old block ps t m (inr (inl k)) = absurd (omega arith)
again b tr r old block ps t m (inr (inr (inl k))) = ([], k.1, inr (inr (inl (k.0, refl))))
again b tr r old block ps t m (inr (inr (inr k))) = (entries_for b tr ps, k.1, inr (inr (inr (k.0, refl, k.2, k.3, k.4))))

book-again : (b : Book) (v home : ℕ) (block old : List ℕ) (es : List Entry) (x : ℕ)
    → b.tasks v ≡ opened es (some (record { home = x; block = old })) → x ≡ home
    → book-store b v home block ≡ with_task b v (opened es (some (record { home = x; block = block })))
unfolding book-store book-store_task book-hold
book-again b v home block old es x t e = rw (t, eq-eqb x home e, e)

-- a store that replaces the held block
pub store-again-runs : (G D : ℕ) (w : World) (v home : ℕ) (block batch : List ℕ) → Running G D w → v < 8 → length block ≡ 64
    → 2 ≤ (writer_of w.state v).mode → (writer_of w.state v).home ≡ home
    → Running G D (after w (store v home block batch) (store_again (lent w block batch v home)))
unfolding store_again new_state lent feed feed_change is_confirm
store-again-runs G D w v home block batch r l k m eh =
    let c = r.copies in
    let s = w.state in
    let a = again r.b r.tr (writer_of s v) (held_of s v) block ((hist (7 * r.b) r.tr).open_transaction v) (w.book.tasks v) m (c.tasks v l) in
    let e₂ : writer_of (set_held s v block) v ≡ writer_of s v = writer-set_held s v block v l k in
    let e₃ : held_of (set_held s v block) v ≡ block = held-set_held s v block c.state_size l k in
    running-writer G D w _ v (opened a.0 (some (record { home = (writer_of s v).home; block = block }))) r (same-held s v block c.state_size k) l
    (rw e₂ (c.order.writers v l))
    (promises-kept v s (set_held s v block) l (same-held s v block c.state_size k) c.order.promises (promise-set_held s v block v k l) (rw e₂ (omega arith)))
    (rw (e₂, e₃) a.2) refl refl refl refl (append-nil w.pending) refl refl
    (book-again w.book v home block (held_of s v) a.0 (writer_of s v).home a.1 eh)
