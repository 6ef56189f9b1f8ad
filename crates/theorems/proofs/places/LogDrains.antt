-- A log with no open transaction and no round under way drains. Assumes nothing.
use Prim.Native.Nat.{ℕ, zero, suc, ◌+◌, ◌-◌, ◌*◌, ◌≤◌, ◌<◌}
use mathlib.Core.Path.{◌≡◌, refl, sym, ap, ◌∙◌, subst}
use mathlib.Core.Logic.{inl, inr}
use mathlib.Core.Bool.{Bool, true, false, cond, not, ◌||◌, false≢true}
use mathlib.Core.List.{List, [], ◌∷◌}
use native.Mathlib.Omega.{arith}
use lib.Dec.{eqb, leb}
use lib.ListN.{length}
use borrow.Author.Tests.{eq-eqb, eqb-true, le-leb}
use Rattle.model.specs.Layout.{max_start}
use Rattle.model.specs.State.{state_of, next_position, writer_of, held_of}
use Rattle.model.specs.declared.State.{State}
use Rattle.model.specs.declared.Writer.{Writer}
use Rattle.model.specs.Questions.{ask}
use mathlib.Core.Option.{Option}
use Rattle.model.specs.Book.{Entry, Held, Task, idle, opened, Book}
use Rattle.model.specs.Book as book
use Rattle.model.specs.History.{Change, flushes, Service, settles, trims, Call, change, service, flush, settle, trim, call, World, ends, feed, feed_change, is_opening, after_done, after_call, step, Allowed}
use Rattle.abstract_store.specs.Store.{Store, group_of_first, next_group, next_of, places_left, promised_to, may_flush, is_idle, next_start, flush_bytes, settle_bytes, trim_bytes, Reply, ask_batch, reply_change, reply_service, reply, numbered, fenced_after, trimmed_to, after_service, follow}
use Rattle.abstract_store.specs.Store as store
use Rattle.abstract_store.specs.Places.{AllIdle, LongEnough, Drained, drained}
use Rattle.model_laws.proofs.trace.Trace.{Ev, hist, closer_of, Apart}
use Rattle.model_laws.proofs.trace.TraceLaws.{Rising, done-rising}
use Rattle.theorems.proofs.invariant.Invariant.{Sizes, TaskOk, Running, Invariant}
use Rattle.theorems.proofs.steps.TrimRuns.{MayMove, trim-may, trim-most}
use Rattle.theorems.proofs.demands.DemandThree.{keeps}
use Rattle.theorems.proofs.store.StoreAgrees.{Agrees, next-is, filled_is}
use Rattle.theorems.proofs.store.ServiceAnswers.{start_is}
use Rattle.theorems.proofs.rights.RightsHold.{RightsAt}
use Rattle.theorems.proofs.store.CallAnswers.{call-answers}
use Rattle.theorems.proofs.store.StoreFollows.{follows}
use Rattle.theorems.proofs.places.PlacesFollow.{told-code, reply-code, follow-done}

-- ---- the drain

-- a batch that is long enough
long-enough : (size : ℕ) (batch : List ℕ) → size ≤ length batch → ask_batch size batch ≡ 0
unfolding ask_batch ask
long-enough size batch h = rw (le-leb size (length batch) h)

rising-apart : (low q : ℕ) (ts : List (List ℕ)) → Rising low q ts → Apart q ts
rising-apart low q [] h = tt
rising-apart low q (t ∷ ts) h = (inl h.1, rising-apart (suc (closer_of t)) q ts h.2)

opened-idle : (es : List Entry) (o : Option Held) → opened es o ≡ idle → ⊥
unfolding is_idle
opened-idle es o q = false≢true (ap is_idle q)

idle-mode : (b : ℕ) (tr : List Ev) (x : Writer) (held ps : List ℕ) (t : Task) → TaskOk b tr x held ps t → t ≡ idle → x.mode ≡ 0
idle-mode b tr x held ps t (inl h) e = h.0
idle-mode b tr x held ps t (inr (inl h)) e = absurd (opened-idle _ _ (sym h.1 ∙ e))
idle-mode b tr x held ps t (inr (inr (inl h))) e = absurd (opened-idle _ _ (sym h.1 ∙ e))
idle-mode b tr x held ps t (inr (inr (inr h))) e = absurd (opened-idle _ _ (sym h.1 ∙ e))

promised-zero : (p : ℕ → ℕ) (n : ℕ) → ((v : ℕ) → v < n → p v ≡ 0) → promised_to p n ≡ 0
unfolding promised_to
promised-zero p zero f = refl
promised-zero p (suc n) f = rw (promised-zero p n (λ v l. f v (omega arith)), f n (omega arith))

or_yes : (a b : Bool) → b ≡ true → (a || b) ≡ true
or_yes true b e = refl
or_yes false b e = e

-- with nothing promised a flush is not refused
flush-free : (s : Store) → promised_to s.promises 8 ≡ 0 → may_flush s ≡ true
unfolding may_flush
flush-free s e =
    or_yes (eqb s.book.filled 0) _
    (ap (λ (n : ℕ). leb n (7 * (s.start + s.groups) - 7 * (next_group s + 1))) e ∙ le-leb 0 (7 * (s.start + s.groups) - 7 * (next_group s + 1)) (omega arith))

flush-reply : (s : Store) (batch : List ℕ) → promised_to s.promises 8 ≡ 0 → flush_bytes s ≤ length batch → (reply_change s (flushes batch)).code ≡ 0
unfolding reply_change
flush-reply s batch e l = told-code _ 0 _ ∙ rw (flush-free s e) (unfold ask in long-enough (flush_bytes s) batch l)

settle-reply : (s : Store) (batch : List ℕ) → s.round ≡ 0 → settle_bytes s ≤ length batch → (reply_service s (settles batch)).code ≡ 0
unfolding reply_service
settle-reply s batch calm l = told-code _ 0 _ ∙ rw (eq-eqb s.round 0 calm) (unfold ask in long-enough (settle_bytes s) batch l)

trim-reply : (s : Store) (batch : List ℕ) → next_start s ≤ max_start → trim_bytes s ≤ length batch → (reply_service s (trims batch)).code ≡ 0
unfolding reply_service
trim-reply s batch m l = told-code _ 0 _ ∙ rw (le-leb (next_start s) max_start m) (unfold ask in long-enough (trim_bytes s) batch l)

-- the book after a flush
flush-tasks : (b : Book) → (book.flush b).tasks ≡ b.tasks
unfolding book.flush book.submit
flush-tasks b = go (eqb b.filled 0)
  where
    go : (d : Bool) → (cond d b (book.submit b)).tasks ≡ b.tasks
    go true = refl
    go false = refl

flush-filled : (b : Book) → (book.flush b).filled ≡ 0
unfolding book.flush book.submit
flush-filled b = go (eqb b.filled 0) refl
  where
    go : (d : Bool) → eqb b.filled 0 ≡ d → (cond d b (book.submit b)).filled ≡ 0
    go true e = eqb-true b.filled 0 e
    go false e = refl

-- the store after each of the three
flushed-book : (s : Store) (batch : List ℕ) (figure : ℕ) → (store.after_done s (change (flushes batch)) figure).book ≡ book.flush s.book
unfolding store.after_done numbered feed feed_change
flushed-book s batch figure = refl

flushed-round : (s : Store) (batch : List ℕ) (figure : ℕ) → (store.after_done s (change (flushes batch)) figure).round ≡ s.round
unfolding store.after_done numbered
flushed-round s batch figure = refl

flushed-fenced : (s : Store) (batch : List ℕ) (figure : ℕ)
    → (store.after_done s (change (flushes batch)) figure).fenced ≡ 7 * (group_of_first s + (book.flush s.book).rows)
unfolding store.after_done numbered fenced_after
flushed-fenced s batch figure = refl

flushed-first : (s : Store) (batch : List ℕ) (figure : ℕ) → group_of_first (store.after_done s (change (flushes batch)) figure) ≡ group_of_first s
unfolding store.after_done numbered group_of_first
flushed-first s batch figure = refl

settled-book : (s : Store) (batch : List ℕ) (figure : ℕ) → (store.after_done s (service (settles batch)) figure).book ≡ s.book
unfolding store.after_done after_service numbered
settled-book s batch figure = refl

settled-to : (s : Store) (batch : List ℕ) (figure : ℕ) → (store.after_done s (service (settles batch)) figure).settled ≡ s.fenced
unfolding store.after_done after_service numbered
settled-to s batch figure = refl

settled-first : (s : Store) (batch : List ℕ) (figure : ℕ) → group_of_first (store.after_done s (service (settles batch)) figure) ≡ group_of_first s
unfolding store.after_done after_service numbered group_of_first
settled-first s batch figure = refl

trimmed-all : (s : Store) (batch : List ℕ) (figure : ℕ)
    → ((store.after_done s (service (trims batch)) figure).start ≡ next_start s) × (next_of (store.after_done s (service (trims batch)) figure) ≡ next_of s)
    × ((store.after_done s (service (trims batch)) figure).groups ≡ s.groups)
unfolding store.after_done after_service trimmed_to numbered next_of next_group group_of_first
trimmed-all s batch figure = go (eqb (next_start s) s.start) refl
  where
    go : (d : Bool) → eqb (next_start s) s.start ≡ d
        → ((cond d s (trimmed_to s (next_start s))).start ≡ next_start s) × (next_of (cond d s (trimmed_to s (next_start s))) ≡ next_of s)
        × ((cond d s (trimmed_to s (next_start s))).groups ≡ s.groups)
    go true e = (sym (eqb-true (next_start s) s.start e), refl, refl)
    go false e = (refl, refl, refl)

-- a done call of an era leads to a world of the era, with which the store agrees
step-ready : (w : World) (c : Call) → (ends w c).code ≡ 0 → (step w (call c)).ready ≡ true
unfolding step after_call after_done
step-ready w c e = rw e

running-of : (G D : ℕ) (w : World) → Invariant G D w → w.ready ≡ true → Running G D w
running-of G D w (inl k) e = absurd (false≢true (sym k.ready ∙ e))
running-of G D w (inr r) e = r

module _ (G D : ℕ) (z : Sizes G D) (w : World) (r : Running G D w) (s : Store) (a : Agrees G D w s) (c : Call) (n : is_opening c ≡ false)
    (h : (ends w c).code ≡ 0) where
  may-call : Allowed w (call c)
  may-call = n ∙ ap not (sym r.ready)

  next-running : Running G D (step w (call c))
  next-running = running-of G D (step w (call c)) (keeps G D z w (inr r) (call c) may-call).0 (step-ready w c h)

  next-agrees : Agrees G D (step w (call c)) (follow s w (call c))
  next-agrees = follows G D z w (inr r) s a (call c) may-call

-- a call of an era is done if the store says so
answered : (G D : ℕ) (z : Sizes G D) (w : World) (r : Running G D w) (s : Store) → Agrees G D w s → (c : Call) → is_opening c ≡ false → RightsAt w s c → (reply s c).code ≡ 0
    → (ends w c).code ≡ 0
answered G D z w r s a c n right h = reply-code (ends w c) (reply s c) (call-answers G D z w r s a c n right) ∙ h

change-is : (c : Change) → is_opening (change c) ≡ false
unfolding is_opening
change-is c = refl

service-is : (c : Service) → is_opening (service c) ≡ false
unfolding is_opening
service-is c = refl

reply-change : (s : Store) (c : Change) → reply s (change c) ≡ reply_change s c
unfolding reply
reply-change s c = refl

reply-service : (s : Store) (c : Service) → reply s (service c) ≡ reply_service s c
unfolding reply
reply-service s c = refl

-- a log that is settled up to its next position, with all writers idle, may start there
drained-start : (G D : ℕ) (z : Sizes G D) (w : World) (r : Running G D w) (s : Store) (a : Agrees G D w s) → AllIdle s → s.book.filled ≡ 0
    → s.settled ≡ 7 * next_group s → next_start s ≡ next_group s
drained-start G D z w r s a idles f e =
    let st : State = state_of w.state in
    let k = r.copies in
    let n = a.numbers r.ready in
    let next : next_group s ≡ st.next = next-is G D z w r s a in
    let q : next_position st ≡ 7 * st.next + st.filled = unfold next_position in refl in
    let end : 7 * r.b + length r.tr ≡ 7 * st.next = omega (arith, k.position, filled_is G D z w r s a) in
    let m : MayMove G D w r st.next =
    record {
      from = k.order.start-next;
      upto = omega (arith, n.settled);
      apart = subst (λ (x : ℕ). Apart x (hist (7 * r.b) r.tr).done) end
          (rising-apart (7 * r.b) (7 * r.b + length r.tr) (hist (7 * r.b) r.tr).done (done-rising (7 * r.b) r.tr));
      opens = λ x i d.
          absurd (let o : (writer_of w.state x).mode ≡ 0 = idle-mode r.b r.tr (writer_of w.state x) (held_of w.state x) _ (w.book.tasks x) (k.tasks x i) (ap (λ (b : Book). b.tasks x) (sym a.book) ∙ idles x i) in
          omega arith);
    } in
    omega (arith, start_is G D z w r s a [], trim-most G D z w r [] st.next m, (trim-may G D z w r []).upto, n.settled)

module _ (G D : ℕ) (z : Sizes G D) (w : World) (r : Running G D w) (s : Store) (a : Agrees G D w s) (idles : AllIdle s) (calm : s.round ≡ 0) (first second third : List ℕ)
    (long : LongEnough w s first second third) (most : group_of_first s + (book.flush s.book).rows ≤ max_start) where
  none-promised : promised_to s.promises 8 ≡ 0
  none-promised =
      promised-zero s.promises 8
      (λ v l. a.promises r.ready v l
      ∙ r.copies.order.promises.none-idle v l
      (idle-mode r.b r.tr (writer_of w.state v) (held_of w.state v) _ (w.book.tasks v) (r.copies.tasks v l)
      (ap (λ (b : Book). b.tasks v) (sym a.book) ∙ idles v l)))

  flush-done : (ends w (flush first)).code ≡ 0
  flush-done =
      answered G D z w r s a (flush first) (change-is (flushes first)) tt
      (ap (λ (x : Reply). x.code) (reply-change s (flushes first)) ∙ flush-reply s first none-promised long.for_flush)

  abbrev w₁ : World
  w₁ = step w (call (flush first))

  abbrev s₁ : Store
  s₁ = follow s w (call (flush first))

  r₁ : Running G D w₁
  r₁ = next-running G D z w r s a (flush first) (change-is (flushes first)) flush-done

  a₁ : Agrees G D w₁ s₁
  a₁ = next-agrees G D z w r s a (flush first) (change-is (flushes first)) flush-done

  s₁_is : s₁ ≡ store.after_done s (flush first) (ends w (flush first)).figure
  s₁_is = follow-done s w (flush first) flush-done

  book₁ : s₁.book ≡ book.flush s.book
  book₁ = ap (λ (x : Store). x.book) s₁_is ∙ flushed-book s first (ends w (flush first)).figure

  first₁ : group_of_first s₁ ≡ group_of_first s
  first₁ = ap group_of_first s₁_is ∙ flushed-first s first (ends w (flush first)).figure

  fenced₁ : s₁.fenced ≡ 7 * (group_of_first s + (book.flush s.book).rows)
  fenced₁ = ap (λ (x : Store). x.fenced) s₁_is ∙ flushed-fenced s first (ends w (flush first)).figure

  round₁ : s₁.round ≡ 0
  round₁ = ap (λ (x : Store). x.round) s₁_is ∙ flushed-round s first (ends w (flush first)).figure ∙ calm

  settle-done : (ends w₁ (settle second)).code ≡ 0
  settle-done =
      answered G D z w₁ r₁ s₁ a₁ (settle second) (service-is (settles second)) tt
      (ap (λ (x : Reply). x.code) (reply-service s₁ (settles second)) ∙ settle-reply s₁ second round₁ long.for_settle)

  abbrev w₂ : World
  w₂ = step w₁ (call (settle second))

  abbrev s₂ : Store
  s₂ = follow s₁ w₁ (call (settle second))

  r₂ : Running G D w₂
  r₂ = next-running G D z w₁ r₁ s₁ a₁ (settle second) (service-is (settles second)) settle-done

  a₂ : Agrees G D w₂ s₂
  a₂ = next-agrees G D z w₁ r₁ s₁ a₁ (settle second) (service-is (settles second)) settle-done

  s₂_is : s₂ ≡ store.after_done s₁ (settle second) (ends w₁ (settle second)).figure
  s₂_is = follow-done s₁ w₁ (settle second) settle-done

  book₂ : s₂.book ≡ book.flush s.book
  book₂ = ap (λ (x : Store). x.book) s₂_is ∙ settled-book s₁ second (ends w₁ (settle second)).figure ∙ book₁

  first₂ : group_of_first s₂ ≡ group_of_first s
  first₂ = ap group_of_first s₂_is ∙ settled-first s₁ second (ends w₁ (settle second)).figure ∙ first₁

  next₂ : next_group s₂ ≡ group_of_first s + (book.flush s.book).rows
  unfolding next_group
  next₂ = omega (arith, first₂, ap (λ (b : Book). b.rows) book₂)

  filled₂ : s₂.book.filled ≡ 0
  filled₂ = ap (λ (b : Book). b.filled) book₂ ∙ flush-filled s.book

  idles₂ : AllIdle s₂
  idles₂ v l = ap (λ (b : Book). b.tasks v) book₂ ∙ ap (λ (t : ℕ → Task). t v) (flush-tasks s.book) ∙ idles v l

  settled₂ : s₂.settled ≡ 7 * next_group s₂
  settled₂ =
      ap (λ (x : Store). x.settled) s₂_is ∙ settled-to s₁ second (ends w₁ (settle second)).figure ∙ fenced₁ ∙ ap (λ (x : ℕ). 7 * x) (sym next₂)

  start₂ : next_start s₂ ≡ next_group s₂
  start₂ = drained-start G D z w₂ r₂ s₂ a₂ idles₂ filled₂ settled₂

  trim-done : (ends w₂ (trim third)).code ≡ 0
  trim-done =
      answered G D z w₂ r₂ s₂ a₂ (trim third) (service-is (trims third)) tt
      (ap (λ (x : Reply). x.code) (reply-service s₂ (trims third)) ∙ trim-reply s₂ third (omega (arith, start₂, next₂)) long.for_trim)

  abbrev s₃ : Store
  s₃ = follow s₂ w₂ (call (trim third))

  s₃-all : (s₃.start ≡ next_group s₂) × (next_of s₃ ≡ next_of s₂) × (s₃.groups ≡ s₂.groups)
  s₃-all =
      let q = trimmed-all s₂ third (ends w₂ (trim third)).figure in
      let e : s₃ ≡ store.after_done s₂ (trim third) (ends w₂ (trim third)).figure = follow-done s₂ w₂ (trim third) trim-done in
      (ap (λ (x : Store). x.start) e ∙ q.0 ∙ start₂, ap next_of e ∙ q.1, ap (λ (x : Store). x.groups) e ∙ q.2)

  end₃ : next_of s₃ ≡ 7 * s₃.start
  end₃ =
      let q : next_of s₂ ≡ 7 * next_group s₂ + s₂.book.filled = unfold next_of in refl in
      omega (arith, s₃-all.0, s₃-all.1, filled₂)

  pub drain : Drained w s first second third
  unfolding drained
  drain =
      record {
        flushes = flush-done;
        settles = settle-done;
        trims = trim-done;
        empty = end₃;
        all = (unfold places_left in omega (arith, end₃, s₃-all.2, a.groups, a₂.groups));
      }
