-- Every event keeps the ledger of places in step with the book. Assumes nothing.
use Prim.Native.Nat.{ℕ, zero, suc, ◌+◌, ◌*◌, ◌≤◌, ◌<◌}
use mathlib.Core.Path.{◌≡◌, refl, sym, ap, ◌∙◌, subst}
use mathlib.Core.Logic.{inl, inr}
use mathlib.Core.Bool.{Bool, true, false, not, ◌||◌, false≢true}
use mathlib.Core.List.{List, [], ◌∷◌}
use native.Mathlib.Omega.{arith}
use lib.Dec.{ltb}
use lib.ListN.{length}
use borrow.Author.Tests.{ltb-true, eqb-true, ltb-false, ne_eqb}
use Rattle.model.specs.State.{state_of, next_position}
use Rattle.model.specs.Effects.{Given, store_effect}
use Rattle.model.specs.Questions.{ask, writer_known, store_answer}
use Rattle.model.specs.Calls.{Outcome, size_of, store_call}
use Rattle.model.specs.Book.{Landing, row, persisted, Entry, Task, idle, opened, Book}
use Rattle.model.specs.Book as book
use Rattle.model.specs.DemandTwo.{may_start_at as may_be, lands_before, some_before, open_before, any_open_before, any_across}
use Rattle.model.specs.History.{Change, begins, reserves, aborts, stores, commits, flushes, Call, opening, confirm, change, service, Event, call, crash, World, lent, ends, change_ends, feed, feed_change, is_opening, after_crash, step, Allowed}
use Rattle.abstract_store.specs.Store.{Store, group_of_first, next_group, next_of, places_left, is_idle, may_start, next_start, Reply, told, reply_change, reply, reply_of, numbered, with_round, after_reply, follow}
use Rattle.abstract_store.specs.Store as store
use Rattle.abstract_store.specs.Places.{Fate, lies_at, any_at, task_at, enter, enter_call, enter_event, Accounted, HeldBack}
use Rattle.model_laws.proofs.state.QuestionLaws.{ask-passed, and-true, store-ready}
use Rattle.theorems.proofs.invariant.Invariant.{Sizes, Running, Closed, Invariant}
use Rattle.theorems.proofs.steps.RefusalLaws.{step-refused}
use Rattle.theorems.proofs.steps.DoneLaws.{outcome-code}
use Rattle.theorems.proofs.demands.TrimYields.{trimmed, none_open}
use Rattle.theorems.proofs.store.StoreAgrees.{Agrees, filled_is, position-is}
use Rattle.theorems.proofs.store.ServiceAnswers.{may-is, start_is}
use Rattle.theorems.proofs.rights.RightsHold.{ChangeRights, RightsAt}
use Rattle.theorems.proofs.store.CallAnswers.{call-answers}
use Rattle.theorems.proofs.steps.Footprint.{steady}
use Rattle.theorems.proofs.places.PlaceLedgerLaws.{many-all, many-free}
use Rattle.theorems.proofs.places.PlaceLedgerSteps.{Led, begin-led, abort-led, store-led, commit-led, flush-led, confirm-led, opened-led}

-- ---- replies

pub told-code : (k f z : ℕ) → (told k f z).code ≡ k
unfolding told
told-code zero f z = refl
told-code (suc k) f z = refl

told-done : (k f z : ℕ) → (told k f z).code ≡ 0 → k ≡ 0
told-done k f z e = sym (told-code k f z) ∙ e

pub reply-code : (o : Outcome) (r : Reply) → reply_of o ≡ r → o.code ≡ r.code
unfolding reply_of
reply-code o r e = ap (λ (x : Reply). x.code) e

-- ---- the store and the ledger after a done call

pub follow-done : (s : Store) (w : World) (c : Call) → (ends w c).code ≡ 0 → follow s w (call c) ≡ store.after_done s c (ends w c).figure
unfolding follow after_reply reply_of
follow-done s w c e = rw e

enter-done : (s : Store) (w : World) (c : Call) (fs : List Fate) → (ends w c).code ≡ 0 → enter_event s w (call c) fs ≡ enter_call s c fs
unfolding enter_event
enter-done s w c fs e = rw e

follow-refused : (s : Store) (w : World) (c : Call) (k : ℕ) → (ends w c).code ≡ suc k → follow s w (call c) ≡ s
unfolding follow after_reply reply_of
follow-refused s w c k e = rw (e, ne_eqb (suc k) 0 (λ x. omega arith))

enter-refused : (s : Store) (w : World) (c : Call) (fs : List Fate) (k : ℕ) → (ends w c).code ≡ suc k → enter_event s w (call c) fs ≡ fs
unfolding enter_event
enter-refused s w c fs k e = rw (e, ne_eqb (suc k) 0 (λ x. omega arith))

-- the first group is kept
first-same : (t s : Store) → t.head ≡ s.head → t.groups ≡ s.groups → group_of_first t ≡ group_of_first s
unfolding group_of_first
first-same t s e q = rw (e, q)

used-is : (s : Store) (fs : List Fate) → Led (group_of_first s) s.book fs → next_of s ≡ 7 * group_of_first s + length fs
unfolding next_of next_group
used-is s fs l = l.used

kept_at : (first q p : ℕ) (k : Landing) → lands_before first q k ≡ false → lies_at first p k ≡ true → q ≤ p
unfolding lands_before lies_at
kept_at first q p (row number index) b e =
    let m : q ≤ 7 * (first + number) + index = ltb-false (7 * (first + number) + index) q b in
    omega (arith, eqb-true (7 * (first + number) + index) p e)
kept_at first q p persisted b e = absurd (false≢true e)

-- an entry of a task none of whose entries lies before a position
some_at : (first q p : ℕ) (es : List Entry) → some_before first q es ≡ false → any_at first p es ≡ true → q ≤ p
unfolding some_before any_at
some_at first q p [] b e = absurd (false≢true e)
some_at first q p (x ∷ es) b e = go (lands_before first q x.landing) refl b (lies_at first p x.landing) refl e (some_at first q p es)
  where
    go : (d : Bool) → lands_before first q x.landing ≡ d → (d || some_before first q es) ≡ false → (f : Bool) → lies_at first p x.landing ≡ f
        → (f || any_at first p es) ≡ true → (some_before first q es ≡ false → any_at first p es ≡ true → q ≤ p) → q ≤ p
    go true i b f j e ih = absurd (false≢true (sym b))
    go false i b true j e ih = kept_at first q p x.landing i j
    go false i b false j e ih = ih b e

before_at : (first q p : ℕ) (t : Task) → open_before first q t ≡ false → task_at first p t ≡ true → q ≤ p
unfolding open_before task_at
before_at first q p idle b e = absurd (false≢true e)
before_at first q p (opened es h) b e = some_at first q p es b e

not-true : (b : Bool) → not b ≡ true → b ≡ false
not-true true e = absurd (false≢true e)
not-true false e = refl

may-open : (s : Store) (x : ℕ) → may_start s x ≡ true → any_open_before (group_of_first s) (7 * x) s.book.tasks 8 ≡ false
unfolding may_start
may-open s x e =
    not-true (any_open_before (group_of_first s) (7 * x) s.book.tasks 8)
    (and-true (not (any_across (group_of_first s) (7 * x) s.book.commits)) (not (any_open_before (group_of_first s) (7 * x) s.book.tasks 8)) e).1

abbrev pub LedBy : Store → List Fate → Type 0
LedBy s fs = Led (group_of_first s) s.book fs

module _ (G D : ℕ) (z : Sizes G D) (w : World) (r : Running G D w) (s : Store) (a : Agrees G D w s) (fs : List Fate) (l : LedBy s fs) where
  -- what a done call was answered
  passed-reply : (c : Call) → is_opening c ≡ false → RightsAt w s c → (ends w c).code ≡ 0 → (reply s c).code ≡ 0
  passed-reply c n right h = sym (reply-code (ends w c) (reply s c) (call-answers G D z w r s a c n right)) ∙ h

  change-reply : (c : Change) → ChangeRights w s c → (ends w (change c)).code ≡ 0 → (reply_change s c).code ≡ 0
  unfolding reply
  change-reply c right h = passed-reply (change c) (unfold is_opening in refl) right h

  begin-idle : (v : ℕ) → (ends w (change (begins v))).code ≡ 0 → is_idle (s.book.tasks v) ≡ true
  unfolding reply_change
  begin-idle v h =
      let e : ask (ltb v 8) 4 (ask (is_idle (s.book.tasks v)) 6 0) ≡ 0 = told-done _ 0 0 (change-reply (begins v) tt h) in
      (ask-passed (is_idle (s.book.tasks v)) 5 0 (ask-passed (ltb v 8) 3 (ask (is_idle (s.book.tasks v)) 6 0) e).1).0

  reserve-idle : (v m : ℕ) → (ends w (change (reserves v m))).code ≡ 0 → is_idle (s.book.tasks v) ≡ true
  unfolding reply_change
  reserve-idle v m h = (ask-passed (is_idle (s.book.tasks v)) 5 _ (ask-passed (ltb v 8) 3 _ (told-done _ 0 0 (change-reply (reserves v m) tt h))).1).0

  store-writer : (v home : ℕ) (block batch : List ℕ) → (ends w (change (stores v home block batch))).code ≡ 0 → v < 8
  unfolding ends change_ends store_call writer_known lent
  store-writer v home block batch h =
      let g : Given = lent w block batch v home in
      ltb-true v 8
      (store-ready g (size_of (store_effect g)) (sym (outcome-code g (store_answer g (size_of (store_effect g))) (store_effect g)) ∙ h)).writer

  commit-writer : (v : ℕ) (batch : List ℕ) → (ends w (change (commits v batch))).code ≡ 0 → v < 8
  unfolding reply_change
  commit-writer v batch h = ltb-true v 8 (ask-passed (ltb v 8) 3 _ (told-done _ _ _ (change-reply (commits v batch) tt h))).0

  change-led : (c : Change) (figure : ℕ) → (ends w (change c)).code ≡ 0 → Led (group_of_first s) (feed_change s.book c figure) (enter s c fs)
  unfolding feed_change enter
  change-led (begins v) figure h = begin-led (group_of_first s) s.book fs v l (begin-idle v h)
  change-led (reserves v m) figure h = begin-led (group_of_first s) s.book fs v l (reserve-idle v m h)
  change-led (aborts v) figure h = abort-led (group_of_first s) s.book fs v l
  change-led (stores v home block batch) figure h = store-led (group_of_first s) s.book fs v home block l (store-writer v home block batch h)
  change-led (commits v batch) figure h = commit-led (group_of_first s) s.book fs v figure l (commit-writer v batch h)
  change-led (flushes batch) figure h = flush-led (group_of_first s) s.book fs (omega (arith, filled_is G D z w r s a, r.copies.order.filled-most)) l

  -- a done call but an opening
  done-led : (c : Call) → is_opening c ≡ false → (ends w c).code ≡ 0 → LedBy (store.after_done s c (ends w c).figure) (enter_call s c fs)
  unfolding is_opening enter_call
  done-led (opening state newest batch) n h = absurd (false≢true (sym n))
  done-led confirm n h = (unfold store.after_done numbered group_of_first feed in confirm-led (s.head + s.groups) s.book fs (ends w confirm).figure (unfold group_of_first in l))
  done-led (change c) n h = (unfold store.after_done numbered group_of_first feed in (unfold group_of_first in change-led c (ends w (change c)).figure h))
  done-led (service c) n h =
      let q = steady s (service c) (ends w (service c)).figure in
      let t : Store = store.after_done s (service c) (ends w (service c)).figure in
      let e : t.book ≡ s.book = unfold feed in q.book in
      subst (λ (f : ℕ). Led f t.book fs) (sym (first-same t s q.head q.groups))
      (subst (λ (b : Book). Led (group_of_first s) b fs) (sym e) l)

  -- ---- the accounts

  next_low : 7 * s.start ≤ next_of s
  next_low =
      let o = r.copies.order in
      let n = a.numbers r.ready in
      let q : next_position (state_of w.state) ≡ 7 * (state_of w.state).next + (state_of w.state).filled = unfold next_position in refl in
      omega (arith, position-is G D z w r s a, n.start, o.start-next)

  pub accounts : Accounted s fs
  accounts =
      record {
        used = used-is s fs l;
        holds = λ v p h. l.holds v p h;
        keeps = λ p. l.keeps p;
        whole = many-all s fs (7 * s.start) (7 * s.groups);
        free_are = many-free s fs (7 * s.start) (7 * s.groups) next_low ∙ (unfold places_left in omega (arith, next_low));
      }

  -- ---- what holds the log back

  pub held_back : HeldBack s
  held_back v p h t =
      before_at (group_of_first s) (7 * next_start s) p (s.book.tasks v)
      (none_open (group_of_first s) (7 * next_start s) s.book.tasks 8 (open_at (next_start s) reached) v h) t
    where
      reached : may_start s (next_start s) ≡ true
      reached =
          may-is G D z w r s a (next_start s)
          ∙ subst (λ (x : ℕ). may_be w x ≡ true) (start_is G D z w r s a []) (trimmed G D z w r []).reached

      open_at : (x : ℕ) → may_start s x ≡ true → any_open_before (group_of_first s) (7 * x) s.book.tasks 8 ≡ false
      open_at x e = may-open s x e

-- ---- every event keeps the ledger

led-opening : (G D : ℕ) (z : Sizes G D) (w : World) → Closed G D w → (s : Store) → Agrees G D w s → (state newest batch : List ℕ) → (fs : List Fate)
    → (ends w (opening state newest batch)).code ≡ 0 → LedBy (store.after_done s (opening state newest batch) (ends w (opening state newest batch)).figure) (enter_call s (opening state newest batch) fs)
unfolding store.after_done numbered enter_call feed group_of_first with_round
led-opening G D z w k s a state newest batch fs h =
    subst (λ (b : Book). Led (s.head + s.groups) (book.with_commits b (book.all_owed b.commits)) []) (sym a.book)
    (opened-led D (s.head + s.groups) w.book k.rows k.filled k.tasks k.past)

-- by the answer
by_code : (w : World) (s : Store) (c : Call) (fs : List Fate) → ((ends w c).code ≡ 0 → LedBy (store.after_done s c (ends w c).figure) (enter_call s c fs))
    → ((k : ℕ) → (ends w c).code ≡ suc k → LedBy s fs) → LedBy (follow s w (call c)) (enter_event s w (call c) fs)
by_code w s c fs d n = go (ends w c).code refl
  where
    go : (k : ℕ) → (ends w c).code ≡ k → LedBy (follow s w (call c)) (enter_event s w (call c) fs)
    go zero e = rw (follow-done s w c e, enter-done s w c fs e) (d e)
    go (suc k) e = rw (follow-refused s w c k e, enter-refused s w c fs k e) (n k e)

module _ (G D : ℕ) (z : Sizes G D) where
  -- an opening, done or not
  opens-led : (w : World) → Closed G D w → (s : Store) → Agrees G D w s → (c : Call) → is_opening c ≡ true → (fs : List Fate)
      → (step w (call c)).ready ≡ true → LedBy (follow s w (call c)) (enter_event s w (call c) fs)
  unfolding is_opening
  opens-led w k s a (opening state newest batch) e fs h =
      by_code w s (opening state newest batch) fs (led-opening G D z w k s a state newest batch fs)
      (λ n q. absurd (false≢true (sym k.ready ∙ ap (λ (x : World). x.ready) (sym (step-refused w (opening state newest batch) n q)) ∙ h)))
  opens-led w k s a confirm e fs h = absurd (false≢true e)
  opens-led w k s a (change c) e fs h = absurd (false≢true e)
  opens-led w k s a (service c) e fs h = absurd (false≢true e)

  pub led-keeps : (w : World) → Invariant G D w → (s : Store) → Agrees G D w s → (fs : List Fate) → (w.ready ≡ true → LedBy s fs) → (e : Event) → Allowed w e
      → (step w e).ready ≡ true → LedBy (follow s w e) (enter_event s w e fs)
  led-keeps w (inl k) s a fs l (call c) h q = opens-led w k s a c (h ∙ ap not k.ready) fs q
  led-keeps w (inr r) s a fs l (call c) h q =
      let n : is_opening c ≡ false = h ∙ ap not r.ready in
      by_code w s c fs (done-led G D z w r s a fs (l r.ready) c n) (λ k e. l r.ready)
  led-keeps w i s a fs l (crash p chosen) h q = absurd (false≢true (unfold step after_crash in q))
