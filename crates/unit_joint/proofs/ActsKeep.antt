-- What acts do to the book's list of commits: a done transact adds one, with its figure for a ticket; no act adds more, and none takes one that is owed.
-- Assumes nothing.
use Prim.Native.Nat.{ℕ, zero, suc, ◌+◌, ◌*◌, ◌/◌, ◌≤◌}
use mathlib.Core.Path.{◌≡◌, refl, sym, ap, ◌∙◌, subst}
use mathlib.Core.Bool.{Bool, true, false, cond, not}
use mathlib.Core.List.{List, [], ◌∷◌, ◌++◌}
use mathlib.Core.Option.{none, some}
use native.Mathlib.Omega.{arith}
use lib.Dec.{eqb}
use lib.ListN.{length, length-append}
use borrow.Author.Tests.{eq-eqb, eqb-true, eqb-false}
use Rattle.model.specs.Bytes.{part}
use Rattle.model.specs.Book.{Commit, Held, Task, idle, opened, Book, with_task, add_commit, filled_up, entry_of, commit_task}
use Rattle.model.specs.Book as book
use Rattle.model.specs.Calls.{Outcome, size_of}
use Rattle.model.specs.Effects.{Given}
use Rattle.model.specs.History.{Call, begin, store, commit, Event, call, World, lent, ends, is_opening, feed, feed_change, after_done, after_refused, after_call, step, after, AllAllowed}
use Rattle.theorems.specs.Isolation.{followed}
use Rattle.abstract_store.specs.Store.{Store, commit_must_log, next_of, told, reply_change, reply, reply_of, Reply}
use Rattle.acts.specs.Many.{transact_effect, transact_answer, transact_call}
use Rattle.acts.specs.Units.{Act, plain, transacts, fetches, revises, transact_ends, feed_stores, feed_transact, left_under, act, ActAllowed, roomy, stores_from, chain, expand}
use Rattle.acts.proofs.ManyLaws.{transact-ready}
use Rattle.theorems.proofs.steps.DoneLaws.{outcome-code}
use Rattle.theorems.proofs.steps.HeldLogs.{filled-commits}
use Rattle.theorems.proofs.store.StoreLaws.{reply-outcome}
use Rattle.theorems.proofs.store.Reached.{Reached, after-append, goes_on, goes-along, call-answers, same-book}
use Rattle.theorems.proofs.many.TransactBooks.{Chained, chained}
use Rattle.theorems.proofs.many.ManyRuns.{ChainTold, chain-told}
use Rattle.theorems.proofs.many.ActsHold.{act-expands, refused-stays, fetch-stays, revise-stays}
use Rattle.unit_events.proofs.PromisesHold.{refusals-stay}
use Rattle.unit_joint.proofs.CommitsKept.{At, Owed, Ticket, at_front, event-grows, event-owed, store-grown}

-- ---- the commit that a done transact adds

pub record Added (cs ds : List Commit) (ticket : ℕ) : Type 0 where
  pub last : Commit
  pub is : ds ≡ cs ++ (last ∷ [])
  pub has : last.ticket ≡ ticket

chain-adds : (b c : Book) (v h : ℕ) (blocks : List ℕ) (figure k : ℕ) → Chained b c v h blocks (suc k)
    → Added b.commits (commit_task c v figure (c.tasks v)).commits figure
unfolding commit_task with_task add_commit
chain-adds b c v h blocks figure k r =
    let held : Held = record { home = h + k; block = part blocks (64 * k) 64 } in
    rw r.task
    (record {
      last = record { entries = r.logged ++ (entry_of c held ∷ []); ticket = figure; owed = false };
      is = rw (filled-commits c, r.commits);
      has = refl;
    })

fed-adds : (b : Book) (v h : ℕ) (blocks : List ℕ) (figure : ℕ) → 1 ≤ length blocks / 64 → Added b.commits (feed_transact b v h blocks figure).commits figure
unfolding feed_transact book.commit
fed-adds b v h blocks figure l = go (length blocks / 64) refl l
  where
    go : (m : ℕ) → length blocks / 64 ≡ m → 1 ≤ m
        → Added b.commits (commit_task (feed_stores b v h blocks (length blocks / 64)) v figure ((feed_stores b v h blocks (length blocks / 64)).tasks v)).commits figure
    go zero e p = absurd (omega arith)
    go (suc k) e p =
        subst (λ (m : ℕ). Added b.commits (commit_task (feed_stores b v h blocks m) v figure ((feed_stores b v h blocks m).tasks v)).commits figure) (sym e)
        (chain-adds b (feed_stores b v h blocks (suc k)) v h blocks figure k (chained b v h blocks (suc k)))

pub transact-adds : (w : World) (v h : ℕ) (blocks batch : List ℕ) → (transact_ends w v h blocks batch).code ≡ 0
    → Added w.book.commits (act w (transacts v h blocks batch)).book.commits (transact_ends w v h blocks batch).figure
unfolding act left_under
transact-adds w v h blocks batch z =
    rw (eq-eqb (transact_ends w v h blocks batch).code 0 z)
    (fed-adds w.book v h blocks (transact_ends w v h blocks batch).figure ((refusals-stay w).some v h blocks batch z))

-- ---- no act adds more than one

transact-grows : (w : World) (v h : ℕ) (blocks batch : List ℕ)
    → length (act w (transacts v h blocks batch)).book.commits ≤ length w.book.commits + 1
transact-grows w v h blocks batch = go (eqb (transact_ends w v h blocks batch).code 0) refl
  where
    go : (d : Bool) → eqb (transact_ends w v h blocks batch).code 0 ≡ d → length (act w (transacts v h blocks batch)).book.commits ≤ length w.book.commits + 1
    go true e =
        let a = transact-adds w v h blocks batch (eqb-true (transact_ends w v h blocks batch).code 0 e) in
        omega (arith, ap length a.is, length-append w.book.commits (a.last ∷ []))
    go false e =
        let q = refused-stays w v h blocks batch (eqb-false (transact_ends w v h blocks batch).code 0 e) in
        omega (arith, ap (λ (u : World). length u.book.commits) q)

pub act-grows : (w : World) (a : Act) → length (act w a).book.commits ≤ length w.book.commits + 1
act-grows w (plain e) = unfold act in event-grows w e
act-grows w (transacts v h blocks batch) = transact-grows w v h blocks batch
act-grows w (fetches v h blocks) = omega (arith, ap (λ (u : World). length u.book.commits) (fetch-stays w v h blocks))
act-grows w (revises v h blocks) = omega (arith, ap (λ (u : World). length u.book.commits) (revise-stays w v h blocks))

-- ---- none takes an owed one, and none but a cut takes any

events-owed : (es : List Event) (w : World) (s : Store) (n : ℕ) → Reached w s → AllAllowed w es → At Owed n w.book.commits
    → At Owed n (after w es).book.commits
unfolding after
events-owed [] w s n r ok a = a
events-owed (e ∷ es) w s n r ok a = events-owed es (step w e) _ n (goes_on w s e r ok.0) ok.1 (event-owed w s e n r ok.0 a)

pub act-owed : (w : World) (s : Store) (a : Act) (n : ℕ) → Reached w s → ActAllowed w a → At Owed n w.book.commits → At Owed n (act w a).book.commits
act-owed w s a n r ok k =
    let x = act-expands w s a r ok in
    subst (λ (u : World). At Owed n u.book.commits) x.1 (events-owed (expand w a) w s n r x.0 k)

pub transact-ticket : (w : World) (v h : ℕ) (blocks batch : List ℕ) (n t : ℕ) → At (Ticket t) n w.book.commits
    → At (Ticket t) n (act w (transacts v h blocks batch)).book.commits
transact-ticket w v h blocks batch n t k = go (eqb (transact_ends w v h blocks batch).code 0) refl
  where
    go : (d : Bool) → eqb (transact_ends w v h blocks batch).code 0 ≡ d → At (Ticket t) n (act w (transacts v h blocks batch)).book.commits
    go true e =
        let a = transact-adds w v h blocks batch (eqb-true (transact_ends w v h blocks batch).code 0 e) in
        subst (At (Ticket t) n) (sym a.is) (at_front (Ticket t) n w.book.commits (a.last ∷ []) k)
    go false e =
        subst (λ (u : World). At (Ticket t) n u.book.commits) (sym (refused-stays w v h blocks batch (eqb-false (transact_ends w v h blocks batch).code 0 e))) k

-- ---- a done transact's ticket is not 0

told-zero : (a f z : ℕ) → (told a f z).code ≡ 0 → (told a f z).figure ≡ f
unfolding told
told-zero zero f z e = refl
told-zero (suc a) f z e = absurd (omega arith)

told-code : (a f z : ℕ) → (told a f z).code ≡ a
unfolding told
told-code zero f z = refl
told-code (suc a) f z = refl

figure-of : (o : Outcome) (y : Reply) → reply_of o ≡ y → o.figure ≡ y.figure
unfolding reply_of
figure-of o y e = ap (λ (x : Reply). x.figure) e

code_of : (o : Outcome) (y : Reply) → reply_of o ≡ y → o.code ≡ y.code
unfolding reply_of
code_of o y e = ap (λ (x : Reply). x.code) e

commit-plain : (v : ℕ) → is_opening (commit v roomy) ≡ false
unfolding is_opening
commit-plain v = refl

-- begin and stores add no commit
call_same : (w : World) (c : Call) → ((figure : ℕ) → (feed w.book c figure).commits ≡ w.book.commits) → (step w (call c)).book.commits ≡ w.book.commits
unfolding step
call_same w c f = go (ends w c).code
  where
    go : (code : ℕ) → (after_call w c (ends w c) code).book.commits ≡ w.book.commits
    go zero = unfold after_call after_done in f (ends w c).figure
    go (suc code) = unfold after_call after_refused in refl

begin-same : (b : Book) (v figure : ℕ) → (feed b (begin v) figure).commits ≡ b.commits
unfolding feed feed_change book.begin with_task
begin-same b v figure = refl

store_same : (b : Book) (v h : ℕ) (block batch : List ℕ) (figure : ℕ) → (feed b (store v h block batch) figure).commits ≡ b.commits
unfolding feed feed_change book.store
store_same b v h block batch figure = store-grown b v h block (b.tasks v)

one-after : (w : World) (c : Call) → after w (call c ∷ []) ≡ step w (call c)
unfolding after
one-after w c = refl

stores_same : (w : World) (v h : ℕ) (blocks : List ℕ) (k : ℕ) → (after w (stores_from v h blocks k)).book.commits ≡ w.book.commits
unfolding stores_from
stores_same w v h blocks zero = ap (λ (u : World). u.book.commits) (one-after w (begin v)) ∙ call_same w (begin v) (begin-same w.book v)
stores_same w v h blocks (suc k) =
    let u : World = after w (stores_from v h blocks k) in
    let c : Call = store v (h + k) (part blocks (64 * k) 64) roomy in
    ap (λ (x : World). x.book.commits) (after-append (stores_from v h blocks k) (call c ∷ []) w ∙ one-after u c)
    ∙ call_same u c (store_same u.book v (h + k) (part blocks (64 * k) 64) roomy) ∙ stores_same w v h blocks k

-- a commit of a writer that holds nothing adds none
commit-idle : (b : Book) (v figure : ℕ) (t : Task) → commit_must_log t ≡ false → (commit_task b v figure t).commits ≡ b.commits
unfolding commit_must_log commit_task with_task
commit-idle b v figure idle e = refl
commit-idle b v figure (opened es none) e = refl
commit-idle b v figure (opened es (some x)) e = absurd (let z : ◌≡◌ {A = ℕ} 0 1 = cc in omega arith)

idle-same : (b : Book) (v : ℕ) → commit_must_log (b.tasks v) ≡ false → (figure : ℕ) → (feed b (commit v roomy) figure).commits ≡ b.commits
unfolding feed feed_change book.commit
idle-same b v e figure = commit-idle b v figure (b.tasks v) e

refused-same : (w : World) (c : Call) (k : ℕ) → (ends w c).code ≡ suc k → (step w (call c)).book.commits ≡ w.book.commits
unfolding step
refused-same w c k e = rw e (unfold after_call after_refused in refl)

reply-figure : (s : Store) (v : ℕ) → (reply s (commit v roomy)).code ≡ 0 → commit_must_log (s.book.tasks v) ≡ true → 1 ≤ (reply s (commit v roomy)).figure
unfolding reply reply_change
reply-figure s v z e =
    let q = told-zero _ _ _ z in
    let f : (reply s (commit v roomy)).figure ≡ next_of s + 1 = (unfold reply reply_change in q ∙ rw e) in
    omega (arith, f)

module _ (w : World) (s : Store) (r : Reached w s) (ready : w.ready ≡ true) (v h : ℕ) (blocks batch : List ℕ) (z : (transact_ends w v h blocks batch).code ≡ 0) where
  abbrev g : Given
  g = lent w blocks batch v h

  abbrev u : World
  u = after w (stores_from v h blocks (length blocks / 64))

  answer : transact_answer g (size_of (transact_effect g)) ≡ 0
  unfolding transact_ends transact_call
  answer = sym (outcome-code g (transact_answer g (size_of (transact_effect g))) (transact_effect g)) ∙ z

  whole : ChainTold w v h blocks (transact_effect g)
  whole = chain-told w s r ready v h blocks batch (size_of (transact_effect g)) (transact-ready g (size_of (transact_effect g)) answer)

  -- if the commit added none, the transact would not
  adds : (step u (call (commit v roomy))).book.commits ≡ w.book.commits → ⊥
  adds e =
      let x = act-expands w s (transacts v h blocks batch) r ready in
      let a = transact-adds w v h blocks batch z in
      let c : after w (chain v h blocks) ≡ act w (transacts v h blocks batch) =
      (subst (λ (d : Bool). after w (cond d (chain v h blocks) []) ≡ act w (transacts v h blocks batch)) (eq-eqb (transact_ends w v h blocks batch).code 0 z) (unfold expand in x.1)) in
      let l : after w (chain v h blocks) ≡ step u (call (commit v roomy)) =
      (unfold chain in after-append (stores_from v h blocks (length blocks / 64)) (call (commit v roomy) ∷ []) w ∙ one-after u (commit v roomy)) in
      let n : length (step u (call (commit v roomy))).book.commits ≡ length w.book.commits + 1 =
      ap (λ (y : World). length y.book.commits) (sym l ∙ c) ∙ ap length a.is ∙ length-append w.book.commits (a.last ∷ []) in
      omega (arith, ap length e)

  commit-told : (k : ℕ) → (ends u (commit v roomy)).code ≡ k → k ≡ 0
  commit-told zero e = refl
  commit-told (suc k) e = absurd (adds (refused-same u (commit v roomy) k e ∙ stores_same w v h blocks (length blocks / 64)))

  logs : (t : Store) → t.book ≡ u.book → (d : Bool) → commit_must_log (t.book.tasks v) ≡ d → d ≡ true
  logs t b true e = refl
  logs t b false e =
      absurd
      (adds
      (call_same u (commit v roomy) (idle-same u.book v (ap (λ (x : Book). commit_must_log (x.tasks v)) (sym b) ∙ e)) ∙ stores_same w v h blocks (length blocks / 64)))

  transact-figure : (transact_ends w v h blocks batch).figure ≡ (transact_effect g).figure
  unfolding transact_ends transact_call
  transact-figure =
      figure-of _ _ (reply-outcome g (transact_answer g (size_of (transact_effect g))) (transact_effect g))
      ∙ told-zero (transact_answer g (size_of (transact_effect g))) (transact_effect g).figure (size_of (transact_effect g)) (told-code _ _ _ ∙ answer)

  pub ticket_is : 1 ≤ (transact_ends w v h blocks batch).figure
  ticket_is = go (followed s w (stores_from v h blocks (length blocks / 64))) (goes-along (stores_from v h blocks (length blocks / 64)) w s r whole.stores)
    where
      go : (t : Store) → Reached u t → 1 ≤ (transact_ends w v h blocks batch).figure
      go t q =
          let c = call-answers u t (commit v roomy) q (commit-plain v ∙ ap not (sym whole.ready)) in
          let same : (ends u (commit v roomy)).figure ≡ (reply t (commit v roomy)).figure = figure-of (ends u (commit v roomy)) (reply t (commit v roomy)) c in
          let code : (reply t (commit v roomy)).code ≡ 0 = sym (code_of (ends u (commit v roomy)) (reply t (commit v roomy)) c) ∙ commit-told (ends u (commit v roomy)).code refl in
          let one : 1 ≤ (reply t (commit v roomy)).figure = reply-figure t v code (logs t (same-book u t q) (commit_must_log (t.book.tasks v)) refl) in
          omega (arith, transact-figure, whole.figure)
