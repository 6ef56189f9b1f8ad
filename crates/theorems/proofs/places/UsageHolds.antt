-- At every moment after a done opening the numbers of usage are the ledger's, and its holder is the open transaction that lies lowest. Assumes nothing.
use Prim.Native.Nat.{ℕ, zero, suc, ◌+◌, ◌-◌, ◌*◌, ◌≤◌, ◌<◌}
use mathlib.Core.Path.{◌≡◌, refl, sym, ap, ◌∙◌, subst}
use mathlib.Core.Logic.{inl, inr}
use mathlib.Core.Bool.{Bool, true, false, cond, ◌||◌, false≢true}
use mathlib.Core.List.{List, [], ◌∷◌}
use native.Mathlib.Omega.{arith}
use lib.Dec.{leb}
use lib.ListN.{length}
use borrow.Author.Tests.{leb-true, leb-false, le-leb}
use Rattle.model.specs.declared.Tag.{Tag}
use Rattle.model.specs.Commit.{transactions}
use Rattle.model.specs.State.{state_of, places, writer_of, held_of, has_logged, count_for}
use Rattle.model.specs.declared.Writer.{Writer}
use Rattle.model.specs.Effects.{Given, groups, live_base}
use Rattle.model.specs.Book.{Task, Book}
use Rattle.model.specs.History.{Event, World, empty_store, lent, step, AllAllowed}
use Rattle.abstract_store.specs.Store.{Store, new_store, group_of_first, follow}
use Rattle.abstract_store.specs.Places.{Fate, live, dead, free, many, any_at, task_at, commit_at, enter_event, Accounted, HeldBack, PlacesTold, AccountedThroughout}
use Rattle.abstract_store.specs.Usage.{entries_in, committed_entries, open_entries, holder_of, usage_of, usage_if, usage_call, Usages, UsageThroughout, UsageTold}
use Rattle.model.specs.declared.Usage.{Usage}
use Rattle.model.specs.declared.Holder.{Holder}
use Rattle.model_laws.proofs.trace.Trace.{Ev, hist, oldest_of}
use Rattle.model_laws.proofs.trace.TraceLaws.{All, Falling, Long, open-falling, done-falling, done-long}
use Rattle.abstract_store.proofs.PlaceCounts.{one_if, one-false, times, times_in, tally, once, tally-same, tally-both, tally-none, tally-all, tally-closing, falling-from}
use Rattle.theorems.proofs.invariant.Invariant.{Sizes, TaskOk, Running, Invariant}
use Rattle.theorems.proofs.invariant.LiveLog.{base_of, end_of, kept_in, live-room, lent-groups, lent-tags, live-transactions}
use Rattle.theorems.proofs.steps.Beginning.{format-closed}
use Rattle.theorems.proofs.steps.FormatRuns.{sizes, after-format}
use Rattle.theorems.proofs.demands.DemandThree.{keeps}
use Rattle.theorems.proofs.store.StoreAgrees.{Agrees, first-is, asked, promised-is, places-are}
use Rattle.theorems.proofs.store.StoreFollows.{follows, empty-agrees}
use Rattle.theorems.proofs.places.PlaceLedgerLaws.{commits-append, old-at}
use Rattle.theorems.proofs.places.PlacesHold.{places-accounted}
use Rattle.theorems.proofs.places.UsageLaws.{Known, known-keeps, open_at, many-live, one-leb, any-times, commit-times, times-oldest, times-from, Holds, holder-holds}

-- ---- a writer's record and its places by the book

long : (ps : List ℕ) → 1 ≤ length ps → Long ps
long [] h = absurd (omega arith)
long (p ∷ ps) h = tt

module _ (b : ℕ) (tr : List Ev) (r : Writer) (held ps : List ℕ) (high : ℕ) (f : Falling (7 * b) high ps) (t : Task) where
  unlogged : TaskOk b tr r held ps t → has_logged r ≡ false → (p : ℕ) → task_at b p t ≡ false
  unfolding task_at any_at
  unlogged (inl h) e p = rw h.1
  unlogged (inr (inl h)) e p = rw h.1
  unlogged (inr (inr (inl h))) e p = rw h.1
  unlogged (inr (inr (inr h))) e p = absurd (unfold has_logged in omega (arith, leb-false 3 r.mode (unfold has_logged in e), h.0))

  logged : TaskOk b tr r held ps t → has_logged r ≡ true
      → ((p : ℕ) → task_at b p t ≡ leb 1 (times p ps)) × (r.first ≡ oldest_of ps) × (r.count ≡ length ps) × Long ps
  logged (inl h) e = absurd (omega (arith, leb-true 3 r.mode (unfold has_logged in e), h.0))
  logged (inr (inl h)) e = absurd (omega (arith, leb-true 3 r.mode (unfold has_logged in e), h.0))
  logged (inr (inr (inl h))) e = absurd (omega (arith, leb-true 3 r.mode (unfold has_logged in e), h.0))
  logged (inr (inr (inr h))) e = (λ p. ap (task_at b p) h.1 ∙ (unfold task_at in any-times b p high tr ps f), h.2, h.3, long ps h.4)

module _ (G D : ℕ) (z : Sizes G D) (w : World) (r : Running G D w) where
  abbrev b : ℕ
  b = r.b

  abbrev tr : List Ev
  tr = r.tr

  abbrev top : ℕ
  top = 7 * r.b + length r.tr

  abbrev at : ℕ → Writer
  at v = writer_of w.state v

  abbrev given : Given
  given = lent w [] [] 0 0

  falls : (v : ℕ) → Falling (7 * b) top ((hist (7 * b) tr).open_transaction v)
  falls v = open-falling (7 * b) tr v

  within : top ≤ base_of w + 7 * G
  within = omega (arith, r.copies.position, live-room G D b tr w z r.copies)

  -- ---- committed entries

  committed-are : committed_entries given ≡ entries_in (kept_in b tr w)
  unfolding committed_entries live_base lent
  committed-are =
      ap (λ (t : ℕ → Tag). entries_in (transactions t (base_of w) (end_of w - base_of w))) (lent-tags G D b tr w z r.copies [] [] 0 0)
      ∙ ap entries_in (live-transactions G D b tr w z r.copies)

  commit-at : (p : ℕ) → one_if (commit_at b p w.book.commits) ≡ times_in p (hist (7 * b) tr).done
  commit-at p =
      let k = r.commits in
      let e : commit_at b p w.book.commits ≡ leb 1 (times_in p (hist (7 * b) tr).done) =
      ap (commit_at b p) k.split ∙ commits-append b p r.old k.new
      ∙ ap (λ (d : Bool). d || commit_at b p k.new) (old-at D b p r.old k.past)
      ∙ commit-times b p top tr k.new (hist (7 * b) tr).done k.matches (done-falling (7 * b) tr) in
      ap one_if e ∙ one-leb (times_in p (hist (7 * b) tr).done) (omega (arith, (once (7 * b) tr p).one 0))

  commit-tally : tally (λ p. one_if (commit_at b p w.book.commits)) (base_of w) (7 * G) ≡ committed_entries given
  commit-tally =
      tally-same (λ p. one_if (commit_at b p w.book.commits)) (λ p. times_in p (hist (7 * b) tr).done) (base_of w) (7 * G) (λ p l m. commit-at p)
      ∙ tally-closing (7 * b) top (base_of w) (7 * G) (hist (7 * b) tr).done (done-falling (7 * b) tr) (done-long (7 * b) tr) r.copies.apart within
      ∙ sym committed-are

  -- ---- open entries

  open-from : (v : ℕ) → v < 8 → has_logged (at v) ≡ true → Falling (at v).first top ((hist (7 * b) tr).open_transaction v)
  open-from v l e =
      let k = logged b tr (at v) (held_of w.state v) ((hist (7 * b) tr).open_transaction v) top (falls v) (w.book.tasks v) (r.copies.tasks v l) e in
      falling-from (at v).first (7 * b) top ((hist (7 * b) tr).open_transaction v) (falls v) k.3 (omega (arith, k.1))

  task-tally : (v : ℕ) → v < 8 → tally (λ p. one_if (task_at b p (w.book.tasks v))) (base_of w) (7 * G) ≡ count_for (at v)
  unfolding count_for
  task-tally v l = go (has_logged (at v)) refl
    where
      go : (d : Bool) → has_logged (at v) ≡ d
          → tally (λ p. one_if (task_at b p (w.book.tasks v))) (base_of w) (7 * G) ≡ cond d (at v).count 0
      go true e =
          let k = logged b tr (at v) (held_of w.state v) ((hist (7 * b) tr).open_transaction v) top (falls v) (w.book.tasks v) (r.copies.tasks v l) e in
          let m = (r.copies.order.writers v l).logged (leb-true 3 (at v).mode (unfold has_logged in e)) in
          tally-same (λ p. one_if (task_at b p (w.book.tasks v))) (λ p. times p ((hist (7 * b) tr).open_transaction v)) (base_of w) (7 * G)
          (λ p i j. ap one_if (k.0 p) ∙ one-leb (times p ((hist (7 * b) tr).open_transaction v)) (omega (arith, (once (7 * b) tr p).one v)))
          ∙ tally-all (base_of w) (7 * G) top ((hist (7 * b) tr).open_transaction v)
          (falling-from (base_of w) (7 * b) top ((hist (7 * b) tr).open_transaction v) (falls v) k.3 (omega (arith, k.1, m.0))) within
          ∙ sym k.2
      go false e =
          tally-same (λ p. one_if (task_at b p (w.book.tasks v))) (λ p. 0) (base_of w) (7 * G)
          (λ p i j. ap one_if (unlogged b tr (at v) (held_of w.state v) ((hist (7 * b) tr).open_transaction v) top (falls v) (w.book.tasks v) (r.copies.tasks v l) e p) ∙ one-false)
          ∙ tally-none (base_of w) (7 * G)

  open-tally : (n : ℕ) → n ≤ 8 → tally (λ p. open_at b p w.book.tasks n) (base_of w) (7 * G) ≡ open_entries w.state n
  unfolding open_at open_entries
  open-tally zero l = tally-none (base_of w) (7 * G)
  open-tally (suc n) l =
      tally-both (λ p. open_at b p w.book.tasks n) (λ p. one_if (task_at b p (w.book.tasks n))) (base_of w) (7 * G)
      ∙ omega (arith, open-tally n (omega arith), task-tally n (omega arith))

  -- ---- the holder

  holder : Holds w.state 8 (holder_of w.state 8)
  holder = holder-holds w.state 8 (omega arith)

  nobody-has : (v p : ℕ) → v < 8 → has_logged (at v) ≡ false → task_at b p (w.book.tasks v) ≡ false
  nobody-has v p l e =
      unlogged b tr (at v) (held_of w.state v) ((hist (7 * b) tr).open_transaction v) top (falls v) (w.book.tasks v) (r.copies.tasks v l) e p

  has_first : (v : ℕ) → v < 8 → has_logged (at v) ≡ true → task_at b (at v).first (w.book.tasks v) ≡ true
  has_first v l e =
      let k = logged b tr (at v) (held_of w.state v) ((hist (7 * b) tr).open_transaction v) top (falls v) (w.book.tasks v) (r.copies.tasks v l) e in
      k.0 (at v).first ∙ ap (λ (p : ℕ). leb 1 (times p ((hist (7 * b) tr).open_transaction v))) k.1
      ∙ le-leb 1 (times (oldest_of ((hist (7 * b) tr).open_transaction v)) ((hist (7 * b) tr).open_transaction v)) (times-oldest (7 * b) top ((hist (7 * b) tr).open_transaction v) (falls v) k.3)

  none_below : (h : Holder) → Holds w.state 8 h → h.writer < 8 → (v p : ℕ) → v < 8 → task_at b p (w.book.tasks v) ≡ true → h.first ≤ p
  none_below h o q v p l t = go (has_logged (at v)) refl
    where
      go : (d : Bool) → has_logged (at v) ≡ d → h.first ≤ p
      go true e =
          let k = logged b tr (at v) (held_of w.state v) ((hist (7 * b) tr).open_transaction v) top (falls v) (w.book.tasks v) (r.copies.tasks v l) e in
          let i : 1 ≤ times p ((hist (7 * b) tr).open_transaction v) = leb-true 1 (times p ((hist (7 * b) tr).open_transaction v)) (sym (k.0 p) ∙ t) in
          omega (arith, o.lowest q v l e, times-from (at v).first top p ((hist (7 * b) tr).open_transaction v) (open-from v l e) i)
      go false e = absurd (false≢true (sym (nobody-has v p l e) ∙ t))

  module _ (s : Store) (a : Agrees G D w s) (fs : List Fate) (c : Accounted s fs) (k : All Known fs) (hb : HeldBack s) where
    first-book : (P : ℕ → Book → Type 0) → P b w.book → P (group_of_first s) s.book
    first-book P h = subst (λ (x : ℕ). P x s.book) (sym (first-is G D z w r s a)) (subst (P b) (sym a.book) h)

    start_is : 7 * s.start ≡ base_of w
    start_is = ap (λ (x : ℕ). 7 * x) (a.numbers r.ready).start

    groups-is : 7 * s.groups ≡ 7 * G
    groups-is = ap (λ (x : ℕ). 7 * x) a.groups

    tallied : tally (λ p. one_if (commit_at (group_of_first s) p s.book.commits) + open_at (group_of_first s) p s.book.tasks 8) (base_of w) (7 * G)
        ≡ committed_entries given + open_entries w.state 8
    tallied =
        first-book (λ x y. tally (λ p. one_if (commit_at x p y.commits) + open_at x p y.tasks 8) (base_of w) (7 * G) ≡ committed_entries given + open_entries w.state 8)
        (tally-both (λ p. one_if (commit_at b p w.book.commits)) (λ p. open_at b p w.book.tasks 8) (base_of w) (7 * G)
        ∙ omega (arith, commit-tally, open-tally 8 (omega arith)))

    live-is : many s fs live (7 * s.start) (7 * s.groups) ≡ committed_entries given + open_entries w.state 8
    live-is = many-live s fs c k (7 * s.start) (7 * s.groups) ∙ rw (start_is, groups-is) tallied

    free-is : many s fs free (7 * s.start) (7 * s.groups) ≡ places (state_of w.state)
    free-is = c.free_are ∙ places-are G D z w r s a

    dead-is : many s fs dead (7 * s.start) (7 * s.groups) ≡ 7 * groups given - places (state_of w.state) - (committed_entries given + open_entries w.state 8)
    dead-is = omega (arith, c.whole, live-is, free-is, groups-is, ap (λ (x : ℕ). 7 * x) (lent-groups G D b tr w z r.copies [] [] 0 0))

    usage-is : usage_call given ≡ usage_of given
    unfolding usage_call
    usage-is = ap (λ (x : ℕ). usage_if x given) (asked G D z w r s a [] [] 0 0 0) ∙ (unfold usage_if in refl)

    holder-is : (usage_call given).holder ≡ (holder_of w.state 8).writer
    holder-is = ap (λ (u : Usage). u.holder) usage-is ∙ (unfold usage_of lent in refl)

    position-is : (usage_call given).first ≡ (holder_of w.state 8).first
    position-is = ap (λ (u : Usage). u.first) usage-is ∙ (unfold usage_of lent in refl)

    low : (usage_call given).holder < 8 → (holder_of w.state 8).writer < 8
    low q = omega (arith, holder-is)

    holds-there : (usage_call given).holder < 8 → task_at (group_of_first s) (usage_call given).first (s.book.tasks (usage_call given).holder) ≡ true
    holds-there q =
        rw (holder-is, position-is, holder.place (low q))
        (first-book (λ x y. task_at x (at (holder_of w.state 8).writer).first (y.tasks (holder_of w.state 8).writer) ≡ true)
        (has_first (holder_of w.state 8).writer (low q) (holder.logs (low q))))

    usages : Usages w s fs
    usages =
        record {
          done = ap (λ (u : Usage). u.code) usage-is ∙ (unfold usage_of in refl);
          live_are = ap (λ (u : Usage). u.live) usage-is ∙ (unfold usage_of lent in sym (unfold lent in live-is));
          dead_are = ap (λ (u : Usage). u.dead) usage-is ∙ (unfold usage_of lent in sym (unfold lent in dead-is));
          free_are = ap (λ (u : Usage). u.free) usage-is ∙ (unfold usage_of lent in sym free-is);
          promised_are = ap (λ (u : Usage). u.promised) usage-is ∙ (unfold usage_of lent in sym (promised-is G D z w r s a));
          known = omega (arith, holder-is, holder.known);
          nobody = λ q v p l.
              first-book (λ x y. task_at x p (y.tasks v) ≡ false) (nobody-has v p l (holder.nobody (sym holder-is ∙ q) v l));
          holds = holds-there;
          lowest = λ q v p l t.
              rw position-is
              (none_below (holder_of w.state 8) holder (low q) v p l
              (subst (λ (x : ℕ). task_at x p (w.book.tasks v) ≡ true) (first-is G D z w r s a) (ap (λ (y : Book). task_at (group_of_first s) p (y.tasks v)) (sym a.book) ∙ t)));
          bounds = λ q. hb (usage_call given).holder (usage_call given).first q (holds-there q);
        }

-- ---- every history

module _ (G D : ℕ) (z : Sizes G D) where
  told : (w : World) → Invariant G D w → (s : Store) → Agrees G D w s → (fs : List Fate) → All Known fs → (w.ready ≡ true → PlacesTold w s fs)
      → w.ready ≡ true → Usages w s fs
  told w (inl k) s a fs n t h = absurd (false≢true (sym k.ready ∙ h))
  told w (inr r) s a fs n t h = usages G D z w r s a fs (t h).accounted n (t h).held_back_by

  throughout : (es : List Event) (w : World) (s : Store) (fs : List Fate) → Invariant G D w → Agrees G D w s → All Known fs → AllAllowed w es
      → AccountedThroughout w s fs es → UsageThroughout w s fs es
  throughout [] w s fs i a n h t = told w i s a fs n t
  throughout (e ∷ es) w s fs i a n h t = (
    told w i s a fs n t.0,
    throughout es (step w e) (follow s w e) (enter_event s w e fs) (keeps G D z w i e h.0).0 (follows G D z w i s a e h.0)
        (known-keeps s w e fs n) h.1 t.1,
  )

pub usage-told : UsageTold
usage-told G D f es h =
    let z : Sizes G D = sizes f in
    let t = places-accounted G D f es h in
    rw (after-format f)
    (throughout G D z es (empty_store G D) (new_store G D) [] (inl (format-closed G D z)) (empty-agrees G D z) tt (rw (after-format f) at h)
    (rw (after-format f) at t))
