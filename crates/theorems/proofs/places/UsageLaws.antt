-- Live places, one by one: by the ledger, by the book and by the trace; and the writer that holds a log back, by the strip. Assumes nothing.
use Prim.Native.Nat.{ℕ, zero, suc, ◌+◌, ◌-◌, ◌*◌, ◌/◌, ◌%◌, ◌≤◌, ◌<◌}
use mathlib.Core.Path.{◌≡◌, refl, sym, ap, ◌∙◌, subst}
use mathlib.Core.Bool.{Bool, true, false, cond, ◌&&◌, ◌||◌, or-false, false≢true}
use mathlib.Core.List.{List, [], ◌∷◌, ◌++◌}
use native.Mathlib.Decide.{ℕ_discrete, dec_lt}
use native.Mathlib.Omega.{arith}
use lib.Dec.{eqb, leb, ltb}
use lib.ListN.{length, replicate}
use borrow.Author.Tests.{eqb-true, eqb-false, eq-eqb, ne_eqb, leb-true, leb-false, le-leb, lt-leb, ltb-true, ltb-false, lt-ltb, le-ltb}
use Rattle.model.specs.State.{writer_of, has_logged}
use Rattle.model.specs.declared.Writer.{Writer}
use Rattle.model.specs.Effects.{Given, store_effect}
use Rattle.model.specs.Questions.{writer_known, store_answer}
use Rattle.model.specs.Calls.{size_of, store_call}
use Rattle.model.specs.Book.{Entry, Commit, Task}
use Rattle.model.specs.History.{Change, begins, reserves, aborts, stores, commits, flushes, Call, opening, confirm, change, service, Event, call, crash, World, lent, ends, change_ends}
use Rattle.abstract_store.specs.Store.{Store, group_of_first, next_of, store_must_log, commit_must_log}
use Rattle.abstract_store.specs.Places.{Fate, held, kept, aborted, passed, settle_one, settle_all, enter, enter_call, enter_event, live, free, class_of, fate_on, class_at, same_class, many, lies_at, any_at, task_at, commit_at, is_held, is_kept, Accounted}
use Rattle.abstract_store.specs.Usage.{no_holder, holds_lower, holder_of}
use Rattle.model.specs.declared.Holder.{Holder}
use Rattle.model_laws.proofs.state.QuestionLaws.{store-ready}
use Rattle.model_laws.proofs.trace.Trace.{Ev, first_of, oldest_of}
use Rattle.model_laws.proofs.trace.TraceLaws.{All, Falling, Long}
use Rattle.abstract_store.proofs.PlaceCounts.{one_if, one-true, one-false, times, times_in, tally}
use Rattle.theorems.proofs.invariant.Invariant.{entry_for, entries_for, Matches}
use Rattle.theorems.proofs.steps.DoneLaws.{outcome-code}
use Rattle.theorems.proofs.places.PlaceLedgerLaws.{fate-past, any_append}

-- ---- the ledger names no writer but the eight

abbrev pub Known : Fate → Type 0
Known (held w) = w < 8
Known kept = Unit {0}
Known aborted = Unit {0}
Known passed = Unit {0}

known-one : (v : ℕ) (to f : Fate) → Known to → Known f → Known (settle_one v to f)
unfolding settle_one
known-one v to (held w) t k = go (eqb w v)
  where
    go : (d : Bool) → Known (cond d to (held w))
    go true = t
    go false = k
known-one v to kept t k = tt
known-one v to aborted t k = tt
known-one v to passed t k = tt

known-settle : (v : ℕ) (to : Fate) (fs : List Fate) → Known to → All Known fs → All Known (settle_all v to fs)
unfolding settle_all
known-settle v to [] t k = tt
known-settle v to (f ∷ fs) t k = (known-one v to f t k.0, known-settle v to fs t k.1)

known-passed : (n : ℕ) (fs : List Fate) → All Known fs → All Known (replicate n passed ++ fs)
known-passed zero fs k = k
known-passed (suc n) fs k = (tt, known-passed n fs k)

known-if : (d : Bool) (fs gs : List Fate) → All Known fs → All Known gs → All Known (cond d fs gs)
known-if true fs gs k l = k
known-if false fs gs k l = l

store-writer : (w : World) (v home : ℕ) (block batch : List ℕ) → (ends w (change (stores v home block batch))).code ≡ 0 → v < 8
unfolding ends change_ends store_call writer_known lent
store-writer w v home block batch h =
    let g : Given = lent w block batch v home in
    ltb-true v 8
    (store-ready g (size_of (store_effect g)) (sym (outcome-code g (store_answer g (size_of (store_effect g))) (store_effect g)) ∙ h)).writer

known-change : (s : Store) (w : World) (c : Change) (fs : List Fate) → (ends w (change c)).code ≡ 0 → All Known fs → All Known (enter s c fs)
unfolding enter
known-change s w (begins v) fs h k = k
known-change s w (reserves v m) fs h k = k
known-change s w (aborts v) fs h k = known-settle v aborted fs tt k
known-change s w (stores v home block batch) fs h k =
    known-if (store_must_log (s.book.tasks v) home) (held v ∷ fs) fs (store-writer w v home block batch h, k) k
known-change s w (commits v batch) fs h k =
    known-if (commit_must_log (s.book.tasks v)) (kept ∷ settle_all v kept fs) fs (tt, known-settle v kept fs tt k) k
known-change s w (flushes batch) fs h k =
    known-if (eqb s.book.filled 0) fs (replicate (7 - s.book.filled) passed ++ fs) k (known-passed (7 - s.book.filled) fs k)

known-call : (s : Store) (w : World) (c : Call) (fs : List Fate) → (ends w c).code ≡ 0 → All Known fs → All Known (enter_call s c fs)
unfolding enter_call
known-call s w (opening state newest batch) fs h k = tt
known-call s w confirm fs h k = k
known-call s w (change c) fs h k = known-change s w c fs h k
known-call s w (service c) fs h k = k

pub known-keeps : (s : Store) (w : World) (e : Event) (fs : List Fate) → All Known fs → All Known (enter_event s w e fs)
unfolding enter_event
known-keeps s w (call c) fs k = go (eqb (ends w c).code 0) refl
  where
    go : (d : Bool) → eqb (ends w c).code 0 ≡ d → All Known (cond d (enter_call s c fs) fs)
    go true e = known-call s w c fs (eqb-true (ends w c).code 0 e) k
    go false e = k
known-keeps s w (crash p chosen) fs k = tt

known_at : (base : ℕ) (fs : List Fate) (p : ℕ) → All Known fs → Known (fate_on base fs p)
unfolding fate_on
known_at base [] p k = tt
known_at base (f ∷ fs) p k = go (eqb p (base + length fs)) (known_at base fs p k.1)
  where
    go : (d : Bool) → Known (fate_on base fs p) → Known (cond d f (fate_on base fs p))
    go true h = k.0
    go false h = h

-- ---- a live place is that of a commit or of one of the eight writers

-- how many of the first n writers a fate, and a place by the book, belongs to
unfoldable pub held_under : Fate → ℕ → ℕ
held_under f zero = 0
held_under f (suc n) = held_under f n + one_if (is_held n f)

unfoldable pub open_at : ℕ → ℕ → (ℕ → Task) → ℕ → ℕ
open_at first p tasks zero = 0
open_at first p tasks (suc n) = open_at first p tasks n + one_if (task_at first p (tasks n))

held_by : (w n : ℕ) → held_under (held w) n ≡ one_if (ltb w n)
unfolding held_under is_held
held_by w zero = sym (ap one_if (le-ltb w 0 (omega arith)) ∙ one-false)
held_by w (suc n) = go (eqb w n) refl (held_by w n)
  where
    go : (d : Bool) → eqb w n ≡ d → held_under (held w) n ≡ one_if (ltb w n) → held_under (held w) n + one_if (eqb w n) ≡ one_if (ltb w (suc n))
    go true e ih =
        let q : w ≡ n = eqb-true w n e in
        omega (arith, ih, ap one_if (le-ltb w n (omega arith)), ap one_if e, ap one_if (lt-ltb w (suc n) (omega arith)), one-true, one-false)
    go false e ih = less (dec_lt w n) (eqb-false w n e)
      where
        less : Dec (w < n) → (w ≡ n → ⊥) → held_under (held w) n + one_if (eqb w n) ≡ one_if (ltb w (suc n))
        less (yes l) q = omega (arith, ih, ap one_if (lt-ltb w n l), ap one_if e, ap one_if (lt-ltb w (suc n) (omega arith)), one-true, one-false)
        less (no l) q = omega (arith, ih, ap one_if (le-ltb w n (omega arith)), ap one_if e, ap one_if (le-ltb w (suc n) (omega arith)), one-false)

held_none : (f : Fate) → ((v : ℕ) → is_held v f ≡ false) → (n : ℕ) → held_under f n ≡ 0
unfolding held_under
held_none f h zero = refl
held_none f h (suc n) = omega (arith, held_none f h n, ap one_if (h n), one-false)

live-fate : (f : Fate) → Known f → one_if (same_class live (class_of f)) ≡ one_if (is_kept f) + held_under f 8
unfolding same_class class_of is_kept
live-fate (held w) k = omega (arith, one-true, one-false, held_by w 8, ap one_if (lt-ltb w 8 k))
live-fate kept k = omega (arith, held_none kept (λ v. unfold is_held in refl) 8)
live-fate aborted k = omega (arith, one-false, held_none aborted (λ v. unfold is_held in refl) 8)
live-fate passed k = omega (arith, one-false, held_none passed (λ v. unfold is_held in refl) 8)

held-open : (first p : ℕ) (tasks : ℕ → Task) (f : Fate) → ((v : ℕ) → v < 8 → is_held v f ≡ task_at first p (tasks v)) → (n : ℕ) → n ≤ 8
    → held_under f n ≡ open_at first p tasks n
unfolding held_under open_at
held-open first p tasks f h zero l = refl
held-open first p tasks f h (suc n) l = rw (held-open first p tasks f h n (omega arith), h n (omega arith))

module _ (s : Store) (fs : List Fate) (a : Accounted s fs) (k : All Known fs) where
  abbrev at : ℕ → Fate
  at p = fate_on (7 * group_of_first s) fs p

  by-book : (p : ℕ) → one_if (is_kept (at p)) + held_under (at p) 8
      ≡ one_if (commit_at (group_of_first s) p s.book.commits) + open_at (group_of_first s) p s.book.tasks 8
  by-book p =
      omega (arith, ap one_if (a.keeps p), held-open (group_of_first s) p s.book.tasks (at p) (λ v l. a.holds v p l) 8 (omega arith))

  place-live : (p : ℕ) → one_if (same_class live (class_at s fs p))
      ≡ one_if (commit_at (group_of_first s) p s.book.commits) + open_at (group_of_first s) p s.book.tasks 8
  unfolding class_at
  place-live p = go (leb (next_of s) p) refl ∙ by-book p
    where
      unused : at p ≡ passed → one_if (same_class live free) ≡ one_if (is_kept (at p)) + held_under (at p) 8
      unused e =
          let q : same_class live free ≡ same_class live (class_of passed) = unfold same_class class_of in refl in
          ap one_if q ∙ live-fate passed tt ∙ ap (λ (f : Fate). one_if (is_kept f) + held_under f 8) (sym e)

      go : (d : Bool) → leb (next_of s) p ≡ d → one_if (same_class live (cond d free (class_of (at p)))) ≡ one_if (is_kept (at p)) + held_under (at p) 8
      go true e = unused (fate-past (7 * group_of_first s) fs p (omega (arith, a.used, leb-true (next_of s) p e)))
      go false e = live-fate (at p) (known_at (7 * group_of_first s) fs p k)

  one-cond : (b : Bool) → cond b 1 0 ≡ one_if b
  unfolding one_if
  one-cond true = refl
  one-cond false = refl

  pub many-live : (x n : ℕ) → many s fs live x n
      ≡ tally (λ p. one_if (commit_at (group_of_first s) p s.book.commits) + open_at (group_of_first s) p s.book.tasks 8) x n
  unfolding many tally
  many-live x zero = refl
  many-live x (suc n) = omega (arith, many-live x n, one-cond (same_class live (class_at s fs (x + n))), place-live (x + n))

-- ---- the book's entries at a position are the trace's

pub one-leb : (n : ℕ) → n ≤ 1 → one_if (leb 1 n) ≡ n
one-leb n l = go (leb 1 n) refl
  where
    go : (d : Bool) → leb 1 n ≡ d → one_if d ≡ n
    go true e = omega (arith, one-true, leb-true 1 n e)
    go false e = omega (arith, one-false, leb-false 1 n e)

or-sum : (m n : ℕ) → (leb 1 m || leb 1 n) ≡ leb 1 (m + n)
or-sum m n = go (leb 1 m) refl
  where
    go : (d : Bool) → leb 1 m ≡ d → (d || leb 1 n) ≡ leb 1 (m + n)
    go true e = sym (le-leb 1 (m + n) (omega (arith, leb-true 1 m e)))
    go false e = let q : n ≡ m + n = omega (arith, leb-false 1 m e) in ap (leb 1) q

one-or : (b : Bool) → leb 1 (one_if b) ≡ b
one-or true = ap (leb 1) one-true ∙ le-leb 1 1 (omega arith)
one-or false = ap (leb 1) one-false ∙ lt-leb 1 0 (omega arith)

entry-lies : (b p : ℕ) (tr : List Ev) (q : ℕ) → 7 * b ≤ q → any_at b p (entry_for b tr q ∷ []) ≡ eqb q p
unfolding entry_for any_at lies_at
entry-lies b p tr q l = let e : 7 * (b + (q / 7 - b)) + q % 7 ≡ q = omega arith in or-false _ ∙ ap (λ (x : ℕ). eqb x p) e

pub any-times : (b p high : ℕ) (tr : List Ev) (ps : List ℕ) → Falling (7 * b) high ps → any_at b p (entries_for b tr ps) ≡ leb 1 (times p ps)
unfolding entries_for times
any-times b p high tr [] f = (unfold any_at in sym (lt-leb 1 0 (omega arith)))
any-times b p high tr (q ∷ qs) f =
    let e : times p qs + one_if (eqb q p) ≡ one_if (eqb q p) + times p qs = omega arith in
    any_append b p (entries_for b tr qs) (entry_for b tr q ∷ [])
    ∙ rw (any-times b p q tr qs f.2, entry-lies b p tr q f.0)
    (ap (λ (d : Bool). leb 1 (times p qs) || d) (sym (one-or (eqb q p))) ∙ or-sum (times p qs) (one_if (eqb q p))
    ∙ ap (leb 1) e)

pub commit-times : (b p high : ℕ) (tr : List Ev) (cs : List Commit) (ts : List (List ℕ)) → Matches b tr cs ts → All (Falling (7 * b) high) ts
    → commit_at b p cs ≡ leb 1 (times_in p ts)
unfolding commit_at times_in
commit-times b p high tr [] [] m f = sym (lt-leb 1 0 (omega arith))
commit-times b p high tr [] (t ∷ ts) m f = absurd m
commit-times b p high tr (c ∷ cs) [] m f = absurd m
commit-times b p high tr (c ∷ cs) (t ∷ ts) m f =
    ap (λ (es : List Entry). any_at b p es || commit_at b p cs) m.0
    ∙ rw (any-times b p high tr t f.0, commit-times b p high tr cs ts m.2 f.1) (or-sum (times p t) (times_in p ts))

-- the lowest position of a transaction is in it, and no other lies below
pub times-oldest : (low high : ℕ) (ps : List ℕ) → Falling low high ps → Long ps → 1 ≤ times (oldest_of ps) ps
unfolding oldest_of first_of times
times-oldest low high [] f l = absurd l
times-oldest low high (p ∷ []) f l = omega (arith, ap one_if (eq-eqb p p refl), one-true)
times-oldest low high (p ∷ q ∷ ps) f l = omega (arith, times-oldest low p (q ∷ ps) f.2 tt)

pub times-from : (low high p : ℕ) (ps : List ℕ) → Falling low high ps → 1 ≤ times p ps → low ≤ p
unfolding times
times-from low high p [] f h = absurd (omega arith)
times-from low high p (q ∷ qs) f h = go (eqb q p) refl (times-from low q p qs f.2)
  where
    go : (d : Bool) → eqb q p ≡ d → (1 ≤ times p qs → low ≤ p) → low ≤ p
    go true e ih = omega (arith, f.0, eqb-true q p e)
    go false e ih = ih (omega (arith, ap one_if e, one-false))

-- ---- the holder

-- that of the first n writers, by the strip
pub record Holds (s : List ℕ) (n : ℕ) (h : Holder) : Type 0 where
  pub known : h.writer ≤ 8
  pub nobody : h.writer ≡ 8 → (v : ℕ) → v < n → has_logged (writer_of s v) ≡ false
  pub logs : h.writer < 8 → has_logged (writer_of s h.writer) ≡ true
  pub place : h.writer < 8 → h.first ≡ (writer_of s h.writer).first
  pub lowest : h.writer < 8 → (v : ℕ) → v < n → has_logged (writer_of s v) ≡ true → h.first ≤ (writer_of s v).first

module _ (s : List ℕ) (n : ℕ) (h : Holder) (o : Holds s n h) where
  abbrev r : Writer
  r = writer_of s n

  -- the next writer is not lower
  stays : holds_lower r h ≡ false → Holds s (suc n) h
  unfolding holds_lower
  stays e =
      record {
        known = o.known;
        nobody = λ q v l. next (λ x. has_logged (writer_of s x) ≡ false) v l (o.nobody q v) (idle (has_logged r) (eqb h.writer 8) refl (eq-eqb h.writer 8 q) e);
        logs = o.logs;
        place = o.place;
        lowest = λ q v l g. next (λ x. has_logged (writer_of s x) ≡ true → h.first ≤ (writer_of s x).first) v l (λ m k. o.lowest q v m k) (above q) g;
      }
    where
      next : (P : ℕ → Type 0) (v : ℕ) → v < suc n → (v < n → P v) → P n → P v
      next P v l f g = go (dec_lt v n)
        where
          go : Dec (v < n) → P v
          go (yes m) = f m
          go (no m) = subst P (omega arith) g

      idle : (a b : Bool) → has_logged r ≡ a → b ≡ true → (a && (b || ltb r.first h.first)) ≡ false → a ≡ false
      idle true true i j k = absurd (false≢true (sym k))
      idle true false i j k = absurd (false≢true j)
      idle false b i j k = refl

      above : h.writer < 8 → has_logged r ≡ true → h.first ≤ r.first
      above q g = go (has_logged r) (eqb h.writer 8) g (ne_eqb h.writer 8 (λ x. omega arith)) e
        where
          go : (a b : Bool) → a ≡ true → b ≡ false → (a && (b || ltb r.first h.first)) ≡ false → h.first ≤ r.first
          go true true i j k = absurd (false≢true (sym j))
          go true false i j k = ltb-false r.first h.first k
          go false b i j k = absurd (false≢true i)

  -- the next writer is lower
  moves : n < 8 → holds_lower r h ≡ true → Holds s (suc n) (record { writer = n; first = r.first })
  unfolding holds_lower
  moves m e =
      record {
        known = omega arith;
        nobody = λ q. absurd (omega arith);
        logs = λ q. open-now (has_logged r) (eqb h.writer 8 || ltb r.first h.first) e;
        place = λ q. refl;
        lowest = λ q v l g. go v l g (dec_lt v n);
      }
    where
      open-now : (a b : Bool) → (a && b) ≡ true → a ≡ true
      open-now true b k = refl
      open-now false b k = k

      under : (a b : Bool) → (a && (b || ltb r.first h.first)) ≡ true → b ≡ false → r.first < h.first
      under true true k j = absurd (false≢true (sym j))
      under true false k j = ltb-true r.first h.first k
      under false b k j = absurd (false≢true k)

      older : (v : ℕ) → v < n → has_logged (writer_of s v) ≡ true → Dec (h.writer ≡ 8) → r.first ≤ (writer_of s v).first
      older v l g (yes q) = absurd (false≢true (sym (o.nobody q v l) ∙ g))
      older v l g (no q) =
          let u = under (has_logged r) (eqb h.writer 8) e (ne_eqb h.writer 8 q) in
          omega (arith, o.lowest (omega (arith, o.known)) v l g)

      go : (v : ℕ) → v < suc n → has_logged (writer_of s v) ≡ true → Dec (v < n) → r.first ≤ (writer_of s v).first
      go v l g (yes i) = older v i g (ℕ_discrete h.writer 8)
      go v l g (no i) = let q : v ≡ n = omega arith in rw q (omega arith)

pub holder-holds : (s : List ℕ) (n : ℕ) → n ≤ 8 → Holds s n (holder_of s n)
unfolding holder_of
holder-holds s zero l =
    unfold no_holder in
    record { known = omega arith; nobody = λ q v m. absurd (omega arith); logs = λ q. absurd (omega arith); place = λ q. absurd (omega arith); lowest = λ q v m. absurd (omega arith) }
holder-holds s (suc n) l = go (holds_lower (writer_of s n) (holder_of s n)) refl (holder-holds s n (omega arith))
  where
    go : (d : Bool) → holds_lower (writer_of s n) (holder_of s n) ≡ d → Holds s n (holder_of s n)
        → Holds s (suc n) (cond d (record { writer = n; first = (writer_of s n).first }) (holder_of s n))
    go true e h = moves s n (holder_of s n) h (omega arith) e
    go false e h = stays s n (holder_of s n) h e
