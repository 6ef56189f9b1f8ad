-- The ledger of places agrees with the book, and goes on agreeing with it call by call. Assumes nothing.
use Prim.Native.Nat.{ℕ, suc, ◌+◌, ◌-◌, ◌*◌, ◌≤◌, ◌<◌}
use mathlib.Core.Path.{◌≡◌, refl, sym, ap, ◌∙◌, subst}
use mathlib.Core.Bool.{Bool, true, false, cond, not, ◌||◌, or-false, false≢true}
use mathlib.Core.List.{List, [], ◌∷◌, ◌++◌}
use mathlib.Core.Option.{Option, none, some}
use native.Mathlib.Omega.{arith}
use lib.Dec.{eqb}
use lib.ListN.{length, replicate}
use borrow.Author.Tests.{eqb-true, eqb-false, eq-eqb, ne_eqb}
use Rattle.model.specs.Book.{Entry, Commit, Held, Task, idle, opened, Book, set_task, with_task, begin, abort, entry_of, submit, grown, filled_up, hold, store_task, store, add_commit, commit_task, commit, flush, owed_by, all_owed, with_commits}
use Rattle.abstract_store.specs.Store.{is_idle, store_must_log, commit_must_log}
use Rattle.abstract_store.specs.Places.{Fate, held, kept, aborted, passed, settle_one, settle_all, fate_on, lies_at, any_at, task_at, commit_at, is_held, is_kept}
use Rattle.theorems.proofs.places.PlaceLedgerLaws.{fate-past, length-settle, fate-settle, length-passed, fate-passed, push-held, push_kept, held-other, held-own, kept-aborted, kept-kept, any_append, commits-append, owed-at, owed-all-at, old-at}
use Rattle.theorems.proofs.invariant.Invariant.{OldCommits}

-- a transaction that holds nothing has logged nothing
abbrev pub Fresh : Task → Type 0
Fresh idle = Unit {0}
Fresh (opened es none) = es ≡ []
Fresh (opened es (some h)) = Unit {0}

-- the ledger and the book; row 0 is group `first`
pub record Led (first : ℕ) (b : Book) (fs : List Fate) : Type 0 where
  pub used : 7 * (first + b.rows) + b.filled ≡ 7 * first + length fs
  pub fresh : (v : ℕ) → v < 8 → Fresh (b.tasks v)
  pub holds : (v p : ℕ) → v < 8 → is_held v (fate_on (7 * first) fs p) ≡ task_at first p (b.tasks v)
  pub keeps : (p : ℕ) → is_kept (fate_on (7 * first) fs p) ≡ commit_at first p b.commits

-- by whether a writer is the one
by-writer : (P : ℕ → Task → Type 0) (tasks : ℕ → Task) (v : ℕ) (t : Task) (u : ℕ) → P v t → ((u ≡ v → ⊥) → P u (tasks u)) → P u (set_task tasks v t u)
unfolding set_task
by-writer P tasks v t u h k = go (eqb v u) refl
  where
    go : (d : Bool) → eqb v u ≡ d → P u (cond d t (tasks u))
    go true e = subst (λ (x : ℕ). P x t) (eqb-true v u e) h
    go false e = k (λ q. eqb-false v u e (sym q))

-- the next position is not in the ledger
next-free : (first : ℕ) (b : Book) (fs : List Fate) (u : ℕ) → Led first b fs → u < 8 → task_at first (7 * first + length fs) (b.tasks u) ≡ false
unfolding is_held
next-free first b fs u l h =
    sym (l.holds u (7 * first + length fs) h) ∙ ap (is_held u) (fate-past (7 * first) fs (7 * first + length fs) (omega arith))

next-unkept : (first : ℕ) (b : Book) (fs : List Fate) → Led first b fs → commit_at first (7 * first + length fs) b.commits ≡ false
unfolding is_kept
next-unkept first b fs l =
    sym (l.keeps (7 * first + length fs)) ∙ ap is_kept (fate-past (7 * first) fs (7 * first + length fs) (omega arith))

-- ---- a task that changes and keeps its entries

task-led : (first : ℕ) (b : Book) (fs : List Fate) (v : ℕ) (t : Task) → Led first b fs → ((p : ℕ) → v < 8 → task_at first p (b.tasks v) ≡ task_at first p t)
    → Fresh t → Led first (with_task b v t) fs
unfolding with_task
task-led first b fs v t l e f =
    record {
      used = l.used;
      fresh = λ u h. by-writer (λ x y. Fresh y) b.tasks v t u f (λ n. l.fresh u h);
      holds = λ u p h.
          by-writer (λ x y. x < 8 → is_held x (fate_on (7 * first) fs p) ≡ task_at first p y) b.tasks v t u
          (λ i. l.holds v p i ∙ e p i) (λ n i. l.holds u p i) h;
      keeps = l.keeps;
    }

pub begin-led : (first : ℕ) (b : Book) (fs : List Fate) (v : ℕ) → Led first b fs → is_idle (b.tasks v) ≡ true → Led first (begin b v) fs
unfolding begin
begin-led first b fs v l h = task-led first b fs v (opened [] none) l (λ p i. idle-at (b.tasks v) h p) refl
  where
    idle-at : (t : Task) → is_idle t ≡ true → (p : ℕ) → task_at first p t ≡ task_at first p (opened [] none)
    idle-at idle e p = unfold task_at any_at in refl
    idle-at (opened es x) e p = absurd (false≢true (unfold is_idle in e))

-- ---- abort

pub abort-led : (first : ℕ) (b : Book) (fs : List Fate) (v : ℕ) → Led first b fs → Led first (abort b v) (settle_all v aborted fs)
unfolding abort with_task
abort-led first b fs v l =
    record {
      used = l.used ∙ ap (λ (n : ℕ). 7 * first + n) (sym (length-settle v aborted fs));
      fresh = λ u h. by-writer (λ x y. Fresh y) b.tasks v idle u tt (λ n. l.fresh u h);
      holds = λ u p h.
          ap (is_held u) (fate-settle (7 * first) v aborted fs p)
          ∙ by-writer (λ x y. is_held x (settle_one v aborted (fate_on (7 * first) fs p)) ≡ task_at first p y) b.tasks v idle u
          (held-own v aborted (fate_on (7 * first) fs p) (unfold is_held in refl) ∙ (unfold task_at in refl))
          (λ n. held-other u v aborted (fate_on (7 * first) fs p) n (unfold is_held in refl) ∙ l.holds u p h);
      keeps = λ p. ap is_kept (fate-settle (7 * first) v aborted fs p) ∙ kept-aborted v (fate_on (7 * first) fs p) ∙ l.keeps p;
    }

-- ---- one more place

next_up : (first : ℕ) (b : Book) → 7 * (first + (filled_up b).rows) + (filled_up b).filled ≡ suc (7 * (first + b.rows) + b.filled)
unfolding filled_up submit grown
next_up first b = go (eqb b.filled 6) refl
  where
    go : (d : Bool) → eqb b.filled 6 ≡ d → 7 * (first + (cond d (submit b) (grown b)).rows) + (cond d (submit b) (grown b)).filled ≡ suc (7 * (first + b.rows) + b.filled)
    go true e = omega (arith, eqb-true b.filled 6 e)
    go false e = omega arith

up-tasks : (b : Book) → (filled_up b).tasks ≡ b.tasks
unfolding filled_up submit grown
up-tasks b = go (eqb b.filled 6)
  where
    go : (d : Bool) → (cond d (submit b) (grown b)).tasks ≡ b.tasks
    go true = refl
    go false = refl

up-commits : (b : Book) → (filled_up b).commits ≡ b.commits
unfolding filled_up submit grown
up-commits b = go (eqb b.filled 6)
  where
    go : (d : Bool) → (cond d (submit b) (grown b)).commits ≡ b.commits
    go true = refl
    go false = refl

one_at : (first : ℕ) (b : Book) (h : Held) (p : ℕ) → any_at first p (entry_of b h ∷ []) ≡ eqb (7 * (first + b.rows) + b.filled) p
unfolding entry_of any_at lies_at
one_at first b h p = or-false (eqb (7 * (first + b.rows) + b.filled) p)

held-self : (v : ℕ) → is_held v (held v) ≡ true
unfolding is_held
held-self v = eq-eqb v v refl

held-not : (u v : ℕ) → (u ≡ v → ⊥) → is_held u (held v) ≡ false
unfolding is_held
held-not u v n = ne_eqb v u (λ q. n (sym q))

kept-held : (v : ℕ) → is_kept (held v) ≡ false
unfolding is_kept
kept-held v = refl

task-opened : (first p : ℕ) (es : List Entry) (x : Option Held) → task_at first p (opened es x) ≡ any_at first p es
unfolding task_at
task-opened first p es x = refl

-- the entry that a held block becomes lies at the next position
entry_at : (first : ℕ) (b : Book) (fs : List Fate) (h : Held) (es : List Entry) (p : ℕ) → Led first b fs
    → any_at first p (es ++ (entry_of b h ∷ [])) ≡ (any_at first p es || eqb (7 * first + length fs) p)
entry_at first b fs h es p l =
    any_append first p es (entry_of b h ∷ [])
    ∙ ap (λ (x : Bool). any_at first p es || x) (one_at first b h p ∙ ap (λ (n : ℕ). eqb n p) l.used)

swap : (a b : ℕ) → eqb a b ≡ eqb b a
swap a b = go (eqb b a) refl
  where
    go : (d : Bool) → eqb b a ≡ d → eqb a b ≡ d
    go true e = eq-eqb a b (sym (eqb-true b a e))
    go false e = ne_eqb a b (λ q. eqb-false b a e (sym q))

-- at the next position an entry, elsewhere what was there
either-or : (d x : Bool) → (d ≡ true → x ≡ false) → cond d true x ≡ (x || d)
either-or true x h = rw (h refl)
either-or false x h = sym (or-false x)

neither : (d x : Bool) → (d ≡ true → x ≡ false) → cond d false x ≡ x
neither true x h = sym (h refl)
neither false x h = refl

pub push-led : (first : ℕ) (b : Book) (fs : List Fate) (v : ℕ) (es : List Entry) (h g : Held) → Led first b fs → v < 8
    → b.tasks v ≡ opened es (some h) → Led first (with_task (filled_up b) v (opened (es ++ (entry_of b h ∷ [])) (some g))) (held v ∷ fs)
unfolding with_task
push-led first b fs v es h g l i e =
    record {
      used = next_up first b ∙ omega (arith, l.used);
      fresh = λ u k. by-writer (λ x y. Fresh y) (filled_up b).tasks v (opened (es ++ (entry_of b h ∷ [])) (some g)) u tt (λ n. rw (up-tasks b) (l.fresh u k));
      holds = λ u p k.
          push-held (7 * first) fs (held v) u p
          ∙ by-writer (λ x y. x < 8 → cond (eqb p (7 * first + length fs)) (is_held x (held v)) (is_held x (fate_on (7 * first) fs p)) ≡ task_at first p y) (filled_up b).tasks v
          (opened (es ++ (entry_of b h ∷ [])) (some g)) u (λ m. own p) (λ n m. rw (up-tasks b) (other u p n m)) k;
      keeps = λ p. push_kept (7 * first) fs (held v) p ∙ rw (up-commits b) (unkept p);
    }
  where
    here : (u p : ℕ) → u < 8 → eqb p (7 * first + length fs) ≡ true → is_held u (fate_on (7 * first) fs p) ≡ false
    here u p m q =
        l.holds u p m ∙ ap (λ (x : ℕ). task_at first x (b.tasks u)) (eqb-true p (7 * first + length fs) q) ∙ next-free first b fs u l m

    own : (p : ℕ) → cond (eqb p (7 * first + length fs)) (is_held v (held v)) (is_held v (fate_on (7 * first) fs p)) ≡ task_at first p (opened (es ++ (entry_of b h ∷ [])) (some g))
    own p =
        ap (λ (x : Bool). cond (eqb p (7 * first + length fs)) x (is_held v (fate_on (7 * first) fs p))) (held-self v)
        ∙ either-or (eqb p (7 * first + length fs)) (is_held v (fate_on (7 * first) fs p)) (here v p i)
        ∙ ap (λ (x : Bool). x || eqb p (7 * first + length fs)) (l.holds v p i ∙ ap (task_at first p) e ∙ task-opened first p es (some h))
        ∙ ap (λ (x : Bool). any_at first p es || x) (swap p (7 * first + length fs))
        ∙ sym (task-opened first p (es ++ (entry_of b h ∷ [])) (some g) ∙ entry_at first b fs h es p l)

    other : (u p : ℕ) → (u ≡ v → ⊥) → u < 8 → cond (eqb p (7 * first + length fs)) (is_held u (held v)) (is_held u (fate_on (7 * first) fs p)) ≡ task_at first p (b.tasks u)
    other u p n m =
        ap (λ (x : Bool). cond (eqb p (7 * first + length fs)) x (is_held u (fate_on (7 * first) fs p))) (held-not u v n)
        ∙ neither (eqb p (7 * first + length fs)) (is_held u (fate_on (7 * first) fs p)) (here u p m) ∙ l.holds u p m

    unkept : (p : ℕ) → cond (eqb p (7 * first + length fs)) (is_kept (held v)) (is_kept (fate_on (7 * first) fs p)) ≡ commit_at first p b.commits
    unkept p =
        ap (λ (x : Bool). cond (eqb p (7 * first + length fs)) x (is_kept (fate_on (7 * first) fs p))) (kept-held v)
        ∙ neither (eqb p (7 * first + length fs)) (is_kept (fate_on (7 * first) fs p))
        (λ q. l.keeps p ∙ ap (λ (x : ℕ). commit_at first x b.commits) (eqb-true p (7 * first + length fs) q) ∙ next-unkept first b fs l)
        ∙ l.keeps p

-- ---- store

pub store-led : (first : ℕ) (b : Book) (fs : List Fate) (v home : ℕ) (block : List ℕ) → Led first b fs → v < 8
    → Led first (store b v home block) (cond (store_must_log (b.tasks v) home) (held v ∷ fs) fs)
unfolding store
store-led first b fs v home block l i = go (b.tasks v) refl
  where
    go : (t : Task) → b.tasks v ≡ t → Led first (store_task b v home block t) (cond (store_must_log t home) (held v ∷ fs) fs)
    go idle e = unfold store_task store_must_log in l
    go (opened es none) e =
        unfold store_task store_must_log hold in
        task-led first b fs v (opened es (some (record { home = home; block = block }))) l (λ p m. ap (task_at first p) e ∙ task-opened first p es none ∙ sym (task-opened first p es (some (record { home = home; block = block })))) tt
    go (opened es (some h)) e = unfold store_task store_must_log hold in same (eqb h.home home)
      where
        same : (d : Bool)
            → Led first
            (cond d (with_task b v (opened es (some (record { home = home; block = block }))))
            (with_task (filled_up b) v (opened (es ++ (entry_of b h ∷ [])) (some (record { home = home; block = block })))))
            (cond (not d) (held v ∷ fs) fs)
        same true = task-led first b fs v (opened es (some (record { home = home; block = block }))) l (λ p m. ap (task_at first p) e ∙ task-opened first p es (some h) ∙ sym (task-opened first p es (some (record { home = home; block = block })))) tt
        same false = push-led first b fs v es h (record { home = home; block = block }) l i e

-- ---- commit

module _ (first : ℕ) (b : Book) (fs : List Fate) (v : ℕ) (es : List Entry) (h : Held) (ticket : ℕ) (l : Led first b fs) (i : v < 8)
    (e : b.tasks v ≡ opened es (some h)) where
  abbrev new : Commit
  new = record { entries = es ++ (entry_of b h ∷ []); ticket = ticket; owed = false }

  abbrev here : ℕ
  here = 7 * first + length fs

  own_at : (p : ℕ) → is_held v (fate_on (7 * first) fs p) ≡ any_at first p es
  own_at p = l.holds v p i ∙ ap (task_at first p) e ∙ task-opened first p es (some h)

  new-at : (p : ℕ) → commit_at first p (new ∷ []) ≡ (any_at first p es || eqb here p)
  unfolding commit_at
  new-at p = or-false (any_at first p (es ++ (entry_of b h ∷ []))) ∙ entry_at first b fs h es p l

  unused : (u p : ℕ) → u < 8 → eqb p here ≡ true → is_held u (fate_on (7 * first) fs p) ≡ false
  unused u p m q = l.holds u p m ∙ ap (λ (x : ℕ). task_at first x (b.tasks u)) (eqb-true p here q) ∙ next-free first b fs u l m

  shut : (u p : ℕ) → is_held u (fate_on (7 * first) (kept ∷ settle_all v kept fs) p)
      ≡ cond (eqb p here) (is_held u kept) (is_held u (settle_one v kept (fate_on (7 * first) fs p)))
  shut u p =
      push-held (7 * first) (settle_all v kept fs) kept u p
      ∙ ap (λ (n : ℕ). cond (eqb p (7 * first + n)) (is_held u kept) (is_held u (fate_on (7 * first) (settle_all v kept fs) p))) (length-settle v kept fs)
      ∙ ap (λ (f : Fate). cond (eqb p here) (is_held u kept) (is_held u f)) (fate-settle (7 * first) v kept fs p)

  none-held : (u : ℕ) → is_held u kept ≡ false
  unfolding is_held
  none-held u = refl

  both_false : (d x : Bool) → x ≡ false → cond d false x ≡ false
  both_false true x q = refl
  both_false false x q = q

  shut-own : (p : ℕ) → cond (eqb p here) (is_held v kept) (is_held v (settle_one v kept (fate_on (7 * first) fs p))) ≡ task_at first p idle
  unfolding task_at
  shut-own p =
      ap (λ (x : Bool). cond (eqb p here) x (is_held v (settle_one v kept (fate_on (7 * first) fs p)))) (none-held v)
      ∙ both_false (eqb p here) (is_held v (settle_one v kept (fate_on (7 * first) fs p))) (held-own v kept (fate_on (7 * first) fs p) (none-held v))

  shut-other : (u p : ℕ) → (u ≡ v → ⊥) → u < 8
      → cond (eqb p here) (is_held u kept) (is_held u (settle_one v kept (fate_on (7 * first) fs p))) ≡ task_at first p (b.tasks u)
  shut-other u p n m =
      ap (λ (x : Bool). cond (eqb p here) x (is_held u (settle_one v kept (fate_on (7 * first) fs p)))) (none-held u)
      ∙ ap (λ (x : Bool). cond (eqb p here) false x) (held-other u v kept (fate_on (7 * first) fs p) n (none-held u))
      ∙ neither (eqb p here) (is_held u (fate_on (7 * first) fs p)) (unused u p m) ∙ l.holds u p m

  kept-yes : is_kept kept ≡ true
  unfolding is_kept
  kept-yes = refl

  all-or : (d k x : Bool) → (d ≡ true → (k ≡ false) × (x ≡ false)) → cond d true (k || x) ≡ (k || (x || d))
  all-or true k x q = let z = q refl in rw (z.0, z.1)
  all-or false k x q = ap (λ (y : Bool). k || y) (sym (or-false x))

  shut-kept : (p : ℕ) → is_kept (fate_on (7 * first) (kept ∷ settle_all v kept fs) p) ≡ commit_at first p (b.commits ++ (new ∷ []))
  shut-kept p =
      push_kept (7 * first) (settle_all v kept fs) kept p
      ∙ ap (λ (n : ℕ). cond (eqb p (7 * first + n)) (is_kept kept) (is_kept (fate_on (7 * first) (settle_all v kept fs) p))) (length-settle v kept fs)
      ∙ ap (λ (f : Fate). cond (eqb p here) (is_kept kept) (is_kept f)) (fate-settle (7 * first) v kept fs p)
      ∙ ap (λ (x : Bool). cond (eqb p here) x (is_kept (settle_one v kept (fate_on (7 * first) fs p)))) kept-yes
      ∙ ap (λ (x : Bool). cond (eqb p here) true x) (kept-kept v (fate_on (7 * first) fs p))
      ∙ all-or (eqb p here) (is_kept (fate_on (7 * first) fs p)) (is_held v (fate_on (7 * first) fs p))
      (λ q. (l.keeps p ∙ ap (λ (x : ℕ). commit_at first x b.commits) (eqb-true p here q) ∙ next-unkept first b fs l, unused v p i q))
      ∙ ap (λ (x : Bool). x || (is_held v (fate_on (7 * first) fs p) || eqb p here)) (l.keeps p)
      ∙ ap (λ (x : Bool). commit_at first p b.commits || (x || eqb p here)) (own_at p)
      ∙ ap (λ (x : Bool). commit_at first p b.commits || (any_at first p es || x)) (swap p here)
      ∙ sym (commits-append first p b.commits (new ∷ []) ∙ ap (λ (x : Bool). commit_at first p b.commits || x) (new-at p))

  close-led : Led first (with_task (add_commit (filled_up b) new) v idle) (kept ∷ settle_all v kept fs)
  unfolding with_task add_commit
  close-led =
      record {
        used = next_up first b ∙ omega (arith, l.used, length-settle v kept fs);
        fresh = λ u k. by-writer (λ x y. Fresh y) (filled_up b).tasks v idle u tt (λ n. rw (up-tasks b) (l.fresh u k));
        holds = λ u p k.
            shut u p
            ∙ by-writer (λ x y. x < 8 → cond (eqb p here) (is_held x kept) (is_held x (settle_one v kept (fate_on (7 * first) fs p))) ≡ task_at first p y)
            (filled_up b).tasks v idle u (λ m. shut-own p) (λ n m. rw (up-tasks b) (shut-other u p n m)) k;
        keeps = λ p. rw (up-commits b) (shut-kept p);
      }

none-logged : (first : ℕ) (b : Book) (fs : List Fate) (v : ℕ) (es : List Entry) → Led first b fs → v < 8 → b.tasks v ≡ opened es none → (p : ℕ)
    → task_at first p (b.tasks v) ≡ task_at first p idle
unfolding task_at any_at
none-logged first b fs v es l i e p =
    let f : es ≡ [] = subst Fresh e (l.fresh v i) in
    ap (task_at first p) e ∙ ap (any_at first p) f

pub commit-led : (first : ℕ) (b : Book) (fs : List Fate) (v ticket : ℕ) → Led first b fs → v < 8
    → Led first (commit b v ticket) (cond (commit_must_log (b.tasks v)) (kept ∷ settle_all v kept fs) fs)
unfolding commit
commit-led first b fs v ticket l i = go (b.tasks v) refl
  where
    go : (t : Task) → b.tasks v ≡ t → Led first (commit_task b v ticket t) (cond (commit_must_log t) (kept ∷ settle_all v kept fs) fs)
    go idle e = unfold commit_task commit_must_log in l
    go (opened es none) e =
        unfold commit_task commit_must_log in task-led first b fs v idle l (λ p m. none-logged first b fs v es l i e p) tt
    go (opened es (some h)) e = unfold commit_task commit_must_log in close-led first b fs v es h ticket l i e

-- ---- flush, confirm, an opening

pub flush-led : (first : ℕ) (b : Book) (fs : List Fate) → b.filled ≤ 6 → Led first b fs
    → Led first (flush b) (cond (eqb b.filled 0) fs (replicate (7 - b.filled) passed ++ fs))
unfolding flush
flush-led first b fs m l = go (eqb b.filled 0)
  where
    handed : Led first (submit b) (replicate (7 - b.filled) passed ++ fs)
    handed =
        unfold submit in
        record {
          used = omega (arith, l.used, length-passed (7 - b.filled) fs);
          fresh = l.fresh;
          holds = λ u p h. ap (is_held u) (fate-passed (7 * first) (7 - b.filled) fs p) ∙ l.holds u p h;
          keeps = λ p. ap is_kept (fate-passed (7 * first) (7 - b.filled) fs p) ∙ l.keeps p;
        }

    go : (d : Bool) → Led first (cond d b (submit b)) (cond d fs (replicate (7 - b.filled) passed ++ fs))
    go true = l
    go false = handed

pub confirm-led : (first : ℕ) (b : Book) (fs : List Fate) (mark : ℕ) → Led first b fs → Led first (with_commits b (owed_by mark b.commits)) fs
unfolding with_commits
confirm-led first b fs mark l =
    record { used = l.used; fresh = l.fresh; holds = l.holds; keeps = λ p. l.keeps p ∙ sym (owed-at first p mark b.commits) }

pub opened-led : (D first : ℕ) (b : Book) → b.rows ≡ 0 → b.filled ≡ 0 → ((v : ℕ) → b.tasks v ≡ idle) → OldCommits D b.commits
    → Led first (with_commits b (all_owed b.commits)) []
unfolding with_commits fate_on
opened-led D first b r f t o =
    record {
      used = omega (arith, r, f);
      fresh = λ v h. subst Fresh (sym (t v)) tt;
      holds = λ v p h. (unfold is_held task_at in sym (ap (task_at first p) (t v)));
      keeps = λ p. (unfold is_kept in sym (owed-all-at first p b.commits ∙ old-at D first p b.commits o));
    }
