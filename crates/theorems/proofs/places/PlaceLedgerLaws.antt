-- Laws of the ledger of places (specs/Places) and of the book's entries by position. Assumes nothing.
use Prim.Native.Nat.{ℕ, zero, suc, ◌+◌, ◌-◌, ◌*◌, ◌≤◌}
use mathlib.Core.Path.{◌≡◌, refl, sym, ap, ◌∙◌}
use mathlib.Core.Bool.{Bool, true, false, cond, ◌||◌}
use mathlib.Core.List.{List, [], ◌∷◌, ◌++◌}
use native.Mathlib.Decide.{dec_le}
use native.Mathlib.Omega.{arith}
use lib.Dec.{eqb, leb}
use lib.ListN.{length, replicate}
use borrow.Author.Tests.{eqb-true, ne_eqb, le-leb, lt-leb}
use Rattle.model.specs.Book.{Entry, Commit, owed_by, all_owed}
use Rattle.abstract_store.specs.Store.{Store, next_of, group_of_first}
use Rattle.abstract_store.specs.Places.{Fate, held, kept, aborted, passed, settle_one, settle_all, Class, live, dead, free, class_of, fate_on, class_at, same_class, many, lies_at, any_at, commit_at, is_held, is_kept}
use Rattle.theorems.proofs.invariant.Invariant.{OldEntries, OldCommits}

-- ---- the ledger by position

-- past the newest there is nothing
pub fate-past : (base : ℕ) (fs : List Fate) (p : ℕ) → base + length fs ≤ p → fate_on base fs p ≡ passed
unfolding fate_on
fate-past base [] p h = refl
fate-past base (f ∷ fs) p h = rw (ne_eqb p (base + length fs) (λ e. omega arith)) (fate-past base fs p (omega arith))

pub length-settle : (v : ℕ) (to : Fate) (fs : List Fate) → length (settle_all v to fs) ≡ length fs
unfolding settle_all
length-settle v to [] = refl
length-settle v to (f ∷ fs) = ap (λ (n : ℕ). suc n) (length-settle v to fs)

pub fate-settle : (base v : ℕ) (to : Fate) (fs : List Fate) (p : ℕ) → fate_on base (settle_all v to fs) p ≡ settle_one v to (fate_on base fs p)
unfolding fate_on settle_all
fate-settle base v to [] p = unfold settle_one in refl
fate-settle base v to (f ∷ fs) p = rw (length-settle v to fs) (go (eqb p (base + length fs)) (fate-settle base v to fs p))
  where
    go : (d : Bool) → fate_on base (settle_all v to fs) p ≡ settle_one v to (fate_on base fs p)
        → cond d (settle_one v to f) (fate_on base (settle_all v to fs) p) ≡ settle_one v to (cond d f (fate_on base fs p))
    go true e = refl
    go false e = e

-- places passed over say nothing more than places not used
pub length-passed : (n : ℕ) (fs : List Fate) → length (replicate n passed ++ fs) ≡ n + length fs
length-passed zero fs = omega arith
length-passed (suc n) fs = ap (λ (k : ℕ). suc k) (length-passed n fs) ∙ omega arith

pub fate-passed : (base n : ℕ) (fs : List Fate) (p : ℕ) → fate_on base (replicate n passed ++ fs) p ≡ fate_on base fs p
unfolding fate_on
fate-passed base zero fs p = refl
fate-passed base (suc n) fs p = go (fate-passed base n fs p) (eqb p (base + length (replicate n passed ++ fs))) refl
  where
    go : fate_on base (replicate n passed ++ fs) p ≡ fate_on base fs p → (d : Bool) → eqb p (base + length (replicate n passed ++ fs)) ≡ d
        → cond d passed (fate_on base (replicate n passed ++ fs) p) ≡ fate_on base fs p
    go ih true e =
        let q : p ≡ base + length (replicate n passed ++ fs) = eqb-true p (base + length (replicate n passed ++ fs)) e in
        sym (fate-past base fs p (omega (arith, length-passed n fs)))
    go ih false e = ih

-- ---- one more place

pub push-held : (base : ℕ) (fs : List Fate) (f : Fate) (u p : ℕ)
    → is_held u (fate_on base (f ∷ fs) p) ≡ cond (eqb p (base + length fs)) (is_held u f) (is_held u (fate_on base fs p))
unfolding fate_on
push-held base fs f u p = go (eqb p (base + length fs))
  where
    go : (d : Bool) → is_held u (cond d f (fate_on base fs p)) ≡ cond d (is_held u f) (is_held u (fate_on base fs p))
    go true = refl
    go false = refl

pub push_kept : (base : ℕ) (fs : List Fate) (f : Fate) (p : ℕ)
    → is_kept (fate_on base (f ∷ fs) p) ≡ cond (eqb p (base + length fs)) (is_kept f) (is_kept (fate_on base fs p))
unfolding fate_on
push_kept base fs f p = go (eqb p (base + length fs))
  where
    go : (d : Bool) → is_kept (cond d f (fate_on base fs p)) ≡ cond d (is_kept f) (is_kept (fate_on base fs p))
    go true = refl
    go false = refl

-- what the fates of a writer's places become
pub held-other : (u v : ℕ) (to f : Fate) → (u ≡ v → ⊥) → is_held u to ≡ false → is_held u (settle_one v to f) ≡ is_held u f
unfolding settle_one is_held
held-other u v to (held w) n t = go (eqb w v) refl
  where
    go : (d : Bool) → eqb w v ≡ d → is_held u (cond d to (held w)) ≡ eqb w u
    go true e = t ∙ sym (ne_eqb w u (λ q. n (sym q ∙ eqb-true w v e)))
    go false e = refl
held-other u v to kept n t = refl
held-other u v to aborted n t = refl
held-other u v to passed n t = refl

pub held-own : (v : ℕ) (to f : Fate) → is_held v to ≡ false → is_held v (settle_one v to f) ≡ false
unfolding settle_one is_held
held-own v to (held w) t = go (eqb w v) refl
  where
    go : (d : Bool) → eqb w v ≡ d → is_held v (cond d to (held w)) ≡ false
    go true e = t
    go false e = e
held-own v to kept t = refl
held-own v to aborted t = refl
held-own v to passed t = refl

pub kept-aborted : (v : ℕ) (f : Fate) → is_kept (settle_one v aborted f) ≡ is_kept f
unfolding settle_one is_kept
kept-aborted v (held w) = go (eqb w v)
  where
    go : (d : Bool) → is_kept (cond d aborted (held w)) ≡ false
    go true = refl
    go false = refl
kept-aborted v kept = refl
kept-aborted v aborted = refl
kept-aborted v passed = refl

pub kept-kept : (v : ℕ) (f : Fate) → is_kept (settle_one v kept f) ≡ (is_kept f || is_held v f)
unfolding settle_one is_kept is_held
kept-kept v (held w) = go (eqb w v)
  where
    go : (d : Bool) → is_kept (cond d kept (held w)) ≡ d
    go true = refl
    go false = refl
kept-kept v kept = refl
kept-kept v aborted = refl
kept-kept v passed = refl

-- ---- the book's entries by position

or_assoc : (a b c : Bool) → (a || (b || c)) ≡ ((a || b) || c)
or_assoc true b c = refl
or_assoc false b c = refl

pub any_append : (first p : ℕ) (xs ys : List Entry) → any_at first p (xs ++ ys) ≡ (any_at first p xs || any_at first p ys)
unfolding any_at
any_append first p [] ys = refl
any_append first p (e ∷ xs) ys =
    ap (λ (b : Bool). lies_at first p e.landing || b) (any_append first p xs ys) ∙ or_assoc (lies_at first p e.landing) (any_at first p xs) (any_at first p ys)

pub commits-append : (first p : ℕ) (xs ys : List Commit) → commit_at first p (xs ++ ys) ≡ (commit_at first p xs || commit_at first p ys)
unfolding commit_at
commits-append first p [] ys = refl
commits-append first p (c ∷ xs) ys =
    ap (λ (b : Bool). any_at first p c.entries || b) (commits-append first p xs ys)
    ∙ or_assoc (any_at first p c.entries) (commit_at first p xs) (commit_at first p ys)

pub owed-at : (first p mark : ℕ) (cs : List Commit) → commit_at first p (owed_by mark cs) ≡ commit_at first p cs
unfolding commit_at owed_by
owed-at first p mark [] = refl
owed-at first p mark (c ∷ cs) = ap (λ (b : Bool). any_at first p c.entries || b) (owed-at first p mark cs)

pub owed-all-at : (first p : ℕ) (cs : List Commit) → commit_at first p (all_owed cs) ≡ commit_at first p cs
unfolding commit_at all_owed
owed-all-at first p [] = refl
owed-all-at first p (c ∷ cs) = ap (λ (b : Bool). any_at first p c.entries || b) (owed-all-at first p cs)

-- commits of earlier eras have no place in this one's log
old-any : (D first p : ℕ) (es : List Entry) → OldEntries D es → any_at first p es ≡ false
unfolding any_at lies_at
old-any D first p [] o = refl
old-any D first p (e ∷ es) o = rw o.0 (old-any D first p es o.3)

pub old-at : (D first p : ℕ) (cs : List Commit) → OldCommits D cs → commit_at first p cs ≡ false
unfolding commit_at
old-at D first p [] o = refl
old-at D first p (c ∷ cs) o = rw (old-any D first p c.entries o.1) (old-at D first p cs o.2)

-- ---- counts

-- each place is in one class
one_class : (c : Class) → cond (same_class live c) 1 0 + cond (same_class dead c) 1 0 + cond (same_class free c) 1 0 ≡ 1
unfolding same_class
one_class live = refl
one_class dead = refl
one_class free = refl

pub many-all : (s : Store) (fs : List Fate) (from n : ℕ) → many s fs live from n + many s fs dead from n + many s fs free from n ≡ n
unfolding many
many-all s fs from zero = refl
many-all s fs from (suc n) = omega (arith, many-all s fs from n, one_class (class_at s fs (from + n)))

used-class : (f : Fate) → same_class free (class_of f) ≡ false
unfolding same_class class_of
used-class (held w) = refl
used-class kept = refl
used-class aborted = refl
used-class passed = refl

pub many-free : (s : Store) (fs : List Fate) (from n : ℕ) → from ≤ next_of s → many s fs free from n ≡ n - (next_of s - from)
unfolding many class_at
many-free s fs from zero l = omega arith
many-free s fs from (suc n) l = go (dec_le (next_of s) (from + n)) (many-free s fs from n l)
  where
    go : Dec (next_of s ≤ from + n) → many s fs free from n ≡ n - (next_of s - from)
        → many s fs free from n + cond (same_class free (cond (leb (next_of s) (from + n)) free (class_of (fate_on (7 * group_of_first s) fs (from + n))))) 1 0
        ≡ suc n - (next_of s - from)
    go (yes h) e = rw (le-leb (next_of s) (from + n) h) (unfold same_class in omega (arith, e))
    go (no h) e =
        rw (lt-leb (next_of s) (from + n) (omega arith), used-class (fate_on (7 * group_of_first s) fs (from + n))) (omega (arith, e))
