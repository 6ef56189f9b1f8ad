-- Laws of what is left whole of a history (whole, closing_from of Trace). Assumes nothing.
use Prim.Native.Nat.{ℕ, zero, suc, ◌≤◌}
use mathlib.Core.Path.{◌≡◌, refl, sym, ap, ◌∙◌}
use mathlib.Core.Bool.{Bool, true, false, cond, ◌&&◌, false≢true}
use mathlib.Core.List.{List, [], ◌∷◌, ◌++◌}
use native.Mathlib.Omega.{arith}
use lib.Dec.{leb}
use lib.ListN.{length, take}
use borrow.Author.Tests.{le-leb, lt-leb}
use Rattle.model_laws.proofs.trace.Trace.{closer_of, closing_from, all_landed, whole}
use Rattle.model_laws.proofs.trace.TraceLaws.{All, Long, Rising}

unfoldable pub every_landed : (ℕ → Bool) → List (List ℕ) → Bool
every_landed landed [] = true
every_landed landed (t ∷ ts) = all_landed landed t && every_landed landed ts

-- `whole` is a prefix
pub whole-prefix : (landed : ℕ → Bool) (ts : List (List ℕ)) → whole landed ts ≡ take (length (whole landed ts)) ts
unfolding whole
whole-prefix landed [] = refl
whole-prefix landed (t ∷ ts) = go (all_landed landed t) (whole-prefix landed ts)
  where
    go : (b : Bool) → whole landed ts ≡ take (length (whole landed ts)) ts
        → cond b (t ∷ whole landed ts) [] ≡ take (length (cond b (t ∷ whole landed ts) [])) (t ∷ ts)
    go true ih = ap (λ (l : List (List ℕ)). t ∷ l) ih
    go false ih = refl

-- all of it landed
pub whole-landed : (landed : ℕ → Bool) (ts : List (List ℕ)) → every_landed landed (whole landed ts) ≡ true
unfolding whole every_landed
whole-landed landed [] = refl
whole-landed landed (t ∷ ts) = go (all_landed landed t) refl (whole-landed landed ts)
  where
    go : (b : Bool) → all_landed landed t ≡ b → every_landed landed (whole landed ts) ≡ true
        → every_landed landed (cond b (t ∷ whole landed ts) []) ≡ true
    go true e ih = rw e ih
    go false e ih = refl

-- no longer prefix did
pub whole-longest : (landed : ℕ → Bool) (ts : List (List ℕ)) (k : ℕ) → k ≤ length ts → every_landed landed (take k ts) ≡ true
    → k ≤ length (whole landed ts)
unfolding whole every_landed
whole-longest landed ts zero h e = omega arith
whole-longest landed [] (suc k) h e = h
whole-longest landed (t ∷ ts) (suc k) h e = go (all_landed landed t) e (whole-longest landed ts k (omega arith))
  where
    go : (b : Bool) → (b && every_landed landed (take k ts)) ≡ true → (every_landed landed (take k ts) ≡ true → k ≤ length (whole landed ts))
        → suc k ≤ length (cond b (t ∷ whole landed ts) [])
    go true e ih = let z = ih e in omega arith
    go false e ih = absurd (false≢true e)

-- it goes on past transactions that landed, and ends at one that did not
pub whole-more : (landed : ℕ → Bool) (xs ys : List (List ℕ)) → every_landed landed xs ≡ true → whole landed (xs ++ ys) ≡ xs ++ whole landed ys
unfolding whole every_landed
whole-more landed [] ys e = refl
whole-more landed (t ∷ ts) ys e = go (all_landed landed t) e (whole-more landed ts ys)
  where
    go : (b : Bool) → (b && every_landed landed ts) ≡ true → (every_landed landed ts ≡ true → whole landed (ts ++ ys) ≡ ts ++ whole landed ys)
        → cond b (t ∷ whole landed (ts ++ ys)) [] ≡ t ∷ (ts ++ whole landed ys)
    go true e ih = ap (λ (l : List (List ℕ)). t ∷ l) (ih e)
    go false e ih = absurd (false≢true e)

pub whole-stop : (landed : ℕ → Bool) (xs ys : List (List ℕ)) → every_landed landed xs ≡ false → whole landed (xs ++ ys) ≡ whole landed xs
unfolding whole every_landed
whole-stop landed [] ys e = absurd (false≢true (sym e))
whole-stop landed (t ∷ ts) ys e = go (all_landed landed t) e (whole-stop landed ts ys)
  where
    go : (b : Bool) → (b && every_landed landed ts) ≡ false → (every_landed landed ts ≡ false → whole landed (ts ++ ys) ≡ whole landed ts)
        → cond b (t ∷ whole landed (ts ++ ys)) [] ≡ cond b (t ∷ whole landed ts) []
    go true e ih = ap (λ (l : List (List ℕ)). t ∷ l) (ih e)
    go false e ih = refl

pub whole-every : (landed : ℕ → Bool) (ts : List (List ℕ)) → every_landed landed ts ≡ true → whole landed ts ≡ ts
unfolding whole every_landed
whole-every landed [] e = refl
whole-every landed (t ∷ ts) e = go (all_landed landed t) e (whole-every landed ts)
  where
    go : (b : Bool) → (b && every_landed landed ts) ≡ true → (every_landed landed ts ≡ true → whole landed ts ≡ ts)
        → cond b (t ∷ whole landed ts) [] ≡ t ∷ ts
    go true e ih = ap (λ (l : List (List ℕ)). t ∷ l) (ih e)
    go false e ih = absurd (false≢true e)

pub every_append : (landed : ℕ → Bool) (xs ys : List (List ℕ)) → every_landed landed (xs ++ ys) ≡ (every_landed landed xs && every_landed landed ys)
unfolding every_landed
every_append landed [] ys = refl
every_append landed (t ∷ ts) ys = go (all_landed landed t) (every_append landed ts ys)
  where
    go : (b : Bool) → every_landed landed (ts ++ ys) ≡ (every_landed landed ts && every_landed landed ys)
        → (b && every_landed landed (ts ++ ys)) ≡ ((b && every_landed landed ts) && every_landed landed ys)
    go true e = e
    go false e = refl

-- all of a history landed, or none of it
all_true : (ps : List ℕ) → all_landed (λ p. true) ps ≡ true
unfolding all_landed
all_true [] = refl
all_true (p ∷ ps) = all_true ps

pub whole-all : (ts : List (List ℕ)) → whole (λ p. true) ts ≡ ts
unfolding whole
whole-all [] = refl
whole-all (t ∷ ts) = rw (all_true t, whole-all ts)

whole-lost : (t : List ℕ) (ts : List (List ℕ)) → Long t → whole (λ p. false) (t ∷ ts) ≡ []
unfolding whole all_landed
whole-lost [] ts l = absurd l
whole-lost (p ∷ ps) ts l = refl

pub whole-none : (ts : List (List ℕ)) → All Long ts → whole (λ p. false) ts ≡ []
unfolding whole
whole-none [] l = refl
whole-none (t ∷ ts) l = whole-lost t ts l.0

all-ext : (landed landed' : ℕ → Bool) (ps : List ℕ) → All (λ p. landed p ≡ landed' p) ps → all_landed landed ps ≡ all_landed landed' ps
unfolding all_landed
all-ext landed landed' [] h = refl
all-ext landed landed' (p ∷ ps) h = rw (h.0, all-ext landed landed' ps h.1)

pub whole-ext : (landed landed' : ℕ → Bool) (ts : List (List ℕ)) → All (All (λ p. landed p ≡ landed' p)) ts → whole landed ts ≡ whole landed' ts
unfolding whole
whole-ext landed landed' [] h = refl
whole-ext landed landed' (t ∷ ts) h = rw (all-ext landed landed' t h.0, whole-ext landed landed' ts h.1)

-- ---- the transactions that close at or above c

pub closing_from-append : (c : ℕ) (xs ys : List (List ℕ)) → closing_from c (xs ++ ys) ≡ closing_from c xs ++ closing_from c ys
unfolding closing_from
closing_from-append c [] ys = refl
closing_from-append c (t ∷ ts) ys = go (leb c (closer_of t)) (closing_from-append c ts ys)
  where
    go : (b : Bool) → closing_from c (ts ++ ys) ≡ closing_from c ts ++ closing_from c ys
        → cond b (t ∷ closing_from c (ts ++ ys)) (closing_from c (ts ++ ys)) ≡ cond b (t ∷ closing_from c ts) (closing_from c ts) ++ closing_from c ys
    go true e = ap (λ (l : List (List ℕ)). t ∷ l) e
    go false e = e

-- a newer one at or above c is added
pub closing_from-snoc : (c : ℕ) (ts : List (List ℕ)) (t : List ℕ) → c ≤ closer_of t → closing_from c (ts ++ (t ∷ [])) ≡ closing_from c ts ++ (t ∷ [])
unfolding closing_from
closing_from-snoc c ts t h = closing_from-append c ts (t ∷ []) ∙ rw (le-leb c (closer_of t) h)

pub closing_from-all : (c low high : ℕ) (ts : List (List ℕ)) → c ≤ low → Rising low high ts → closing_from c ts ≡ ts
unfolding closing_from
closing_from-all c low high [] h r = refl
closing_from-all c low high (t ∷ ts) h r = rw (le-leb c (closer_of t) (omega arith), closing_from-all c (suc (closer_of t)) high ts (omega arith) r.2)

pub closing_from-none : (c low high : ℕ) (ts : List (List ℕ)) → high ≤ c → Rising low high ts → closing_from c ts ≡ []
unfolding closing_from
closing_from-none c low high [] h r = refl
closing_from-none c low high (t ∷ ts) h r = rw (lt-leb c (closer_of t) (omega arith)) (closing_from-none c (suc (closer_of t)) high ts h r.2)
