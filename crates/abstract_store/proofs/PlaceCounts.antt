-- Counts of positions: every position belongs to at most one transaction of a trace, so that the places from a position on which committed transactions
-- have are the entries of those that close there. Assumes nothing.
use Prim.Native.Nat.{ℕ, zero, suc, ◌+◌, ◌≤◌, ◌<◌}
use mathlib.Core.Path.{◌≡◌, refl, sym, ap, ◌∙◌}
use mathlib.Core.Logic.{◌⊎◌, inl, inr}
use mathlib.Core.Bool.{Bool, true, false, cond}
use mathlib.Core.List.{List, [], ◌∷◌, ◌++◌}
use native.Mathlib.Decide.{ℕ_discrete}
use native.Mathlib.Omega.{arith}
use lib.Dec.{eqb, leb}
use lib.ListN.{length}
use borrow.Author.Tests.{eqb-true, eqb-false, ne_eqb, leb-true, leb-false}
use Rattle.abstract_store.specs.Usage.{entries_in}
use Rattle.model_laws.proofs.trace.Trace.{Ev, Hist, mine, set_open, advance, hist, first_of, closer_of, oldest_of, closing_from, Apart}
use Rattle.model_laws.proofs.trace.TraceLaws.{All, Falling, first_of-inside, Long, open-falling, done-falling}

-- ---- how often a position is in a transaction, and in some transactions

unfoldable pub one_if : Bool → ℕ
one_if true = 1
one_if false = 0

pub one-true : one_if true ≡ 1
unfolding one_if
one-true = refl

pub one-false : one_if false ≡ 0
unfolding one_if
one-false = refl

unfoldable pub times : ℕ → List ℕ → ℕ
times p [] = 0
times p (q ∷ qs) = one_if (eqb q p) + times p qs

unfoldable pub times_in : ℕ → List (List ℕ) → ℕ
times_in p [] = 0
times_in p (t ∷ ts) = times p t + times_in p ts

times_snoc : (p : ℕ) (ts : List (List ℕ)) (t : List ℕ) → times_in p (ts ++ (t ∷ [])) ≡ times_in p ts + times p t
unfolding times_in
times_snoc p [] t = omega arith
times_snoc p (u ∷ ts) t = omega (arith, times_snoc p ts t)

pub times-past : (low high p : ℕ) (ps : List ℕ) → Falling low high ps → high ≤ p → times p ps ≡ 0
unfolding times
times-past low high p [] f h = refl
times-past low high p (q ∷ qs) f h =
    omega (arith, ap one_if (ne_eqb q p (λ e. omega (arith, f.1))), one-false, times-past low q p qs f.2 (omega (arith, f.1)))

times-past-in : (low high p : ℕ) (ts : List (List ℕ)) → All (Falling low high) ts → high ≤ p → times_in p ts ≡ 0
unfolding times_in
times-past-in low high p [] f h = refl
times-past-in low high p (t ∷ ts) f h = omega (arith, times-past low high p t f.0 h, times-past-in low high p ts f.1 h)

-- ---- every position is in one transaction at most, committed or open

pub record Once (h : Hist) (p : ℕ) : Type 0 where
  pub one : (v : ℕ) → times_in p h.done + times p (h.open_transaction v) ≤ 1
  pub who : (u v : ℕ) → 1 ≤ times p (h.open_transaction u) → 1 ≤ times p (h.open_transaction v) → u ≡ v

times-mine : (h : Hist) (e : Ev) (p : ℕ) → times p (mine h e) ≤ times p (h.open_transaction e.writer)
unfolding mine
times-mine h e p = go e.fresh
  where
    go : (d : Bool) → times p (cond d [] (h.open_transaction e.writer)) ≤ times p (h.open_transaction e.writer)
    go true = unfold times in omega arith
    go false = omega arith

times-set : (P : ℕ → ℕ → Type 0) (p : ℕ) (o : ℕ → List ℕ) (w : ℕ) (ps : List ℕ) (x : ℕ) → (w ≡ x → P x (times p ps)) → ((w ≡ x → ⊥) → P x (times p (o x)))
    → P x (times p (set_open o w ps x))
unfolding set_open
times-set P p o w ps x h k = go (eqb w x) refl
  where
    go : (d : Bool) → eqb w x ≡ d → P x (times p (cond d ps (o x)))
    go true e = h (eqb-true w x e)
    go false e = k (eqb-false w x e)

module _ (p₀ p : ℕ) (h : Hist) (e : Ev) (o : Once h p) (n : p₀ ≡ p → (times_in p h.done ≡ 0) × ((v : ℕ) → times p (h.open_transaction v) ≡ 0)) where
  abbrev all : ℕ
  all = times_in p h.done

  abbrev of : ℕ → ℕ
  of v = times p (h.open_transaction v)

  -- the transaction with its new entry
  added : times p (p₀ ∷ mine h e) ≡ one_if (eqb p₀ p) + times p (mine h e)
  unfolding times
  added = refl

  with-new : all + times p (p₀ ∷ mine h e) ≤ 1
  with-new = go (eqb p₀ p) refl
    where
      go : (d : Bool) → eqb p₀ p ≡ d → all + times p (p₀ ∷ mine h e) ≤ 1
      go true i =
          let k = n (eqb-true p₀ p i) in
          omega (arith, added, ap one_if i, one-true, k.0, k.1 e.writer, times-mine h e p)
      go false i = omega (arith, added, ap one_if i, one-false, o.one e.writer, times-mine h e p)

  -- no other writer's has it
  others : (v : ℕ) → (e.writer ≡ v → ⊥) → 1 ≤ times p (p₀ ∷ mine h e) → of v ≡ 0
  others v d l = go (eqb p₀ p) refl
    where
      zero_of : 1 ≤ times p (mine h e) → Dec (of v ≡ 0) → of v ≡ 0
      zero_of k (yes i) = i
      zero_of k (no i) = absurd (d (o.who e.writer v (omega (arith, times-mine h e p)) (omega arith)))

      go : (b : Bool) → eqb p₀ p ≡ b → of v ≡ 0
      go true i = (n (eqb-true p₀ p i)).1 v
      go false i = zero_of (omega (arith, added, ap one_if i, one-false)) (ℕ_discrete (of v) 0)

  with-others : (v : ℕ) → (e.writer ≡ v → ⊥) → all + times p (p₀ ∷ mine h e) + of v ≤ 1
  with-others v d = go (ℕ_discrete (times p (p₀ ∷ mine h e)) 0)
    where
      go : Dec (times p (p₀ ∷ mine h e) ≡ 0) → all + times p (p₀ ∷ mine h e) + of v ≤ 1
      go (yes i) = omega (arith, o.one v)
      go (no i) = omega (arith, with-new, others v d (omega arith))

  none : times p [] ≡ 0
  unfolding times
  none = refl

  closed-one : (v : ℕ) → times_in p (h.done ++ ((p₀ ∷ mine h e) ∷ [])) + times p (set_open h.open_transaction e.writer [] v) ≤ 1
  closed-one v =
      times-set (λ x k. times_in p (h.done ++ ((p₀ ∷ mine h e) ∷ [])) + k ≤ 1) p h.open_transaction e.writer [] v
      (λ d. omega (arith, times_snoc p h.done (p₀ ∷ mine h e), none, with-new))
      (λ d. omega (arith, times_snoc p h.done (p₀ ∷ mine h e), with-others v d))

  closed-who : (u v : ℕ) → 1 ≤ times p (set_open h.open_transaction e.writer [] u) → 1 ≤ times p (set_open h.open_transaction e.writer [] v) → u ≡ v
  closed-who u v =
      times-set (λ x k. 1 ≤ k → 1 ≤ times p (set_open h.open_transaction e.writer [] v) → x ≡ v) p h.open_transaction e.writer [] u
      (λ d l m. absurd (omega (arith, none)))
      (λ d l. times-set (λ x k. 1 ≤ k → u ≡ x) p h.open_transaction e.writer [] v (λ i m. absurd (omega (arith, none))) (λ i m. o.who u v l m))

  open-one : (v : ℕ) → all + times p (set_open h.open_transaction e.writer (p₀ ∷ mine h e) v) ≤ 1
  open-one v = times-set (λ x k. all + k ≤ 1) p h.open_transaction e.writer (p₀ ∷ mine h e) v (λ d. with-new) (λ d. o.one v)

  open-who : (u v : ℕ) → 1 ≤ times p (set_open h.open_transaction e.writer (p₀ ∷ mine h e) u)
      → 1 ≤ times p (set_open h.open_transaction e.writer (p₀ ∷ mine h e) v) → u ≡ v
  open-who u v =
      times-set (λ x k. 1 ≤ k → 1 ≤ times p (set_open h.open_transaction e.writer (p₀ ∷ mine h e) v) → x ≡ v) p h.open_transaction e.writer (p₀ ∷ mine h e) u
      (λ d l. times-set (λ x k. 1 ≤ k → u ≡ x) p h.open_transaction e.writer (p₀ ∷ mine h e) v (λ i m. sym d ∙ i)
      (λ i m. absurd (omega (arith, others v i l))))
      (λ d l. times-set (λ x k. 1 ≤ k → u ≡ x) p h.open_transaction e.writer (p₀ ∷ mine h e) v (λ i m. absurd (omega (arith, others u d m)))
      (λ i m. o.who u v l m))

  once-step : (u f : Bool) → Once (advance p₀ e h u f) p
  unfolding advance
  once-step false f = o
  once-step true true = record { one = closed-one; who = closed-who }
  once-step true false = record { one = open-one; who = open-who }

pub once : (base : ℕ) (tr : List Ev) (p : ℕ) → Once (hist base tr) p
unfolding hist
once base [] p = record { one = λ v. (unfold times_in times in omega arith); who = λ u v l m. absurd (unfold times in omega arith) }
once base (e ∷ tr) p =
    once-step (base + length tr) p (hist base tr) e (once base tr p)
    (λ q. (
      times-past-in base (base + length tr) p (hist base tr).done (done-falling base tr) (omega arith),
      λ v. times-past base (base + length tr) p ((hist base tr).open_transaction v) (open-falling base tr v) (omega arith),
    ))
    e.used e.final

-- ---- sums over n positions from x on

unfoldable pub tally : (ℕ → ℕ) → ℕ → ℕ → ℕ
tally f x zero = 0
tally f x (suc n) = tally f x n + f (x + n)

pub tally-same : (f g : ℕ → ℕ) (x n : ℕ) → ((p : ℕ) → x ≤ p → p < x + n → f p ≡ g p) → tally f x n ≡ tally g x n
unfolding tally
tally-same f g x zero h = refl
tally-same f g x (suc n) h = rw (tally-same f g x n (λ p l m. h p l (omega arith)), h (x + n) (omega arith) (omega arith))

pub tally-both : (f g : ℕ → ℕ) (x n : ℕ) → tally (λ p. f p + g p) x n ≡ tally f x n + tally g x n
unfolding tally
tally-both f g x zero = refl
tally-both f g x (suc n) = omega (arith, tally-both f g x n)

pub tally-none : (x n : ℕ) → tally (λ p. 0) x n ≡ 0
unfolding tally
tally-none x zero = refl
tally-none x (suc n) = omega (arith, tally-none x n)

-- one position
tally-out : (q x n : ℕ) → (q < x) ⊎ (x + n ≤ q) → tally (λ p. one_if (eqb q p)) x n ≡ 0
unfolding tally
tally-out q x zero h = refl
tally-out q x (suc n) h = rw (tally-out q x n (less h), ne_eqb q (x + n) (λ e. differ h e)) (unfold one_if in refl)
  where
    less : (q < x) ⊎ (x + suc n ≤ q) → (q < x) ⊎ (x + n ≤ q)
    less (inl i) = inl i
    less (inr i) = inr (omega arith)

    differ : (q < x) ⊎ (x + suc n ≤ q) → q ≡ x + n → ⊥
    differ (inl i) e = omega arith
    differ (inr i) e = omega arith

tally-in : (q x n : ℕ) → x ≤ q → q < x + n → tally (λ p. one_if (eqb q p)) x n ≡ 1
unfolding tally
tally-in q x zero l m = absurd (omega arith)
tally-in q x (suc n) l m = go (eqb q (x + n)) refl (tally-in q x n l)
  where
    go : (d : Bool) → eqb q (x + n) ≡ d → (q < x + n → tally (λ p. one_if (eqb q p)) x n ≡ 1) → tally (λ p. one_if (eqb q p)) x n + one_if (eqb q (x + n)) ≡ 1
    go true e ih = omega (arith, tally-out q x n (inr (omega (arith, eqb-true q (x + n) e))), ap one_if e, one-true)
    go false e ih = omega (arith, ih (omega (arith, eqb-false q (x + n) e)), ap one_if e, one-false)

-- a transaction whose positions are all among them, and one whose positions all lie before
pub tally-all : (x n high : ℕ) (ps : List ℕ) → Falling x high ps → high ≤ x + n → tally (λ p. times p ps) x n ≡ length ps
unfolding times
tally-all x n high [] f h = tally-none x n
tally-all x n high (q ∷ qs) f h =
    tally-both (λ p. one_if (eqb q p)) (λ p. times p qs) x n
    ∙ omega (arith, tally-in q x n f.0 (omega (arith, f.1)), tally-all x n q qs f.2 (omega (arith, f.1)))

tally-before : (x n low high : ℕ) (ps : List ℕ) → Falling low high ps → high ≤ x → tally (λ p. times p ps) x n ≡ 0
unfolding times
tally-before x n low high [] f h = tally-none x n
tally-before x n low high (q ∷ qs) f h =
    tally-both (λ p. one_if (eqb q p)) (λ p. times p qs) x n
    ∙ omega (arith, tally-out q x n (inl (omega (arith, f.1))), tally-before x n low q qs f.2 (omega (arith, f.1)))

-- a transaction that begins at or above x
pub falling-from : (x low high : ℕ) (ps : List ℕ) → Falling low high ps → Long ps → x ≤ oldest_of ps → Falling x high ps
unfolding oldest_of first_of
falling-from x low high [] f l h = tt
falling-from x low high (p ∷ []) f l h = (h, f.1, tt)
falling-from x low high (p ∷ q ∷ ps) f l h =
    let i = first_of-inside low p q ps f.2 in (omega (arith, f.2.1, i.1), f.1, falling-from x low p (q ∷ ps) f.2 tt h)

falling-close : (low high c : ℕ) (ps : List ℕ) → Falling low high ps → closer_of ps < c → Falling low c ps
unfolding closer_of
falling-close low high c [] f h = tt
falling-close low high c (p ∷ ps) f h = (f.0, h, f.2)

-- of transactions none of which lies on both sides of x
pub tally-closing : (low high x n : ℕ) (ts : List (List ℕ)) → All (Falling low high) ts → All Long ts → Apart x ts → high ≤ x + n
    → tally (λ p. times_in p ts) x n ≡ entries_in (closing_from x ts)
unfolding times_in closing_from entries_in
tally-closing low high x n [] f l a h = tally-none x n
tally-closing low high x n (t ∷ ts) f l a h =
    tally-both (λ p. times p t) (λ p. times_in p ts) x n ∙ go (leb x (closer_of t)) refl (tally-closing low high x n ts f.1 l.1 a.1 h)
  where
    oldest : leb x (closer_of t) ≡ true → (closer_of t < x) ⊎ (x ≤ oldest_of t) → x ≤ oldest_of t
    oldest e (inl i) = absurd (omega (arith, leb-true x (closer_of t) e))
    oldest e (inr i) = i

    go : (d : Bool) → leb x (closer_of t) ≡ d → tally (λ p. times_in p ts) x n ≡ entries_in (closing_from x ts)
        → tally (λ p. times p t) x n + tally (λ p. times_in p ts) x n ≡ entries_in (cond d (t ∷ closing_from x ts) (closing_from x ts))
    go true e ih = omega (arith, ih, tally-all x n high t (falling-from x low high t f.0 l.0 (oldest e a.0)) h)
    go false e ih = omega (arith, ih, tally-before x n low x t (falling-close low high x t f.0 (leb-false x (closer_of t) e)) (omega arith))
