-- Where a log may start: the largest start, the spans that lie across a position, the open writers. Assumes nothing.
use Prim.Native.Nat.{ℕ, zero, suc, ◌+◌, ◌≤◌, ◌<◌}
use mathlib.Core.Path.{◌≡◌, refl, sym, ◌∙◌}
use mathlib.Core.Logic.{◌⊎◌, inl, inr}
use mathlib.Core.Bool.{Bool, true, false, cond, not, ◌&&◌, false≢true}
use mathlib.Core.List.{List, [], ◌∷◌}
use native.Mathlib.Omega.{arith}
use native.Mathlib.Decide.{dec_lt, ℕ_discrete}
use lib.Dec.{leb, ltb}
use borrow.Author.Tests.{leb-true, leb-false, lt-leb, ltb-false, le-ltb}
use Rattle.model.specs.State.{writer_of, has_logged}
use Rattle.model.specs.Effects.{none_across, none_open_before, largest}
use Rattle.model_laws.proofs.state.QuestionLaws.{and-true}
use Rattle.model_laws.proofs.trace.Trace.{closer_of, oldest_of, closing_from, Apart}
use Rattle.model_laws.proofs.trace.CountLaws.{span_of, spans_of}

-- ---- the largest start

module _ (may : ℕ → Bool) (start : ℕ) where
  pub largest-from : (n : ℕ) → start ≤ largest may start n
  unfolding largest
  largest-from zero = omega arith
  largest-from (suc n) = go (may (start + suc n)) (largest-from n)
    where
      go : (b : Bool) → start ≤ largest may start n → start ≤ cond b (start + suc n) (largest may start n)
      go true h = omega arith
      go false h = h

  pub largest-upto : (n : ℕ) → largest may start n ≤ start + n
  unfolding largest
  largest-upto zero = omega arith
  largest-upto (suc n) = go (may (start + suc n)) (largest-upto n)
    where
      go : (b : Bool) → largest may start n ≤ start + n → cond b (start + suc n) (largest may start n) ≤ start + suc n
      go true h = omega arith
      go false h = omega arith

  pub largest-may : (n : ℕ) → (largest may start n ≡ start) ⊎ (may (largest may start n) ≡ true)
  unfolding largest
  largest-may zero = inl refl
  largest-may (suc n) = go (may (start + suc n)) refl (largest-may n)
    where
      go : (b : Bool) → may (start + suc n) ≡ b → (largest may start n ≡ start) ⊎ (may (largest may start n) ≡ true)
          → (cond b (start + suc n) (largest may start n) ≡ start) ⊎ (may (cond b (start + suc n) (largest may start n)) ≡ true)
      go true e h = inr e
      go false e h = h

  pub largest-most : (n s : ℕ) → start < s → s ≤ start + n → may s ≡ true → s ≤ largest may start n
  unfolding largest
  largest-most zero s l u m = absurd (omega arith)
  largest-most (suc n) s l u m = go (may (start + suc n)) refl (ℕ_discrete s (start + suc n)) (λ h. largest-most n s l h m)
    where
      go : (b : Bool) → may (start + suc n) ≡ b → Dec (s ≡ start + suc n) → (s ≤ start + n → s ≤ largest may start n)
          → s ≤ cond b (start + suc n) (largest may start n)
      go true e d f = u
      go false e (yes q) f = absurd (false≢true (sym e ∙ (rw q at m)))
      go false e (no q) f = f (omega arith)

-- ---- spans across a position

not-both : (a b c d : ℕ) → not (ltb a c && leb d b) ≡ true → (b < d) ⊎ (c ≤ a)
not-both a b c d = go (ltb a c) (leb d b) refl refl
  where
    go : (x y : Bool) → ltb a c ≡ x → leb d b ≡ y → not (x && y) ≡ true → (b < d) ⊎ (c ≤ a)
    go false y e f h = inr (ltb-false a c e)
    go true false e f h = inl (leb-false d b f)
    go true true e f h = absurd (false≢true h)

both-not : (a b c d : ℕ) → (b < d) ⊎ (c ≤ a) → not (ltb a c && leb d b) ≡ true
both-not a b c d (inl h) = rw (lt-leb d b h) (go (ltb a c))
  where
    go : (x : Bool) → not (x && false) ≡ true
    go true = refl
    go false = refl
both-not a b c d (inr h) = rw (le-ltb a c h)

pub across-apart : (q : ℕ) (ts : List (List ℕ)) → none_across q (spans_of ts) ≡ true → Apart q ts
unfolding none_across spans_of span_of
across-apart q [] h = tt
across-apart q (t ∷ ts) h =
    let f = and-true (not (ltb (oldest_of t) q && leb q (closer_of t))) (none_across q (spans_of ts)) h in
    (not-both (oldest_of t) (closer_of t) q q f.0, across-apart q ts f.1)

pub apart-across : (q : ℕ) (ts : List (List ℕ)) → Apart q ts → none_across q (spans_of ts) ≡ true
unfolding none_across spans_of span_of
apart-across q [] h = refl
apart-across q (t ∷ ts) h = rw (both-not (oldest_of t) (closer_of t) q q h.0) (apart-across q ts h.1)

-- those that close below the old start close below the new one
pub apart-all : (base q : ℕ) (ts : List (List ℕ)) → base ≤ q → Apart q (closing_from base ts) → Apart q ts
unfolding closing_from
apart-all base q [] l h = tt
apart-all base q (t ∷ ts) l h = go (leb base (closer_of t)) refl h (apart-all base q ts l)
  where
    go : (b : Bool) → leb base (closer_of t) ≡ b → Apart q (cond b (t ∷ closing_from base ts) (closing_from base ts))
        → (Apart q (closing_from base ts) → Apart q ts) → ((closer_of t < q) ⊎ (q ≤ oldest_of t)) × Apart q ts
    go true e k f = (k.0, f k.1)
    go false e k f = let z = leb-false base (closer_of t) e in (inl (omega arith), f k)

pub apart-closing : (base q : ℕ) (ts : List (List ℕ)) → Apart q ts → Apart q (closing_from base ts)
unfolding closing_from
apart-closing base q [] h = tt
apart-closing base q (t ∷ ts) h = go (leb base (closer_of t)) (apart-closing base q ts h.1)
  where
    go : (b : Bool) → Apart q (closing_from base ts) → Apart q (cond b (t ∷ closing_from base ts) (closing_from base ts))
    go true k = (h.0, k)
    go false k = k

-- ---- open writers

pub open-from : (q : ℕ) (s : List ℕ) (n : ℕ) → none_open_before q s n ≡ true → (x : ℕ) → x < n → 3 ≤ (writer_of s x).mode
    → q ≤ (writer_of s x).first
unfolding none_open_before has_logged
open-from q s zero h x l m = absurd (omega arith)
open-from q s (suc n) h x l m =
    let f = and-true (none_open_before q s n) (not (leb 3 (writer_of s n).mode && ltb (writer_of s n).first q)) h in
    go (dec_lt x n) (λ k. open-from q s n f.0 x k m) f.1
  where
    here : (a b : Bool) → leb 3 (writer_of s n).mode ≡ a → ltb (writer_of s n).first q ≡ b → 3 ≤ (writer_of s n).mode → not (a && b) ≡ true
        → q ≤ (writer_of s n).first
    here false b e f k h = absurd (omega (arith, leb-false 3 (writer_of s n).mode e))
    here true false e f k h = ltb-false (writer_of s n).first q f
    here true true e f k h = absurd (false≢true h)

    go : Dec (x < n) → (x < n → q ≤ (writer_of s x).first) → not (leb 3 (writer_of s n).mode && ltb (writer_of s n).first q) ≡ true
        → q ≤ (writer_of s x).first
    go (yes k) f g = f k
    go (no k) f g =
        let e : x ≡ n = omega arith in
        rw e (here (leb 3 (writer_of s n).mode) (ltb (writer_of s n).first q) refl refl (rw e at m) g)

pub from-open : (q : ℕ) (s : List ℕ) (n : ℕ) → ((x : ℕ) → x < n → 3 ≤ (writer_of s x).mode → q ≤ (writer_of s x).first)
    → none_open_before q s n ≡ true
unfolding none_open_before has_logged
from-open q s zero f = refl
from-open q s (suc n) f = rw (from-open q s n (λ x l m. f x (omega arith) m)) (go (leb 3 (writer_of s n).mode) refl)
  where
    go : (a : Bool) → leb 3 (writer_of s n).mode ≡ a → not (a && ltb (writer_of s n).first q) ≡ true
    go false e = refl
    go true e = rw (le-ltb (writer_of s n).first q (f n (omega arith) (leb-true 3 (writer_of s n).mode e)))
