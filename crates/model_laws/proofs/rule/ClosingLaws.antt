-- Laws of the commit rule for code that goes over the log once: the entries of a transaction by their number, the walk's last closing entry by
-- the end of the last one, the first failure that ends the walk, and the committed transactions as those of all closing entries below that end.
-- Assumes nothing.
use mathlib.Core.Path.{◌≡◌, refl, sym, ap, ◌∙◌}
use mathlib.Core.Bool.{Bool, true, false, ◌&&◌, false≢true}
use mathlib.Core.Logic.{◌⊎◌, inl, inr}
use mathlib.Core.List.{List, [], ◌∷◌, ◌++◌, append-nil}
use mathlib.Core.Option.{Option, none, some}
use Prim.Native.Nat.{ℕ, zero, suc, ◌+◌, ◌-◌, ◌≤◌, ◌<◌}
use native.Mathlib.Decide.{ℕ_discrete}
use native.Mathlib.Numerals.{add-one}
use native.Mathlib.Omega.{arith}
use borrow.Author.Tests.{le-leb, leb-true}
use lib.Dec.{leb}
use lib.ListN.{length}
use Rattle.model.specs.Tag.{belongs}
use Rattle.model.specs.Commit.{add_if, members, complete, linked, Span, Walk, started, decided_closing, visit, walk, committed}
use Rattle.model.specs.declared.Tag.{Tag}
use Rattle.model.specs.declared.Tag.TheVariants.{Nothing, Entry, Closing}
use Rattle.model_laws.proofs.rule.Closings.{span_at, closings, end_of}

-- ---- the entries of a transaction, by their number

module _ (log : ℕ → Tag) (f base i : ℕ) where
  pub members-more : f ≤ base + i → belongs f (log (base + i)) ≡ true
      → length (members log f base (i + 1)) ≡ length (members log f base i) + 1
  unfolding members add_if
  members-more h e = rw (add-one i, le-leb f (base + i) h, e) (omega arith)

  pub members-same : (f ≤ base + i → belongs f (log (base + i)) ≡ false)
      → length (members log f base (i + 1)) ≡ length (members log f base i)
  unfolding members add_if
  members-same h = rw (add-one i) (go (leb f (base + i)) refl)
    where
      go : (b : Bool) → leb f (base + i) ≡ b
          → length (add_if (b && belongs f (log (base + i))) (base + i) (members log f base i)) ≡ length (members log f base i)
      go true e = rw (h (leb-true f (base + i) e))
      go false e = refl

pub members-most : (log : ℕ → Tag) (f base i : ℕ) → length (members log f base i) ≤ i
unfolding members add_if
members-most log f base zero = omega arith
members-most log f base (suc i) = go (leb f (base + i) && belongs f (log (base + i))) (members-most log f base i)
  where
    go : (b : Bool) → length (members log f base i) ≤ i → length (add_if b (base + i) (members log f base i)) ≤ suc i
    go true h = omega arith
    go false h = omega arith

-- ---- the end of the last transaction, and the last closing entry that it gives

pub end_more : (ss : List Span) (s : Span) → end_of (ss ++ (s ∷ [])) ≡ s.closing + 1
unfolding end_of
end_more [] s = refl
end_more (t ∷ []) s = refl
end_more (t ∷ u ∷ ss) s = end_more (u ∷ ss) s

-- the closing entry that ends at `end`, or none at 0
unfoldable pub last_at : ℕ → Option ℕ
last_at zero = none
last_at (suc p) = some p

-- ---- a step of the walk

pub walk_more : (log : ℕ → Tag) (base i : ℕ) → walk log base (i + 1) ≡ visit log base i (log (base + i)) (walk log base i)
unfolding walk
walk_more log base i = rw (add-one i)

-- what is known of the walk over the n positions from base on
pub record Walked (log : ℕ → Tag) (base n : ℕ) (w : Walk) : Type 0 where
  pub last : w.last ≡ last_at (end_of w.spans)
  pub within : (end_of w.spans ≡ 0) ⊎ ((base < end_of w.spans) × (end_of w.spans ≤ base + n))
  pub below : w.spans ≡ closings log base (end_of w.spans - base)
  pub all : w.going ≡ true → w.spans ≡ closings log base n

wider : (base n e : ℕ) → (e ≡ 0) ⊎ ((base < e) × (e ≤ base + n)) → (e ≡ 0) ⊎ ((base < e) × (e ≤ base + suc n))
wider base n e (inl z) = inl z
wider base n e (inr h) = inr (h.0, omega arith)

module _ (log : ℕ → Tag) (base n : ℕ) (w : Walk) (k : Walked log base n w) where
  -- a position with no closing entry leaves the walk as it is
  unclosed : closings log base (suc n) ≡ closings log base n → Walked log base (suc n) w
  unclosed e = record { last = k.last; within = wider base n _ k.within; below = k.below; all = λ g. k.all g ∙ sym e }

  -- a closing entry that fails
  failed : (s : Span) → Walked log base (suc n) (decided_closing false s w)
  unfolding decided_closing
  failed s = record { last = k.last; within = wider base n _ k.within; below = k.below; all = λ g. absurd (false≢true g) }

  -- one that is committed
  passed : (f : ℕ) → w.going ≡ true
      → closings log base (suc n) ≡ closings log base n ++ (record { first = f; closing = base + n } ∷ [])
      → Walked log base (suc n) (decided_closing true (record { first = f; closing = base + n }) w)
  unfolding decided_closing last_at
  passed f g e =
      let s : Span = record { first = f; closing = base + n } in
      let z : end_of (w.spans ++ (s ∷ [])) ≡ suc (base + n) = end_more w.spans s ∙ add-one (base + n) in
      let d : suc (base + n) - base ≡ suc n = omega arith in
      let c : w.spans ++ (s ∷ []) ≡ closings log base (suc n) = ap (λ (l : List Span). l ++ (s ∷ [])) (k.all g) ∙ sym e in
      record {
        last = rw z refl;
        within = inr (rw z (omega arith, omega arith));
        below = c ∙ rw (z, d);
        all = λ h. c;
      }

walked-visit : (log : ℕ → Tag) (base n : ℕ) (t : Tag) (w : Walk) → log (base + n) ≡ t → Walked log base n w
    → Walked log base (suc n) (visit log base n t w)
unfolding visit closings span_at
walked-visit log base n Nothing w e k = unclosed log base n w k (rw e (append-nil (closings log base n)))
walked-visit log base n (Entry h f) w e k = unclosed log base n w k (rw e (append-nil (closings log base n)))
walked-visit log base n (Closing h f link count) w e k =
    go w.going (linked base w.last (base + n) link) (complete log base n f count) refl
  where
    go : (g a b : Bool) → w.going ≡ g → Walked log base (suc n) (decided_closing (g && a && b) (record { first = f; closing = base + n }) w)
    go true true true p = passed log base n w k f p (rw e)
    go true true false p = failed log base n w k (record { first = f; closing = base + n })
    go true false b p = failed log base n w k (record { first = f; closing = base + n })
    go false a b p = failed log base n w k (record { first = f; closing = base + n })

pub walked : (log : ℕ → Tag) (base n : ℕ) → Walked log base n (walk log base n)
unfolding walk started closings end_of last_at
walked log base zero = record { last = refl; within = inl refl; below = let z : 0 - base ≡ 0 = omega arith in rw z; all = λ g. refl }
walked log base (suc n) = walked-visit log base n (log (base + n)) (walk log base n) refl (walked log base n)

-- ---- the committed transactions

pub committed-closings : (log : ℕ → Tag) (base n : ℕ) → committed log base n ≡ closings log base (end_of (committed log base n) - base)
unfolding committed
committed-closings log base n = (walked log base n).below

pub committed-within : (log : ℕ → Tag) (base n : ℕ)
    → (end_of (committed log base n) ≡ 0) ⊎ ((base < end_of (committed log base n)) × (end_of (committed log base n) ≤ base + n))
unfolding committed
committed-within log base n = (walked log base n).within

pub committed-most : (log : ℕ → Tag) (base n : ℕ) → end_of (committed log base n) ≤ base + n
committed-most log base n = go (committed-within log base n)
  where
    go : {e : ℕ} → (e ≡ 0) ⊎ ((base < e) × (e ≤ base + n)) → e ≤ base + n
    go (inl z) = omega arith
    go (inr h) = h.1

-- the first failure ends the walk
visit-stopped : (log : ℕ → Tag) (base n : ℕ) (t : Tag) (w : Walk) → w.going ≡ false
    → ((visit log base n t w).spans ≡ w.spans) × ((visit log base n t w).going ≡ false)
unfolding visit decided_closing
visit-stopped log base n Nothing w g = (refl, g)
visit-stopped log base n (Entry h f) w g = (refl, g)
visit-stopped log base n (Closing h f link count) w g = rw g (refl, refl)

pub walk-stopped : (log : ℕ → Tag) (base i n : ℕ) → i ≤ n → (walk log base i).going ≡ false
    → ((walk log base n).spans ≡ (walk log base i).spans) × ((walk log base n).going ≡ false)
unfolding walk
walk-stopped log base i zero h g = let e : i ≡ 0 = omega arith in rw e (refl, rw e at g)
walk-stopped log base i (suc n) h g = go (ℕ_discrete i (suc n)) (walk-stopped log base i n)
  where
    go : Dec (i ≡ suc n)
        → (i ≤ n → (walk log base i).going ≡ false → ((walk log base n).spans ≡ (walk log base i).spans) × ((walk log base n).going ≡ false))
        → ((walk log base (suc n)).spans ≡ (walk log base i).spans) × ((walk log base (suc n)).going ≡ false)
    go (yes e) f = rw e (refl, rw e at g)
    go (no e) f =
        let r = f (omega arith) g in
        let s = visit-stopped log base n (log (base + n)) (walk log base n) r.1 in
        (s.0 ∙ r.0, s.1)

pub committed-stopped : (log : ℕ → Tag) (base i n : ℕ) → i ≤ n → (walk log base i).going ≡ false → committed log base n ≡ committed log base i
unfolding committed
committed-stopped log base i n h g = (walk-stopped log base i n h g).0
