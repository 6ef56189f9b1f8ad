-- Rows that cover all depths have as many millimetres as there are depths exactly if they share none. Assumes nothing.
use mathlib.Core.Path.{◌≡◌, refl, sym, ◌∙◌}
use mathlib.Core.Bool.{Bool, true, false}
use mathlib.Core.List.{List, [], ◌∷◌}
use Prim.Native.Nat.{ℕ, zero, suc, ◌+◌, ◌-◌, ◌≤◌, ◌<◌, min}
use native.Mathlib.Omega.{arith}
use borrow.Author.Tests.{eqb-true, eqb-false, leb-true, leb-false}
use lib.Dec.{eqb, leb}
use Rattle.unit_bands_table.specs.Rows.{Row, holds, count}
use Rattle.unit_bands_table.specs.Judge.{all_fit}
use Rattle.unit_bands_table.specs.Sweep.{width}
use Rattle.unit_bands_table.proofs.RowLaws.{fit-ordered, fit-shallow, all_first, all_rest}
use Rattle.unit_bands_table.proofs.CountLaws.{holds-above, holds-below, holds-in, count-nil, count-in, count-out}

-- the millimetres below n, each as often as rows hold it
tally : ℕ → List Row → ℕ
tally zero rs = 0
tally (suc n) rs = count n rs + tally n rs

tally-suc : (n : ℕ) (rs : List Row) → tally (suc n) rs ≡ count n rs + tally n rs
unfolding tally
tally-suc n rs = refl

tally-zero : (rs : List Row) → tally zero rs ≡ 0
unfolding tally
tally-zero rs = refl

tally-nil : (n : ℕ) → tally n [] ≡ 0
tally-nil zero = tally-zero []
tally-nil (suc n) = omega (arith, tally-suc n [], count-nil n, tally-nil n)

-- ---- those of one row

tally-cons : (r : Row) (rs : List Row) → r.from ≤ r.to → (n : ℕ) → tally n (r ∷ rs) ≡ min n (r.to + 1) - min n r.from + tally n rs
tally-cons r rs o zero = omega (arith, tally-zero (r ∷ rs), tally-zero rs)
tally-cons r rs o (suc n) = go (holds n r) refl (tally-cons r rs o n)
  where
    go : (t : Bool) → holds n r ≡ t → tally n (r ∷ rs) ≡ min n (r.to + 1) - min n r.from + tally n rs
        → tally (suc n) (r ∷ rs) ≡ min (suc n) (r.to + 1) - min (suc n) r.from + tally (suc n) rs
    go true e rec = omega (arith, tally-suc n (r ∷ rs), tally-suc n rs, count-in n r rs e, holds-above n r e, holds-below n r e)
    go false e rec = side (leb r.from n) refl
      where
        high : r.from ≤ n → (t : Bool) → leb n r.to ≡ t → r.to < n
        high a true q = let b = leb-true n r.to q in let z : ◌≡◌ {A = Bool} true false = sym (holds-in n r a b) ∙ e in let y : ◌≡◌ {A = ℕ} 0 1 = cc in absurd (omega arith)
        high a false q = leb-false n r.to q

        side : (t : Bool) → leb r.from n ≡ t → tally (suc n) (r ∷ rs) ≡ min (suc n) (r.to + 1) - min (suc n) r.from + tally (suc n) rs
        side true q =
            let a = leb-true r.from n q in
            let b = high a (leb n r.to) refl in
            omega (arith, tally-suc n (r ∷ rs), tally-suc n rs, count-out n r rs e)
        side false q =
            let a = leb-false r.from n q in
            omega (arith, tally-suc n (r ∷ rs), tally-suc n rs, count-out n r rs e)

pub width-nil : width [] ≡ 0
unfolding width
width-nil = refl

pub width-cons : (r : Row) (rs : List Row) → width (r ∷ rs) ≡ r.to + 1 - r.from + width rs
unfolding width
width-cons r rs = refl

tally-width : (rs : List Row) → all_fit rs ≡ true → tally 10000 rs ≡ width rs
tally-width [] f = tally-nil 10000 ∙ sym width-nil
tally-width (r ∷ rs) f =
    let o = fit-ordered r (all_first r rs f) in
    let s = fit-shallow r (all_first r rs f) in
    omega (arith, tally-cons r rs o 10000, width-cons r rs, tally-width rs (all_rest r rs f))

-- ---- covered, and no more

module _ (rs : List Row) where
  tally-least : (n : ℕ) → ((k : ℕ) → k < n → 1 ≤ count k rs) → n ≤ tally n rs
  tally-least zero c = omega arith
  tally-least (suc n) c = omega (arith, tally-suc n rs, c n (omega arith), tally-least n (λ k h. c k (omega arith)))

  tally-most : (n : ℕ) → ((k : ℕ) → k < n → count k rs ≤ 1) → tally n rs ≤ n
  tally-most zero c = omega (arith, tally-zero rs)
  tally-most (suc n) c = omega (arith, tally-suc n rs, c n (omega arith), tally-most n (λ k h. c k (omega arith)))

  tally-single : (n : ℕ) → ((k : ℕ) → k < n → 1 ≤ count k rs) → tally n rs ≤ n → (k : ℕ) → k < n → count k rs ≤ 1
  tally-single zero c h k l = absurd (omega arith)
  tally-single (suc n) c h k l = go (eqb k n) refl (tally-single n (λ j m. c j (omega arith)))
    where
      least : n ≤ tally n rs
      least = tally-least n (λ j m. c j (omega arith))

      go : (t : Bool) → eqb k n ≡ t → (tally n rs ≤ n → (j : ℕ) → j < n → count j rs ≤ 1) → count k rs ≤ 1
      go true e rec = rw (eqb-true k n e) (omega (arith, least, tally-suc n rs))
      go false e rec =
          let d = eqb-false k n e in
          rec (omega (arith, tally-suc n rs, c n (omega arith))) k (omega arith)

  module _ (f : all_fit rs ≡ true) where
    pub width-single : ((k : ℕ) → k < 10000 → 1 ≤ count k rs) → width rs ≡ 10000 → (k : ℕ) → k < 10000 → count k rs ≤ 1
    width-single c w = tally-single 10000 c (omega (arith, tally-width rs f))

    pub single-width : ((k : ℕ) → k < 10000 → 1 ≤ count k rs) → ((k : ℕ) → k < 10000 → count k rs ≤ 1) → width rs ≡ 10000
    single-width c d = omega (arith, tally-width rs f, tally-least 10000 c, tally-most 10000 d)
