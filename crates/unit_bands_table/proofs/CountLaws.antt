-- Laws of the rows that a millimetre lies in: their number and the first of them. Assumes nothing.
use mathlib.Core.Path.{◌≡◌, refl, ap, ◌∙◌}
use mathlib.Core.Bool.{Bool, true, false}
use mathlib.Core.List.{List, [], ◌∷◌}
use Prim.Native.Nat.{ℕ, zero, suc, ◌+◌, ◌≤◌, ◌<◌}
use native.Mathlib.Omega.{arith}
use borrow.Author.Tests.{leb-true, leb-false, le-leb, lt-leb}
use lib.Dec.{leb}
use lib.ListN.{length, get_or}
use Rattle.unit_bands_table.specs.Rows.{Row, band, rows, holds, count, place, lookup}
use Rattle.unit_bands_table.specs.Sweep.{rest, row_at}
use Rattle.unit_bands_table.proofs.RowLaws.{both_left, both_right, rest-row, rest_end, rest_all}

-- ---- one row

pub holds-above : (mm : ℕ) (r : Row) → holds mm r ≡ true → r.from ≤ mm
unfolding holds
holds-above mm r e = leb-true r.from mm (both_left (leb r.from mm) _ e)

pub holds-below : (mm : ℕ) (r : Row) → holds mm r ≡ true → mm ≤ r.to
unfolding holds
holds-below mm r e = leb-true mm r.to (both_right (leb r.from mm) _ e)

pub holds_test : (mm : ℕ) (r : Row) → r.from ≤ mm → holds mm r ≡ leb mm r.to
unfolding holds
holds_test mm r h = rw (le-leb r.from mm h)

pub holds-in : (mm : ℕ) (r : Row) → r.from ≤ mm → mm ≤ r.to → holds mm r ≡ true
holds-in mm r h l = holds_test mm r h ∙ le-leb mm r.to l

pub holds-low : (mm : ℕ) (r : Row) → mm < r.from → holds mm r ≡ false
unfolding holds
holds-low mm r h = rw (lt-leb r.from mm h)

pub holds-high : (mm : ℕ) (r : Row) → r.from ≤ mm → r.to < mm → holds mm r ≡ false
holds-high mm r h l = holds_test mm r h ∙ lt-leb mm r.to l

-- ---- the number of rows

pub count-nil : (mm : ℕ) → count mm [] ≡ 0
unfolding count
count-nil mm = refl

pub count-in : (mm : ℕ) (r : Row) (rs : List Row) → holds mm r ≡ true → count mm (r ∷ rs) ≡ 1 + count mm rs
unfolding count
count-in mm r rs e = rw e

pub count-out : (mm : ℕ) (r : Row) (rs : List Row) → holds mm r ≡ false → count mm (r ∷ rs) ≡ count mm rs
unfolding count
count-out mm r rs e = rw e (omega arith)

pub count-more : (mm : ℕ) (r : Row) (rs : List Row) → count mm rs ≤ count mm (r ∷ rs)
count-more mm r rs = go (holds mm r) refl
  where
    go : (t : Bool) → holds mm r ≡ t → count mm rs ≤ count mm (r ∷ rs)
    go true e = omega (arith, count-in mm r rs e)
    go false e = omega (arith, count-out mm r rs e)

pub count_at : (mm : ℕ) (rs : List Row) (i : ℕ) → i < length rs → holds mm (get_or rs i (band 0 0 0)) ≡ true → 1 ≤ count mm rs
count_at mm [] i h e = absurd (omega arith)
count_at mm (r ∷ rs) zero h e = omega (arith, count-in mm r rs e)
count_at mm (r ∷ rs) (suc i) h e = omega (arith, count-more mm r rs, count_at mm rs i (omega arith) e)

-- ---- the first of them

pub place-nil : (mm : ℕ) → place mm [] ≡ 0
unfolding place
place-nil mm = refl

pub place_in : (mm : ℕ) (r : Row) (rs : List Row) → holds mm r ≡ true → place mm (r ∷ rs) ≡ 0
unfolding place
place_in mm r rs e = rw e

pub place_out : (mm : ℕ) (r : Row) (rs : List Row) → holds mm r ≡ false → place mm (r ∷ rs) ≡ suc (place mm rs)
unfolding place
place_out mm r rs e = rw e (omega arith)

pub place-high : (mm : ℕ) (rs : List Row) → place mm rs ≤ length rs
place-high mm [] = omega (arith, place-nil mm)
place-high mm (r ∷ rs) = go (holds mm r) refl (place-high mm rs)
  where
    go : (t : Bool) → holds mm r ≡ t → place mm rs ≤ length rs → place mm (r ∷ rs) ≤ suc (length rs)
    go true e k = omega (arith, place_in mm r rs e)
    go false e k = omega (arith, place_out mm r rs e)

pub place-holds : (mm : ℕ) (rs : List Row) → place mm rs < length rs → holds mm (lookup mm rs) ≡ true
unfolding lookup
place-holds mm [] h = absurd (omega arith)
place-holds mm (r ∷ rs) h = go (holds mm r) refl (place-holds mm rs)
  where
    go : (t : Bool) → holds mm r ≡ t → (place mm rs < length rs → holds mm (get_or rs (place mm rs) (band 0 0 0)) ≡ true)
        → holds mm (get_or (r ∷ rs) (place mm (r ∷ rs)) (band 0 0 0)) ≡ true
    go true e rec = rw (place_in mm r rs e) e
    go false e rec = rw (place_out mm r rs e) (rec (omega (arith, place_out mm r rs e)))

pub place_none : (mm : ℕ) (rs : List Row) → length rs ≤ place mm rs → count mm rs ≡ 0
place_none mm [] h = count-nil mm
place_none mm (r ∷ rs) h = go (holds mm r) refl (place_none mm rs)
  where
    go : (t : Bool) → holds mm r ≡ t → (length rs ≤ place mm rs → count mm rs ≡ 0) → count mm (r ∷ rs) ≡ 0
    go true e rec = absurd (omega (arith, place_in mm r rs e))
    go false e rec = count-out mm r rs e ∙ rec (omega (arith, place_out mm r rs e))

pub place-some : (mm : ℕ) (rs : List Row) → 1 ≤ count mm rs → place mm rs < length rs
place-some mm rs h = go (leb (length rs) (place mm rs)) refl
  where
    go : (t : Bool) → leb (length rs) (place mm rs) ≡ t → place mm rs < length rs
    go true e = absurd (omega (arith, place_none mm rs (leb-true (length rs) (place mm rs) e)))
    go false e = leb-false (length rs) (place mm rs) e

-- ---- the loop that looks for it

module _ (mm : ℕ) (s : List ℕ) (at : ℕ) (h : at + 5 ≤ length s) where
  pub place_here : holds mm (row_at s at) ≡ true → place mm (rest s at) ≡ 0
  place_here e = rw (rest-row s at h) (place_in mm (row_at s at) (rest s (at + 5)) e)

  pub place-later : holds mm (row_at s at) ≡ false → place mm (rest s at) ≡ suc (place mm (rest s (at + 5)))
  place-later e = rw (rest-row s at h) (place_out mm (row_at s at) (rest s (at + 5)) e)

pub place-ended : (mm : ℕ) (s : List ℕ) (at : ℕ) → length s ≤ at → place mm (rest s at) ≡ 0
place-ended mm s at h = rw (rest_end s at h) (place-nil mm)

pub place-all : (mm : ℕ) (s : List ℕ) → place mm (rest s 0) ≡ place mm (rows s)
place-all mm s = ap (place mm) (rest_all s)
