-- One turn of each loop over a strip of rows, and its end. Assumes nothing.
use mathlib.Core.Path.{◌≡◌, refl, sym, ap, ◌∙◌}
use mathlib.Core.Bool.{Bool, true, false, ◌&&◌}
use mathlib.Core.List.{List, ◌∷◌}
use Prim.Native.Nat.{ℕ, ◌+◌, ◌-◌, ◌*◌, ◌%◌, ◌≤◌, ◌<◌, min}
use native.Mathlib.Omega.{arith}
use borrow.Author.Tests.{eq-eqb, ne_eqb, leb-true, leb-false}
use lib.Dec.{eqb, leb}
use lib.ListN.{length, get_or, get_or-eq_default}
use Rattle.unit_bands_table.specs.Rows.{Row, band, row, rows, holds, count, place, lookup}
use Rattle.unit_bands_table.specs.Judge.{depths, fit, all_fit, uncovered}
use Rattle.unit_bands_table.specs.Sweep.{rest, row_at, rising, width, common, shared, twice}
use Rattle.unit_bands_table.proofs.RowLaws.{rest-row, rest_end, rest_all, number_at, row_from, row-to, row-pumps, rows_whole, row-of, fit-order, fit-deep, fit-pumps, fit-ordered, all_first, all_rest, fits-over, fits_under, fits-ended}
use Rattle.unit_bands_table.proofs.CountLaws.{holds-below, holds-low, holds_test, place-holds, place_none}
use Rattle.unit_bands_table.proofs.LowestLaws.{uncovered-is}
use Rattle.unit_bands_table.proofs.WidthLaws.{width-nil, width-cons}
use Rattle.unit_bands_table.proofs.SweepLaws.{walk, shared-nil, shared-cons, twice-nil, twice-cons}

-- ---- the row at a byte, from the numbers read there

module _ (s : List ℕ) (at : ℕ) {from to : ℕ} (a : from ≡ number_at s at) (b : to ≡ number_at s (at + 2)) where
  pub unordered : to < from → fit (row_at s at) ≡ false
  unordered h = fit-order (row_at s at) (omega (arith, row_from s at, row-to s at))

  pub too-deep : from ≤ to → 10000 ≤ to → fit (row_at s at) ≡ false
  too-deep h l = fit-deep (row_at s at) (omega (arith, row_from s at, row-to s at)) (omega (arith, row-to s at))

  pub pumps-left : from ≤ to → to < 10000 → leb (get_or s (at + 4) 0) 4 ≡ fit (row_at s at)
  pumps-left h l =
      rw (← (row-pumps s at)) (sym (fit-pumps (row_at s at) (omega (arith, row_from s at, row-to s at)) (omega (arith, row-to s at))))

  pub row_read : band from to (get_or s (at + 4) 0) ≡ row_at s at
  unfolding row_at row
  row_read = let e : at + 2 + 1 ≡ at + 3 = omega arith in rw (a, b, e)

module _ (mm : ℕ) (s : List ℕ) (at : ℕ) {from : ℕ} (a : from ≡ number_at s at) where
  pub above-it : mm < from → holds mm (row_at s at) ≡ false
  above-it h = holds-low mm (row_at s at) (omega (arith, row_from s at))

  pub end-left : {to : ℕ} → to ≡ number_at s (at + 2) → from ≤ mm → leb mm to ≡ holds mm (row_at s at)
  end-left {to} b h = rw (b, ← (row-to s at)) (sym (holds_test mm (row_at s at) (omega (arith, row_from s at))))

-- ---- rows that rise

module _ (s : List ℕ) (at next : ℕ) where
  pub rising-over : at + 5 ≤ length s → {from to : ℕ} → from ≡ number_at s at → to ≡ number_at s (at + 2) → from ≡ next
      → rising next (rest s at) ≡ rising (to + 1) (rest s (at + 5))
  unfolding rising
  rising-over h {from} {to} a b e =
      let f : (row_at s at).from ≡ next = row_from s at ∙ sym a ∙ e in
      let g : (row_at s at).to ≡ to = row-to s at ∙ sym b in
      rw (rest-row s at h, eq-eqb (row_at s at).from next f, g)

  pub rising-broken : at + 5 ≤ length s → {from : ℕ} → from ≡ number_at s at → (from ≡ next → ⊥) → rising next (rest s at) ≡ false
  unfolding rising
  rising-broken h {from} a n =
      rw (rest-row s at h, ne_eqb (row_at s at).from next (λ e. n (a ∙ sym (row_from s at) ∙ e)))

  pub rising-ended : length s ≤ at → rising next (rest s at) ≡ eqb next 10000
  unfolding rising depths
  rising-ended h = rw (rest_end s at h)

-- ---- rows that a table may have and that rise

both_false : (a : Bool) → (a && false) ≡ false
both_false true = refl
both_false false = refl

module _ (s : List ℕ) (at next : ℕ) where
  module _ (h : at + 5 ≤ length s) {from : ℕ} (a : from ≡ number_at s at) where
    pub tiled-broken : (from ≡ next → ⊥) → (all_fit (rest s at) && rising next (rest s at)) ≡ false
    tiled-broken n = rw (rising-broken s at next h a n) (both_false (all_fit (rest s at)))

    pub tiled-over : {to : ℕ} → to ≡ number_at s (at + 2) → from ≡ next → fit (row_at s at) ≡ true
        → (all_fit (rest s at) && rising next (rest s at)) ≡ (all_fit (rest s (at + 5)) && rising (to + 1) (rest s (at + 5)))
    tiled-over b e f = rw (rising-over s at next h a b e, fits-over s at h f)

  pub tiled-unfit : at + 5 ≤ length s → fit (row_at s at) ≡ false → (all_fit (rest s at) && rising next (rest s at)) ≡ false
  tiled-unfit h f = rw (fits_under s at h f)

  pub tiled-ended : length s ≤ at → (all_fit (rest s at) && rising next (rest s at)) ≡ eqb next 10000
  tiled-ended h = rw (fits-ended s at h, rising-ended s at next h)

pub tiled-all : (s : List ℕ) → (all_fit (rest s 0) && rising 0 (rest s 0)) ≡ (all_fit (rows s) && rising 0 (rows s))
tiled-all s = ap (λ rs. all_fit rs && rising 0 rs) (rest_all s)

-- ---- the row found

module _ (s : List ℕ) (mm : ℕ) {at : ℕ} (w : length s % 5 ≡ 0) (p : at ≡ 5 * place mm (rows s)) where
  pub place-room : at < length s → at + 5 ≤ length s
  place-room h = omega (arith, rows_whole s w)

  place_inside : at < length s → place mm (rows s) < length (rows s)
  place_inside h = omega (arith, rows_whole s w)

  pub place-row : at < length s → lookup mm (rows s) ≡ row_at s at
  unfolding lookup
  place-row h = rw p (row-of s (place mm (rows s)) (omega (arith, rows_whole s w)))

  pub place-blank : length s ≤ at → lookup mm (rows s) ≡ band 0 0 0
  unfolding lookup
  place-blank h = get_or-eq_default (rows s) (band 0 0 0) (omega (arith, rows_whole s w))

  pub place-bare : length s ≤ at → count mm (rows s) ≡ 0
  place-bare h = place_none mm (rows s) (omega (arith, rows_whole s w))

  pub found-to : at < length s → {to : ℕ} → to ≡ number_at s (at + 2) → (lookup mm (rows s)).to ≡ to
  found-to h b = ap (λ (r : Row). r.to) (place-row h) ∙ row-to s at ∙ sym b

  pub found-further : at < length s → {to : ℕ} → to ≡ number_at s (at + 2) → mm ≤ to
  found-further h b = omega (arith, holds-below mm (lookup mm (rows s)) (place-holds mm (rows s) (place_inside h)), found-to h b)

-- ---- the walk over covered millimetres

-- all millimetres below this one are covered
abbrev pub Covered : List Row → ℕ → Type 0
Covered rs next = (k : ℕ) → k < next → 1 ≤ count k rs

pub covered_none : (rs : List Row) → Covered rs 0
covered_none rs k h = absurd (omega arith)

module _ (s : List ℕ) (next : ℕ) (v : Covered (rows s) next) where
  pub walk-on : length s % 5 ≡ 0 → {at to : ℕ} → at ≡ 5 * place next (rows s) → at < length s → to ≡ number_at s (at + 2) → Covered (rows s) (to + 1)
  walk-on w {at} {to} p h b k l = go (leb next k) refl
    where
      go : (t : Bool) → leb next k ≡ t → 1 ≤ count k (rows s)
      go true e =
          let a = leb-true next k e in
          walk (rows s) next (omega (arith, rows_whole s w)) k a (omega (arith, found-to s next w p h b))
      go false e = v k (leb-false next k e)

  pub walk-gap : length s % 5 ≡ 0 → {at : ℕ} → at ≡ 5 * place next (rows s) → length s ≤ at → next < 10000 → next ≡ uncovered (rows s)
  walk-gap w p h l = sym (uncovered-is (rows s) next (omega arith) v (λ m. place-bare s next w p h))

  pub walk-done : 10000 ≤ next → 10000 ≡ uncovered (rows s)
  walk-done h = sym (uncovered-is (rows s) 10000 (omega arith) (λ j l. v j (omega arith)) (λ m. absurd (omega arith)))

-- ---- the millimetres of all rows

module _ (s : List ℕ) (at : ℕ) (h : at + 5 ≤ length s) where
  pub width-over : {from to : ℕ} → from ≡ number_at s at → to ≡ number_at s (at + 2) → width (rest s at) ≡ to + 1 - from + width (rest s (at + 5))
  width-over {from} {to} a b =
      let f : (row_at s at).from ≡ from = row_from s at ∙ sym a in
      let t : (row_at s at).to ≡ to = row-to s at ∙ sym b in
      rw (rest-row s at h) (width-cons (row_at s at) (rest s (at + 5)) ∙ rw (f, t))

  fits-row : all_fit (rest s at) ≡ true → all_fit (row_at s at ∷ rest s (at + 5)) ≡ true
  fits-row f = rw (rest-row s at h) at f

  pub fits-ordered : all_fit (rest s at) ≡ true → {from to : ℕ} → from ≡ number_at s at → to ≡ number_at s (at + 2) → from ≤ to
  fits-ordered f a b = omega (arith, fit-ordered (row_at s at) (all_first (row_at s at) (rest s (at + 5)) (fits-row f)), row_from s at, row-to s at)

  pub fits_next : all_fit (rest s at) ≡ true → all_fit (rest s (at + 5)) ≡ true
  fits_next f = all_rest (row_at s at) (rest s (at + 5)) (fits-row f)

pub fits_all : (s : List ℕ) → all_fit (rows s) ≡ true → all_fit (rest s 0) ≡ true
fits_all s f = ap all_fit (rest_all s) ∙ f

pub width-ended : (s : List ℕ) (at : ℕ) → length s ≤ at → width (rest s at) ≡ 0
width-ended s at h = rw (rest_end s at h) width-nil

-- ---- two rows that meet

pub shared-over : (f t : ℕ) (s : List ℕ) (j : ℕ) → j + 5 ≤ length s → {g u : ℕ} → g ≡ number_at s j → u ≡ number_at s (j + 2)
    → shared f t (rest s j) ≡ min (common f t g u) (shared f t (rest s (j + 5)))
shared-over f t s j h {g} {u} a b =
    let e : (row_at s j).from ≡ g = row_from s j ∙ sym a in
    let d : (row_at s j).to ≡ u = row-to s j ∙ sym b in
    rw (rest-row s j h) (shared-cons f t (row_at s j) (rest s (j + 5)) ∙ rw (e, d))

pub shared-ended : (f t : ℕ) (s : List ℕ) (j : ℕ) → length s ≤ j → shared f t (rest s j) ≡ 10000
shared-ended f t s j h = rw (rest_end s j h) (shared-nil f t)

pub shared_of : (s : List ℕ) (at : ℕ) {f t : ℕ} (rs : List Row) → f ≡ number_at s at → t ≡ number_at s (at + 2) → shared f t rs ≡ shared (row_at s at).from (row_at s at).to rs
shared_of s at rs a b = rw (a, b, ← (row_from s at), ← (row-to s at))

pub twice-over : (s : List ℕ) (at : ℕ) → at + 5 ≤ length s
    → twice (rest s at) ≡ min (shared (row_at s at).from (row_at s at).to (rest s (at + 5))) (twice (rest s (at + 5)))
twice-over s at h = rw (rest-row s at h) (twice-cons (row_at s at) (rest s (at + 5)))

pub twice-ended : (s : List ℕ) (at : ℕ) → length s ≤ at → twice (rest s at) ≡ 10000
twice-ended s at h = rw (rest_end s at h) twice-nil
