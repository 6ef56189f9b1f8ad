-- Laws of strips of rows: row by row, what is asked of each, and the row of an index. Assumes nothing.
use mathlib.Core.Path.{◌≡◌, refl, ap, ◌∙◌}
use mathlib.Core.Bool.{Bool, true, false, ◌&&◌}
use mathlib.Core.List.{List, [], ◌∷◌}
use Prim.Native.Nat.{ℕ, zero, suc, ◌+◌, ◌*◌, ◌%◌, ◌^◌, ◌≤◌, ◌<◌}
use native.Mathlib.Omega.{arith}
use borrow.Author.Tests.{eqb-true, leb-true, ltb-true, le-leb, lt-leb, lt-ltb, le-ltb}
use lib.Bits.{bit_or, or_shifted_r}
use lib.Dec.{leb, ltb, eqb}
use lib.ListN.{length, get_or, drop_of_length-le}
use lib.Pow.{shl_exact}
use lib.Seq.{drop-cons}
use Rattle.unit_bands_table.specs.Rows.{Row, band, row, rows}
use Rattle.unit_bands_table.specs.Judge.{depths, fit, all_fit, sound}
use Rattle.unit_bands_table.specs.Sweep.{sized, rest, row_at}

-- ---- both parts of a test

pub both_left : (a b : Bool) → (a && b) ≡ true → a ≡ true
both_left true b e = refl
both_left false b e = e

pub both_right : (a b : Bool) → (a && b) ≡ true → b ≡ true
both_right true b e = e
both_right false b e = let z : ◌≡◌ {A = ℕ} 0 1 = cc in absurd (omega arith)

pub both : (a b : Bool) → a ≡ true → b ≡ true → (a && b) ≡ true
both a b e f = rw (e, f)

-- ---- two bytes as one number

pub two-joined : (low high : ℕ) → low < 256 → high < 256 → (bit_or low ((high * 2 ^ 8) % 2 ^ 64) ≡ low + 256 * high) × (bit_or low ((high * 2 ^ 8) % 2 ^ 64) < 65536)
two-joined low high l h =
    let e : bit_or low ((high * 2 ^ 8) % 2 ^ 64) ≡ low + 256 * high =
    ap (λ (x : ℕ). bit_or low x) (shl_exact 8 8 64 h (omega arith)) ∙ or_shifted_r high 8 low l ∙ omega arith in
    (e, rw e (omega arith))

-- ---- row by row

pub rest-row : (s : List ℕ) (at : ℕ) → at + 5 ≤ length s → rest s at ≡ row_at s at ∷ rest s (at + 5)
unfolding rest rows row_at
rest-row s at h =
    let e₁ : at + 1 ≡ suc at = omega arith in
    let e₂ : at + 2 ≡ suc (suc at) = omega arith in
    let e₃ : at + 3 ≡ suc (suc (suc at)) = omega arith in
    let e₄ : at + 4 ≡ suc (suc (suc (suc at))) = omega arith in
    let e : suc (suc (suc (suc (suc at)))) ≡ at + 5 = omega arith in
    let h₀ : at < length s = omega arith in
    let h₁ : suc at < length s = omega arith in
    let h₂ : suc (suc at) < length s = omega arith in
    let h₃ : suc (suc (suc at)) < length s = omega arith in
    let h₄ : suc (suc (suc (suc at))) < length s = omega arith in
    ap rows (drop-cons s at 0 h₀
    ∙ ap {B = List ℕ} (λ l. get_or s at 0 ∷ l) (drop-cons s (suc at) 0 h₁
    ∙ ap {B = List ℕ} (λ l. get_or s (suc at) 0 ∷ l) (drop-cons s (suc (suc at)) 0 h₂
    ∙ ap {B = List ℕ} (λ l. get_or s (suc (suc at)) 0 ∷ l) (drop-cons s (suc (suc (suc at))) 0 h₃
    ∙ ap {B = List ℕ} (λ l. get_or s (suc (suc (suc at))) 0 ∷ l) (drop-cons s (suc (suc (suc (suc at)))) 0 h₄)))))
    ∙ rw (e₁, e₂, e₃, e₄, e)

pub rest_end : (s : List ℕ) (at : ℕ) → length s ≤ at → rest s at ≡ []
unfolding rest rows
rest_end s at h = ap rows (drop_of_length-le s h)

pub rest_all : (s : List ℕ) → rest s 0 ≡ rows s
unfolding rest
rest_all s = refl

abbrev pub number_at : List ℕ → ℕ → ℕ
number_at s at = get_or s at 0 + 256 * get_or s (at + 1) 0

pub row_from : (s : List ℕ) (at : ℕ) → (row_at s at).from ≡ number_at s at
unfolding row_at row
row_from s at = refl

pub row-to : (s : List ℕ) (at : ℕ) → (row_at s at).to ≡ number_at s (at + 2)
unfolding row_at row
row-to s at = let e : at + 2 + 1 ≡ at + 3 = omega arith in rw e

pub row-pumps : (s : List ℕ) (at : ℕ) → (row_at s at).pumps ≡ get_or s (at + 4) 0
unfolding row_at row
row-pumps s at = refl

pub rows_whole : (s : List ℕ) → length s % 5 ≡ 0 → length s ≡ 5 * length (rows s)
unfolding rows
rows_whole [] h = refl
rows_whole (a ∷ []) h = absurd (omega arith)
rows_whole (a ∷ b ∷ []) h = absurd (omega arith)
rows_whole (a ∷ b ∷ c ∷ []) h = absurd (omega arith)
rows_whole (a ∷ b ∷ c ∷ d ∷ []) h = absurd (omega arith)
rows_whole (a ∷ b ∷ c ∷ d ∷ e ∷ s) h = omega (arith, rows_whole s (omega arith))

-- ---- the row of an index

rest-of : (s : List ℕ) (at i : ℕ) → at + 5 * i + 5 ≤ length s → get_or (rest s at) i (band 0 0 0) ≡ row_at s (at + 5 * i)
rest-of s at zero h =
    let e : at + 5 * zero ≡ at = omega arith in
    let k : at + 5 ≤ length s = omega arith in
    rw (rest-row s at k, e)
rest-of s at (suc i) h =
    let e : at + 5 * suc i ≡ at + 5 + 5 * i = omega arith in
    let k : at + 5 ≤ length s = omega arith in
    rw (rest-row s at k, e) (rest-of s (at + 5) i (omega arith))

pub row-of : (s : List ℕ) (i : ℕ) → 5 * i + 5 ≤ length s → get_or (rows s) i (band 0 0 0) ≡ row_at s (5 * i)
row-of s i h =
    let e : 0 + 5 * i ≡ 5 * i = omega arith in
    rw (← (rest_all s), ← e) (rest-of s 0 i (omega arith))

-- ---- what is asked of a row

pub fit-order : (r : Row) → r.to < r.from → fit r ≡ false
unfolding fit
fit-order r h = rw (lt-leb r.from r.to h)

pub fit-deep : (r : Row) → r.from ≤ r.to → 10000 ≤ r.to → fit r ≡ false
unfolding fit depths
fit-deep r h l = rw (le-leb r.from r.to h, le-ltb r.to 10000 l)

pub fit-pumps : (r : Row) → r.from ≤ r.to → r.to < 10000 → fit r ≡ leb r.pumps 4
unfolding fit depths
fit-pumps r h l = rw (le-leb r.from r.to h, lt-ltb r.to 10000 l)

pub fit-ordered : (r : Row) → fit r ≡ true → r.from ≤ r.to
unfolding fit
fit-ordered r e = leb-true r.from r.to (both_left (leb r.from r.to) _ e)

pub fit-shallow : (r : Row) → fit r ≡ true → r.to < 10000
unfolding fit depths
fit-shallow r e =
    ltb-true r.to 10000 (both_left (ltb r.to 10000) _ (both_right (leb r.from r.to) _ e))

pub fit-few : (r : Row) → fit r ≡ true → r.pumps ≤ 4
unfolding fit depths
fit-few r e = leb-true r.pumps 4 (both_right (ltb r.to 10000) _ (both_right (leb r.from r.to) _ e))

-- ---- and of all

pub all_cons : (r : Row) (rs : List Row) → fit r ≡ true → all_fit (r ∷ rs) ≡ all_fit rs
unfolding all_fit
all_cons r rs e = rw e

pub all-not : (r : Row) (rs : List Row) → fit r ≡ false → all_fit (r ∷ rs) ≡ false
unfolding all_fit
all-not r rs e = rw e

pub all_nil : all_fit [] ≡ true
unfolding all_fit
all_nil = refl

pub all_first : (r : Row) (rs : List Row) → all_fit (r ∷ rs) ≡ true → fit r ≡ true
unfolding all_fit
all_first r rs e = both_left (fit r) (all_fit rs) e

pub all_rest : (r : Row) (rs : List Row) → all_fit (r ∷ rs) ≡ true → all_fit rs ≡ true
unfolding all_fit
all_rest r rs e = both_right (fit r) (all_fit rs) e

pub all-at : (rs : List Row) (i : ℕ) → all_fit rs ≡ true → i < length rs → fit (get_or rs i (band 0 0 0)) ≡ true
all-at [] i f h = absurd (omega arith)
all-at (r ∷ rs) zero f h = all_first r rs f
all-at (r ∷ rs) (suc i) f h = all-at rs i (all_rest r rs f) (omega arith)

module _ (s : List ℕ) (at : ℕ) (h : at + 5 ≤ length s) where
  pub fits-over : fit (row_at s at) ≡ true → all_fit (rest s at) ≡ all_fit (rest s (at + 5))
  fits-over e = rw (rest-row s at h) (all_cons (row_at s at) (rest s (at + 5)) e)

  pub fits_under : fit (row_at s at) ≡ false → all_fit (rest s at) ≡ false
  fits_under e = rw (rest-row s at h) (all-not (row_at s at) (rest s (at + 5)) e)

pub fits-ended : (s : List ℕ) (at : ℕ) → length s ≤ at → all_fit (rest s at) ≡ true
fits-ended s at h = rw (rest_end s at h) all_nil

-- ---- what is asked of a strip, one after the other

parted : (a b c d : Bool) → (a && (b && (c && d))) ≡ ((a && (b && c)) && d)
parted false b c d = refl
parted true false c d = refl
parted true true c d = refl

module _ (s : List ℕ) where
  pub sized-none : length s ≡ 0 → sized s ≡ false
  unfolding sized
  sized-none h = rw (lt-leb 1 (length s) (omega arith))

  pub sized-long : 160 < length s → sized s ≡ false
  unfolding sized
  sized-long h = rw (le-leb 1 (length s) (omega arith), lt-leb (length s) 160 h)

  pub sized-whole : (length s ≡ 0 → ⊥) → length s ≤ 160 → sized s ≡ eqb (length s % 5) 0
  unfolding sized
  sized-whole a b = rw (le-leb 1 (length s) (omega arith), le-leb (length s) 160 b)

  pub sized_rows : sized s ≡ true → length s % 5 ≡ 0
  unfolding sized
  sized_rows e = eqb-true (length s % 5) 0 (both_right (leb (length s) (5 * 32)) _ (both_right (leb 1 (length s)) _ e))

  sound-sized : sound s ≡ (sized s && all_fit (rows s))
  unfolding sound sized
  sound-sized = parted (leb 1 (length s)) (leb (length s) (5 * 32)) (eqb (length s % 5) 0) (all_fit (rows s))

  pub sound-unsized : sized s ≡ false → sound s ≡ false
  sound-unsized e = sound-sized ∙ rw e

  pub sound-rest : sized s ≡ true → sound s ≡ all_fit (rows s)
  sound-rest e = sound-sized ∙ rw e

  module _ (e : sound s ≡ true) where
    sound-tail : (leb (length s) (5 * 32) && (eqb (length s % 5) 0 && all_fit (rows s))) ≡ true
    unfolding sound
    sound-tail = both_right (leb 1 (length s)) _ e

    sound-tail-2 : (eqb (length s % 5) 0 && all_fit (rows s)) ≡ true
    sound-tail-2 = both_right (leb (length s) (5 * 32)) _ sound-tail

    pub sound-some : 1 ≤ length s
    unfolding sound
    sound-some = leb-true 1 (length s) (both_left (leb 1 (length s)) _ e)

    pub sound-short : length s ≤ 160
    sound-short = leb-true (length s) 160 (both_left (leb (length s) (5 * 32)) _ sound-tail)

    pub sound-whole : length s % 5 ≡ 0
    sound-whole = eqb-true (length s % 5) 0 (both_left (eqb (length s % 5) 0) _ sound-tail-2)

    pub sound-fit : all_fit (rows s) ≡ true
    sound-fit = both_right (eqb (length s % 5) 0) _ sound-tail-2
