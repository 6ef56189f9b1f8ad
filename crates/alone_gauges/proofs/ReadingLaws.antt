-- Laws of lists of readings: row by row, minutes that rise, and the level at a minute. Assumes nothing.
use mathlib.Core.Path.{◌≡◌, refl, ap, ◌∙◌}
use mathlib.Core.Bool.{Bool, true, false, ◌&&◌}
use mathlib.Core.List.{List, [], ◌∷◌}
use mathlib.Core.Option.{none, some}
use Prim.Native.Nat.{ℕ, suc, ◌+◌, ◌%◌, ◌≤◌, ◌<◌}
use native.Mathlib.Omega.{arith}
use borrow.Author.Tests.{leb-true, le-leb, lt-leb, eq-eqb, ne_eqb}
use lib.Dec.{leb}
use lib.ListN.{length, get_or, drop_of_length-le}
use lib.Seq.{drop-cons}
use Rattle.alone_gauges.specs.Readings.{Reading, reading, readings, rising, acceptable, level_at}
use Rattle.alone_gauges.specs.Merge.{rest}

-- ---- both parts of a test

pub both_left : (a b : Bool) → (a && b) ≡ true → a ≡ true
both_left true b e = refl
both_left false b e = e

pub both_right : (a b : Bool) → (a && b) ≡ true → b ≡ true
both_right true b e = e
both_right false b e = let z : ◌≡◌ {A = ℕ} 0 1 = cc in absurd (omega arith)

pub both : (a b : Bool) → a ≡ true → b ≡ true → (a && b) ≡ true
both a b e f = rw (e, f)

-- ---- row by row

-- the row at byte `at`
unfoldable pub row_at : List ℕ → ℕ → Reading
row_at s at = reading (get_or s at 0) (get_or s (at + 1) 0) (get_or s (at + 2) 0) (get_or s (at + 3) 0)

pub rest-row : (s : List ℕ) (at : ℕ) → at + 4 ≤ length s → rest s at ≡ row_at s at ∷ rest s (at + 4)
unfolding rest readings row_at
rest-row s at h =
    let e : suc (suc (suc (suc at))) ≡ at + 4 = omega arith in
    let e₁ : at + 1 ≡ suc at = omega arith in
    let e₂ : at + 2 ≡ suc (suc at) = omega arith in
    let e₃ : at + 3 ≡ suc (suc (suc at)) = omega arith in
    let h₀ : at < length s = omega arith in
    let h₁ : suc at < length s = omega arith in
    let h₂ : suc (suc at) < length s = omega arith in
    let h₃ : suc (suc (suc at)) < length s = omega arith in
    ap readings (drop-cons s at 0 h₀
    ∙ ap {B = List ℕ} (λ l. get_or s at 0 ∷ l) (drop-cons s (suc at) 0 h₁
    ∙ ap {B = List ℕ} (λ l. get_or s (suc at) 0 ∷ l) (drop-cons s (suc (suc at)) 0 h₂
    ∙ ap {B = List ℕ} (λ l. get_or s (suc (suc at)) 0 ∷ l) (drop-cons s (suc (suc (suc at))) 0 h₃))))
    ∙ rw (e₁, e₂, e₃, e)

pub rest_end : (s : List ℕ) (at : ℕ) → length s ≤ at → rest s at ≡ []
unfolding rest readings
rest_end s at h = ap readings (drop_of_length-le s h)

pub rest_all : (s : List ℕ) → rest s 0 ≡ readings s
unfolding rest
rest_all s = refl

-- ---- minutes that rise

pub rising-nil : (lowest : ℕ) → rising lowest [] ≡ true
unfolding rising
rising-nil lowest = refl

pub rising-low : (lowest : ℕ) (r : Reading) (rs : List Reading) → rising lowest (r ∷ rs) ≡ true → lowest ≤ r.minute
unfolding rising
rising-low lowest r rs e = leb-true lowest r.minute (both_left (leb lowest r.minute) _ e)

pub rising-next : (lowest : ℕ) (r : Reading) (rs : List Reading) → rising lowest (r ∷ rs) ≡ true → rising (r.minute + 1) rs ≡ true
unfolding rising
rising-next lowest r rs e = both_right (leb lowest r.minute) _ e

pub rising-cons : (lowest : ℕ) (r : Reading) (rs : List Reading) → lowest ≤ r.minute → rising (r.minute + 1) rs ≡ true → rising lowest (r ∷ rs) ≡ true
unfolding rising
rising-cons lowest r rs h e = both _ _ (le-leb lowest r.minute h) e

pub rising_step : (lowest : ℕ) (r : Reading) (rs : List Reading) → lowest ≤ r.minute → rising lowest (r ∷ rs) ≡ rising (r.minute + 1) rs
unfolding rising
rising_step lowest r rs h = rw (le-leb lowest r.minute h)

-- from a lower minute on they rise too
pub rising-lower : (lowest lower : ℕ) (rs : List Reading) → lower ≤ lowest → rising lowest rs ≡ true → rising lower rs ≡ true
rising-lower lowest lower [] h e = rising-nil lower
rising-lower lowest lower (r ∷ rs) h e =
    let l = rising-low lowest r rs e in
    rising-cons lower r rs (omega arith) (rising-next lowest r rs e)

-- ---- the level at a minute

pub level-here : (r : Reading) (rs : List Reading) → level_at r.minute (r ∷ rs) ≡ some r.level
unfolding level_at
level-here r rs = rw (eq-eqb r.minute r.minute refl)

pub level-other : (m : ℕ) (r : Reading) (rs : List Reading) → (r.minute ≡ m → ⊥) → level_at m (r ∷ rs) ≡ level_at m rs
unfolding level_at
level-other m r rs n = rw (ne_eqb r.minute m n)

level-nil : (m : ℕ) → level_at m [] ≡ none
unfolding level_at
level-nil m = refl

pub level-below : (lowest m : ℕ) (rs : List Reading) → rising lowest rs ≡ true → m < lowest → level_at m rs ≡ none
level-below lowest m [] e h = level-nil m
level-below lowest m (r ∷ rs) e h =
    let l = rising-low lowest r rs e in
    level-other m r rs (λ q. omega arith) ∙ level-below (r.minute + 1) m rs (rising-next lowest r rs e) (omega arith)

-- ---- what is asked of a strip, one after the other

pub acceptable-rest : (s : List ℕ) → length s % 4 ≡ 0 → length s ≤ 5760 → acceptable s ≡ rising 0 (readings s)
unfolding acceptable
acceptable-rest s e h = rw (eq-eqb (length s % 4) 0 e, le-leb (length s) 5760 h)
