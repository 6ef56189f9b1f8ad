-- What a strip of rows is answered: 0, 11, 12 or 13, and a millimetre with 12 and 13.
use Rattle.std.specs.Prelude.{ℕ, zero, suc, ◌+◌, ◌*◌, ◌%◌, Bool, true, ◌&&◌, cond, List, [], ◌∷◌, eqb, leb, ltb, length}
use Rattle.unit_bands_table.specs.Rows.{Row, rows, count}

pub record Verdict : Type 0 where
  pub code : ℕ
  pub millimetre : ℕ

abbrev pub verdict : ℕ → ℕ → Verdict
verdict code millimetre = record { code = code; millimetre = millimetre }

-- "every millimetre from 0 to 9,999": depths are below this
unfoldable pub depths : ℕ
depths = 10000

-- "11 .. from above to, to above 9,999 or pumps above 4"
unfoldable pub fit : Row → Bool
fit r = leb r.from r.to && (ltb r.to depths && leb r.pumps 4)

unfoldable pub all_fit : List Row → Bool
all_fit [] = true
all_fit (r ∷ rs) = fit r && all_fit rs

-- "11 no rows, more than 32"; "a strip ending inside one answers as too long"
unfoldable pub sound : List ℕ → Bool
sound bytes = leb 1 (length bytes) && (leb (length bytes) (5 * 32) && (eqb (length bytes % 5) 0 && all_fit (rows bytes)))

-- the lowest of n numbers from `at` on that a test takes, or the one past them
unfoldable pub lowest : (ℕ → Bool) → ℕ → ℕ → ℕ
lowest test zero at = at
lowest test (suc n) at = cond (test at) at (lowest test n (at + 1))

-- the lowest millimetre "in no row", and the lowest "in two or more"; `depths` if there is none
unfoldable pub uncovered : List Row → ℕ
uncovered rs = lowest (λ mm. eqb (count mm rs) 0) depths 0

unfoldable pub doubled : List Row → ℕ
doubled rs = lowest (λ mm. leb 2 (count mm rs)) depths 0

-- "12 a millimetre in no row; 13 a millimetre in two or more; 12 and 13 also give the lowest such millimetre"
unfoldable pub overlaps : List Row → Verdict
overlaps rs = cond (ltb (doubled rs) depths) (verdict 13 (doubled rs)) (verdict 0 0)

unfoldable pub coverage : List Row → Verdict
coverage rs = cond (ltb (uncovered rs) depths) (verdict 12 (uncovered rs)) (overlaps rs)

-- "Answers: 11 ..; 12 ..; 13": in this order, 11 for the whole strip [S-65]
unfoldable pub judgement : List ℕ → Verdict
judgement bytes = cond (sound bytes) (coverage (rows bytes)) (verdict 11 0)
