-- What the judging code computes: the length of a strip, rows that rise without a gap, their millimetres together, and the lowest that two rows share.
use Rattle.std.specs.Prelude.{ℕ, ◌+◌, ◌-◌, ◌*◌, ◌%◌, min, max, Bool, ◌&&◌, cond, List, [], ◌∷◌, eqb, leb, length, drop, get_or}
use Rattle.unit_bands_table.specs.Rows.{Row, row, rows}
use Rattle.unit_bands_table.specs.Judge.{depths}

-- 1 to 32 whole rows
unfoldable pub sized : List ℕ → Bool
sized s = leb 1 (length s) && (leb (length s) (5 * 32) && eqb (length s % 5) 0)

-- the rows of a strip from byte `at` on
unfoldable pub rest : List ℕ → ℕ → List Row
rest bytes at = rows (drop at bytes)

-- the row at byte `at`
unfoldable pub row_at : List ℕ → ℕ → Row
row_at s at = row (get_or s at 0) (get_or s (at + 1) 0) (get_or s (at + 2) 0) (get_or s (at + 3) 0) (get_or s (at + 4) 0)

-- whether each row begins one past the row before, and the last ends with the depths
unfoldable pub rising : ℕ → List Row → Bool
rising next [] = eqb next depths
rising next (r ∷ rs) = eqb r.from next && rising (r.to + 1) rs

-- the index of the first row that begins at a millimetre, or the number of rows
unfoldable pub starting : ℕ → List Row → ℕ
starting mm [] = 0
starting mm (r ∷ rs) = cond (eqb r.from mm) 0 (1 + starting mm rs)

-- the millimetres of all rows together
unfoldable pub width : List Row → ℕ
width [] = 0
width (r ∷ rs) = r.to + 1 - r.from + width rs

-- the lowest millimetre in both of two rows, from `f` to `t` and from `g` to `u`; `depths` if there is none
unfoldable pub common : ℕ → ℕ → ℕ → ℕ → ℕ
common f t g u = cond (leb (max f g) (min t u)) (max f g) depths

-- the lowest in a row from `f` to `t` and in one of some others
unfoldable pub shared : ℕ → ℕ → List Row → ℕ
shared f t [] = depths
shared f t (s ∷ ss) = min (common f t s.from s.to) (shared f t ss)

-- the lowest in any two
unfoldable pub twice : List Row → ℕ
twice [] = depths
twice (r ∷ rs) = min (shared r.from r.to rs) (twice rs)
