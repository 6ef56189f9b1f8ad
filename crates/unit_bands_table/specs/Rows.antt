-- Tables of depth bands: strips of 5-byte rows, from and to of 16 bits each, lowest byte first, and pumps.
-- "A table has rows of from, to (inclusive millimetres, 16 bits) and pumps (0 to 4)", "rows are packed, pumps one byte"
use Rattle.std.specs.Prelude.{ℕ, ◌+◌, ◌*◌, Bool, ◌&&◌, cond, List, [], ◌∷◌, leb, get_or}

pub record Row : Type 0 where
  pub from : ℕ
  pub to : ℕ
  pub pumps : ℕ

abbrev pub band : ℕ → ℕ → ℕ → Row
band from to pumps = record { from = from; to = to; pumps = pumps }

unfoldable pub row : ℕ → ℕ → ℕ → ℕ → ℕ → Row
row a b c d e = band (a + 256 * b) (c + 256 * d) e

-- the rows of a strip
unfoldable pub rows : List ℕ → List Row
rows [] = []
rows (a ∷ []) = []
rows (a ∷ b ∷ []) = []
rows (a ∷ b ∷ c ∷ []) = []
rows (a ∷ b ∷ c ∷ d ∷ []) = []
rows (a ∷ b ∷ c ∷ d ∷ e ∷ rest) = row a b c d e ∷ rows rest

-- whether a millimetre lies in a row
unfoldable pub holds : ℕ → Row → Bool
holds mm r = leb r.from mm && leb mm r.to

-- how many rows a millimetre lies in
unfoldable pub count : ℕ → List Row → ℕ
count mm [] = 0
count mm (r ∷ rs) = cond (holds mm r) 1 0 + count mm rs

-- the index of the first row that a millimetre lies in, or the number of rows
unfoldable pub place : ℕ → List Row → ℕ
place mm [] = 0
place mm (r ∷ rs) = cond (holds mm r) 0 (1 + place mm rs)

-- "a lookup gives that row"; zeros if there is none
unfoldable pub lookup : ℕ → List Row → Row
lookup mm rs = get_or rs (place mm rs) (band 0 0 0)
