-- A table in its three home blocks, 192 bytes: the number of rows, the rows, zeros behind.
use Rattle.std.specs.Prelude.{ℕ, ◌*◌, ◌-◌, ◌/◌, Bool, ◌&&◌, cond, List, ◌∷◌, ◌++◌, eqb, leb, length, take, drop, get_or, replicate}
use Rattle.std.proofs.Math.Option.{Option, none, some}
use Rattle.unit_bands_table.specs.Rows.{Row, band, rows, lookup}
use Rattle.unit_bands_table.specs.Judge.{judgement}

-- "An accepted table goes into its home blocks"
unfoldable pub pack : List ℕ → List ℕ
pack bytes = length bytes / 5 ∷ bytes ++ replicate (191 - length bytes) 0

-- the strip of as many rows as byte 0 says
unfoldable pub held : List ℕ → List ℕ
held packed = take (5 * get_or packed 0 0) (drop 1 packed)

-- "its homes hold no acceptable table": 0 rows, more than 32, or rows that would be refused
unfoldable pub acceptable : List ℕ → Bool
acceptable packed = leb (get_or packed 0 0) 32 && eqb (judgement (held packed)).code 0

-- the rows of an acceptable table, else 0
unfoldable pub table_rows : List ℕ → ℕ
table_rows packed = cond (acceptable packed) (get_or packed 0 0) 0

unfoldable pub unpack : List ℕ → Option (List ℕ)
unpack packed = cond (acceptable packed) (some (held packed)) none

-- what a lookup finds in the homes: 0 and the row, or 11
pub record Lookup : Type 0 where
  pub code : ℕ
  pub row : Row

abbrev pub answered : ℕ → ℕ → ℕ → ℕ → Lookup
answered code from to pumps = record { code = code; row = band from to pumps }

-- "one while its homes hold no acceptable table answers 11"
unfoldable pub found : ℕ → Option (List ℕ) → Lookup
found mm none = answered 11 0 0 0
found mm (some bytes) = record { code = 0; row = lookup mm (rows bytes) }

unfoldable pub look_up : List ℕ → ℕ → Lookup
look_up packed mm = found mm (unpack packed)
