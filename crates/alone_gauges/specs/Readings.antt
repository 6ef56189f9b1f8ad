-- Lists of readings: strips of 4-byte rows, a minute and millimetres, 16 bits each, lowest byte first.
-- "Take two lists of (minute, millimetres), up to 1,440 each, and a tolerance, all 16 bits."
use Rattle.std.specs.Prelude.{ℕ, ◌+◌, ◌*◌, ◌%◌, Bool, true, ◌&&◌, cond, List, [], ◌∷◌, eqb, leb, length}
use Rattle.std.proofs.Math.Option.{Option, none, some}

pub record Reading : Type 0 where
  pub minute : ℕ
  pub level : ℕ

unfoldable pub reading : ℕ → ℕ → ℕ → ℕ → Reading
reading a b c d = record { minute = a + 256 * b; level = c + 256 * d }

-- the rows of a strip
unfoldable pub readings : List ℕ → List Reading
readings [] = []
readings (a ∷ []) = []
readings (a ∷ b ∷ []) = []
readings (a ∷ b ∷ c ∷ []) = []
readings (a ∷ b ∷ c ∷ d ∷ rest) = reading a b c d ∷ readings rest

-- whether minutes rise strictly, the first from a lowest one on
unfoldable pub rising : ℕ → List Reading → Bool
rising lowest [] = true
rising lowest (r ∷ rs) = leb lowest r.minute && rising (r.minute + 1) rs

-- what is asked of a list: whole rows, no more than 1,440, and minutes that rise strictly
unfoldable pub acceptable : List ℕ → Bool
acceptable bytes = eqb (length bytes % 4) 0 && (leb (length bytes) (4 * 1440) && rising 0 (readings bytes))

-- the millimetres at a minute, if the list has it
unfoldable pub level_at : ℕ → List Reading → Option ℕ
level_at m [] = none
level_at m (r ∷ rs) = cond (eqb r.minute m) (some r.level) (level_at m rs)
