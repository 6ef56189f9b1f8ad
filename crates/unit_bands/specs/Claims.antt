-- What the request promises at a moment of a history whose commits are, among others, the tables `ts`: a lookup goes by the last of them. That the three
-- homes then hold it, for every history with crashes, follows from `Recording` (events' EventsRecorded).
use Rattle.std.specs.Prelude.{ℕ, ◌≤◌, ◌≡◌, List, [], ◌∷◌, ◌++◌, ◌≢◌, length}
use Rattle.std.proofs.Math.Option.{some}
use Rattle.model.specs.Bytes.{zeros}
use Rattle.unit_events.specs.Homes.{table_home, table_homes}
use Rattle.unit_shared.specs.Unit.{Lent, untouched, fetched, transacted}
use Rattle.unit_shared.specs.Shown.{Shown}
use Rattle.unit_bands_table.specs.Rows.{rows}
use Rattle.unit_bands_table.specs.Judge.{judgement}
use Rattle.unit_bands_table.specs.Packed.{pack, found, look_up}
use Rattle.unit_bands_table.specs.Guarantees.{RowTold}
use Rattle.unit_bands_table.specs.Stored.{last_of}
use Rattle.unit_bands.specs.Calls.{set_call, look_up_call}

-- blocks that hold the last table of a list, an accepted one
pub record Represents (ts : List (List ℕ)) (blocks : List ℕ) : Type 0 where
  pub looks : (mm : ℕ) → look_up blocks mm ≡ found mm (last_of ts)
  pub passed : (bytes : List ℕ) → last_of ts ≡ some bytes → (judgement bytes).code ≡ 0

-- homes of zeros hold no table; the blocks of an accepted table hold it, whatever was there before
pub record Recording : Type 0 where
  pub none : Represents [] (zeros 192)
  pub grows : (ts : List (List ℕ)) (bytes : List ℕ) → (judgement bytes).code ≡ 0 → Represents (ts ++ (bytes ∷ [])) (pack bytes)
  pub size : (bytes : List ℕ) → (judgement bytes).code ≡ 0 → length (pack bytes) ≡ 192

pub record Claim (l : Lent) (writer : ℕ) (ts : List (List ℕ)) : Type 0 where
  -- "a cut leaves, whole, the last table of demand 3's run, if any": a lookup answers 11 if there is no table, else a row of the last one
  pub lookup : (mm : ℕ) → mm ≤ 9999 → (fetched l writer table_home table_homes).code ≡ 0 → look_up_call l writer mm ≡ found mm (last_of ts)
  -- "Every millimetre from 0 to 9,999 must lie in exactly one row; a lookup gives that row."
  pub row : (bytes : List ℕ) → last_of ts ≡ some bytes → (mm : ℕ) → mm ≤ 9999 → RowTold (rows bytes) mm
  -- a table is set or refused by its rows
  pub refused :
      (bytes : List ℕ) → (judgement bytes).code ≢ 0 → set_call l writer bytes ≡ untouched l (judgement bytes).code (judgement bytes).millimetre
  pub stored : (bytes : List ℕ) → (judgement bytes).code ≡ 0 → set_call l writer bytes ≡ transacted l writer table_home (pack bytes)

abbrev pub Claimed : Type 0
Claimed = (l : Lent) (writer : ℕ) (ts : List (List ℕ)) (blocks : List ℕ) → Represents ts blocks → Shown l writer table_home table_homes blocks → Claim l writer ts
