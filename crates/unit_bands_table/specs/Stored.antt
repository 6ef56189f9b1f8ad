-- The table's homes in the histories of the store. "a lookup of mm ≤ 9,999 that passes the store's questions answers 11 if L has no table, else the one row
-- of the LAST table in L that holds mm"
use Rattle.std.specs.Prelude.{ℕ, ◌≡◌, List, [], ◌∷◌}
use Rattle.std.proofs.Math.Option.{Option, none, some}
use Rattle.unit_events.specs.Homes.{table_home, table_homes}
use Rattle.unit_events.specs.Folded.{AlwaysRecorded}
use Rattle.unit_bands_table.specs.Judge.{judgement}
use Rattle.unit_bands_table.specs.Packed.{pack, unpack, found, look_up}

-- A strip of rows is judged before the store's questions, whatever the homes hold, and packed: a call that sets it reads nothing.
unfoldable pub judged : List ℕ → List ℕ → ℕ
judged blocks bytes = (judgement bytes).code

unfoldable pub stored : List ℕ → List ℕ → List ℕ
stored blocks bytes = pack bytes

unfoldable pub answer_by : List (List ℕ) → List ℕ → ℕ
answer_by tables bytes = (judgement bytes).code

abbrev pub Accepted : List ℕ → Type 0
Accepted bytes = (judgement bytes).code ≡ 0

-- the last of some tables
unfoldable pub last_from : Option (List ℕ) → List (List ℕ) → Option (List ℕ)
last_from t [] = t
last_from t (s ∷ ss) = last_from (some s) ss

unfoldable pub last_of : List (List ℕ) → Option (List ℕ)
last_of tables = last_from none tables

-- the homes hold the last table of a list, and every lookup finds it
pub record Represents (tables : List (List ℕ)) (blocks : List ℕ) : Type 0 where
  pub table : unpack blocks ≡ last_of tables
  pub lookups : (mm : ℕ) → look_up blocks mm ≡ found mm (last_of tables)

abbrev pub TablesRecorded : Type 0
TablesRecorded = AlwaysRecorded table_home table_homes judged stored Accepted answer_by Represents
