-- What the calls on the table answer for every input, whatever is lent: "A lookup above 9,999 answers 11 before the store's questions", a strip of rows is
-- judged before them, and a refusal of the store is told as it is.
use Rattle.std.specs.Prelude.{ℕ, ◌≤◌, ◌<◌, ◌≡◌, List, ◌≢◌}
use Rattle.unit_events.specs.Homes.{table_home, table_homes}
use Rattle.unit_shared.specs.Unit.{Lent, fetched, transacted}
use Rattle.unit_shared.specs.Refusals.{Refusal}
use Rattle.unit_bands_table.specs.Judge.{judgement}
use Rattle.unit_bands_table.specs.Packed.{answered, pack}
use Rattle.unit_bands.specs.Calls.{set_call, look_up_call}

pub record Refusals (l : Lent) (writer : ℕ) : Type 0 where
  -- 11, and nothing of the store is asked
  pub deep : (mm : ℕ) → 9999 < mm → look_up_call l writer mm ≡ answered 11 0 0 0
  -- the store's number, and no row
  pub unread :
      (mm : ℕ) → mm ≤ 9999 → (fetched l writer table_home table_homes).code ≢ 0 →
      look_up_call l writer mm ≡ answered (fetched l writer table_home table_homes).code 0 0 0
  -- the rows' own answer comes first, with its millimetre, then the store's
  pub rows :
      (bytes : List ℕ) → (judgement bytes).code ≢ 0 →
      ((set_call l writer bytes).code ≡ (judgement bytes).code) × Refusal l (judgement bytes).millimetre (set_call l writer bytes)
  pub asked : (bytes : List ℕ) → (judgement bytes).code ≡ 0 → (set_call l writer bytes).code ≡ (transacted l writer table_home (pack bytes)).code
  pub refusal : (bytes : List ℕ) → (judgement bytes).code ≡ 0 → (set_call l writer bytes).code ≢ 0 → Refusal l 0 (set_call l writer bytes)

abbrev pub RefusalsOnTables : Type 0
RefusalsOnTables = (l : Lent) (writer : ℕ) → Refusals l writer
