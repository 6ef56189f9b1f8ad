-- The table of depth bands in every history of the store, crashes included: "so a cut leaves, whole, the last table of demand 3's run, if any".
use Rattle.std.specs.Prelude.{ℕ, ◌+◌, ◌≤◌, ◌≡◌, true, List}
use Rattle.model.specs.History.{World, Formatting, after_format}
use Rattle.unit_events.specs.Homes.{table_home, table_homes}
use Rattle.unit_events.specs.Folded.{Step, sets, noted, ran, notes, stepped, AllStepsAllowed, SparedBySteps}
use Rattle.unit_shared.specs.Moments.{lent_in, Leaves}
use Rattle.unit_bands_table.specs.Judge.{judgement}
use Rattle.unit_bands_table.specs.Stored.{judged, stored, Accepted}
use Rattle.unit_bands.specs.Calls.{set_call}
use Rattle.unit_bands.specs.Claims.{Claim}

-- At a moment whose book's list has, among other commits, the tables `ts`: a lookup goes by the last of them, or answers 11 if there is none (`Claim`), and
-- a call that sets an accepted table leaves what its step leaves.
pub record TableAt (w : World) (ts : List (List ℕ)) : Type 0 where
  pub claim : (writer : ℕ) (batch : List ℕ) → Claim (lent_in w batch) writer ts
  pub stands :
      (writer : ℕ) (bytes batch : List ℕ) →
      (judgement bytes).code ≡ 0 →
      Leaves w (stepped table_home table_homes judged stored w (sets writer bytes batch)) (set_call (lent_in w batch) writer bytes)

-- At the end of every history that begins with a done format, and so at every moment of it after a done opening: its steps set accepted tables, done or
-- refused, and are any acts of the store that do not store to the three homes; a crash cuts the book's list to the run. [S-66]
abbrev pub TableKept : Type 0
TableKept =
    (groups homes : ℕ) → table_home + table_homes ≤ homes → (f : Formatting groups homes) (ss : List (Step (List ℕ))) →
    AllStepsAllowed table_home table_homes judged stored (after_format f) ss → SparedBySteps table_home table_homes judged stored Accepted (after_format f) ss →
    (ran table_home table_homes judged stored (after_format f) ss).ready ≡ true →
    TableAt (ran table_home table_homes judged stored (after_format f) ss) (noted (notes table_home table_homes judged stored (after_format f) ss))
