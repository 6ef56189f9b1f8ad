-- Replay home by home: the block of each touched home's newest entry.
use Rattle.std.specs.Prelude.{ℕ, ◌+◌, ◌*◌, ◌≤◌, ◌<◌, ◌≡◌, List, [], ◌∷◌, length, get_or}
use Rattle.std.proofs.Math.Option.{Option, none, some}
use Rattle.model.specs.Layout.{entry_at, block_at, put_home}
use Rattle.model.specs.Commit.{newest}
use Rattle.model.specs.Effects.{touched}
use Rattle.log_scan.specs.Walk.{Walkable, closed_below}
use Rattle.log_gather.specs.Chains.{max_homes, Chained}

-- each of some homes gets the block at its position
unfoldable pub restored : List ℕ → ℕ → (ℕ → ℕ) → List ℕ → List ℕ → List ℕ
restored log groups at [] area = area
restored log groups at (h ∷ hs) area = restored log groups at hs (put_home area h (block_at log groups (at h)))

-- the position of an entry, where there is one
unfoldable pub place_of : Option ℕ → ℕ
place_of none = 0
place_of (some p) = p

-- where the newest entry of a home lies among the transactions of all closing entries below `end`
abbrev pub newest_at : List ℕ → ℕ → ℕ → ℕ → ℕ → ℕ → ℕ
newest_at log groups homes start end h = place_of (newest (entry_at log groups homes start) h (closed_below log groups homes start end))

-- each of some homes of a word that begins at home `base`, given by their indexes, lies within the area and has a newest entry
abbrev pub Ready : List ℕ → ℕ → List ℕ → ℕ → List ℕ → Type 0
Ready area groups table base [] = Unit {0}
Ready area groups table base (k ∷ ks) =
    (64 * (base + k) + 64 ≤ length area) × (k < length table) × (0 < get_or table k 0) × (get_or table k 0 ≤ 7 * groups) × Ready area groups table base ks

-- what bringing back is handed, where `more` bytes of the batch follow the homes' records
pub record Replayable (log area last heads links batch : List ℕ) (groups homes start end more : ℕ) : Type 0 where
  pub walkable : Walkable log groups start end
  pub few : homes ≤ max_homes
  pub area-length : length area ≡ 64 * homes
  pub chained : Chained log groups homes start end last heads links
  pub batch-length : 68 * length (touched (entry_at log groups homes start) (closed_below log groups homes start end) homes) + more ≤ length batch
