-- A round's step: the touched homes of a stretch of homes, and what bringing some of them back leaves.
use Rattle.std.specs.Prelude.{◌≡◌, Bool, true, List, ℕ, ◌+◌, ◌-◌, ◌*◌, ◌%◌, ◌≤◌, ◌<◌, length}
use Rattle.model.specs.Bytes.{puts}
use Rattle.model.specs.Batch.{batch_bytes}
use Rattle.model.specs.Effects.{marked, home_writes}
use Rattle.base_bitmap.specs.Marks.{raised}
use Rattle.log_scan.specs.Walk.{Walkable}
use Rattle.log_gather.specs.Chains.{Chained}
use Rattle.log_replay.specs.Words.{touches}
use Rattle.log_replay.specs.Restore.{restored, newest_at}

-- of n homes from `from` on, those that a test marks, rising
unfoldable pub span : (ℕ → Bool) → ℕ → ℕ → List ℕ
span f from n = raised from (marked (λ j. f (from + j)) n)

-- a stretch of homes within word w
pub record Part (log last heads links : List ℕ) (w from upto groups homes start end slot : ℕ) : Type 0 where
  pub walkable : Walkable log groups start end
  pub chained : Chained log groups homes start end last heads links
  pub word : w < 1024
  pub at : slot ≡ start % groups
  pub low : 64 * w ≤ from
  pub rises : from ≤ upto
  pub high : upto ≤ 64 * w + 64

-- A step from home `from` to below `upto`, with `done` homes brought back before it and at most `limit` in all, has come to a home with n done: all
-- touched homes before it are in the data copy, their records in the batch, and it stopped before `upto` only where n is the limit. With n at the
-- limit the home before it is the last one done.
pub record Stepped (log : List ℕ) (groups homes start end from upto done limit : ℕ) (area batch : List ℕ) (home n : ℕ) (a b : List ℕ) : Type 0 where
  pub rises : from ≤ home
  pub within : home ≤ upto
  pub counted : n ≡ done + length (span (touches log groups homes start end) from (home - from))
  pub most : n ≤ limit
  pub full : home < upto → n ≡ limit
  pub last_done : done < n → n ≡ limit → (from < home) × (touches log groups homes start end (home - 1) ≡ true)
  pub copied :
      a ≡ restored log groups (newest_at log groups homes start end) (span (touches log groups homes start end) from (home - from)) area
  pub written :
      b ≡ puts batch (68 * done) (batch_bytes (home_writes a (span (touches log groups homes start end) from (home - from))))

-- of the homes from the cursor on that a test marks, at most `limit` are done; more were seen only where the limit is reached, and none only where all
-- are done
pub record Left (f : ℕ → Bool) (homes cursor limit done rest : ℕ) : Type 0 where
  pub all : rest ≡ 0 → done ≡ length (span f cursor (homes - cursor))
  pub some : 0 < rest → done ≡ limit
  pub most : done + rest ≤ length (span f cursor (homes - cursor))
