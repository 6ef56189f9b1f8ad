-- The premise of RunnerMoves holds of every batch of every history, also where crashes tear words.
use Rattle.std.specs.Prelude.{ℕ, ◌/◌, ◌≤◌, ◌≡◌, cond, List, [], take}
use Rattle.model.specs.Batch.{Record, batch_bytes, read_batch}
use Rattle.model.specs.State.{state_of}
use Rattle.model.specs.Calls.{Outcome}
use Rattle.model.specs.History.{Call, call, World, Formatting, after_format, ends, is_opening, Allowed}
use Rattle.object.specs.Medium.{Grain, words}
use Rattle.object.specs.Alike.{Tearing, torn_after, AllTearingsAllowed}
use Rattle.object_runner.specs.Moves.{headed_after, waiting_after, Due, Fitting}

-- a call's batch, its records, and the next group after it
unfoldable pub batch_of : Outcome → List ℕ
batch_of o = take o.size o.batch

unfoldable pub records_of : Outcome → List Record
records_of o = read_batch (batch_of o)

unfoldable pub next_of : Outcome → ℕ
next_of o = (state_of o.state).next

-- The number of the first group whose first word has not been written when a call's batch begins: that of the last fence. After an opening nothing waits.
unfoldable pub headed_before : World → Call → ℕ
headed_before w c = cond (is_opening c) (next_of (ends w c)) ((state_of w.state).fenced / 7)

pub record BatchDue (l : Grain) (groups homes : ℕ) (w : World) (c : Call) : Type 0 where
  pub bytes : batch_of (ends w c) ≡ batch_bytes (records_of (ends w c))
  pub fitting : Fitting groups homes (records_of (ends w c))
  pub low : headed_before w c ≤ next_of (ends w c)
  pub due :
      Due l groups (ends w c).log (next_of (ends w c)) (headed_before w c) (waiting_after l [] w.pending) (records_of (ends w c))
  -- the runner's number goes on from batch to batch
  pub headed :
      headed_after words (headed_before w c) (next_of (ends w c)) (records_of (ends w c)) ≡ (state_of (ends w c).state).fenced / 7

-- [S-85]
abbrev pub DueAlways : Type 0
DueAlways =
    (l : Grain) (groups homes : ℕ) (f : Formatting groups homes) (ts : List Tearing) → AllTearingsAllowed groups (after_format f) ts →
    (c : Call) → Allowed (torn_after (after_format f) ts) (call c) → (ends (torn_after (after_format f) ts) c).code ≡ 0 →
    BatchDue l groups homes (torn_after (after_format f) ts) c
