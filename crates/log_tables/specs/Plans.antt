-- What is found out before committed transactions are brought back, and what bringing them back leaves.
use Rattle.std.specs.Prelude.{◌≡◌, Bool, true, cond, List, ℕ, ◌+◌, ◌-◌, ◌*◌, ◌^◌, ◌≤◌, ◌<◌, leb, ltb, length, get_or, take}
use Rattle.model.specs.Bytes.{puts}
use Rattle.model.specs.Layout.{entry_at}
use Rattle.model.specs.Commit.{committed, transactions}
use Rattle.model_laws.proofs.rule.Closings.{end_of}
use Rattle.model.specs.Batch.{batch_bytes}
use Rattle.model.specs.Effects.{touched, replayed, home_writes, touched_from, restored_homes}
use Rattle.log_scan.specs.Walk.{Walkable, closed_below}

-- a log copy whose n positions from the start on can be walked over
pub record Searchable (log : List ℕ) (groups homes start n : ℕ) : Type 0 where
  pub long : length log ≡ 64 + 512 * groups
  pub least : 4 ≤ groups
  pub most : groups ≤ 1024
  pub homes-most : homes ≤ 65535
  pub low : start ≤ 2 ^ 47
  pub within : n ≤ 7 * groups

-- where the committed transactions among n positions end, and how many they are
pub record Committed (log : List ℕ) (groups homes start n end number : ℕ) : Type 0 where
  pub ends : end ≡ end_of (committed (entry_at log groups homes start) (7 * start) n)
  pub numbered : number ≡ length (committed (entry_at log groups homes start) (7 * start) n)

-- the committed transactions among n positions: where they end, how many they are, and how many homes they touch
pub record Planned (log : List ℕ) (groups homes start n end number count : ℕ) : Type 0 where
  pub walkable : Walkable log groups start end
  pub few : homes ≤ 65535
  pub below : closed_below log groups homes start end ≡ transactions (entry_at log groups homes start) (7 * start) n
  pub numbered : number ≡ length (transactions (entry_at log groups homes start) (7 * start) n)
  pub counted : count ≡ length (touched (entry_at log groups homes start) (transactions (entry_at log groups homes start) (7 * start) n) homes)

-- a data copy and a batch, before and after the transactions of all closing entries below `end` are brought back, if the batch has `size` bytes
pub record Brought (log : List ℕ) (groups homes start end size : ℕ) (area batch a b : List ℕ) : Type 0 where
  pub copied : size ≤ length batch → a ≡ replayed log groups (entry_at log groups homes start) (closed_below log groups homes start end) area
  pub written : size ≤ length batch
      → b
      ≡ puts batch 0
      (batch_bytes (home_writes a (touched (entry_at log groups homes start) (closed_below log groups homes start end) homes)))
  pub same_area : length batch < size → a ≡ area
  pub same-batch : length batch < size → b ≡ batch

-- the homes that remain for a round's step
abbrev pub remaining : List ℕ → ℕ → ℕ → ℕ → ℕ → ℕ → List ℕ
remaining log groups homes start end cursor =
    touched_from (entry_at log groups homes start) (closed_below log groups homes start end) cursor homes

-- A data copy and a batch, before and after a step of at most `limit` homes from the cursor on, if the batch has `size` bytes; the home after the last
-- one done; and whether more remain.
pub record StepMade (log : List ℕ) (groups homes start end cursor limit size next : ℕ) (more : Bool) (area batch a b : List ℕ) : Type 0 where
  pub sized :
      size
      ≡ 68 * length (take limit (remaining log groups homes start end cursor)) + cond (leb (length (remaining log groups homes start end cursor)) limit) 2 0
  pub left : more ≡ ltb limit (length (remaining log groups homes start end cursor))
  pub moved : size ≤ length batch → more ≡ true → 1 ≤ limit → next ≡ get_or (remaining log groups homes start end cursor) (limit - 1) 0 + 1
  pub copied : size ≤ length batch
      → a
      ≡ restored_homes log groups (entry_at log groups homes start) (closed_below log groups homes start end)
      (take limit (remaining log groups homes start end cursor)) area
  pub written : size ≤ length batch → b ≡ puts batch 0 (batch_bytes (home_writes a (take limit (remaining log groups homes start end cursor))))
  pub same_area : length batch < size → a ≡ area
  pub same-batch : length batch < size → b ≡ batch
