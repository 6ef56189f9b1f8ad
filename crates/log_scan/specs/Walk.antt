-- What the functions that look at the log are handed, and what they look at.
use Rattle.std.specs.Prelude.{◌≡◌, List, ℕ, ◌+◌, ◌-◌, ◌*◌, ◌^◌, ◌≤◌, ◌<◌, length}
use Rattle.model.specs.Layout.{entry_at}
use Rattle.model.specs.Commit.{each_entries}
use Rattle.model_laws.proofs.rule.Closings.{closings}

-- a log copy with its number of groups and its start, where positions below `end` are looked at
pub record Walkable (log : List ℕ) (groups start end : ℕ) : Type 0 where
  pub long : length log ≡ 64 + 512 * groups
  pub some : 0 < groups
  pub most : groups ≤ 1024
  pub low : start ≤ 2 ^ 47
  pub within : end ≤ 7 * (start + groups)

-- the transactions of all closing entries below `end`, each as its entries' positions
abbrev pub closed_below : List ℕ → ℕ → ℕ → ℕ → ℕ → List (List ℕ)
closed_below log groups homes start end =
    each_entries (entry_at log groups homes start) (7 * start) (closings (entry_at log groups homes start) (7 * start) (end - 7 * start))
