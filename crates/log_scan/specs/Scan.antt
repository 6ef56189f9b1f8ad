-- The state of one pass over the log, and how each position changes it. Beside what the walk has found it counts the entries of each transaction,
-- so that a closing entry is complete if the count at its first position, itself included, is its own.
use Rattle.std.specs.Prelude.{◌≡◌, ℕ, zero, suc, ◌+◌, ◌-◌, ◌≤◌, Bool, true, false, ◌&&◌, List, eqb, get_or, set}
use Rattle.model.specs.Bytes.{zeros}
use Rattle.model.specs.Commit.{linked}
use Rattle.model.specs.declared.Tag.{Tag}
use Rattle.model.specs.declared.Tag.TheVariants.{Nothing, Entry, Closing}
use Rattle.model_laws.proofs.rule.ClosingLaws.{last_at}
use Rattle.log_scan.specs.declared.commits.Progress.{Progress}

-- the state: `counts` holds at index i how many entries of the transaction with first position base + i have passed
pub record Scan : Type 0 where
  pub counts : List ℕ
  pub progress : Progress

-- the most positions that a log has
abbrev pub max_entries : ℕ
max_entries = 7168

-- a pass with counters for `size` positions that has taken none
unfoldable pub fresh : ℕ → Scan
fresh size = record { counts = zeros size; progress = record { end = 0; number = 0; failed = 0 } }

-- one entry more
unfoldable pub counted : List ℕ → ℕ → List ℕ
counted counts i = set counts i (get_or counts i 0 + 1)

-- the walk after a closing entry at a position that is committed, or that fails
unfoldable pub taken : Bool → ℕ → Progress → Progress
taken true position p = record { end = position + 1; number = p.number + 1; failed = 0 }
taken false position p = record { end = p.end; number = p.number; failed = 1 }

-- it is committed if none has failed, and it is linked and complete
unfoldable pub decided : ℕ → ℕ → ℕ → Bool → Progress → Progress
decided base position link complete p = taken (eqb p.failed 0 && linked base (last_at p.end) position link && complete) position p

-- what stands at a position is taken into the pass
unfoldable pub enter : ℕ → ℕ → Tag → Scan → Scan
enter base position Nothing s = s
enter base position (Entry h f) s = record { counts = counted s.counts (f - base); progress = s.progress }
enter base position (Closing h f link count) s =
    record {
      counts = counted s.counts (f - base);
      progress = decided base position link (eqb (get_or s.counts (f - base) 0 + 1) count) s.progress;
    }

-- a pass over the m positions from `position` on, that takes what stands at each by `step`
unfoldable pub over : {S : Type 0} → (ℕ → Tag → S → S) → (ℕ → Tag) → ℕ → ℕ → S → S
over step tags position zero s = s
over step tags position (suc m) s = step (position + m) (tags (position + m)) (over step tags position m s)

-- the pass that applies the commit rule
abbrev pub entered : (ℕ → Tag) → ℕ → ℕ → ℕ → Scan → Scan
entered tags base position m s = over (enter base) tags position m s

-- what bounds the numbers of a pass that has come to a position
pub record Within (base position : ℕ) (s : Scan) : Type 0 where
  pub each : (i : ℕ) → get_or s.counts i 0 ≤ position - base
  pub number : s.progress.number ≤ position - base
  pub end : s.progress.end ≤ position

-- a pass over the m positions from `position` on has come from one state to another: it has taken them all, or those up to a closing entry that fails
pub record Stopped (tags : ℕ → Tag) (base position m : ℕ) (s t : Scan) : Type 0 where
  pub taken : ℕ
  pub most : taken ≤ m
  pub same : t ≡ entered tags base position taken s
  pub whole : t.progress.failed ≡ 0 → taken ≡ m
