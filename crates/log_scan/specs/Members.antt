-- A pass over the log that takes only the entries of one transaction.
use Rattle.std.specs.Prelude.{ℕ, ◌+◌, ◌*◌, ◌^◌, ◌≤◌, ◌<◌, ◌≡◌, cond, ◌&&◌, List, leb, length}
use Rattle.model.specs.Tag.{belongs, home_of}
use Rattle.model.specs.declared.Tag.{Tag}

-- that with first position f: `put p home s` takes its entry for a home at position p into s
unfoldable pub taking : {S : Type 0} → ℕ → (ℕ → ℕ → S → S) → ℕ → Tag → S → S
taking f put p t s = cond (leb f p && belongs f t) (put p (home_of t) s) s

-- a log copy with its number of groups and its start, and a stretch of it from a transaction's first position to below `end`
pub record Stretch (log : List ℕ) (groups start first end : ℕ) : Type 0 where
  pub long : length log ≡ 64 + 512 * groups
  pub some : 0 < groups
  pub most : groups ≤ 1024
  pub low : start ≤ 2 ^ 47
  pub from : 7 * start ≤ first
  pub upto : first < end
  pub within : end ≤ 7 * (start + groups)
