-- Starts that trim may move to, below a limit.
use Rattle.std.specs.Prelude.{◌≡◌, Bool, true, false, cond, ℕ, ◌/◌, min, ◌≤◌, ◌<◌}
use Rattle.model.specs.State.{has_logged}
use Rattle.log_scan.specs.Scan.{over}
use Rattle.model.specs.declared.Writer.{Writer}
use Rattle.model.specs.declared.Tag.{Tag}
use Rattle.model.specs.declared.Tag.TheVariants.{Nothing, Entry, Closing}

-- r is the highest start up to a limit that a test allows
pub record Highest (may : ℕ → Bool) (limit r : ℕ) : Type 0 where
  pub most : r ≤ limit
  pub allowed : may r ≡ true
  pub above : (s : ℕ) → r < s → s ≤ limit → may s ≡ false

-- a limit lowered to the group in which an open transaction with logged entries begins
unfoldable pub writer_limit : Writer → ℕ → ℕ
writer_limit r limit = cond (has_logged r) (min (r.first / 7) limit) limit

-- a limit lowered to the group in which the transaction that a tag closes begins
unfoldable pub span_limit : Tag → ℕ → ℕ
span_limit Nothing limit = limit
span_limit (Entry h f) limit = limit
span_limit (Closing h f link count) limit = min (f / 7) limit

-- a limit lowered by the m positions from `position` on
abbrev pub lowered : (ℕ → Tag) → ℕ → ℕ → ℕ → ℕ
lowered tags position m limit = over (λ p. span_limit) tags position m limit
