-- The entries that closing entries count, added up by a pass over the log.
use Rattle.std.specs.Prelude.{ℕ, ◌+◌, ◌≤◌, ◌<◌, List}
use Rattle.model.specs.State.{writer_of, count_for}
use Rattle.model.specs.declared.Tag.{Tag}
use Rattle.model.specs.declared.Tag.TheVariants.{Nothing, Entry, Closing}
use Rattle.log_scan.specs.Scan.{over}

-- a sum with the number of entries that a tag counts, if it closes a transaction
unfoldable pub add_count : Tag → ℕ → ℕ
add_count Nothing sum = sum
add_count (Entry h f) sum = sum
add_count (Closing h f link count) sum = sum + count

-- a sum with those of the m positions from `position` on
abbrev pub summed : (ℕ → Tag) → ℕ → ℕ → ℕ → ℕ
summed tags position m sum = over (λ p. add_count) tags position m sum

-- no writer has logged more entries than a log has places
abbrev pub CountsFit : List ℕ → Type 0
CountsFit s = (w : ℕ) → w < 8 → count_for (writer_of s w) ≤ 7168
