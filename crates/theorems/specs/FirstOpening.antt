-- The first opening after a done format is done: with a strip of 1,024 bytes, newest positions of 8 bytes a home, and a batch that holds the header, the
-- groups and three fences. With `FormatDone` (crates/model/specs), which says when a format is done, no claim over all histories is empty for any G and D.
use Rattle.std.specs.Prelude.{ℕ, ◌+◌, ◌*◌, ◌≤◌, ◌≡◌, List, length}
use Rattle.model.specs.History.{Formatting, after_format, ends, opening}

-- [S-27]
abbrev pub FormatOpens : Type 0
FormatOpens =
    (groups homes : ℕ) (f : Formatting groups homes) (state newest batch : List ℕ) → length state ≡ 1024 → length newest ≡ 8 * homes →
    72 + 516 * groups ≤ length batch → (ends (after_format f) (opening state newest batch)).code ≡ 0
