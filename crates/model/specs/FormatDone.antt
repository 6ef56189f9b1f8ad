-- When a format is done, in figures: "G from 4 to 1,024", "D goes up to 65,535", "the lent lengths 64 + 512 × G and 64 × D", records of 516, 68, 66 and
-- 2 bytes. Without it every claim over all histories, which begin with a done format, could be empty.
use Rattle.std.specs.Prelude.{ℕ, ◌+◌, ◌*◌, ◌≤◌, ◌<◌, ◌≡◌, length}
use Rattle.model.specs.Effects.{Given}
use Rattle.model.specs.Calls.{format_call}

-- lengths of both copies that are right for G groups and D homes
pub record Right (groups homes : ℕ) (g : Given) : Type 0 where
  pub least_groups : 4 ≤ groups
  pub most_groups : groups ≤ 1024
  pub least_homes : 1 ≤ homes
  pub most_homes : homes ≤ 65535
  pub log : length g.log ≡ 64 + 512 * groups
  pub area : length g.area ≡ 64 * homes

-- done exactly if the batch holds its records, else 9
pub record FormatAnswers (groups homes : ℕ) (g : Given) : Type 0 where
  pub done : 138 + 516 * groups + 68 * homes ≤ length g.batch → (format_call g).code ≡ 0
  pub size : (format_call g).code ≡ 0 → (format_call g).size ≡ 138 + 516 * groups + 68 * homes
  pub short : length g.batch < 138 + 516 * groups + 68 * homes → (format_call g).code ≡ 9

-- [S-1, S-2, S-21]
abbrev pub FormatDone : Type 0
FormatDone = (groups homes : ℕ) (g : Given) → Right groups homes g → FormatAnswers groups homes g

-- other lengths: 1 [S-3]
abbrev pub FormatWrong : Type 0
FormatWrong = (g : Given) → ((groups homes : ℕ) → Right groups homes g → ⊥) → (format_call g).code ≡ 1
