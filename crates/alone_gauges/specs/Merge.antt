-- What the functions of the merge pass to each other: a place in both strips, and one line and the places behind it.
use Rattle.std.specs.Prelude.{ℕ, zero, suc, ◌+◌, ◌%◌, ◌≤◌, ◌<◌, ◌≡◌, true, List, [], ◌∷◌, length, drop}
use Rattle.alone_gauges.specs.Readings.{Reading, readings, rising}
use Rattle.alone_gauges.specs.Report.{Line, line, report, of_kind}

-- the rows of a strip from byte `at` on
unfoldable pub rest : List ℕ → ℕ → List Reading
rest bytes at = readings (drop at bytes)

-- `at` is the place of a row or the end, and the minutes rise from there on
pub record Place (bytes : List ℕ) (at : ℕ) : Type 0 where
  pub inside : at ≤ length bytes
  pub whole : length bytes % 4 ≡ 0
  pub aligned : at % 4 ≡ 0
  pub strict : rising 0 (rest bytes at) ≡ true

-- the lines of the rows that are left
unfoldable pub left : ℕ → List ℕ → List ℕ → ℕ → ℕ → List Line
left tolerance first second i j = report tolerance (rest first i) (rest second j)

-- the next line, and the places behind its rows
pub record Stepped (tolerance : ℕ) (first second : List ℕ) (i j minute kind i' j' : ℕ) : Type 0 where
  pub next : left tolerance first second i j ≡ line minute kind ∷ left tolerance first second i' j'
  pub first_place : Place first i'
  pub second_place : Place second j'
  pub further : i + j < i' + j'
  pub small : kind < 256

-- the lines of each kind
pub record Counted (lines : List Line) (agreeing differing only_first only_second : ℕ) : Type 0 where
  pub ones : agreeing ≡ of_kind 1 lines
  pub twos : differing ≡ of_kind 2 lines
  pub threes : only_first ≡ of_kind 3 lines
  pub fours : only_second ≡ of_kind 4 lines

-- bytes written over a strip from byte `at` on
unfoldable pub puts : List ℕ → ℕ → List ℕ → List ℕ
puts [] at bs = []
puts (x ∷ xs) (suc at) bs = x ∷ puts xs at bs
puts (x ∷ xs) zero [] = x ∷ xs
puts (x ∷ xs) zero (b ∷ bs) = b ∷ puts xs zero bs
