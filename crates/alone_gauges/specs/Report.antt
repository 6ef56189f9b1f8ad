-- The report: "A report line is the minute and one byte: 1 agreeing, 2 differing, 3 only first, 4 only second."
use Rattle.std.specs.Prelude.{ℕ, zero, suc, ◌+◌, ◌-◌, ◌/◌, ◌%◌, min, max, cond, List, [], ◌∷◌, ◌++◌, eqb, leb}
use Rattle.std.proofs.Math.Option.{Option, none, some}
use Rattle.alone_gauges.specs.Readings.{Reading, level_at}

pub record Line : Type 0 where
  pub minute : ℕ
  pub kind : ℕ

abbrev pub line : ℕ → ℕ → Line
line m k = record { minute = m; kind = k }

unfoldable pub difference : ℕ → ℕ → ℕ
difference a b = max a b - min a b

-- "A difference equal to the tolerance agrees."
unfoldable pub kind_of : ℕ → ℕ → ℕ → ℕ
kind_of tolerance a b = cond (leb (difference a b) tolerance) 1 2

-- the line of a minute, from what both lists have at it; none if neither has it
unfoldable pub line_of : ℕ → ℕ → Option ℕ → Option ℕ → List Line
line_of tolerance m none none = []
line_of tolerance m none (some b) = line m 4 ∷ []
line_of tolerance m (some a) none = line m 3 ∷ []
line_of tolerance m (some a) (some b) = line m (kind_of tolerance a b) ∷ []

unfoldable pub line_at : ℕ → List Reading → List Reading → ℕ → List Line
line_at tolerance xs ys m = line_of tolerance m (level_at m xs) (level_at m ys)

-- what is given for 0, 1, .. below n, joined
unfoldable pub gather : (ℕ → List Line) → ℕ → List Line
gather f zero = []
gather f (suc n) = gather f n ++ f n

-- "all 16 bits": minutes are below this
unfoldable pub minutes : ℕ
minutes = 65536

-- "Every minute in either is reported once, rising" [S-71]
unfoldable pub report : ℕ → List Reading → List Reading → List Line
report tolerance xs ys = gather (line_at tolerance xs ys) minutes

unfoldable pub hit : ℕ → ℕ → ℕ
hit kind k = cond (eqb kind k) 1 0

-- "the four counts given, each the lines of its kind"
unfoldable pub of_kind : ℕ → List Line → ℕ
of_kind k [] = 0
of_kind k (l ∷ ls) = hit l.kind k + of_kind k ls

-- the bytes of a report, 3 a line: the minute, lowest byte first, and the kind
unfoldable pub encode : List Line → List ℕ
encode [] = []
encode (l ∷ ls) = l.minute % 256 ∷ l.minute / 256 % 256 ∷ l.kind ∷ encode ls
