-- What the call gives and leaves.
use Rattle.std.specs.Prelude.{ℕ, ◌*◌, Bool, ◌&&◌, cond, List, ◌++◌, leb, length, drop}
use Rattle.alone_gauges.specs.Readings.{readings, acceptable}
use Rattle.alone_gauges.specs.Report.{Line, report, of_kind, encode}

-- the answer, the four counts, and what the output strip holds
pub record Outcome : Type 0 where
  pub code : ℕ
  pub agreeing : ℕ
  pub differing : ℕ
  pub only_first : ℕ
  pub only_second : ℕ
  pub output : List ℕ

abbrev pub leaves : ℕ → ℕ → ℕ → ℕ → ℕ → List ℕ → Outcome
leaves code agreeing differing only_first only_second output =
    record { code = code; agreeing = agreeing; differing = differing; only_first = only_first; only_second = only_second; output = output }

-- the report stands first; "nor ever bytes past the report"
unfoldable pub written : List Line → List ℕ → List ℕ
written lines output = encode lines ++ drop (3 * length lines) output

unfoldable pub done : List Line → List ℕ → Outcome
done lines output = leaves 0 (of_kind 1 lines) (of_kind 2 lines) (of_kind 3 lines) (of_kind 4 lines) (written lines output)

-- "no output is touched"
unfoldable pub refused : List ℕ → Outcome
refused output = leaves 22 0 0 0 0 output

-- "22 a list too long, minutes that don't rise strictly, or an output strip too short for the report"
unfoldable pub accepted : List ℕ → List ℕ → List ℕ → List Line → Bool
accepted first second output lines = acceptable first && (acceptable second && leb (3 * length lines) (length output))

unfoldable pub answer : List ℕ → List ℕ → List ℕ → List Line → Outcome
answer first second output lines = cond (accepted first second output lines) (done lines output) (refused output)

-- [S-71]
unfoldable pub compare_gauges : List ℕ → List ℕ → List ℕ → ℕ → Outcome
compare_gauges first second output tolerance = answer first second output (report tolerance (readings first) (readings second))
