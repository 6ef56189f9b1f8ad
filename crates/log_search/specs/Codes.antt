-- A number for what may be missing: 0 for none, else one more than what is there.
use Rattle.std.specs.Prelude.{ℕ, ◌+◌}
use Rattle.std.proofs.Math.Option.{Option, none, some}

-- a position, or none
unfoldable pub code_of : Option ℕ → ℕ
code_of none = 0
code_of (some p) = p + 1
