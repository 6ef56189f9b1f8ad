-- What is left, read after the loop's value, spells the whole.
use Rattle.std.proofs.Common.{◌≡◌, ◌≤◌, drop}
use Rattle.prog_lines.specs.Text.{decimal_from, decimal}
use Rattle.prog_lines.proofs.text.number.Given as goal

abbrev pub invariant-loop-b : goal.invariant-loop-b
invariant-loop-b l = (decimal_from l.value (drop l.b-index l.text) ≡ decimal l.text) × (l.value ≤ 65535)
