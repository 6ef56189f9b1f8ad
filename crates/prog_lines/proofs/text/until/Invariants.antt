-- Up to the loop's index there is no stop.
use Rattle.std.proofs.Common.{◌≡◌, ◌+◌, drop}
use Rattle.prog_lines.specs.Text.{index_of}
use Rattle.prog_lines.proofs.text.until.Given as goal

abbrev pub invariant-loop-i : goal.invariant-loop-i
invariant-loop-i l = l.from + index_of l.stop (drop l.from l.text) ≡ l.i + index_of l.stop (drop l.i l.text)
