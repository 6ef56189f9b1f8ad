-- The rows from the next one on rise from `lowest` on exactly if all rows rise.
use Rattle.std.proofs.Common.{◌≡◌, ◌*◌, ◌≤◌}
use Rattle.alone_gauges.specs.Readings.{readings, rising}
use Rattle.alone_gauges.specs.Merge.{rest}
use Rattle.alone_gauges.proofs.readings.rises.Given as goal

abbrev pub invariant-loop-i : goal.invariant-loop-i
invariant-loop-i l = (l.lowest ≤ 65536) × (rising l.lowest (rest l.s (4 * l.i)) ≡ rising 0 (readings l.s))
