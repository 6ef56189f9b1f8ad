-- `records` ends: each record takes it on, and not beyond the batch.
use Rattle.std.proofs.Common.{◌-◌, ◌≤◌}
use Rattle.prog_script.proofs.show.records.Given as goal

abbrev pub invariant-loop-at : goal.invariant-loop-at
invariant-loop-at g l = l.at ≤ l.size

abbrev pub decreases-loop-at : goal.decreases-loop-at
decreases-loop-at g l = l.size - l.at
