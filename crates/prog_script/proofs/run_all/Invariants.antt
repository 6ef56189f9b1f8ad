-- `run_all` ends: each line takes it on in the script.
use Rattle.std.proofs.Common.{length, ◌-◌, ◌≤◌}
use Rattle.prog_script.proofs.run_all.Given as goal

abbrev pub invariant-loop-at : goal.invariant-loop-at
invariant-loop-at g l = l.at ≤ length l.script

abbrev pub decreases-loop-at : goal.decreases-loop-at
decreases-loop-at g l = length l.script - l.at
