-- The lines left, written from `at` on, make what all lines make.
use Rattle.std.proofs.Common.{◌≡◌, ◌+◌, ◌-◌, ◌*◌, ◌≤◌, length}
use Rattle.alone_gauges.specs.Report.{encode}
use Rattle.alone_gauges.specs.Merge.{Place, left, puts}
use Rattle.alone_gauges.proofs.merge.write_lines.Given as goal

abbrev pub invariant-loop-i : goal.invariant-loop-i
invariant-loop-i l = record {
  first_place : Place l.first l.i;
  second_place : Place l.second l.j;
  rows : l.rows ≡ length l.first + length l.second;
  short : l.rows ≤ 11520;
  bytes : puts l.output l.at (encode (left l.tolerance l.first l.second l.i l.j)) ≡ puts l.fn.output 0 (encode (left l.tolerance l.first l.second 0 0));
  room : l.at + 3 * length (left l.tolerance l.first l.second l.i l.j) ≤ length l.output;
  size : length l.output ≡ length l.fn.output;
}

abbrev pub decreases-loop-i : goal.decreases-loop-i
decreases-loop-i l = l.rows - (l.i + l.j)
