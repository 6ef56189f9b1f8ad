-- The lines counted and those left are all lines, kind by kind.
use Rattle.std.proofs.Common.{◌≡◌, ◌+◌, ◌-◌, ◌≤◌, length}
use Rattle.alone_gauges.specs.Report.{of_kind}
use Rattle.alone_gauges.specs.Merge.{Place, left}
use Rattle.alone_gauges.proofs.merge.tally.Given as goal

abbrev pub invariant-loop-i : goal.invariant-loop-i
invariant-loop-i l = record {
  first_place : Place l.first l.i;
  second_place : Place l.second l.j;
  rows : l.rows ≡ length l.first + length l.second;
  short : l.rows ≤ 11520;
  code : l.counts.code ≡ 0;
  agreeing : l.counts.agreeing + of_kind 1 (left l.tolerance l.first l.second l.i l.j) ≡ of_kind 1 (left l.tolerance l.first l.second 0 0);
  differing : l.counts.differing + of_kind 2 (left l.tolerance l.first l.second l.i l.j) ≡ of_kind 2 (left l.tolerance l.first l.second 0 0);
  only_first : l.counts.only_first + of_kind 3 (left l.tolerance l.first l.second l.i l.j) ≡ of_kind 3 (left l.tolerance l.first l.second 0 0);
  only_second : l.counts.only_second + of_kind 4 (left l.tolerance l.first l.second l.i l.j) ≡ of_kind 4 (left l.tolerance l.first l.second 0 0);
  agreeing_few : l.counts.agreeing ≤ l.i + l.j;
  differing_few : l.counts.differing ≤ l.i + l.j;
  only_first_few : l.counts.only_first ≤ l.i + l.j;
  only_second_few : l.counts.only_second ≤ l.i + l.j;
}

abbrev pub decreases-loop-i : goal.decreases-loop-i
decreases-loop-i l = l.rows - (l.i + l.j)
