-- The call's outcome, question by question. Assumes nothing.
use mathlib.Core.Path.{◌≡◌}
use mathlib.Core.Bool.{true, false}
use mathlib.Core.List.{List}
use Prim.Native.Nat.{ℕ, ◌+◌, ◌*◌, ◌≤◌, ◌<◌}
use native.Mathlib.Omega.{arith}
use borrow.Author.Tests.{le-leb, lt-leb}
use lib.ListN.{length}
use Rattle.alone_gauges.specs.Readings.{readings, acceptable}
use Rattle.alone_gauges.specs.Report.{Line, report}
use Rattle.alone_gauges.specs.Compare.{leaves, written, done, refused, accepted, answer, compare_gauges}
use Rattle.alone_gauges.specs.Merge.{Counted}
use Rattle.alone_gauges.proofs.CountLaws.{report-total, report-short}

pub refusal : {code a b d e : ℕ} (output : List ℕ) → (code ≡ 22) × (a ≡ 0) × (b ≡ 0) × (d ≡ 0) × (e ≡ 0) → leaves code a b d e output ≡ refused output
unfolding refused
refusal output h = rw (h.0, h.1, h.2, h.3, h.4)

module _ (first second output : List ℕ) (tolerance : ℕ) where
  pub refused-first : acceptable first ≡ false → compare_gauges first second output tolerance ≡ refused output
  unfolding compare_gauges answer accepted
  refused-first h = rw h

  pub refused-second : acceptable first ≡ true → acceptable second ≡ false → compare_gauges first second output tolerance ≡ refused output
  unfolding compare_gauges answer accepted
  refused-second e h = rw (e, h)

  module _ (e : acceptable first ≡ true) (f : acceptable second ≡ true) where
    pub refused-room : length output < 3 * length (report tolerance (readings first) (readings second)) → compare_gauges first second output tolerance ≡ refused output
    unfolding compare_gauges answer accepted
    refused-room h = rw (e, f, lt-leb _ _ h)

    pub done-report : 3 * length (report tolerance (readings first) (readings second)) ≤ length output
        → compare_gauges first second output tolerance ≡ done (report tolerance (readings first) (readings second)) output
    unfolding compare_gauges answer accepted
    done-report h = rw (e, f, le-leb _ _ h)

-- the counts add up to the lines
pub counted-sum : (tolerance : ℕ) (first second : List ℕ) {a b d e : ℕ} → Counted (report tolerance (readings first) (readings second)) a b d e
    → a + b + d + e ≡ length (report tolerance (readings first) (readings second))
counted-sum tolerance first second h =
    omega (arith, report-total tolerance (readings first) (readings second), h.ones, h.twos, h.threes, h.fours)

pub counted-short : (tolerance : ℕ) (first second : List ℕ) {a b d e : ℕ} → Counted (report tolerance (readings first) (readings second)) a b d e → a + b + d + e ≤ 65536
counted-short tolerance first second h = omega (arith, counted-sum tolerance first second h, report-short tolerance (readings first) (readings second))

pub completion : {lines : List Line} (output : List ℕ) {end : List ℕ} {a b d e : ℕ} → Counted lines a b d e → end ≡ written lines output
    → leaves 0 a b d e end ≡ done lines output
unfolding done
completion output h w = rw (h.ones, h.twos, h.threes, h.fours, w)
