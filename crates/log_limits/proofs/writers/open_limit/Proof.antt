-- `log_limits::open_limit` meets its contract. The loop's invariant: `lowest` is the highest start for the first `w` writers. Assumes nothing.
use Prim.Native.Nat.{◌*◌, ◌-◌, ◌≤◌}
use native.Mathlib.Omega.{arith}
use Rattle.model.specs.Effects.{none_open_before}
use Rattle.log_limits.specs.Limits.{Highest}
use Rattle.log_limits.proofs.WriterLaws.{open_none, open_turn, open-end}
use Rattle.log_limits.proofs.writers.open_limit.Statement.{statement}
use Rattle.log_limits.proofs.writers.open_limit.Tie as tie

abbrev invariant-loop : tie.invariant-loop-w
invariant-loop state limit lowest₀ w₀ lowest w = Highest (λ s. none_open_before (7 * s) state w) limit lowest × (w ≤ 8)

abbrev decreases-loop : tie.decreases-loop-w
decreases-loop state limit lowest₀ w₀ lowest w = 8 - w

loop-holds : tie.Need-loop-w-init invariant-loop decreases-loop
loop-holds c = (open_none _ _, omega arith)

writer-limit-requires : tie.Need-writer_limit-lowest-requires invariant-loop decreases-loop
writer-limit-requires c κs = omega arith

add-w : tie.Need-overflow_add-w invariant-loop decreases-loop
add-w c = omega arith

loop-less : tie.Need-loop-w-smaller invariant-loop decreases-loop
loop-less c = omega arith

loop-again : tie.Need-loop-w-preserved invariant-loop decreases-loop
loop-again c = (open_turn _ _ _ _ _ c.writer_limit-lowest.ensures c.loop-w.invariant.0, omega arith)

returns : tie.Need-returns invariant-loop decreases-loop
returns c = open-end _ _ _ _ _ (omega arith) c.loop-w.invariant.0

pub open_limit_spec : {M : Type 1} → statement M
open_limit_spec =
    tie.close
    (tie.spec invariant-loop decreases-loop loop-holds writer-limit-requires add-w loop-less loop-again returns)
