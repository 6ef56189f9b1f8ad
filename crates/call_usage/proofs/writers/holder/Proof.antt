-- `call_usage::holder` meets its contract. The loop's invariant: `h` is the holder of the writers before `w`. Assumes nothing.
use mathlib.Core.Path.{◌≡◌}
use Prim.Native.Nat.{◌-◌, ◌≤◌}
use native.Mathlib.Omega.{arith}
use Rattle.abstract_store.specs.Usage.{holder_of}
use Rattle.call_usage.proofs.UsageLaws.{holder-none, holder-more}
use Rattle.call_usage.proofs.writers.holder.Statement.{statement}
use Rattle.call_usage.proofs.writers.holder.Tie as tie

abbrev invariant-loop : tie.invariant-loop-w
invariant-loop state h₀ w₀ h w = (h ≡ holder_of state w) × (w ≤ 8)

abbrev decreases-loop : tie.decreases-loop-w
decreases-loop state h₀ w₀ h w = 8 - w

loop-holds : tie.Need-loop-w-init invariant-loop decreases-loop
loop-holds c = (holder-none _, omega arith)

lower-requires : tie.Need-lower-h-requires invariant-loop decreases-loop
lower-requires c κs = omega arith

add-w : tie.Need-overflow_add-w invariant-loop decreases-loop
add-w c = omega arith

loop-less : tie.Need-loop-w-smaller invariant-loop decreases-loop
loop-less c = omega arith

loop-again : tie.Need-loop-w-preserved invariant-loop decreases-loop
loop-again c = (holder-more _ _ _ _ c.loop-w.invariant.0 c.lower-h.ensures, omega arith)

returns : tie.Need-returns invariant-loop decreases-loop
returns c = let e : c.loop-w.w ≡ 8 = omega arith in rw e at c.loop-w.invariant.0

pub holder_spec : {M : Type 1} → statement M
holder_spec =
    tie.close
    (tie.spec invariant-loop decreases-loop loop-holds lower-requires add-w loop-less loop-again returns)
