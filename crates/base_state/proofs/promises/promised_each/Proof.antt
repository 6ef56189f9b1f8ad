-- `base_state::promised_each` meets its contract. The loop's invariant: `sum` is what is promised to the writers before `w`. Assumes nothing.
use mathlib.Core.Path.{◌≡◌}
use Prim.Native.Nat.{◌-◌, ◌*◌, ◌^◌, ◌≤◌}
use native.Mathlib.Omega.{arith}
use Rattle.model.specs.State.{promised}
use Rattle.base_state.proofs.PromiseSums.{sum-none, sum-turn}
use Rattle.base_state.proofs.promises.promised_each.Statement.{statement}
use Rattle.base_state.proofs.promises.promised_each.Tie as tie

abbrev invariant-loop : tie.invariant-loop-w
invariant-loop s sum₀ w₀ sum w = (sum ≡ promised s w) × (sum ≤ 2 ^ 16 * w) × (w ≤ 8)

abbrev decreases-loop : tie.decreases-loop-w
decreases-loop s sum₀ w₀ sum w = 8 - w

loop-holds : tie.Need-loop-w-init invariant-loop decreases-loop
loop-holds c = (sum-none _, omega arith, omega arith)

promise-requires : tie.Need-promise-sum-requires invariant-loop decreases-loop
promise-requires c κs = omega arith

add-sum : tie.Need-overflow_add-sum invariant-loop decreases-loop
add-sum c = omega (arith, c.promise-sum.ensures.1)

add-w : tie.Need-overflow_add-w invariant-loop decreases-loop
add-w c = omega arith

loop-less : tie.Need-loop-w-smaller invariant-loop decreases-loop
loop-less c = omega arith

loop-again : tie.Need-loop-w-preserved invariant-loop decreases-loop
loop-again c = (sum-turn _ _ _ _ c.loop-w.invariant.0 c.promise-sum.ensures.0, omega (arith, c.promise-sum.ensures.1), omega arith)

returns : tie.Need-returns invariant-loop decreases-loop
returns c = let e : c.loop-w.w ≡ 8 = omega arith in rw e at c.loop-w.invariant.0

pub promised_each_spec : {M : Type 1} → statement M
promised_each_spec = tie.close (tie.spec invariant-loop decreases-loop loop-holds promise-requires add-sum add-w loop-less loop-again returns)
