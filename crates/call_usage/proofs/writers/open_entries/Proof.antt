-- `call_usage::open_entries` meets its contract. The loop's invariant: `sum` is what the writers before `w` have logged. Assumes nothing.
use mathlib.Core.Path.{◌≡◌}
use Prim.Native.Nat.{◌-◌, ◌*◌, ◌≤◌}
use native.Mathlib.Omega.{arith}
use Rattle.abstract_store.specs.Usage.{open_entries}
use Rattle.call_usage.proofs.UsageLaws.{open_none, open_more}
use Rattle.call_usage.proofs.writers.open_entries.Statement.{statement}
use Rattle.call_usage.proofs.writers.open_entries.Tie as tie

abbrev invariant-loop : tie.invariant-loop-w
invariant-loop state sum₀ w₀ sum w = (sum ≡ open_entries state w) × (sum ≤ 7168 * w) × (w ≤ 8)

abbrev decreases-loop : tie.decreases-loop-w
decreases-loop state sum₀ w₀ sum w = 8 - w

loop-holds : tie.Need-loop-w-init invariant-loop decreases-loop
loop-holds c = (open_none _, omega arith, omega arith)

logged-requires : tie.Need-logged-sum-requires invariant-loop decreases-loop
logged-requires c κs = omega arith

fits : (c : tie.After-logged-sum invariant-loop decreases-loop) → c.logged-sum.result ≤ 7168
fits c = omega (arith, c.logged-sum.ensures, c.requires.1 c.loop-w.w (omega arith))

add-sum : tie.Need-overflow_add-sum invariant-loop decreases-loop
add-sum c = omega (arith, fits c)

add-w : tie.Need-overflow_add-w invariant-loop decreases-loop
add-w c = omega arith

loop-less : tie.Need-loop-w-smaller invariant-loop decreases-loop
loop-less c = omega arith

loop-again : tie.Need-loop-w-preserved invariant-loop decreases-loop
loop-again c = (open_more _ _ _ _ c.loop-w.invariant.0 c.logged-sum.ensures, omega (arith, fits c), omega arith)

returns : tie.Need-returns invariant-loop decreases-loop
returns c = let e : c.loop-w.w ≡ 8 = omega arith in (rw e at c.loop-w.invariant.0, omega arith)

pub open_entries_spec : {M : Type 1} → statement M
open_entries_spec =
    tie.close
    (tie.spec
    invariant-loop
    decreases-loop
    loop-holds
    logged-requires
    add-sum
    add-w
    loop-less
    loop-again
    returns)
