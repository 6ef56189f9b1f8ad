-- `log_gather::drop_rest` meets its contract. The loop's invariant: the cells below `k` hold closing entries only. Assumes nothing.
use mathlib.Core.Path.{◌≡◌, refl}
use mathlib.Core.List.{List}
use Prim.Native.Nat.{ℕ, ◌-◌, ◌≤◌}
use native.Mathlib.Omega.{arith}
use lib.ListN.{length}
use Rattle.log_gather.specs.Walks.{Dropped}
use Rattle.log_gather.proofs.WalkSteps.{drop-same}
use Rattle.log_gather.proofs.walking.drop_rest.Statement.{statement}
use Rattle.log_gather.proofs.walking.drop_rest.Tie as tie

abbrev invariant-loop : tie.invariant-loop-k
invariant-loop cells₀ from n k₀ cells k = (k ≤ n) × (length cells ≡ length cells₀) × ((before : List ℕ) → Dropped before from cells₀ → Dropped before k cells)

abbrev decreases-loop : tie.decreases-loop-k
decreases-loop cells₀ from n k₀ cells k = n - k

loop-holds : tie.Need-loop-k-init invariant-loop decreases-loop
loop-holds c = (omega arith, refl, λ before d. d)

drop-one-requires : tie.Need-drop_one-requires invariant-loop decreases-loop
drop-one-requires c κs = omega (arith, c.loop-k.invariant.1)

add-k : tie.Need-overflow_add-k invariant-loop decreases-loop
add-k c = omega arith

loop-less : tie.Need-loop-k-smaller invariant-loop decreases-loop
loop-less c = omega arith

loop-again : tie.Need-loop-k-preserved invariant-loop decreases-loop
loop-again c =
    let l = c.loop-k in
    (omega arith, omega (arith, c.drop_one.auto, l.invariant.1), λ before d. c.drop_one.ensures before _ refl (l.invariant.2 before d))

same_length : tie.Need-shape_of-cells invariant-loop decreases-loop
same_length c = c.loop-k.invariant.1

returns : tie.Need-returns invariant-loop decreases-loop
returns c before d = drop-same _ _ _ _ (omega (arith, c.loop-k-test.false, c.loop-k.invariant.0)) (c.loop-k.invariant.2 before d)

pub drop_rest_spec : {M : Type 1} → statement M
drop_rest_spec = tie.close (tie.spec invariant-loop decreases-loop loop-holds drop-one-requires add-k loop-less loop-again same_length returns)
