-- `log_gather::drop_counts` meets its contract. The loop's invariant: the first `k` cells hold closing entries only. Assumes nothing.
use mathlib.Core.Path.{◌≡◌, refl}
use Prim.Native.Nat.{◌+◌}
use native.Mathlib.Omega.{arith}
use lib.ListN.{length}
use Rattle.log_gather.specs.Walks.{Dropped}
use Rattle.log_gather.proofs.WalkSteps.{drop_all}
use Rattle.log_gather.proofs.walking.drop_counts.Statement.{statement}
use Rattle.log_gather.proofs.walking.drop_counts.Tie as tie

abbrev invariant-loop : tie.invariant-loop-left
invariant-loop cells₀ n k₀ left₀ cells k left = (k + left ≡ n) × (length cells ≡ length cells₀) × Dropped cells₀ k cells

abbrev decreases-loop : tie.decreases-loop-left
decreases-loop cells₀ n k₀ left₀ cells k left = left

loop-holds : tie.Need-loop-left-init invariant-loop decreases-loop
loop-holds c = (omega arith, refl, record { done = λ i l. absurd (omega arith); later = λ i l. refl })

drop-eight-requires : tie.Need-drop_eight-requires invariant-loop decreases-loop
drop-eight-requires c κs = omega (arith, c.loop-left.invariant.0, c.loop-left.invariant.1)

add-k : tie.Need-overflow_add-k invariant-loop decreases-loop
add-k c = omega (arith, c.loop-left.invariant.0)

loop-less : tie.Need-loop-left-smaller invariant-loop decreases-loop
loop-less c = omega arith

loop-again : tie.Need-loop-left-preserved invariant-loop decreases-loop
loop-again c =
    let l = c.loop-left in
    (omega (arith, l.invariant.0), omega (arith, c.drop_eight.auto, l.invariant.1), c.drop_eight.ensures _ l.invariant.2)

drop-rest-requires : tie.Need-drop_rest-requires invariant-loop decreases-loop
drop-rest-requires c κs = (omega (arith, c.loop-left.invariant.0), omega (arith, c.loop-left.invariant.1))

same_length : tie.Need-shape_of-cells invariant-loop decreases-loop
same_length c = omega (arith, c.drop_rest.auto, c.loop-left.invariant.1)

returns : tie.Need-returns invariant-loop decreases-loop
returns c =
    drop_all _ _ c.args.n c.args.n c.requires.1 refl (c.drop_rest.ensures _ c.loop-left.invariant.2)

pub drop_counts_spec : {M : Type 1} → statement M
drop_counts_spec = tie.close (tie.spec invariant-loop decreases-loop loop-holds drop-eight-requires add-k loop-less loop-again drop-rest-requires same_length returns)
