-- `call_many::store_rest` meets its contract. The loop's invariant: what i stores leave. Assumes nothing.
use mathlib.Core.Path.{◌≡◌, refl}
use Prim.Native.Nat.{◌-◌, ◌≤◌}
use native.Mathlib.Omega.{arith}
use lib.ListN.{length}
use Rattle.model.specs.Effects.{Given}
use Rattle.call_many.specs.Steps.{Under}
use Rattle.call_many.proofs.StepLaws.{under-requires, under_next, under-size, under_all}
use Rattle.call_many.proofs.steps.store_rest.Statement.{statement}
use Rattle.call_many.proofs.steps.store_rest.Tie as tie

abbrev invariant-loop : tie.invariant-loop-i
invariant-loop log₀ state₀ blocks batch₀ w home n size₀ i₀ log state batch size i =
    (1 ≤ i) × (i ≤ n) × (length log ≡ length log₀) × (length state ≡ length state₀) × (length batch ≡ length batch₀)
    × ((g : Given) → Under g blocks w home n 1 0 state₀ log₀ batch₀ → Under g blocks w home n i size state log batch)

abbrev decreases-loop : tie.decreases-loop-i
decreases-loop log₀ state₀ blocks batch₀ w home n size₀ i₀ log state batch size i =
    n - i

loop-holds : tie.Need-loop-i-init invariant-loop decreases-loop
loop-holds c =
    (omega arith, c.requires.1.chain.least, refl, refl, refl, λ g u. u)

mul_at : tie.Need-overflow_mul-at invariant-loop decreases-loop
mul_at c =
    omega arith

add-store-next : tie.Need-overflow_add-at invariant-loop decreases-loop
add-store-next c =
    omega arith

sub-store-next : tie.Need-slice_bounds-store_next-count invariant-loop decreases-loop
sub-store-next c =
    omega arith

part-store-next-start : tie.Need-slice_bounds-store_next-start invariant-loop decreases-loop
part-store-next-start c =
    omega arith

part-store-next-end : tie.Need-slice_bounds-store_next-end invariant-loop decreases-loop
part-store-next-end c =
    omega arith

add-store-next-2 : tie.Need-overflow_add-home invariant-loop decreases-loop
add-store-next-2 c =
    let p = c.requires.1 in omega (arith, p.chain.homes, p.home)

store-next-requires : tie.Need-store_next-size-requires invariant-loop decreases-loop
store-next-requires c κs =
    under-requires c.requires.0 _ _ _ _ c.loop-i.size _ _ _ c.loop-i.i _ (c.loop-i.invariant.5 c.requires.0 c.requires.1) (omega arith) (omega arith) (omega arith)

add-size : tie.Need-overflow_add-size invariant-loop decreases-loop
add-size c =
    let u = under_next c.requires.0 _ _ _ _ c.loop-i.size _ _ _ c.loop-i.i _ _ _ _ _ (c.loop-i.invariant.5 c.requires.0 c.requires.1) (omega arith) (omega arith) (omega arith) c.store_next-size.ensures in
    omega (arith, under-size c.requires.0 _ _ _ _ _ _ _ _ _ u (omega arith) (omega arith))

add-i : tie.Need-overflow_add-i invariant-loop decreases-loop
add-i c =
    omega arith

loop-less : tie.Need-loop-i-smaller invariant-loop decreases-loop
loop-less c =
    omega arith

loop-again : tie.Need-loop-i-preserved invariant-loop decreases-loop
loop-again c =
    (omega arith, omega arith, omega (arith, c.store_next-size.auto), omega (arith, c.store_next-size.auto), omega (arith, c.store_next-size.auto), λ g u. under_next g _ _ _ _ c.loop-i.size _ _ _ c.loop-i.i _ _ _ _ _ (c.loop-i.invariant.5 g u) (omega arith) (omega arith) (omega arith) c.store_next-size.ensures)

same_length : tie.Need-shape_of-log invariant-loop decreases-loop
same_length c =
    omega arith

same-length-2 : tie.Need-shape_of-state invariant-loop decreases-loop
same-length-2 c =
    omega arith

same-length-3 : tie.Need-shape_of-batch invariant-loop decreases-loop
same-length-3 c =
    omega arith

returns : tie.Need-returns invariant-loop decreases-loop
returns c =
    λ g u. under_all g _ _ _ _ _ _ _ _ c.loop-i.i (c.loop-i.invariant.5 g u) (omega arith)

pub store_rest_spec : {M : Type 1} → statement M
store_rest_spec =
    tie.close
    (tie.spec
    invariant-loop
    decreases-loop
    loop-holds
    mul_at
    add-store-next
    sub-store-next
    part-store-next-start
    part-store-next-end
    add-store-next-2
    store-next-requires
    add-size
    add-i
    loop-less
    loop-again
    same_length
    same-length-2
    same-length-3
    returns)
