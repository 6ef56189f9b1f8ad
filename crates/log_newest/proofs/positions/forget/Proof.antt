-- `log_newest::forget` meets its contract. The loop's invariant: the first `home` homes have forgotten what lies before the bound. Assumes nothing.
use mathlib.Core.Path.{◌≡◌, refl, ap, ◌∙◌}
use Prim.Native.Nat.{◌-◌, ◌≤◌}
use native.Mathlib.Omega.{arith}
use lib.ListN.{length}
use Rattle.model.specs.Newest.{forget}
use Rattle.model_laws.proofs.state.NewestLaws.{length-forget}
use Rattle.log_newest.proofs.positions.forget.Statement.{statement}
use Rattle.log_newest.proofs.positions.forget.Tie as tie

abbrev invariant-loop : tie.invariant-loop-home
invariant-loop newest₀ bound homes home₀ newest home = (newest ≡ forget newest₀ bound home) × (home ≤ homes) × (length newest ≡ length newest₀)

abbrev decreases-loop : tie.decreases-loop-home
decreases-loop newest₀ bound homes home₀ newest home = homes - home

loop-holds : tie.Need-loop-home-init invariant-loop decreases-loop
unfolding forget
loop-holds c = (refl, omega arith, refl)

add-loop : tie.Need-overflow_add-home invariant-loop decreases-loop
add-loop c = omega arith

forget-eight-requires : tie.Need-forget_eight-requires invariant-loop decreases-loop
forget-eight-requires c κs = omega arith

add-home : tie.Need-overflow_add-home-in-loop-home invariant-loop decreases-loop
add-home c = omega arith

loop-less : tie.Need-loop-home-smaller invariant-loop decreases-loop
loop-less c = omega arith

loop-again : tie.Need-loop-home-preserved invariant-loop decreases-loop
loop-again c =
    let f = c.forget_eight in
    let l = c.loop-home in
    let e = f.ensures _ l.invariant.0 in
    (e, omega arith, ap length e ∙ length-forget _ _ _)

forget-to-requires : tie.Need-forget_to-requires invariant-loop decreases-loop
forget-to-requires c κs = (omega arith, omega arith)

same_length : tie.Need-shape_of-newest invariant-loop decreases-loop
same_length c = omega (arith, c.forget_to.auto, c.loop-home.invariant.2)

returns : tie.Need-returns invariant-loop decreases-loop
returns c = c.forget_to.ensures _ c.loop-home.invariant.0

pub forget_spec : {M : Type 1} → statement M
forget_spec =
    tie.close
    (tie.spec
    invariant-loop
    decreases-loop
    loop-holds
    add-loop
    forget-eight-requires
    add-home
    loop-less
    loop-again
    forget-to-requires
    same_length
    returns)
