-- `log_newest::forget_to` meets its contract. The loop's invariant: the homes before `home` have forgotten what lies before the bound. Assumes nothing.
use mathlib.Core.Path.{◌≡◌, refl}
use mathlib.Core.List.{List}
use Prim.Native.Nat.{ℕ, ◌-◌, ◌≤◌}
use native.Mathlib.Omega.{arith}
use lib.ListN.{length}
use Rattle.model.specs.Newest.{forget}
use Rattle.log_newest.proofs.PositionLaws.{forget-more}
use Rattle.log_newest.proofs.positions.forget_to.Statement.{statement}
use Rattle.log_newest.proofs.positions.forget_to.Tie as tie

abbrev invariant-loop : tie.invariant-loop-home
invariant-loop newest₀ bound from upto home₀ newest home =
    ((before : List ℕ) → newest₀ ≡ forget before bound from → newest ≡ forget before bound home)
    × (home ≤ upto)
    × (length newest ≡ length newest₀)

abbrev decreases-loop : tie.decreases-loop-home
decreases-loop newest₀ bound from upto home₀ newest home = upto - home

loop-holds : tie.Need-loop-home-init invariant-loop decreases-loop
loop-holds c = (λ before e. e, omega arith, refl)

forget-one-requires : tie.Need-forget_one-requires invariant-loop decreases-loop
forget-one-requires c κs = omega arith

add-home : tie.Need-overflow_add-home invariant-loop decreases-loop
add-home c = omega arith

loop-less : tie.Need-loop-home-smaller invariant-loop decreases-loop
loop-less c = omega arith

loop-again : tie.Need-loop-home-preserved invariant-loop decreases-loop
loop-again c =
    let l = c.loop-home in
    let f = c.forget_one in
    (λ before e. forget-more _ _ _ _ _ (l.invariant.0 before e) f.ensures, omega arith, omega (arith, f.auto, l.invariant.2))

same_length : tie.Need-shape_of-newest invariant-loop decreases-loop
same_length c = omega arith

returns : tie.Need-returns invariant-loop decreases-loop
returns c before q =
    let l = c.loop-home in
    let e : l.home ≡ c.args.upto = omega arith in
    rw (← e) (l.invariant.0 before q)

pub forget_to_spec : {M : Type 1} → statement M
forget_to_spec =
    tie.close
    (tie.spec
    invariant-loop
    decreases-loop
    loop-holds
    forget-one-requires
    add-home
    loop-less
    loop-again
    same_length
    returns)
