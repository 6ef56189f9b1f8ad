-- `log_newest::forget_eight` meets its contract: each home takes it one further. Assumes nothing.
use native.Mathlib.Omega.{arith}
use Rattle.log_newest.proofs.PositionLaws.{forget-next}
use Rattle.log_newest.proofs.positions.forget_eight.Statement.{statement}
use Rattle.log_newest.proofs.positions.forget_eight.Tie as tie

forget-one-requires : tie.Need-forget_one-requires
forget-one-requires c κs = omega (arith, c.requires)

add-forget-one : tie.Need-overflow_add-home
add-forget-one c = omega (arith, c.requires)

forget-one-requires-2 : tie.Need-forget_one-requires-2
forget-one-requires-2 c κs = omega (arith, c.requires, c.forget_one.auto)

add-forget-one-2 : tie.Need-overflow_add-home-2
add-forget-one-2 c = omega (arith, c.requires)

forget-one-requires-3 : tie.Need-forget_one-requires-3
forget-one-requires-3 c κs = omega (arith, c.requires, c.forget_one.auto, c.forget_one-2.auto)

add-forget-one-3 : tie.Need-overflow_add-home-3
add-forget-one-3 c = omega (arith, c.requires)

forget-one-requires-4 : tie.Need-forget_one-requires-4
forget-one-requires-4 c κs = omega (arith, c.requires, c.forget_one.auto, c.forget_one-2.auto, c.forget_one-3.auto)

add-forget-one-4 : tie.Need-overflow_add-home-4
add-forget-one-4 c = omega (arith, c.requires)

forget-one-requires-5 : tie.Need-forget_one-requires-5
forget-one-requires-5 c κs = omega (arith, c.requires, c.forget_one.auto, c.forget_one-2.auto, c.forget_one-3.auto, c.forget_one-4.auto)

add-forget-one-5 : tie.Need-overflow_add-home-5
add-forget-one-5 c = omega (arith, c.requires)

forget-one-requires-6 : tie.Need-forget_one-requires-6
forget-one-requires-6 c κs = omega (arith, c.requires, c.forget_one.auto, c.forget_one-2.auto, c.forget_one-3.auto, c.forget_one-4.auto, c.forget_one-5.auto)

add-forget-one-6 : tie.Need-overflow_add-home-6
add-forget-one-6 c = omega (arith, c.requires)

forget-one-requires-7 : tie.Need-forget_one-requires-7
forget-one-requires-7 c κs = omega (arith, c.requires, c.forget_one.auto, c.forget_one-2.auto, c.forget_one-3.auto, c.forget_one-4.auto, c.forget_one-5.auto, c.forget_one-6.auto)

add-forget-one-7 : tie.Need-overflow_add-home-7
add-forget-one-7 c = omega (arith, c.requires)

forget-one-requires-8 : tie.Need-forget_one-requires-8
forget-one-requires-8 c κs = omega (arith, c.requires, c.forget_one.auto, c.forget_one-2.auto, c.forget_one-3.auto, c.forget_one-4.auto, c.forget_one-5.auto, c.forget_one-6.auto, c.forget_one-7.auto)

same_length : tie.Need-shape_of-newest
same_length c = omega (arith, c.forget_one.auto, c.forget_one-2.auto, c.forget_one-3.auto, c.forget_one-4.auto, c.forget_one-5.auto, c.forget_one-6.auto, c.forget_one-7.auto, c.forget_one-8.auto)

returns : tie.Need-returns
returns c before e =
    forget-next _ _ _ _ _ _ (omega arith) (forget-next _ _ _ _ _ _ (omega arith) (forget-next _ _ _ _ _ _ (omega arith) (forget-next _ _ _ _ _ _ (omega arith) (forget-next _ _ _ _ _ _ (omega arith) (forget-next _ _ _ _ _ _ (omega arith) (forget-next _ _ _ _ _ _ (omega arith) (forget-next _ _ _ _ _ _ (omega arith) (e) c.forget_one.ensures) c.forget_one-2.ensures) c.forget_one-3.ensures) c.forget_one-4.ensures) c.forget_one-5.ensures) c.forget_one-6.ensures) c.forget_one-7.ensures) c.forget_one-8.ensures

pub forget_eight_spec : {M : Type 1} → statement M
forget_eight_spec =
    tie.close
    (tie.spec
    forget-one-requires
    add-forget-one
    forget-one-requires-2
    add-forget-one-2
    forget-one-requires-3
    add-forget-one-3
    forget-one-requires-4
    add-forget-one-4
    forget-one-requires-5
    add-forget-one-5
    forget-one-requires-6
    add-forget-one-6
    forget-one-requires-7
    add-forget-one-7
    forget-one-requires-8
    same_length
    returns)
