-- `log_gather::drop_eight` meets its contract: each cell takes it one further. Assumes nothing.
use native.Mathlib.Omega.{arith}
use Rattle.log_gather.proofs.WalkSteps.{drop-same}
use Rattle.log_gather.proofs.walking.drop_eight.Statement.{statement}
use Rattle.log_gather.proofs.walking.drop_eight.Tie as tie

drop-one-requires : tie.Need-drop_one-requires
drop-one-requires c κs = omega (arith, c.requires)

add-drop-one : tie.Need-overflow_add-k
add-drop-one c = omega (arith, c.requires)

drop-one-requires-2 : tie.Need-drop_one-requires-2
drop-one-requires-2 c κs = omega (arith, c.requires, c.drop_one.auto)

add-drop-one-2 : tie.Need-overflow_add-k-2
add-drop-one-2 c = omega (arith, c.requires)

drop-one-requires-3 : tie.Need-drop_one-requires-3
drop-one-requires-3 c κs = omega (arith, c.requires, c.drop_one.auto, c.drop_one-2.auto)

add-drop-one-3 : tie.Need-overflow_add-k-3
add-drop-one-3 c = omega (arith, c.requires)

drop-one-requires-4 : tie.Need-drop_one-requires-4
drop-one-requires-4 c κs = omega (arith, c.requires, c.drop_one.auto, c.drop_one-2.auto, c.drop_one-3.auto)

add-drop-one-4 : tie.Need-overflow_add-k-4
add-drop-one-4 c = omega (arith, c.requires)

drop-one-requires-5 : tie.Need-drop_one-requires-5
drop-one-requires-5 c κs = omega (arith, c.requires, c.drop_one.auto, c.drop_one-2.auto, c.drop_one-3.auto, c.drop_one-4.auto)

add-drop-one-5 : tie.Need-overflow_add-k-5
add-drop-one-5 c = omega (arith, c.requires)

drop-one-requires-6 : tie.Need-drop_one-requires-6
drop-one-requires-6 c κs = omega (arith, c.requires, c.drop_one.auto, c.drop_one-2.auto, c.drop_one-3.auto, c.drop_one-4.auto, c.drop_one-5.auto)

add-drop-one-6 : tie.Need-overflow_add-k-6
add-drop-one-6 c = omega (arith, c.requires)

drop-one-requires-7 : tie.Need-drop_one-requires-7
drop-one-requires-7 c κs = omega (arith, c.requires, c.drop_one.auto, c.drop_one-2.auto, c.drop_one-3.auto, c.drop_one-4.auto, c.drop_one-5.auto, c.drop_one-6.auto)

add-drop-one-7 : tie.Need-overflow_add-k-7
add-drop-one-7 c = omega (arith, c.requires)

drop-one-requires-8 : tie.Need-drop_one-requires-8
drop-one-requires-8 c κs = omega (arith, c.requires, c.drop_one.auto, c.drop_one-2.auto, c.drop_one-3.auto, c.drop_one-4.auto, c.drop_one-5.auto, c.drop_one-6.auto, c.drop_one-7.auto)

same_length : tie.Need-shape_of-cells
same_length c = omega (arith, c.drop_one.auto, c.drop_one-2.auto, c.drop_one-3.auto, c.drop_one-4.auto, c.drop_one-5.auto, c.drop_one-6.auto, c.drop_one-7.auto, c.drop_one-8.auto)

returns : tie.Need-returns
returns c before d = drop-same _ _ _ _ (omega arith) (c.drop_one-8.ensures before _ (omega arith) (c.drop_one-7.ensures before _ (omega arith) (c.drop_one-6.ensures before _ (omega arith) (c.drop_one-5.ensures before _ (omega arith) (c.drop_one-4.ensures before _ (omega arith) (c.drop_one-3.ensures before _ (omega arith) (c.drop_one-2.ensures before _ (omega arith) (c.drop_one.ensures before _ (omega arith) d))))))))

pub drop_eight_spec : {M : Type 1} → statement M
drop_eight_spec =
    tie.close
    (tie.spec
    drop-one-requires
    add-drop-one
    drop-one-requires-2
    add-drop-one-2
    drop-one-requires-3
    add-drop-one-3
    drop-one-requires-4
    add-drop-one-4
    drop-one-requires-5
    add-drop-one-5
    drop-one-requires-6
    add-drop-one-6
    drop-one-requires-7
    add-drop-one-7
    drop-one-requires-8
    same_length
    returns)
