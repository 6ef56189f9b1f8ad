-- `base_order::groups_in_order` meets its contract: each return follows the tests that led to it. Assumes nothing.
use borrow.Author.Rules.{rules}
use native.Mathlib.Omega.{arith}
use Rattle.base_order.proofs.OrderTests.{tells-groups, tells-homes, tells-start, tells-filled, tells-part, tells-over, tells-full}
use Rattle.base_order.proofs.numbers.groups_in_order.Statement.{statement}
use Rattle.base_order.proofs.numbers.groups_in_order.Tie as tie

number-of-groups-requires : tie.Need-number_of_groups-requires
number-of-groups-requires c κs = search rules

returns : tie.Need-returns-then-number_of_groups-groups
returns c = tells-groups _ _ _ _ c.number_of_groups.ensures.0 c.if-number_of_groups-groups.true

number-of-homes-requires : tie.Need-number_of_homes-requires
number-of-homes-requires c κs = search rules

returns-2 : tie.Need-returns-then-number_of_homes-homes
returns-2 c = tells-homes _ _ _ _ c.number_of_homes.ensures.0 c.if-number_of_homes-homes.true

start-requires : tie.Need-start-start-requires
start-requires c κs = search rules

returns-3 : tie.Need-returns-then-start-gt-MAX_START
returns-3 c =
    tells-start _ _ _ _ _ c.requires.1 c.number_of_groups.ensures.0 c.if-number_of_groups-groups.false c.start-start.ensures.0
    (omega arith)

filled-requires : tie.Need-filled-filled-requires
filled-requires c κs = search rules

returns-4 : tie.Need-returns-then-filled-gt6
returns-4 c =
    tells-filled _ _ _ _ _ c.requires.1 c.number_of_groups.ensures.0 c.if-number_of_groups-groups.false c.start-start.ensures.0 _
    c.filled-filled.ensures.0 c.if-filled-gt6.true

next-requires : tie.Need-next-requires
next-requires c κs = search rules

distance-requires : tie.Need-distance-used-requires
distance-requires c κs = search rules

returns-5 : tie.Need-returns-then-used-groups
returns-5 c =
    tells-part _ _ _ _ _ c.requires.1 c.number_of_groups.ensures.0 c.if-number_of_groups-groups.false c.start-start.ensures.0 _
    c.filled-filled.ensures.0 _ _ _ c.number_of_homes.ensures.0 c.if-number_of_homes-homes.false (omega arith)
    (omega (arith, c.if-filled-gt6.false)) c.next.ensures.0 c.distance-used.ensures (omega arith) c.if-used-groups.true

returns-6 : tie.Need-returns-then-used-groups-2
returns-6 c =
    tells-over _ _ _ _ _ c.requires.1 c.number_of_groups.ensures.0 c.if-number_of_groups-groups.false c.start-start.ensures.0 _
    c.filled-filled.ensures.0 _ _ _ c.number_of_homes.ensures.0 c.if-number_of_homes-homes.false (omega arith)
    (omega (arith, c.if-filled-gt6.false)) c.next.ensures.0 c.distance-used.ensures (omega arith)
    (omega (arith, c.if-used-groups-2.true, c.if-used-groups.false))

returns-7 : tie.Need-returns
returns-7 c =
    tells-full _ _ _ _ _ c.requires.1 c.number_of_groups.ensures.0 c.if-number_of_groups-groups.false c.start-start.ensures.0 _
    c.filled-filled.ensures.0 _ _ _ c.number_of_homes.ensures.0 c.if-number_of_homes-homes.false (omega arith)
    (omega (arith, c.if-filled-gt6.false)) c.next.ensures.0 c.distance-used.ensures (omega arith) c.if-used-groups-2.false

pub groups_in_order_spec : {M : Type 1} → statement M
groups_in_order_spec =
    tie.close
    (tie.spec
    number-of-groups-requires
    returns
    number-of-homes-requires
    returns-2
    start-requires
    returns-3
    filled-requires
    returns-4
    next-requires
    distance-requires
    returns-5
    returns-6
    returns-7)
