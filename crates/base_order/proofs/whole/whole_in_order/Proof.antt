-- `base_order::whole_in_order` meets its contract: each return follows the tests that led to it. Assumes nothing.
use borrow.Author.Rules.{rules}
use mathlib.Core.Path.{refl, sym}
use native.Mathlib.Omega.{arith}
use Rattle.base_order.proofs.OrderTests.{live-by, numbers-not, writers-not}
use Rattle.base_order.proofs.AskedLaws.{quiet-tells, pending-tells}
use Rattle.base_order.proofs.whole.whole_in_order.Statement.{statement}
use Rattle.base_order.proofs.whole.whole_in_order.Tie as tie

groups-in-order-requires : tie.Need-groups_in_order-requires
groups-in-order-requires c κs = search rules

returns : tie.Need-returns-then-not-groups_in_order
returns c = c.groups_in_order.ensures.1 (c.if-not-groups_in_order.true)

start-requires : tie.Need-start-start-requires
start-requires c κs = search rules

mul_low : tie.Need-overflow_mul-low
mul_low c =
    let a = c.groups_in_order.ensures.0 (c.if-not-groups_in_order.false) in
    omega (arith, a.in_order.start-most, c.start-start.ensures.0)

next-requires : tie.Need-next-requires
next-requires c κs = search rules

sub-whole : tie.Need-overflow_sub-whole
sub-whole c =
    let a = c.groups_in_order.ensures.0 (c.if-not-groups_in_order.false) in
    omega (arith, a.in_order.start-next, c.start-start.ensures.0, c.next.ensures.0)

mul-whole : tie.Need-overflow_mul-whole
mul-whole c =
    let a = c.groups_in_order.ensures.0 (c.if-not-groups_in_order.false) in
    let g = a.in_order in
    omega (arith, g.next-most, g.groups-most, c.start-start.ensures.0, c.next.ensures.0)

filled-requires : tie.Need-filled-requires
filled-requires c κs = search rules

add-all : tie.Need-overflow_add-all
add-all c =
    let a = c.groups_in_order.ensures.0 (c.if-not-groups_in_order.false) in
    let g = a.in_order in
    omega (arith, g.next-most, g.groups-most, g.filled-most, c.start-start.ensures.0, c.next.ensures.0, c.filled.ensures.0)

bounds-in-order-requires : tie.Need-bounds_in_order-requires
bounds-in-order-requires c κs =
    let a = c.groups_in_order.ensures.0 (c.if-not-groups_in_order.false) in (
      c.requires.0,
      live-by _ _ _ _ a.in_order c.start-start.ensures.0 c.next.ensures.0 c.filled.ensures.0,
      rw c.filled.ensures.0,
    )

returns-2 : tie.Need-returns-then-not-bounds_in_order
returns-2 c = numbers-not _ _ _ _ refl (c.bounds_in_order.ensures.1 (c.if-not-bounds_in_order.true))

records-in-order-requires : tie.Need-records_in_order-requires
records-in-order-requires c κs =
    let a = c.groups_in_order.ensures.0 (c.if-not-groups_in_order.false) in (
      c.requires.0,
      live-by _ _ _ _ a.in_order c.start-start.ensures.0 c.next.ensures.0 c.filled.ensures.0,
      sym a.homes_same,
    )

returns-3 : tie.Need-returns-then-not-records_in_order
returns-3 c = writers-not _ _ _ _ refl (c.records_in_order.ensures.1 (c.if-not-records_in_order.true))

round-requires : tie.Need-round-requires
round-requires c κs = search rules

pending-in-order-requires : tie.Need-pending_in_order-requires
pending-in-order-requires c κs =
    let a = c.groups_in_order.ensures.0 (c.if-not-groups_in_order.false) in
    (c.requires.0, a.in_order)

returns-4 : tie.Need-returns-then-round-ne0
returns-4 c =
    pending-tells _ _ _ (c.groups_in_order.ensures.0 (c.if-not-groups_in_order.false))
    (c.bounds_in_order.ensures.0 (c.if-not-bounds_in_order.false)) (c.records_in_order.ensures.0 (c.if-not-records_in_order.false)) _
    c.pending_in_order.ensures

none-promised-requires : tie.Need-none_promised-requires
none-promised-requires c κs = search rules

pending-in-order-requires-2 : tie.Need-pending_in_order-requires-then-not-none_promised
pending-in-order-requires-2 c κs =
    let a = c.groups_in_order.ensures.0 (c.if-not-groups_in_order.false) in
    (c.requires.0, a.in_order)

returns-5 : tie.Need-returns-then-not-none_promised
returns-5 c =
    pending-tells _ _ _ (c.groups_in_order.ensures.0 (c.if-not-groups_in_order.false))
    (c.bounds_in_order.ensures.0 (c.if-not-bounds_in_order.false)) (c.records_in_order.ensures.0 (c.if-not-records_in_order.false)) _
    c.pending_in_order-then-not-none_promised.ensures

returns-6 : tie.Need-returns
returns-6 c =
    quiet-tells _ _ _ (c.groups_in_order.ensures.0 (c.if-not-groups_in_order.false))
    (c.bounds_in_order.ensures.0 (c.if-not-bounds_in_order.false)) (c.records_in_order.ensures.0 (c.if-not-records_in_order.false))
    (omega (arith, c.round.ensures.0)) (c.none_promised.ensures (c.if-not-none_promised.false))

pub whole_in_order_spec : {M : Type 1} → statement M
whole_in_order_spec =
    tie.close
    (tie.spec
    groups-in-order-requires
    returns
    start-requires
    mul_low
    next-requires
    sub-whole
    mul-whole
    filled-requires
    add-all
    bounds-in-order-requires
    returns-2
    records-in-order-requires
    returns-3
    round-requires
    pending-in-order-requires
    returns-4
    none-promised-requires
    pending-in-order-requires-2
    returns-5
    returns-6)
