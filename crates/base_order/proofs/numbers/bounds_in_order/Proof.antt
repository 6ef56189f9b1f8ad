-- `base_order::bounds_in_order` meets its contract: each return follows the tests that led to it. Assumes nothing.
use borrow.Author.Rules.{rules}
use native.Mathlib.Omega.{arith}
use Rattle.base_order.proofs.OrderTests.{bounds-durable, bounds-fenced, bounds-settled, bounds-last}
use Rattle.base_order.proofs.numbers.bounds_in_order.Statement.{statement}
use Rattle.base_order.proofs.numbers.bounds_in_order.Tie as tie

fenced-requires : tie.Need-fenced-end-requires
fenced-requires c κs = search rules

durable-requires : tie.Need-durable-requires
durable-requires c κs = search rules

returns : tie.Need-returns-then-end-durable
returns c =
    let p = c.requires in
    bounds-durable _ _ _ _ _ _ p.1 p.2 c.fenced-end.ensures.0 c.durable.ensures.0 c.if-end-durable.true

distance-requires : tie.Need-distance-fenced-requires
distance-requires c κs = search rules

returns-2 : tie.Need-returns-then-whole-fenced
returns-2 c =
    let p = c.requires in
    bounds-fenced _ _ _ _ _ _ p.1 p.2 c.fenced-end.ensures.0 c.durable.ensures.0 c.if-end-durable.false _ c.distance-fenced.ensures (omega arith)
    c.if-whole-fenced.true

settled-requires : tie.Need-settled-requires
settled-requires c κs = search rules

distance-requires-2 : tie.Need-distance-requires
distance-requires-2 c κs = search rules

returns-3 : tie.Need-returns-then-fenced-distance
returns-3 c =
    let p = c.requires in
    bounds-settled _ _ _ _ _ _ p.1 p.2 c.fenced-end.ensures.0 c.durable.ensures.0 c.if-end-durable.false _ c.distance-fenced.ensures (omega arith)
    c.if-whole-fenced.false _ _ c.settled.ensures.0 c.distance.ensures (omega arith) c.if-fenced-distance.true

last-requires : tie.Need-last-requires
last-requires c κs = search rules

add-result : tie.Need-overflow_add-result
add-result c =
    let p = c.requires in
    let g = p.1.in_order in
    omega (arith, p.1.lowest, p.1.every, g.start-most, g.next-most, g.groups-most, g.filled-most)

returns-4 : tie.Need-returns
returns-4 c =
    let p = c.requires in
    bounds-last _ _ _ _ _ _ p.1 p.2 c.fenced-end.ensures.0 c.durable.ensures.0 c.if-end-durable.false _ c.distance-fenced.ensures (omega arith)
    c.if-whole-fenced.false _ _ c.settled.ensures.0 c.distance.ensures (omega arith) c.if-fenced-distance.false _ c.last.ensures.0

pub bounds_in_order_spec : {M : Type 1} → statement M
bounds_in_order_spec =
    tie.close
    (tie.spec
    fenced-requires
    durable-requires
    returns
    distance-requires
    returns-2
    settled-requires
    distance-requires-2
    returns-3
    last-requires
    add-result
    returns-4)
