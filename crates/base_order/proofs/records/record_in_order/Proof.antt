-- `base_order::record_in_order` meets its contract: each return follows the tests that led to it. Assumes nothing.
use borrow.Author.Rules.{rules}
use native.Mathlib.Omega.{arith}
use Rattle.base_order.proofs.RecordLaws.{home-far, nothing-logged, first-far, entries_fit}
use Rattle.base_order.proofs.records.record_in_order.Statement.{statement}
use Rattle.base_order.proofs.records.record_in_order.Tie as tie

mul_at : tie.Need-overflow_mul-at
mul_at c = search rules

add_at : tie.Need-overflow_add-at
add_at c = search rules

number-requires : tie.Need-number-requires
number-requires c κs = search rules

returns : tie.Need-returns-then-homes-number
returns c =
    let p = c.requires in
    home-far _ _ _ _ p.5 p.6 p.2 c.number.ensures.0 c.if-homes-number.true

shr-if2 : tie.Need-overflow_shr-twice
shr-if2 c = search rules

returns-2 : tie.Need-returns-then-twice-t-eq0
returns-2 c =
    let p = c.requires in
    nothing-logged _ _ _ _ p.5 p.6 p.2 c.number.ensures.0 c.if-homes-number.false p.7 p.4
    (λ i. omega (arith, c.shared_slice_known-1.given i)) _ p.3 c.if-twice-t-eq0.true

add-distance : tie.Need-overflow_add-low
add-distance c =
    let l = c.requires.1 in
    let g = l.in_order in
    omega (arith, l.lowest, l.every, g.start-most, g.next-most, g.groups-most, g.filled-most)

add-number : tie.Need-overflow_add-at-2
add-number c = search rules

number-requires-2 : tie.Need-number-requires-2
number-requires-2 c κs = search rules

distance-requires : tie.Need-distance-since-requires
distance-requires c κs = search rules

returns-3 : tie.Need-returns-then-all-since
returns-3 c =
    let p = c.requires in
    first-far _ _ _ _ p.5 p.6 p.2 c.number.ensures.0 c.if-homes-number.false p.7 p.4
    (λ j. omega (arith, c.shared_slice_known-1.given j)) _ p.3 _ _ _ _ c.if-twice-t-eq0.false p.1 c.number-2.ensures.0
    c.distance-since.ensures (omega arith) (omega (arith, c.number-2.ensures.1)) c.if-all-since.true

add-number-2 : tie.Need-overflow_add-at-3
add-number-2 c = search rules

number-requires-3 : tie.Need-number-requires-3
number-requires-3 c κs = search rules

returns-4 : tie.Need-returns
returns-4 c =
    let p = c.requires in
    entries_fit _ _ _ _ p.5 p.6 p.2 c.number.ensures.0 c.if-homes-number.false p.7 p.4
    (λ j. omega (arith, c.shared_slice_known-1.given j)) _ p.3 _ _ _ _ c.if-twice-t-eq0.false p.1 c.number-2.ensures.0
    c.distance-since.ensures (omega arith) (omega (arith, c.number-2.ensures.1)) c.if-all-since.false _ c.number-3.ensures.0
    (omega (arith, c.number-3.ensures.1))

pub record_in_order_spec : {M : Type 1} → statement M
record_in_order_spec =
    tie.close
    (tie.spec
    mul_at
    add_at
    number-requires
    returns
    shr-if2
    returns-2
    add-distance
    add-number
    number-requires-2
    distance-requires
    returns-3
    add-number-2
    number-requires-3
    returns-4)
