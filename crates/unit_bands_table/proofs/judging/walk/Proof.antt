-- `unit_bands_table::judging::walk` meets its contract. The loop's invariant: every millimetre below `next` lies in a row. Assumes nothing.
use Prim.Native.Nat.{◌-◌, ◌≤◌}
use native.Mathlib.Omega.{arith}
use borrow.Author.Rules.{rules}
use Rattle.unit_bands_table.specs.Rows.{rows}
use Rattle.unit_bands_table.proofs.LoopLaws.{Covered, covered_none, place-room, found-further, walk-on, walk-gap, walk-done}
use Rattle.unit_bands_table.proofs.judging.walk.Statement.{statement}
use Rattle.unit_bands_table.proofs.judging.walk.Tie as tie

abbrev invariant-loop : tie.invariant-loop-next
invariant-loop s next₀ next = (next ≤ 65536) × Covered (rows s) next

abbrev decreases-loop : tie.decreases-loop-next
decreases-loop s next₀ next = 10000 - next

loop-holds : tie.Need-loop-next-init invariant-loop decreases-loop
loop-holds c = (omega arith, covered_none (rows c.args.s.now))

holder-requires : tie.Need-holder-at-requires invariant-loop decreases-loop
holder-requires c κs = search rules

returns : tie.Need-returns-then-at-s invariant-loop decreases-loop
returns c = walk-gap _ _ c.loop-next.invariant.1 c.requires c.holder-at.ensures c.if-at-s.true (omega arith)

add-two-bytes : tie.Need-overflow_add-at invariant-loop decreases-loop
add-two-bytes c = omega arith

two-bytes-requires : tie.Need-two_bytes-next-requires invariant-loop decreases-loop
two-bytes-requires c κs = omega (arith, place-room _ _ c.requires c.holder-at.ensures c.if-at-s.false)

add-next : tie.Need-overflow_add-next invariant-loop decreases-loop
add-next c = search rules

loop-less : tie.Need-loop-next-smaller invariant-loop decreases-loop
loop-less c = omega (arith, found-further _ _ c.requires c.holder-at.ensures c.if-at-s.false c.two_bytes-next.ensures.0)

loop-again : tie.Need-loop-next-preserved invariant-loop decreases-loop
loop-again c =
    let l = c.loop-next in
    (omega arith, walk-on _ _ l.invariant.1 c.requires c.holder-at.ensures c.if-at-s.false c.two_bytes-next.ensures.0)

returns-2 : tie.Need-returns invariant-loop decreases-loop
returns-2 c = walk-done _ _ c.loop-next.invariant.1 (omega arith)

pub walk_spec : {M : Type 1} → statement M
walk_spec =
    tie.close
    (tie.spec
    invariant-loop
    decreases-loop
    loop-holds
    holder-requires
    returns
    add-two-bytes
    two-bytes-requires
    add-next
    loop-less
    loop-again
    returns-2)
