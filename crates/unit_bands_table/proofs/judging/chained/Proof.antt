-- `unit_bands_table::judging::chained` meets its contract. The loop's invariant: every millimetre below `next` lies in a row, and one of these rows ends there. Assumes nothing.
use Prim.Native.Nat.{◌-◌, ◌≤◌}
use native.Mathlib.Omega.{arith}
use borrow.Author.Rules.{rules}
use Rattle.unit_bands_table.specs.Rows.{rows}
use Rattle.unit_bands_table.proofs.RowLaws.{sound-whole, sound-fit}
use Rattle.unit_bands_table.proofs.LoopLaws.{Covered, covered_none}
use Rattle.unit_bands_table.proofs.RowWalkLaws.{Parted, parted-none, chain-room, chain-further, chain-covered, chain-parted, chain-broken, chain-whole}
use Rattle.unit_bands_table.proofs.judging.chained.Statement.{statement}
use Rattle.unit_bands_table.proofs.judging.chained.Tie as tie

abbrev invariant-loop : tie.invariant-loop-next
invariant-loop s next₀ next = (next ≤ 65536) × Covered (rows s) next × Parted (rows s) next

abbrev decreases-loop : tie.decreases-loop-next
decreases-loop s next₀ next = 10000 - next

loop-holds : tie.Need-loop-next-init invariant-loop decreases-loop
loop-holds c =
    let s = c.args.s.now in
    (omega arith, covered_none (rows s), parted-none (rows s))

starter-requires : tie.Need-starter-at-requires invariant-loop decreases-loop
starter-requires c κs = sound-whole _ c.requires.0

returns : tie.Need-returns-then-at-s invariant-loop decreases-loop
returns c =
    let p = c.requires in
    chain-broken _ _ p.0 p.1 c.loop-next.invariant.2 (omega arith) c.starter-at.ensures c.if-at-s.true

add-two-bytes : tie.Need-overflow_add-at invariant-loop decreases-loop
add-two-bytes c = omega arith

two-bytes-requires : tie.Need-two_bytes-next-requires invariant-loop decreases-loop
two-bytes-requires c κs =
    omega (arith, chain-room _ _ (sound-whole _ c.requires.0) c.starter-at.ensures c.if-at-s.false)

add-next : tie.Need-overflow_add-next invariant-loop decreases-loop
add-next c = search rules

loop-less : tie.Need-loop-next-smaller invariant-loop decreases-loop
loop-less c =
    let e = c.requires.0 in
    omega (arith, chain-further _ _ (sound-whole _ e) c.starter-at.ensures c.if-at-s.false (sound-fit _ e) c.two_bytes-next.ensures.0)

loop-again : tie.Need-loop-next-preserved invariant-loop decreases-loop
loop-again c =
    let e = c.requires.0 in
    let l = c.loop-next in
    let s = c.starter-at.ensures in
    let i = c.if-at-s.false in
    let t = c.two_bytes-next.ensures.0 in
    (omega arith, chain-covered _ _ (sound-whole _ e) s i (sound-fit _ e) t l.invariant.1, chain-parted _ _ (sound-whole _ e) s i (sound-fit _ e) t)

returns-2 : tie.Need-returns invariant-loop decreases-loop
returns-2 c =
    let p = c.requires in
    chain-whole _ _ p.0 p.1 c.loop-next.invariant.1 (omega arith)

pub chained_spec : {M : Type 1} → statement M
chained_spec =
    tie.close
    (tie.spec
    invariant-loop
    decreases-loop
    loop-holds
    starter-requires
    returns
    add-two-bytes
    two-bytes-requires
    add-next
    loop-less
    loop-again
    returns-2)
