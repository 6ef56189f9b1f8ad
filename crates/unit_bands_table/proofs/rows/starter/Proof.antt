-- `unit_bands_table::rows::starter` meets its contract. The loop's invariant: the first row among those from `at` on is the first of all. Assumes nothing.
use Prim.Native.Nat.{◌+◌, ◌-◌, ◌*◌, ◌%◌, ◌≤◌}
use mathlib.Core.Path.{◌≡◌, refl}
use native.Mathlib.Omega.{arith}
use borrow.Author.Rules.{rules}
use lib.ListN.{length}
use Rattle.unit_bands_table.specs.Rows.{rows}
use Rattle.unit_bands_table.specs.Sweep.{rest, starting}
use Rattle.unit_bands_table.proofs.RowWalkLaws.{starting-here, starting-later, starting-ended, starting-all}
use Rattle.unit_bands_table.proofs.rows.starter.Statement.{statement}
use Rattle.unit_bands_table.proofs.rows.starter.Tie as tie

abbrev invariant-loop : tie.invariant-loop-at
invariant-loop s mm at₀ at = (at ≤ length s) × (at % 5 ≡ 0) × (at + 5 * starting mm (rest s at) ≡ 5 * starting mm (rows s))

abbrev decreases-loop : tie.decreases-loop-at
decreases-loop s mm at₀ at = length s - at

loop-holds : tie.Need-loop-at-init invariant-loop decreases-loop
loop-holds c = (omega arith, refl, omega (arith, starting-all c.args.mm c.args.s.now))

two-bytes-requires : tie.Need-two_bytes-requires invariant-loop decreases-loop
two-bytes-requires c κs = omega arith

returns : tie.Need-returns-then-two_bytes-mm invariant-loop decreases-loop
returns c =
    let a = c.args in
    let l = c.loop-at in
    omega (arith, starting-here a.mm a.s.now l.at (omega arith) c.two_bytes.ensures.0 c.if-two_bytes-mm.true)

add_at : tie.Need-overflow_add-at invariant-loop decreases-loop
add_at c = search rules

loop-less : tie.Need-loop-at-smaller invariant-loop decreases-loop
loop-less c = search rules

loop-again : tie.Need-loop-at-preserved invariant-loop decreases-loop
loop-again c =
    let a = c.args in
    let l = c.loop-at in (
      omega arith,
      omega arith,
      omega (arith, starting-later a.mm a.s.now l.at (omega arith) c.two_bytes.ensures.0 c.if-two_bytes-mm.false),
    )

returns-2 : tie.Need-returns invariant-loop decreases-loop
returns-2 c =
    let a = c.args in
    let l = c.loop-at in
    omega (arith, starting-ended a.mm a.s.now l.at (omega arith))

pub starter_spec : {M : Type 1} → statement M
starter_spec =
    tie.close
    (tie.spec
    invariant-loop
    decreases-loop
    loop-holds
    two-bytes-requires
    returns
    add_at
    loop-less
    loop-again
    returns-2)
