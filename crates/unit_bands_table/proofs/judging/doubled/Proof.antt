-- `unit_bands_table::judging::doubled` meets its contract. The loop's invariant: the lowest so far and the lowest in two of the rows from `at` on give the lowest in any two. Assumes nothing.
use Prim.Native.Nat.{◌-◌, ◌%◌, ◌≤◌, min}
use mathlib.Core.Path.{◌≡◌, refl, ap}
use native.Mathlib.Omega.{arith}
use borrow.Author.Rules.{rules}
use lib.ListN.{length}
use Rattle.unit_bands_table.specs.Rows.{rows}
use Rattle.unit_bands_table.specs.Sweep.{rest, twice}
use Rattle.unit_bands_table.proofs.RowLaws.{rest_all}
use Rattle.unit_bands_table.proofs.SweepLaws.{twice-high, doubled-twice}
use Rattle.unit_bands_table.proofs.LoopLaws.{twice-over, twice-ended}
use Rattle.unit_bands_table.proofs.judging.doubled.Statement.{statement}
use Rattle.unit_bands_table.proofs.judging.doubled.Tie as tie

abbrev invariant-loop : tie.invariant-loop-at
invariant-loop s lowest₀ at₀ lowest at = (at ≤ length s) × (at % 5 ≡ 0) × (lowest ≤ 10000) × (min lowest (twice (rest s at)) ≡ twice (rows s))

abbrev decreases-loop : tie.decreases-loop-at
decreases-loop s lowest₀ at₀ lowest at = length s - at

loop-holds : tie.Need-loop-at-init invariant-loop decreases-loop
loop-holds c =
    let s = c.args.s.now in
    (omega arith, refl, omega arith, omega (arith, ap twice (rest_all s), twice-high (rows s)))

shared-requires : tie.Need-shared-requires invariant-loop decreases-loop
shared-requires c κs = (c.requires, search rules, search rules)

lesser-requires : tie.Need-lesser-lowest-requires invariant-loop decreases-loop
lesser-requires c κs = search rules

add_at : tie.Need-overflow_add-at invariant-loop decreases-loop
add_at c = search rules

loop-less : tie.Need-loop-at-smaller invariant-loop decreases-loop
loop-less c = search rules

loop-again : tie.Need-loop-at-preserved invariant-loop decreases-loop
loop-again c =
    let s = c.args.s.now in
    let l = c.loop-at in
    (omega arith, omega arith, omega arith, omega (arith, twice-over s l.at (omega arith)))

returns : tie.Need-returns invariant-loop decreases-loop
returns c =
    let s = c.args.s.now in
    let l = c.loop-at in
    omega (arith, twice-ended s l.at (omega arith), doubled-twice (rows s))

pub doubled_spec : {M : Type 1} → statement M
doubled_spec =
    tie.close
    (tie.spec
    invariant-loop
    decreases-loop
    loop-holds
    shared-requires
    lesser-requires
    add_at
    loop-less
    loop-again
    returns)
