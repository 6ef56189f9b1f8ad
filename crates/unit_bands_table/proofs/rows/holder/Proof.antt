-- `unit_bands_table::rows::holder` meets its contract. The loop's invariant: the first row among those from `at` on is the first of all. Assumes nothing.
use Prim.Native.Nat.{◌+◌, ◌-◌, ◌*◌, ◌%◌, ◌≤◌}
use mathlib.Core.Path.{◌≡◌, refl, sym, ◌∙◌}
use native.Mathlib.Omega.{arith}
use borrow.Author.Rules.{rules}
use lib.ListN.{length}
use Rattle.unit_bands_table.specs.Rows.{rows, place}
use Rattle.unit_bands_table.specs.Sweep.{rest}
use Rattle.unit_bands_table.proofs.CountLaws.{place_here, place-later, place-ended, place-all}
use Rattle.unit_bands_table.proofs.rows.holder.Statement.{statement}
use Rattle.unit_bands_table.proofs.rows.holder.Tie as tie

abbrev invariant-loop : tie.invariant-loop-at
invariant-loop s mm at₀ at = (at ≤ length s) × (at % 5 ≡ 0) × (at + 5 * place mm (rest s at) ≡ 5 * place mm (rows s))

abbrev decreases-loop : tie.decreases-loop-at
decreases-loop s mm at₀ at = length s - at

loop-holds : tie.Need-loop-at-init invariant-loop decreases-loop
loop-holds c = (omega arith, refl, omega (arith, place-all c.args.mm c.args.s.now))

holds-requires : tie.Need-holds-requires invariant-loop decreases-loop
holds-requires c κs = search rules

returns : tie.Need-returns-then-holds invariant-loop decreases-loop
returns c =
    let a = c.args in
    let l = c.loop-at in
    omega (arith, place_here a.mm a.s.now l.at (omega arith) (sym c.holds.ensures ∙ c.if-holds.true))

add_at : tie.Need-overflow_add-at invariant-loop decreases-loop
add_at c = search rules

loop-less : tie.Need-loop-at-smaller invariant-loop decreases-loop
loop-less c = search rules

loop-again : tie.Need-loop-at-preserved invariant-loop decreases-loop
loop-again c =
    let a = c.args in
    let l = c.loop-at in
    (omega arith, omega arith, omega (arith, place-later a.mm a.s.now l.at (omega arith) (sym c.holds.ensures ∙ c.if-holds.false)))

returns-2 : tie.Need-returns invariant-loop decreases-loop
returns-2 c =
    let a = c.args in
    let l = c.loop-at in
    omega (arith, place-ended a.mm a.s.now l.at (omega arith))

pub holder_spec : {M : Type 1} → statement M
holder_spec =
    tie.close
    (tie.spec
    invariant-loop
    decreases-loop
    loop-holds
    holds-requires
    returns
    add_at
    loop-less
    loop-again
    returns-2)
