-- `unit_bands_table::rows::all_fit` meets its contract. The loop's invariant: the rows from `at` on are such exactly if all are. Assumes nothing.
use Prim.Native.Nat.{◌-◌, ◌%◌, ◌≤◌}
use mathlib.Core.Path.{◌≡◌, refl, sym, ap, ◌∙◌}
use native.Mathlib.Omega.{arith}
use borrow.Author.Rules.{rules}
use lib.ListN.{length}
use Rattle.unit_bands_table.specs.Rows.{rows}
use Rattle.unit_bands_table.specs.Judge.{all_fit}
use Rattle.unit_bands_table.specs.Sweep.{rest}
use Rattle.unit_bands_table.proofs.RowLaws.{rest_all, fits-over, fits_under, fits-ended}
use Rattle.unit_bands_table.proofs.rows.all_fit.Statement.{statement}
use Rattle.unit_bands_table.proofs.rows.all_fit.Tie as tie

abbrev invariant-loop : tie.invariant-loop-at
invariant-loop s at₀ at = (at ≤ length s) × (at % 5 ≡ 0) × (all_fit (rest s at) ≡ all_fit (rows s))

abbrev decreases-loop : tie.decreases-loop-at
decreases-loop s at₀ at = length s - at

loop-holds : tie.Need-loop-at-init invariant-loop decreases-loop
loop-holds c = (omega arith, refl, ap all_fit (rest_all c.args.s.now))

fit-requires : tie.Need-fit-requires invariant-loop decreases-loop
fit-requires c κs = search rules

returns : tie.Need-returns-then-not-fit invariant-loop decreases-loop
returns c =
    let l = c.loop-at in
    sym (fits_under _ _ (omega arith) (sym c.fit.ensures ∙ c.if-not-fit.true)) ∙ l.invariant.2

add_at : tie.Need-overflow_add-at invariant-loop decreases-loop
add_at c = search rules

loop-less : tie.Need-loop-at-smaller invariant-loop decreases-loop
loop-less c = search rules

loop-again : tie.Need-loop-at-preserved invariant-loop decreases-loop
loop-again c =
    let l = c.loop-at in
    (omega arith, omega arith, sym (fits-over _ _ (omega arith) (sym c.fit.ensures ∙ c.if-not-fit.false)) ∙ l.invariant.2)

returns-2 : tie.Need-returns invariant-loop decreases-loop
returns-2 c =
    let l = c.loop-at in
    sym (fits-ended _ _ (omega arith)) ∙ l.invariant.2

pub all_fit_spec : {M : Type 1} → statement M
all_fit_spec =
    tie.close
    (tie.spec
    invariant-loop
    decreases-loop
    loop-holds
    fit-requires
    returns
    add_at
    loop-less
    loop-again
    returns-2)
