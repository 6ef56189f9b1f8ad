-- `unit_bands_table::judging::tiled` meets its contract. The loop's invariant: the rows from `at` on are such and rise from `next` on exactly if all rows are and rise from 0 on. Assumes nothing.
use Prim.Native.Nat.{◌-◌, ◌%◌, ◌≤◌}
use mathlib.Core.Path.{◌≡◌, refl, sym, ◌∙◌}
use mathlib.Core.Bool.{◌&&◌}
use native.Mathlib.Omega.{arith}
use borrow.Author.Rules.{rules}
use lib.ListN.{length}
use Rattle.unit_bands_table.specs.Rows.{rows}
use Rattle.unit_bands_table.specs.Judge.{all_fit}
use Rattle.unit_bands_table.specs.Sweep.{rest, rising}
use Rattle.unit_bands_table.proofs.LoopLaws.{tiled-broken, tiled-unfit, tiled-over, tiled-ended, tiled-all}
use Rattle.unit_bands_table.proofs.judging.tiled.Statement.{statement}
use Rattle.unit_bands_table.proofs.judging.tiled.Tie as tie

abbrev invariant-loop : tie.invariant-loop-at
invariant-loop s next₀ at₀ next at = (at ≤ length s) × (at % 5 ≡ 0) × (next ≤ 65536) × ((all_fit (rest s at) && rising next (rest s at)) ≡ (all_fit (rows s) && rising 0 (rows s)))

abbrev decreases-loop : tie.decreases-loop-at
decreases-loop s next₀ at₀ next at = length s - at

loop-holds : tie.Need-loop-at-init invariant-loop decreases-loop
loop-holds c = (omega arith, refl, omega arith, tiled-all c.args.s.now)

two-bytes-requires : tie.Need-two_bytes-requires invariant-loop decreases-loop
two-bytes-requires c κs = omega arith

returns : tie.Need-returns-then-two_bytes-next invariant-loop decreases-loop
returns c =
    let l = c.loop-at in
    sym (tiled-broken _ _ _ (omega arith) c.two_bytes.ensures.0 c.if-two_bytes-next.true) ∙ l.invariant.3

fit-requires : tie.Need-fit-requires invariant-loop decreases-loop
fit-requires c κs = omega arith

returns-2 : tie.Need-returns-then-not-fit invariant-loop decreases-loop
returns-2 c =
    let l = c.loop-at in
    sym (tiled-unfit _ _ l.next (omega arith) (sym c.fit.ensures ∙ c.if-not-fit.true)) ∙ l.invariant.3

add-two-bytes : tie.Need-overflow_add-at invariant-loop decreases-loop
add-two-bytes c = search rules

two-bytes-requires-2 : tie.Need-two_bytes-next-requires invariant-loop decreases-loop
two-bytes-requires-2 c κs = omega arith

add-next : tie.Need-overflow_add-next invariant-loop decreases-loop
add-next c = search rules

add_at : tie.Need-overflow_add-at-in-loop-at invariant-loop decreases-loop
add_at c = search rules

loop-less : tie.Need-loop-at-smaller invariant-loop decreases-loop
loop-less c = search rules

loop-again : tie.Need-loop-at-preserved invariant-loop decreases-loop
loop-again c =
    let l = c.loop-at in (
      omega arith,
      omega arith,
      omega arith,
      sym (tiled-over _ _ _ (omega arith) c.two_bytes.ensures.0 c.two_bytes-next.ensures.0 c.if-two_bytes-next.false (sym c.fit.ensures ∙ c.if-not-fit.false)) ∙ l.invariant.3,
    )

returns-3 : tie.Need-returns invariant-loop decreases-loop
returns-3 c =
    let l = c.loop-at in
    sym (tiled-ended _ _ _ (omega arith)) ∙ l.invariant.3

pub tiled_spec : {M : Type 1} → statement M
tiled_spec =
    tie.close
    (tie.spec
    invariant-loop
    decreases-loop
    loop-holds
    two-bytes-requires
    returns
    fit-requires
    returns-2
    add-two-bytes
    two-bytes-requires-2
    add-next
    add_at
    loop-less
    loop-again
    returns-3)
