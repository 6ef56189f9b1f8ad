-- `log_newest::keep_groups` meets its contract. The loop's invariant: the groups below `number` are taken, and `at` is its ring slot. Assumes nothing.
use mathlib.Core.Path.{◌≡◌, refl, ◌∙◌}
use mathlib.Core.List.{List}
use Prim.Native.Nat.{ℕ, ◌-◌, ◌*◌, ◌≤◌}
use native.Mathlib.Omega.{arith}
use lib.ListN.{length, length-take, length-drop}
use Rattle.model.specs.Layout.{entry_at}
use Rattle.log_scan.specs.Slots.{SlotOf}
use Rattle.log_scan.proofs.MemberPass.{over-before}
use Rattle.log_newest.specs.Keeping.{keep_at, kept_over}
use Rattle.log_newest.proofs.KeepLaws.{part-taken, group-taken}
use Rattle.log_newest.proofs.commits.keep_groups.Statement.{statement}
use Rattle.log_newest.proofs.commits.keep_groups.Tie as tie

abbrev invariant-loop : tie.invariant-loop-number
invariant-loop log groups homes start first end from newest₀ number₀ at₀ newest number at =
    ((before : List ℕ) → newest₀ ≡ kept_over (entry_at log groups homes start) first (7 * start) (7 * from - 7 * start) before
    → newest ≡ kept_over (entry_at log groups homes start) first (7 * start) (7 * number - 7 * start) before)
    × (from ≤ number)
    × (7 * number ≤ end)
    × SlotOf groups number at
    × (length newest ≡ 8 * homes)

abbrev decreases-loop : tie.decreases-loop-number
decreases-loop log groups homes start first end from newest₀ number₀ at₀ newest number at = end - 7 * number

loop-holds : tie.Need-loop-number-init invariant-loop decreases-loop
loop-holds c = (λ before e. e, omega arith, omega arith, c.requires.5, omega arith)

mul-loop : tie.Need-overflow_mul-number invariant-loop decreases-loop
mul-loop c = omega arith

add-loop : tie.Need-overflow_add-number invariant-loop decreases-loop
add-loop c = omega arith

mul-byte : tie.Need-overflow_mul-byte invariant-loop decreases-loop
mul-byte c = omega arith

add-byte : tie.Need-overflow_add-byte invariant-loop decreases-loop
add-byte c = omega arith

add-group : tie.Need-overflow_add-group invariant-loop decreases-loop
add-group c = omega arith

sub-group : tie.Need-slice_bounds-group-count invariant-loop decreases-loop
sub-group c = omega arith

part-group-start : tie.Need-slice_bounds-group-start invariant-loop decreases-loop
part-group-start c = omega arith

part-group-end : tie.Need-slice_bounds-group-end invariant-loop decreases-loop
part-group-end c = omega arith

keep-whole-requires : tie.Need-keep_whole-done-requires invariant-loop decreases-loop
keep-whole-requires c κs =
    let l = c.loop-number in (
      simp (length-take, length-drop) (omega arith),
      omega arith,
      omega arith,
      omega arith,
      omega arith,
      l.invariant.3.turn,
      omega arith,
      omega arith,
      omega arith,
      omega (arith, l.invariant.4),
    )

same_length : tie.Need-shape_of-newest-then-done-ne7 invariant-loop decreases-loop
same_length c =
    omega (arith, c.keep_whole-done.auto, c.loop-number.invariant.4)

returns : tie.Need-returns-then-done-ne7 invariant-loop decreases-loop
returns c =
    let l = c.loop-number in
    let r = c.keep_whole-done.ensures.0 in
    record {
      on = l.invariant.1;
      below = omega (arith, r, c.if-done-ne7.true);
      part = omega (arith, r, c.if-done-ne7.true);
      ring = l.invariant.3;
      taken = λ before e. part-taken _ _ _ _ _ _ _ _ _ _ before l.invariant.3.same refl _ c.keep_whole-done.ensures.1 (l.invariant.0 before e);
    }

next-slot-requires : tie.Need-next_slot-at-requires invariant-loop decreases-loop
next-slot-requires c κs = omega arith

add-number : tie.Need-overflow_add-number-in-loop-number invariant-loop decreases-loop
add-number c = omega arith

loop-less : tie.Need-loop-number-smaller invariant-loop decreases-loop
loop-less c = omega arith

loop-again : tie.Need-loop-number-preserved invariant-loop decreases-loop
loop-again c =
    let l = c.loop-number in (
      λ before e.
          group-taken _ _ _ _ _ _ _ _ _ _ before l.invariant.3.same refl _ _ c.keep_whole-done.ensures.0 (omega arith)
          (omega (arith, c.if-done-ne7.false)) c.keep_whole-done.ensures.1 (l.invariant.0 before e),
      omega arith,
      omega arith,
      c.next_slot-at.ensures.1 _ l.invariant.3,
      omega (arith, c.keep_whole-done.auto, l.invariant.4),
    )

same-length-2 : tie.Need-shape_of-newest invariant-loop decreases-loop
same-length-2 c = omega (arith, c.loop-number.invariant.4)

returns-2 : tie.Need-returns invariant-loop decreases-loop
returns-2 c =
    let l = c.loop-number in
    record {
      on = l.invariant.1;
      below = omega (arith, l.invariant.2);
      part = omega arith;
      ring = l.invariant.3;
      taken = λ before e. l.invariant.0 before e ∙ over-before _ keep_at _ _ _ _ (omega arith);
    }

pub keep_groups_spec : {M : Type 1} → statement M
keep_groups_spec =
    tie.close
    (tie.spec
    invariant-loop
    decreases-loop
    loop-holds
    mul-loop
    add-loop
    mul-byte
    add-byte
    add-group
    sub-group
    part-group-start
    part-group-end
    keep-whole-requires
    same_length
    returns
    next-slot-requires
    add-number
    loop-less
    loop-again
    same-length-2
    returns-2)
