-- `log_search::newest_own` meets its contract. The loop's invariant: what is found so far is the newest of the positions from group `number` on, and `at` is
-- the ring slot of that group. Assumes nothing.
use mathlib.Core.Path.{◌≡◌, refl, sym, ◌∙◌}
use mathlib.Core.Bool.{cond}
use Prim.Native.Nat.{◌-◌, ◌*◌, ◌≤◌, ◌<◌}
use native.Mathlib.Omega.{arith}
use lib.Dec.{eqb}
use lib.ListN.{length-take, length-drop}
use Rattle.model.specs.Layout.{entry_at}
use Rattle.log_scan.specs.Slots.{SlotOf}
use Rattle.log_scan.proofs.MemberPass.{over-before}
use Rattle.log_search.specs.Own.{note_at, noted}
use Rattle.log_search.proofs.OwnLaws.{own-all}
use Rattle.log_search.proofs.SoughtLaws.{back-turn, found_here, found_below, found_nowhere}
use Rattle.log_search.proofs.own.newest_own.Statement.{statement}
use Rattle.log_search.proofs.own.newest_own.Tie as tie

abbrev invariant-loop : tie.invariant-loop-number
invariant-loop log groups homes start first end home lowest number₀ at₀ m from newest₀ number at newest =
    (noted (entry_at log groups homes start) home first (7 * start) (end - 7 * start) 0
    ≡ cond (eqb newest 0) (noted (entry_at log groups homes start) home first (7 * start) (7 * number - 7 * start) 0) newest)
    × SlotOf groups number at
    × (lowest ≤ number)
    × (7 * number < end)

abbrev decreases-loop : tie.decreases-loop-number
decreases-loop log groups homes start first end home lowest number₀ at₀ m from newest₀ number at newest = number

sub_number : tie.Need-overflow_sub-number invariant-loop decreases-loop
sub_number c = omega arith

first-slot-requires : tie.Need-first_slot-at-requires invariant-loop decreases-loop
first-slot-requires c κs = omega arith

mul-m : tie.Need-overflow_mul-m invariant-loop decreases-loop
mul-m c = omega arith

sub-m : tie.Need-overflow_sub-m invariant-loop decreases-loop
sub-m c = omega arith

mul-from : tie.Need-overflow_mul-from invariant-loop decreases-loop
mul-from c = omega arith

add-from : tie.Need-overflow_add-from invariant-loop decreases-loop
add-from c = omega arith

add-group : tie.Need-overflow_add-group invariant-loop decreases-loop
add-group c = omega arith

sub-group : tie.Need-slice_bounds-group-count invariant-loop decreases-loop
sub-group c = omega arith

part-group-start : tie.Need-slice_bounds-group-start invariant-loop decreases-loop
part-group-start c = omega arith

part-group-end : tie.Need-slice_bounds-group-end invariant-loop decreases-loop
part-group-end c = omega arith

note-group-requires : tie.Need-note_group-newest-requires invariant-loop decreases-loop
note-group-requires c κs = (
  simp (length-take, length-drop) (omega arith),
  omega arith,
  omega arith,
  omega arith,
  c.first_slot-at.ensures.turn,
  omega arith,
  omega arith,
)

loop-holds : tie.Need-loop-number-init invariant-loop decreases-loop
loop-holds c =
    let r = c.first_slot-at.ensures in
    (back-turn _ _ _ _ _ _ _ _ _ _ _ _ (omega arith) (omega arith) r.same refl (omega arith) c.note_group-newest.ensures, r, omega arith, omega arith)

returns : tie.Need-returns-then-newest-ne0 invariant-loop decreases-loop
returns c = own-all _ _ _ _ _ _ (found_here _ _ _ c.loop-number.invariant.0 c.if-newest-ne0.true)

previous-slot-requires : tie.Need-previous_slot-at-requires invariant-loop decreases-loop
previous-slot-requires c κs = omega arith

sub-number-2 : tie.Need-overflow_sub-number-in-loop-number invariant-loop decreases-loop
sub-number-2 c = omega arith

mul-from-2 : tie.Need-overflow_mul-from-in-loop-number invariant-loop decreases-loop
mul-from-2 c = omega arith

add-from-2 : tie.Need-overflow_add-from-in-loop-number invariant-loop decreases-loop
add-from-2 c = omega arith

add-group-2 : tie.Need-overflow_add-group-in-loop-number invariant-loop decreases-loop
add-group-2 c = omega arith

sub-group-2 : tie.Need-slice_bounds-group-count-in-loop-number invariant-loop decreases-loop
sub-group-2 c = omega arith

part-group-start-2 : tie.Need-slice_bounds-group-start-in-loop-number invariant-loop decreases-loop
part-group-start-2 c = omega arith

part-group-end-2 : tie.Need-slice_bounds-group-end-in-loop-number invariant-loop decreases-loop
part-group-end-2 c = omega arith

note-seven-requires : tie.Need-note_seven-newest-requires invariant-loop decreases-loop
note-seven-requires c κs =
    let l = c.loop-number in
    let r = c.previous_slot-at.ensures.1 _ (omega arith) l.invariant.1 in (
      simp (length-take, length-drop) (omega arith),
      omega arith,
      omega arith,
      omega arith,
      r.turn,
      omega arith,
      omega arith,
      omega arith,
    )

loop-less : tie.Need-loop-number-smaller invariant-loop decreases-loop
loop-less c = omega arith

loop-again : tie.Need-loop-number-preserved invariant-loop decreases-loop
loop-again c =
    let l = c.loop-number in
    let r = c.previous_slot-at.ensures.1 _ (omega arith) l.invariant.1 in
    let q = c.requires.0 in
    let b = found_below _ _ _ l.invariant.0 c.if-newest-ne0.false in (
      b ∙ back-turn _ _ _ _ _ _ _ _ _ _ _ _ (omega arith) (omega (arith, q.from, l.invariant.2, c.loop-number-test.true)) r.same refl (omega arith) c.note_seven-newest.ensures,
      r,
      omega arith,
      omega arith,
    )

returns-2 : tie.Need-returns invariant-loop decreases-loop
returns-2 c =
    let l = c.loop-number in
    own-all _ _ _ _ _ _ (found_nowhere _ _ _ l.invariant.0 (sym (over-before _ (note_at _) _ _ _ _ (omega arith))))

pub newest_own_spec : {M : Type 1} → statement M
newest_own_spec =
    tie.close
    (tie.spec
    invariant-loop
    decreases-loop
    sub_number
    first-slot-requires
    mul-m
    sub-m
    mul-from
    add-from
    add-group
    sub-group
    part-group-start
    part-group-end
    note-group-requires
    loop-holds
    returns
    previous-slot-requires
    sub-number-2
    mul-from-2
    add-from-2
    add-group-2
    sub-group-2
    part-group-start-2
    part-group-end-2
    note-seven-requires
    loop-less
    loop-again
    returns-2)
