-- `log_limits::closed_limit` meets its contract. The loop's invariant: the transactions that close in the groups from `number` on rule out all starts
-- above `lowest`, and none of them lies across it; and `at` is the ring slot of group `number`. Assumes nothing.
use mathlib.Core.Path.{refl}
use Prim.Native.Nat.{◌+◌, ◌*◌, ◌≤◌}
use native.Mathlib.Omega.{arith}
use lib.ListN.{length-take, length-drop}
use Rattle.model.specs.Layout.{entry_at}
use Rattle.log_scan.specs.Slots.{SlotOf}
use Rattle.log_limits.proofs.SpanLaws.{Lowered, lowered_none, lowered-group, lowered-end}
use Rattle.log_limits.proofs.spans.closed_limit.Statement.{statement}
use Rattle.log_limits.proofs.spans.closed_limit.Tie as tie

abbrev invariant-loop : tie.invariant-loop-lowest
invariant-loop log groups homes start end limit lowest₀ number₀ at₀ lowest number at =
    Lowered (entry_at log groups homes start) (7 * start) end (7 * number) end limit lowest
    × (start ≤ lowest)
    × (7 * number ≤ end + 6)
    × SlotOf groups number at

abbrev decreases-loop : tie.decreases-loop-lowest
decreases-loop log groups homes start end limit lowest₀ number₀ at₀ lowest number at = number

add-number : tie.Need-overflow_add-number invariant-loop decreases-loop
add-number c = omega arith

first-slot-requires : tie.Need-first_slot-at-requires invariant-loop decreases-loop
first-slot-requires c κs = omega arith

loop-holds : tie.Need-loop-lowest-init invariant-loop decreases-loop
loop-holds c = (lowered_none _ _ _ _ _ _ (omega arith), omega arith, omega arith, c.first_slot-at.ensures)

sub_number : tie.Need-overflow_sub-number invariant-loop decreases-loop
sub_number c = omega arith

previous-slot-requires : tie.Need-previous_slot-at-requires invariant-loop decreases-loop
previous-slot-requires c κs = omega arith

mul-from : tie.Need-overflow_mul-from invariant-loop decreases-loop
mul-from c = omega arith

add-from : tie.Need-overflow_add-from invariant-loop decreases-loop
add-from c = omega arith

add-group : tie.Need-overflow_add-group invariant-loop decreases-loop
add-group c = omega arith

sub-group : tie.Need-slice_bounds-group-count invariant-loop decreases-loop
sub-group c = omega arith

part-group-start : tie.Need-slice_bounds-group-start invariant-loop decreases-loop
part-group-start c = omega arith

part-group-end : tie.Need-slice_bounds-group-end invariant-loop decreases-loop
part-group-end c = omega arith

mul-in-group : tie.Need-overflow_mul-number invariant-loop decreases-loop
mul-in-group c = omega arith

sub-in-group : tie.Need-overflow_sub-end invariant-loop decreases-loop
sub-in-group c = omega arith

in-group-requires : tie.Need-in_group-m-requires invariant-loop decreases-loop
in-group-requires c κs = tt

group-limit-requires : tie.Need-group_limit-lowest-requires invariant-loop decreases-loop
group-limit-requires c κs =
    let s = c.previous_slot-at.ensures.1 _ (omega arith) c.loop-lowest.invariant.3 in
    (simp (length-take, length-drop) (omega arith), omega arith, omega arith, omega arith, s.turn, omega (arith, c.in_group-m.ensures))

loop-less : tie.Need-loop-lowest-smaller invariant-loop decreases-loop
loop-less c = omega arith

loop-again : tie.Need-loop-lowest-preserved invariant-loop decreases-loop
loop-again c =
    let l = c.loop-lowest in
    let s = c.previous_slot-at.ensures.1 _ (omega arith) l.invariant.3 in
    let g = lowered-group _ _ _ _ _ _ _ _ _ _ _ _ l.invariant.1 (omega arith) l.invariant.2 c.in_group-m.ensures s.same refl l.invariant.0 c.group_limit-lowest.ensures in
    (g.0, g.1, omega arith, s)

returns : tie.Need-returns invariant-loop decreases-loop
returns c =
    let l = c.loop-lowest in
    (l.invariant.1, lowered-end _ _ _ _ _ _ (omega arith) (omega arith) l.invariant.0)

pub closed_limit_spec : {M : Type 1} → statement M
closed_limit_spec =
    tie.close
    (tie.spec
    invariant-loop
    decreases-loop
    add-number
    first-slot-requires
    loop-holds
    sub_number
    previous-slot-requires
    mul-from
    add-from
    add-group
    sub-group
    part-group-start
    part-group-end
    mul-in-group
    sub-in-group
    in-group-requires
    group-limit-requires
    loop-less
    loop-again
    returns)
