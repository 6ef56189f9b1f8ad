-- `call_usage::closed_entries` meets its contract. The loop's invariant: the pass has taken all positions but `left`, and `at` is the ring slot of group
-- `number`, the next one. Assumes nothing.
use mathlib.Core.Path.{◌≡◌, refl}
use Prim.Native.Nat.{◌+◌, ◌-◌, ◌*◌, ◌^◌, ◌≤◌, ◌<◌}
use native.Mathlib.Omega.{arith}
use lib.ListN.{length-take, length-drop}
use Rattle.model.specs.Layout.{entry_at}
use Rattle.log_scan.specs.Slots.{SlotOf}
use Rattle.log_scan.proofs.PassLaws.{log-turn}
use Rattle.call_usage.specs.Sums.{add_count, summed}
use Rattle.call_usage.proofs.SumLaws.{summed-none}
use Rattle.call_usage.proofs.entries.closed_entries.Statement.{statement}
use Rattle.call_usage.proofs.entries.closed_entries.Tie as tie

abbrev invariant-loop : tie.invariant-loop-left
invariant-loop log groups homes start end base sum₀ left₀ number₀ at₀ sum left number at =
    (sum ≡ summed (entry_at log groups homes start) (7 * start) (end - 7 * start - left) 0)
    × (left ≤ end - 7 * start)
    × SlotOf groups number at
    × (0 < left → 7 * start + (end - 7 * start - left) ≡ 7 * number)
    × (sum ≤ 2 ^ 13 * (end - 7 * start - left))

abbrev decreases-loop : tie.decreases-loop-left
decreases-loop log groups homes start end base sum₀ left₀ number₀ at₀ sum left number at = left

mul-base : tie.Need-overflow_mul-base invariant-loop decreases-loop
mul-base c = omega arith

returns : tie.Need-returns-then-end-base invariant-loop decreases-loop
returns c = (summed-none _ _ _ _ (omega arith), omega arith)

sub-left : tie.Need-overflow_sub-left invariant-loop decreases-loop
sub-left c = omega arith

first-slot-requires : tie.Need-first_slot-at-requires invariant-loop decreases-loop
first-slot-requires c κs = omega (arith, c.requires.some)

loop-holds : tie.Need-loop-left-init invariant-loop decreases-loop
loop-holds c = (summed-none _ _ _ _ (omega arith), omega arith, c.first_slot-at.ensures, λ h. omega arith, omega arith)

-- the next group's positions come next
next : (c : tie.In-loop-left invariant-loop decreases-loop)
    → 7 * c.args.start + (c.args.end - 7 * c.args.start - c.loop-left.left) ≡ 7 * c.loop-left.number
next c = c.loop-left.invariant.3 c.loop-left-test.true

mul-from : tie.Need-overflow_mul-from invariant-loop decreases-loop
mul-from c = omega arith

add-from : tie.Need-overflow_add-from invariant-loop decreases-loop
add-from c = omega arith

add-group : tie.Need-overflow_add-group invariant-loop decreases-loop
add-group c = omega arith

sub-group : tie.Need-slice_bounds-group-count invariant-loop decreases-loop
sub-group c = omega arith

part-group-start : tie.Need-slice_bounds-group-start invariant-loop decreases-loop
part-group-start c = omega arith

part-group-end : tie.Need-slice_bounds-group-end invariant-loop decreases-loop
part-group-end c = omega arith

in-group-requires : tie.Need-in_group-m-requires invariant-loop decreases-loop
in-group-requires c κs = tt

group-entries-requires : tie.Need-group_entries-sum-requires invariant-loop decreases-loop
group-entries-requires c κs =
    let l = c.before.before in
    let p = l.requires in
    let i = l.loop-left.invariant in (
      simp (length-take, length-drop) (omega arith),
      omega arith,
      omega arith,
      omega (arith, next l, p.most, p.within),
      i.2.turn,
      omega (arith, c.in_group-m.ensures),
      omega (arith, i.4, i.1, p.most, p.within),
    )

next-slot-requires : tie.Need-next_slot-at-requires invariant-loop decreases-loop
next-slot-requires c κs = omega arith

add-number : tie.Need-overflow_add-number invariant-loop decreases-loop
add-number c = omega (arith, next c.before.before.before.before)

sub-left-2 : tie.Need-overflow_sub-left-in-loop-left invariant-loop decreases-loop
sub-left-2 c = omega (arith, c.in_group-m.ensures)

loop-less : tie.Need-loop-left-smaller invariant-loop decreases-loop
loop-less c = omega (arith, c.in_group-m.ensures, c.loop-left-test.true)

loop-again : tie.Need-loop-left-preserved invariant-loop decreases-loop
loop-again c =
    let t = c.before.before.before.before in
    let l = t.loop-left in
    let m = c.in_group-m in
    let g = c.group_entries-sum.ensures in (
      log-turn (λ p. add_count) _ _ _ _ _ _ _ _ _ _ _ _ _ _ (omega (arith, m.ensures)) (next t) l.invariant.2.same refl (omega (arith, m.ensures, l.invariant.1)) l.invariant.0 g.0,
      omega (arith, l.invariant.1),
      c.next_slot-at.ensures.1 _ l.invariant.2,
      λ h. omega (arith, next t, m.ensures, l.invariant.1),
      omega (arith, g.1, l.invariant.4, l.invariant.1, m.ensures),
    )

returns-2 : tie.Need-returns invariant-loop decreases-loop
returns-2 c =
    let l = c.loop-left in
    let a = c.args in
    let e : a.end - 7 * a.start - l.left ≡ a.end - 7 * a.start = omega arith in
    (rw e at l.invariant.0, omega (arith, l.invariant.4))

pub closed_entries_spec : {M : Type 1} → statement M
closed_entries_spec =
    tie.close
    (tie.spec
    invariant-loop
    decreases-loop
    mul-base
    returns
    sub-left
    first-slot-requires
    loop-holds
    mul-from
    add-from
    add-group
    sub-group
    part-group-start
    part-group-end
    in-group-requires
    group-entries-requires
    next-slot-requires
    add-number
    sub-left-2
    loop-less
    loop-again
    returns-2)
