-- `log_gather::gather` meets its contract. The loop's invariant: the pass has taken all positions but `left`, and `at` is the ring slot of group
-- `number`, the next one. Assumes nothing.
use mathlib.Core.Path.{◌≡◌, refl, sym, ◌∙◌}
use Prim.Native.Nat.{◌+◌, ◌-◌, ◌*◌, ◌≤◌, ◌<◌}
use native.Mathlib.Omega.{arith}
use lib.ListN.{length, length-take, length-drop}
use Rattle.model.specs.Layout.{entry_at}
use Rattle.log_scan.specs.Scan.{over}
use Rattle.log_scan.specs.Slots.{SlotOf}
use Rattle.log_scan.proofs.PassLaws.{log-turn}
use Rattle.log_gather.specs.Chains.{Chains, fresh, note}
use Rattle.log_gather.proofs.ChainLaws.{empty-words, empty-each, chained-none, chained-all, none_over}
use Rattle.log_gather.proofs.gathering.gather.Statement.{statement}
use Rattle.log_gather.proofs.gathering.gather.Tie as tie

abbrev invariant-loop : tie.invariant-loop-left
invariant-loop log last₀ heads₀ links₀ groups homes start end base left₀ number₀ at₀ last heads links left number at =
    (
    ◌≡◌ {A = Chains} (record { last = last; heads = heads; links = links })
    (over (note (7 * start)) (entry_at log groups homes start) (7 * start) (end - 7 * start - left) (fresh (length last₀)))
    )
    × (left ≤ end - 7 * start)
    × SlotOf groups number at
    × (0 < left → 7 * start + (end - 7 * start - left) ≡ 7 * number)
    × (length last ≡ length last₀)
    × (length heads ≡ length heads₀)
    × (length links ≡ length links₀)

abbrev decreases-loop : tie.decreases-loop-left
decreases-loop log last₀ heads₀ links₀ groups homes start end base left₀ number₀ at₀ last heads links left number at = left

mul-base : tie.Need-overflow_mul-base invariant-loop decreases-loop
mul-base c = omega arith

returns : tie.Need-returns-then-end-base invariant-loop decreases-loop
returns c = let p = c.requires in chained-none _ _ _ _ _ _ _ _ p.1 c.if-end-base.true p.2

sub-left : tie.Need-overflow_sub-left invariant-loop decreases-loop
sub-left c = omega arith

first-slot-requires : tie.Need-first_slot-at-requires invariant-loop decreases-loop
first-slot-requires c κs = omega (arith, c.requires.0.some)

loop-holds : tie.Need-loop-left-init invariant-loop decreases-loop
loop-holds c =
    let p = c.requires in (
      none_over _ _ _ _ _ _ _ (omega arith) p.2,
      omega arith,
      c.first_slot-at.ensures,
      λ h. omega arith,
      refl,
      refl,
      refl,
    )

-- the next group's positions come next
next : (c : tie.In-loop-left invariant-loop decreases-loop)
    → 7 * c.args.start + (c.args.end - 7 * c.args.start - c.loop-left.left) ≡ 7 * c.loop-left.number
next c = c.loop-left.invariant.3 c.loop-left-test.true

mul-from : tie.Need-overflow_mul-from invariant-loop decreases-loop
mul-from c = omega arith

add-from : tie.Need-overflow_add-from invariant-loop decreases-loop
add-from c = omega arith

add-group : tie.Need-overflow_add-group invariant-loop decreases-loop
add-group c = omega arith

sub-group : tie.Need-slice_bounds-group-count invariant-loop decreases-loop
sub-group c = omega arith

part-group-start : tie.Need-slice_bounds-group-start invariant-loop decreases-loop
part-group-start c = omega arith

part-group-end : tie.Need-slice_bounds-group-end invariant-loop decreases-loop
part-group-end c = omega arith

in-group-requires : tie.Need-in_group-m-requires invariant-loop decreases-loop
in-group-requires c κs = tt

visit-group-requires : tie.Need-visit_group-requires invariant-loop decreases-loop
visit-group-requires c κs =
    let l = c.before.before.before.before.before in
    let i = l.loop-left.invariant in
    let p = c.requires in
    let e = p.2 in (
      simp (length-take, length-drop) (omega arith),
      omega arith,
      omega arith,
      omega (arith, next l),
      omega (arith, next l),
      i.2.turn,
      omega (arith, c.in_group-m.ensures),
      omega (arith, i.4, e.long),
      record {
        few = p.1;
        lasts = refl;
        words = i.5 ∙ empty-words _ _ _ _ e;
        each = i.6 ∙ empty-each _ _ _ _ e ∙ sym i.4;
      },
    )

next-slot-requires : tie.Need-next_slot-at-requires invariant-loop decreases-loop
next-slot-requires c κs = omega arith

add-number : tie.Need-overflow_add-number invariant-loop decreases-loop
add-number c = omega (arith, next c.before.before.before.before.before.before.before.before.before.before.before.before.before)

sub-left-2 : tie.Need-overflow_sub-left-in-loop-left invariant-loop decreases-loop
sub-left-2 c = omega (arith, c.in_group-m.ensures)

loop-less : tie.Need-loop-left-smaller invariant-loop decreases-loop
loop-less c = omega (arith, c.in_group-m.ensures, c.loop-left-test.true)

loop-again : tie.Need-loop-left-preserved invariant-loop decreases-loop
loop-again c =
    let l = c.loop-left in
    let m = c.in_group-m in (
      log-turn _ _ _ _ _ _ _ _ _ _ _ _ _ _ _ (omega (arith, m.ensures)) (next c.before.before.before.before.before.before.before.before.before.before.before.before.before) l.invariant.2.same refl (omega (arith, m.ensures, l.invariant.1)) l.invariant.0
          c.visit_group.ensures,
      omega (arith, l.invariant.1),
      c.next_slot-at.ensures.1 _ l.invariant.2,
      λ h. omega (arith, next c.before.before.before.before.before.before.before.before.before.before.before.before.before, m.ensures, l.invariant.1),
      omega (arith, c.visit_group.auto, l.invariant.4),
      omega (arith, c.visit_group.auto, l.invariant.5),
      omega (arith, c.visit_group.auto, l.invariant.6),
    )

same_length : tie.Need-shape_of-last invariant-loop decreases-loop
same_length c = c.loop-left.invariant.4

same-length-2 : tie.Need-shape_of-heads invariant-loop decreases-loop
same-length-2 c = c.loop-left.invariant.5

same-length-3 : tie.Need-shape_of-links invariant-loop decreases-loop
same-length-3 c = c.loop-left.invariant.6

returns-2 : tie.Need-returns invariant-loop decreases-loop
returns-2 c =
    let l = c.loop-left in
    let a = c.args in
    let p = c.requires in
    chained-all _ _ _ _ _ (a.end - 7 * a.start - l.left) _ _ _ p.1 (omega arith) (omega (arith, p.0.within)) (omega (arith, p.2.long, l.invariant.4)) (rw l.invariant.4 l.invariant.0)

pub gather_spec : {M : Type 1} → statement M
gather_spec =
    tie.close
    (tie.spec
    invariant-loop
    decreases-loop
    mul-base
    returns
    sub-left
    first-slot-requires
    loop-holds
    mul-from
    add-from
    add-group
    sub-group
    part-group-start
    part-group-end
    in-group-requires
    visit-group-requires
    next-slot-requires
    add-number
    sub-left-2
    loop-less
    loop-again
    same_length
    same-length-2
    same-length-3
    returns-2)
