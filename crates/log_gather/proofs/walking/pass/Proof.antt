-- `log_gather::pass` meets its contract. The loop's invariant: the pass has taken all positions but `left`, and `at` is the ring slot of group `number`,
-- the next one. Assumes nothing.
use mathlib.Core.Path.{◌≡◌, refl, sym, ◌∙◌}
use Prim.Native.Nat.{◌+◌, ◌-◌, ◌*◌, ◌≤◌, ◌<◌}
use native.Mathlib.Omega.{arith}
use lib.ListN.{length, length-take, length-drop}
use Rattle.model.specs.Layout.{entry_at}
use Rattle.log_scan.specs.Scan.{over}
use Rattle.log_scan.specs.Slots.{SlotOf}
use Rattle.log_scan.proofs.PassLaws.{log-turn}
use Rattle.log_gather.specs.Walks.{Walk, begun, join}
use Rattle.log_gather.proofs.ChainLaws.{empty-words, empty-each}
use Rattle.log_gather.proofs.WalkSteps.{Small, small-reached, small-begun, none-joined}
use Rattle.log_gather.proofs.walking.pass.Statement.{statement}
use Rattle.log_gather.proofs.walking.pass.Tie as tie

abbrev invariant-loop : tie.invariant-loop-left
invariant-loop log cells₀ heads₀ links₀ groups homes start n progress₀ at₀ number₀ left₀ cells heads links progress at number left =
    (
    ◌≡◌ {A = Walk} (record { cells = cells; heads = heads; links = links; progress = progress })
    (over (join (7 * start)) (entry_at log groups homes start) (7 * start) (n - left) (begun (length cells₀)))
    )
    × (left ≤ n)
    × SlotOf groups number at
    × (0 < left → 7 * start + (n - left) ≡ 7 * number)
    × (length cells ≡ length cells₀)
    × (length heads ≡ length heads₀)
    × (length links ≡ length links₀)
    × (progress.failed ≡ 0)

abbrev decreases-loop : tie.decreases-loop-left
decreases-loop log cells₀ heads₀ links₀ groups homes start n progress₀ at₀ number₀ left₀ cells heads links progress at number left =
    left

first-slot-requires : tie.Need-first_slot-at-requires invariant-loop decreases-loop
first-slot-requires c κs = omega arith

loop-holds : tie.Need-loop-left-init invariant-loop decreases-loop
loop-holds c =
    let p = c.requires in (
      none-joined _ _ _ _ _ _ _ (omega arith) p.6,
      omega arith,
      c.first_slot-at.ensures,
      λ h. omega arith,
      refl,
      refl,
      refl,
      refl,
    )

-- the next group's positions come next, and the numbers of the pass are small
module _ (c : tie.In-loop-left invariant-loop decreases-loop) where
  next : 7 * c.args.start + (c.args.n - c.loop-left.left) ≡ 7 * c.loop-left.number
  next = c.loop-left.invariant.3 c.loop-left-test.true

  small : Small (7 * c.loop-left.number) c.loop-left.progress
  small = small-reached _ _ _ _ _ _ _ (sym next) c.loop-left.invariant.0 (small-begun _ _)

mul-from : tie.Need-overflow_mul-from invariant-loop decreases-loop
mul-from c = omega arith

add-from : tie.Need-overflow_add-from invariant-loop decreases-loop
add-from c = omega arith

add-group : tie.Need-overflow_add-group invariant-loop decreases-loop
add-group c = omega arith

sub-group : tie.Need-slice_bounds-group-count invariant-loop decreases-loop
sub-group c = omega arith

part-group-start : tie.Need-slice_bounds-group-start invariant-loop decreases-loop
part-group-start c = omega arith

part-group-end : tie.Need-slice_bounds-group-end invariant-loop decreases-loop
part-group-end c = omega arith

in-group-requires : tie.Need-in_group-m-requires invariant-loop decreases-loop
in-group-requires c κs = tt

visit-group-requires : tie.Need-visit_group-progress-requires invariant-loop decreases-loop
visit-group-requires c κs =
    let l = c.before.before.before.before.before in
    let i = c.loop-left.invariant in
    let p = c.requires in
    let e = p.6 in (
      simp (length-take, length-drop) (omega arith),
      omega arith,
      omega arith,
      omega (arith, next l),
      omega (arith, next l),
      i.2.turn,
      omega (arith, c.in_group-m.ensures),
      i.7,
      (small l).end,
      (small l).number,
      omega (arith, i.4, e.long),
      record {
        few = p.3;
        lasts = refl;
        words = i.5 ∙ empty-words _ _ _ _ e;
        each = i.6 ∙ empty-each _ _ _ _ e ∙ sym i.4;
      },
    )

same_length : tie.Need-shape_of-cells-then-progress-ne0 invariant-loop decreases-loop
same_length c = omega (arith, c.visit_group-progress.auto, c.loop-left.invariant.4)

same-length-2 : tie.Need-shape_of-heads-then-progress-ne0 invariant-loop decreases-loop
same-length-2 c = omega (arith, c.visit_group-progress.auto, c.loop-left.invariant.5)

same-length-3 : tie.Need-shape_of-links-then-progress-ne0 invariant-loop decreases-loop
same-length-3 c = omega (arith, c.visit_group-progress.auto, c.loop-left.invariant.6)

returns : tie.Need-returns-then-progress-ne0 invariant-loop decreases-loop
returns c =
    let l = c.loop-left in
    let a = c.args in
    let m = c.in_group-m in
    record {
      taken = a.n - l.left + m.result;
      most = omega (arith, m.ensures, l.invariant.1);
      is =
          log-turn _ _ _ _ _ _ _ _ _ _ _ _ _ _ _ (omega (arith, m.ensures)) (next c.before.before.before.before.before.before.before.before.before.before.before.before.before.before) l.invariant.2.same refl refl l.invariant.0
          c.visit_group-progress.ensures;
      all = λ z. absurd (c.if-progress-ne0.true z);
    }

next-slot-requires : tie.Need-next_slot-at-requires invariant-loop decreases-loop
next-slot-requires c κs = omega arith

add-number : tie.Need-overflow_add-number invariant-loop decreases-loop
add-number c = omega (arith, next c.before.before.before.before.before.before.before.before.before.before.before.before.before.before.before)

sub-left : tie.Need-overflow_sub-left invariant-loop decreases-loop
sub-left c = omega (arith, c.in_group-m.ensures)

loop-less : tie.Need-loop-left-smaller invariant-loop decreases-loop
loop-less c = omega (arith, c.in_group-m.ensures, c.loop-left-test.true)

loop-again : tie.Need-loop-left-preserved invariant-loop decreases-loop
loop-again c =
    let l = c.loop-left in
    let m = c.in_group-m in (
      log-turn _ _ _ _ _ _ _ _ _ _ _ _ _ _ _ (omega (arith, m.ensures)) (next c.before.before.before.before.before.before.before.before.before.before.before.before.before.before.before) l.invariant.2.same refl (omega (arith, m.ensures, l.invariant.1)) l.invariant.0
          c.visit_group-progress.ensures,
      omega (arith, l.invariant.1),
      c.next_slot-at.ensures.1 _ l.invariant.2,
      λ h. omega (arith, next c.before.before.before.before.before.before.before.before.before.before.before.before.before.before.before, m.ensures, l.invariant.1),
      omega (arith, c.visit_group-progress.auto, l.invariant.4),
      omega (arith, c.visit_group-progress.auto, l.invariant.5),
      omega (arith, c.visit_group-progress.auto, l.invariant.6),
      c.if-progress-ne0.false,
    )

same-length-4 : tie.Need-shape_of-cells invariant-loop decreases-loop
same-length-4 c = omega (arith, c.loop-left.invariant.4)

same-length-5 : tie.Need-shape_of-heads invariant-loop decreases-loop
same-length-5 c = omega (arith, c.loop-left.invariant.5)

same-length-6 : tie.Need-shape_of-links invariant-loop decreases-loop
same-length-6 c = omega (arith, c.loop-left.invariant.6)

returns-2 : tie.Need-returns invariant-loop decreases-loop
returns-2 c =
    let l = c.loop-left in
    let a = c.args in
    record { taken = a.n - l.left; most = omega arith; is = l.invariant.0; all = λ z. omega (arith, l.invariant.1, c.loop-left-test.false) }

pub pass_spec : {M : Type 1} → statement M
pass_spec =
    tie.close
    (tie.spec
    invariant-loop
    decreases-loop
    first-slot-requires
    loop-holds
    mul-from
    add-from
    add-group
    sub-group
    part-group-start
    part-group-end
    in-group-requires
    visit-group-requires
    same_length
    same-length-2
    same-length-3
    returns
    next-slot-requires
    add-number
    sub-left
    loop-less
    loop-again
    same-length-4
    same-length-5
    same-length-6
    returns-2)
