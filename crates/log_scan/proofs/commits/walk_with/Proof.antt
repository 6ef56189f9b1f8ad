-- `log_scan::walk_with` meets its contract. The loop's invariant: the pass has taken the first `n - left` positions, and `at` is the ring slot of group
-- `number`, the next one. Assumes nothing.
use mathlib.Core.Path.{◌≡◌, refl, sym, ◌∙◌}
use Prim.Native.Nat.{ℕ, ◌+◌, ◌-◌, ◌*◌, ◌≤◌, ◌<◌}
use native.Mathlib.Omega.{arith}
use mathlib.Core.List.{List}
use lib.ListN.{length, length-take, length-drop}
use Rattle.model.specs.Bytes.{zeros}
use Rattle.model.specs.Layout.{entry_at}
use Rattle.model.specs.declared.Tag.{Tag}
use Rattle.log_scan.specs.Scan.{Scan, fresh, over, entered, Within}
use Rattle.log_scan.specs.Slots.{SlotOf}
use Rattle.log_scan.proofs.PassLaws.{log-turn}
use Rattle.log_scan.proofs.ScanLaws.{within-reached, fresh-within, found, found-stopped, placed}
use Rattle.log_scan.proofs.commits.walk_with.Statement.{statement}
use Rattle.log_scan.proofs.commits.walk_with.Tie as tie

-- the pass begins with empty counters
begins : (tags : ℕ → Tag) (base m : ℕ) (counts : List ℕ) → m ≡ 0 → counts ≡ zeros (length counts)
    → ◌≡◌ {A = Scan} (record { counts = counts; progress = record { end = 0; number = 0; failed = 0 } }) (entered tags base base m (fresh (length counts)))
unfolding fresh over
begins tags base m counts z e = rw z (whole counts (zeros (length counts)) e)
  where
    whole : (a b : List ℕ) → a ≡ b
        → ◌≡◌ {A = Scan} (record { counts = a; progress = record { end = 0; number = 0; failed = 0 } })
        (record { counts = b; progress = record { end = 0; number = 0; failed = 0 } })
    whole a b q = rw q

abbrev invariant-loop : tie.invariant-loop-left
invariant-loop log counts₀ groups homes start n progress₀ at₀ number₀ left₀ counts progress at number left =
    (
    ◌≡◌ {A = Scan} (record { counts = counts; progress = progress })
    (entered (entry_at log groups homes start) (7 * start) (7 * start) (n - left) (fresh (length counts₀)))
    )
    × (left ≤ n)
    × SlotOf groups number at
    × (0 < left → 7 * start + (n - left) ≡ 7 * number)
    × (length counts ≡ length counts₀)

abbrev decreases-loop : tie.decreases-loop-left
decreases-loop log counts₀ groups homes start n progress₀ at₀ number₀ left₀ counts progress at number left = left

first-slot-requires : tie.Need-first_slot-at-requires invariant-loop decreases-loop
first-slot-requires c κs = omega arith

loop-holds : tie.Need-loop-left-init invariant-loop decreases-loop
loop-holds c = (begins _ _ _ _ (omega arith) c.requires.7, omega arith, c.first_slot-at.ensures, λ h. omega arith, refl)

-- the next group's positions come next, and the numbers of the pass are small
module _ (c : tie.In-loop-left invariant-loop decreases-loop) where
  next : 7 * c.args.start + (c.args.n - c.loop-left.left) ≡ 7 * c.loop-left.number
  next = c.loop-left.invariant.3 c.loop-left-test.true

  small : Within (7 * c.args.start) (7 * c.loop-left.number)
      (record { counts = c.loop-left.counts; progress = c.loop-left.progress })
  small = within-reached _ _ _ _ _ _ _ (omega arith) (sym next) c.loop-left.invariant.0 (fresh-within _ _)

mul-from : tie.Need-overflow_mul-from invariant-loop decreases-loop
mul-from c = omega arith

add-from : tie.Need-overflow_add-from invariant-loop decreases-loop
add-from c = omega arith

add-group : tie.Need-overflow_add-group invariant-loop decreases-loop
add-group c = omega arith

sub-group : tie.Need-slice_bounds-group-count invariant-loop decreases-loop
sub-group c = omega arith

part-group-start : tie.Need-slice_bounds-group-start invariant-loop decreases-loop
part-group-start c = omega arith

part-group-end : tie.Need-slice_bounds-group-end invariant-loop decreases-loop
part-group-end c = omega arith

in-group-requires : tie.Need-in_group-m-requires invariant-loop decreases-loop
in-group-requires c κs = tt

visit-group-requires : tie.Need-visit_group-progress-requires invariant-loop decreases-loop
visit-group-requires c κs =
    let l = c.before.before.before in (
      simp (length-take, length-drop) (omega arith),
      omega arith,
      omega arith,
      omega arith,
      omega (arith, next l),
      omega (arith, next l),
      l.loop-left.invariant.2.turn,
      omega arith,
      omega (arith, next l, c.in_group-m.ensures, l.loop-left.invariant.4),
      small l,
    )

result-requires : tie.Need-result-requires invariant-loop decreases-loop
result-requires c κs = tt

same_length : tie.Need-shape_of-counts-then-progress-ne0 invariant-loop decreases-loop
same_length c = omega (arith, c.visit_group-progress.auto, c.loop-left.invariant.4)

returns : tie.Need-returns-then-progress-ne0 invariant-loop decreases-loop
returns c =
    let a = c.args in
    let l = c.before.before.before.before.before.before.before.before.before in
    let e = log-turn _ _ _ _ _ _ _ _ _ _ _ _ _ _ _ (omega (arith, c.visit_group-progress.ensures.most, c.in_group-m.ensures)) (next l)
    l.loop-left.invariant.2.same refl refl l.loop-left.invariant.0 c.visit_group-progress.ensures.same in
    let f = found-stopped _ _ _ a.n _ (omega arith) (placed _ _ _ _) _ (omega (arith, c.visit_group-progress.ensures.most, c.in_group-m.ensures)) e
    c.if-progress-ne0.true in
    (c.result.ensures.0 ∙ f.0, c.result.ensures.1 ∙ f.1)

next-slot-requires : tie.Need-next_slot-at-requires invariant-loop decreases-loop
next-slot-requires c κs = omega arith

add-number : tie.Need-overflow_add-number invariant-loop decreases-loop
add-number c = omega (arith, next c.before.before.before.before.before.before.before.before.before)

sub-left : tie.Need-overflow_sub-left invariant-loop decreases-loop
sub-left c = omega arith

loop-less : tie.Need-loop-left-smaller invariant-loop decreases-loop
loop-less c =
    omega (arith, c.in_group-m.ensures, c.loop-left-test.true)

loop-again : tie.Need-loop-left-preserved invariant-loop decreases-loop
loop-again c =
    let l = c.loop-left in (
      log-turn _ _ _ _ _ _ _ _ _ _ _ _ _ _ _ (omega (arith, c.visit_group-progress.ensures.most, c.in_group-m.ensures)) (next c.before.before.before.before.before.before.before.before.before) l.invariant.2.same refl
          (omega (arith, c.in_group-m.ensures, l.invariant.1, c.visit_group-progress.ensures.whole c.if-progress-ne0.false)) l.invariant.0 c.visit_group-progress.ensures.same,
      omega (arith, l.invariant.1),
      c.next_slot-at.ensures.1 _ l.invariant.2,
      λ h. omega (arith, next c.before.before.before.before.before.before.before.before.before, c.in_group-m.ensures, l.invariant.1),
      omega (arith, c.visit_group-progress.auto, l.invariant.4),
    )

result-requires-2 : tie.Need-result-requires-2 invariant-loop decreases-loop
result-requires-2 c κs = tt

same-length-2 : tie.Need-shape_of-counts invariant-loop decreases-loop
same-length-2 c = c.loop-left.invariant.4

returns-2 : tie.Need-returns invariant-loop decreases-loop
returns-2 c =
    let l = c.loop-left in
    let a = c.args in
    let e : a.n - l.left ≡ a.n = omega arith in
    let f = found _ _ _ _ _ (omega arith) (placed _ _ _ _) (rw e at l.invariant.0) in
    (c.result-2.ensures.0 ∙ f.0, c.result-2.ensures.1 ∙ f.1)

pub walk_with_spec : {M : Type 1} → statement M
walk_with_spec =
    tie.close
    (tie.spec
    invariant-loop
    decreases-loop
    first-slot-requires
    loop-holds
    mul-from
    add-from
    add-group
    sub-group
    part-group-start
    part-group-end
    in-group-requires
    visit-group-requires
    result-requires
    same_length
    returns
    next-slot-requires
    add-number
    sub-left
    loop-less
    loop-again
    result-requires-2
    same-length-2
    returns-2)
