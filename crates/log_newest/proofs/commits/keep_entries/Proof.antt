-- `log_newest::keep_entries` meets its contract. The loop's invariant: all that stands before the pass is taken. Assumes nothing.
use mathlib.Core.Path.{◌≡◌}
use Prim.Native.Nat.{◌+◌, ◌-◌, ◌*◌, ◌≤◌, ◌<◌}
use native.Mathlib.Omega.{arith}
use lib.ListN.{length}
use Rattle.log_scan.specs.Slots.{SlotOf}
use Rattle.log_newest.specs.Keeping.{taken_to}
use Rattle.log_newest.proofs.KeepLaws.{taken_start, taken_next, taken-end, kept-all}
use Rattle.log_newest.proofs.commits.keep_entries.Statement.{statement}
use Rattle.log_newest.proofs.commits.keep_entries.Tie as tie

abbrev invariant-loop : tie.invariant-loop-pass
invariant-loop log groups homes start first closing newest₀ number end pass₀ newest pass =
    (newest ≡ taken_to log groups homes start first pass.number pass.done newest₀)
    × (first ≤ 7 * pass.number + pass.done)
    × (7 * pass.number + pass.done ≤ closing + 1)
    × (pass.done < 7)
    × SlotOf groups pass.number pass.at
    × (start ≤ pass.number)
    × (length newest ≡ 8 * homes)

abbrev decreases-loop : tie.decreases-loop-pass
decreases-loop log groups homes start first closing newest₀ number end pass₀ newest pass = closing + 1 - 7 * pass.number

first-slot-requires : tie.Need-first_slot-at-requires invariant-loop decreases-loop
first-slot-requires c κs = omega (arith, c.requires)

add-end : tie.Need-overflow_add-end invariant-loop decreases-loop
add-end c = omega arith

mul-keep-rest : tie.Need-overflow_mul-pass invariant-loop decreases-loop
mul-keep-rest c = omega arith

sub-keep-rest : tie.Need-overflow_sub-pass invariant-loop decreases-loop
sub-keep-rest c = omega arith

loop-holds : tie.Need-loop-pass-init invariant-loop decreases-loop
loop-holds c =
    (taken_start _ _ _ _ _ _ _ _ (omega arith) (omega arith), omega arith, omega arith, omega arith, c.first_slot-at.ensures, omega arith, omega arith)

mul-if1 : tie.Need-overflow_mul-pass-in-loop-pass invariant-loop decreases-loop
mul-if1 c = omega arith

add-if1 : tie.Need-overflow_add-pass invariant-loop decreases-loop
add-if1 c = omega arith

keep-rest-requires : tie.Need-keep_rest-requires invariant-loop decreases-loop
keep-rest-requires c κs =
    let l = c.loop-pass in (
      omega arith,
      omega arith,
      omega arith,
      omega arith,
      omega arith,
      l.invariant.4,
      omega arith,
      omega arith,
      omega arith,
      omega (arith, l.invariant.1),
      omega arith,
      omega (arith, l.invariant.6),
    )

next-slot-requires : tie.Need-next_slot-next-requires invariant-loop decreases-loop
next-slot-requires c κs = omega arith

add-keep-groups : tie.Need-overflow_add-pass-in-loop-pass invariant-loop decreases-loop
add-keep-groups c = omega arith

keep-groups-requires : tie.Need-keep_groups-pass-requires invariant-loop decreases-loop
keep-groups-requires c κs =
    let l = c.loop-pass in (
      c.requires.0,
      omega arith,
      omega (arith, l.invariant.5),
      omega (arith, l.invariant.1, l.invariant.3),
      omega (arith, c.loop-pass-test.true),
      c.next_slot-next.ensures.1 _ l.invariant.4,
      omega (arith, c.keep_rest.auto, l.invariant.6),
    )

loop-less : tie.Need-loop-pass-smaller invariant-loop decreases-loop
loop-less c =
    omega (arith, c.keep_groups-pass.ensures.on, c.loop-pass-test.true)

loop-again : tie.Need-loop-pass-preserved invariant-loop decreases-loop
loop-again c =
    let l = c.loop-pass in
    let e = c.keep_groups-pass.ensures in (
      e.taken _ (taken_next _ _ _ _ _ _ (c.keep_rest.ensures _ l.invariant.0)),
      omega (arith, e.on, l.invariant.1, l.invariant.3),
      e.below,
      e.part,
      e.ring,
      omega (arith, e.on, l.invariant.5),
      omega (arith, c.keep_groups-pass.auto, c.keep_rest.auto, l.invariant.6),
    )

mul_left : tie.Need-overflow_mul-left invariant-loop decreases-loop
mul_left c = omega arith

sub-left : tie.Need-overflow_sub-left invariant-loop decreases-loop
sub-left c = omega arith

same_length : tie.Need-shape_of-newest-then-left-eq0 invariant-loop decreases-loop
same_length c = omega (arith, c.loop-pass.invariant.6)

returns : tie.Need-returns-then-left-eq0 invariant-loop decreases-loop
returns c =
    let l = c.loop-pass in
    kept-all _ _ _ _ _ _ _ (omega arith) (omega (arith, c.if-left-eq0.true, l.invariant.2)) (taken-end _ _ _ _ _ _ _ _ _ (omega (arith, c.if-left-eq0.true, l.invariant.2)) l.invariant.0)

keep-rest-requires-2 : tie.Need-keep_rest-requires-2 invariant-loop decreases-loop
keep-rest-requires-2 c κs =
    let l = c.loop-pass in
    let t = c.if-left-eq0.false in (
      omega arith,
      omega arith,
      omega arith,
      omega arith,
      omega (arith, t, l.invariant.2),
      l.invariant.4,
      omega (arith, l.invariant.2),
      omega (arith, c.loop-pass-test.false),
      omega arith,
      omega (arith, l.invariant.1),
      omega (arith, l.invariant.5),
      omega (arith, l.invariant.6),
    )

same-length-2 : tie.Need-shape_of-newest invariant-loop decreases-loop
same-length-2 c = omega arith

returns-2 : tie.Need-returns invariant-loop decreases-loop
returns-2 c =
    let l = c.loop-pass in
    kept-all _ _ _ _ _ _ _ (omega arith) (omega (arith, l.invariant.2)) (c.keep_rest-2.ensures _ l.invariant.0)

pub keep_entries_spec : {M : Type 1} → statement M
keep_entries_spec =
    tie.close
    (tie.spec
    invariant-loop
    decreases-loop
    first-slot-requires
    add-end
    mul-keep-rest
    sub-keep-rest
    loop-holds
    mul-if1
    add-if1
    keep-rest-requires
    next-slot-requires
    add-keep-groups
    keep-groups-requires
    loop-less
    loop-again
    mul_left
    sub-left
    same_length
    returns
    keep-rest-requires-2
    same-length-2
    returns-2)
