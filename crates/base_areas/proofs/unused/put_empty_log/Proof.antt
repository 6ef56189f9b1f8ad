-- `base_areas::put_empty_log` meets its contract. The invariant: behind the header the slots so far are unused. Assumes nothing.
use mathlib.Core.Path.{◌≡◌, refl, ◌∙◌}
use Prim.Native.Nat.{◌+◌, ◌-◌, ◌*◌, ◌≤◌}
use native.Mathlib.Omega.{arith}
use lib.ListN.{length}
use Rattle.model.specs.Bytes.{puts}
use Rattle.model.specs.Layout.{unused_slots}
use Rattle.base_areas.proofs.UnusedLaws.{turn-quotient, slots-none, slots-more, empty-made}
use Rattle.base_areas.proofs.unused.put_empty_log.Statement.{statement}
use Rattle.base_areas.proofs.unused.put_empty_log.Tie as tie

abbrev invariant-loop : tie.invariant-loop-slot
invariant-loop log₀ start groups homes first turn slot₀ log slot =
    (log ≡ puts log₀ 64 (unused_slots groups start slot)) × (slot ≤ groups) × (length log ≡ 64 + 512 * groups)

abbrev decreases-loop : tie.decreases-loop-slot
decreases-loop log₀ start groups homes first turn slot₀ log slot = groups - slot

put-header-requires : tie.Need-put_header-requires invariant-loop decreases-loop
put-header-requires c κs = omega arith

rem-first : tie.Need-nonzero_rem-first invariant-loop decreases-loop
rem-first c = omega arith

div-turn : tie.Need-nonzero_div-turn invariant-loop decreases-loop
div-turn c = omega arith

loop-holds : tie.Need-loop-slot-init invariant-loop decreases-loop
loop-holds c = (slots-none _ 64 _ _, omega arith, omega arith)

mul-put-unused : tie.Need-overflow_mul-slot invariant-loop decreases-loop
mul-put-unused c = omega arith

add-put-unused : tie.Need-overflow_add-slot invariant-loop decreases-loop
add-put-unused c = omega arith

unused-bit-requires : tie.Need-unused_bit-requires invariant-loop decreases-loop
unused-bit-requires c κs = omega arith

put-unused-requires : tie.Need-put_unused-requires invariant-loop decreases-loop
put-unused-requires c κs = omega arith

add-slot : tie.Need-overflow_add-slot-in-loop-slot invariant-loop decreases-loop
add-slot c = omega arith

loop-less : tie.Need-loop-slot-smaller invariant-loop decreases-loop
loop-less c = omega arith

loop-again : tie.Need-loop-slot-preserved invariant-loop decreases-loop
loop-again c =
    let a = c.args in
    let bit = c.unused_bit.ensures.1 a.groups a.start (omega arith) refl (turn-quotient a.groups a.start) in
    (c.put_unused.ensures ∙ slots-more _ _ a.groups a.start c.loop-slot.slot _ c.loop-slot.invariant.0 bit, omega arith, omega arith)

same_length : tie.Need-shape_of-log invariant-loop decreases-loop
same_length c = omega arith

returns : tie.Need-returns invariant-loop decreases-loop
returns c =
    let a = c.args in
    let e : c.loop-slot.slot ≡ a.groups = omega arith in
    c.loop-slot.invariant.0 ∙ rw (e, c.put_header.ensures) (empty-made _ a.start a.groups a.homes (omega arith))

pub put_empty_log_spec : {M : Type 1} → statement M
put_empty_log_spec =
    tie.close
    (tie.spec
    invariant-loop
    decreases-loop
    put-header-requires
    rem-first
    div-turn
    loop-holds
    mul-put-unused
    add-put-unused
    unused-bit-requires
    put-unused-requires
    add-slot
    loop-less
    loop-again
    same_length
    returns)
