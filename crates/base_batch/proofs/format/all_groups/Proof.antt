-- `base_batch::all_groups` meets its contract. The loop's invariant: the records of the groups below `slot` stand from `at` on, and `to` is the index after them.
-- Assumes nothing.
use mathlib.Core.Path.{◌≡◌, refl, ◌∙◌}
use Prim.Native.Nat.{◌+◌, ◌*◌, ◌-◌, ◌≤◌}
use native.Mathlib.Omega.{arith}
use lib.ListN.{length}
use Rattle.model.specs.Bytes.{puts}
use Rattle.model.specs.Batch.{batch_bytes}
use Rattle.model.specs.Effects.{blank_writes}
use Rattle.base_areas.proofs.UnusedLaws.{turn-quotient}
use Rattle.base_batch.proofs.FormatLaws.{groups_none, groups-more}
use Rattle.base_batch.proofs.format.all_groups.Statement.{statement}
use Rattle.base_batch.proofs.format.all_groups.Tie as tie

abbrev invariant-loop : tie.invariant-loop-slot
invariant-loop batch₀ at start groups first turn to₀ slot₀ batch to slot =
    (batch ≡ puts batch₀ at (batch_bytes (blank_writes groups start slot))) × (to ≡ at + 516 * slot) × (slot ≤ groups) × (length batch ≡ length batch₀)

abbrev decreases-loop : tie.decreases-loop-slot
decreases-loop batch₀ at start groups first turn to₀ slot₀ batch to slot = groups - slot

loop-holds : tie.Need-loop-slot-init invariant-loop decreases-loop
loop-holds c = (groups_none _ _ _ _, omega arith, omega arith, refl)

rem-first : tie.Need-nonzero_rem-first invariant-loop decreases-loop
rem-first c = omega arith

div-turn : tie.Need-nonzero_div-turn invariant-loop decreases-loop
div-turn c = omega arith

unused-bit-requires : tie.Need-unused_bit-requires invariant-loop decreases-loop
unused-bit-requires c κs = omega arith

unused-write-requires : tie.Need-unused_write-to-requires invariant-loop decreases-loop
unused-write-requires c κs = omega arith

add-slot : tie.Need-overflow_add-slot invariant-loop decreases-loop
add-slot c = omega arith

loop-less : tie.Need-loop-slot-smaller invariant-loop decreases-loop
loop-less c = omega arith

loop-again : tie.Need-loop-slot-preserved invariant-loop decreases-loop
loop-again c =
    let a = c.args in
    let bit = c.unused_bit.ensures.1 a.groups a.start (omega arith) refl (turn-quotient a.groups a.start) in
    (c.unused_write-to.ensures.1 ∙ rw (c.loop-slot.invariant.0, c.loop-slot.invariant.1) (groups-more a.groups a.start _ _ _ _ bit), omega arith, omega arith, omega arith)

same_length : tie.Need-shape_of-batch invariant-loop decreases-loop
same_length c = omega arith

returns : tie.Need-returns invariant-loop decreases-loop
returns c =
    let l = c.loop-slot in
    let e : l.slot ≡ c.args.groups = omega arith in
    (omega arith, rw e at l.invariant.0)

pub all_groups_spec : {M : Type 1} → statement M
all_groups_spec = tie.close (tie.spec invariant-loop decreases-loop rem-first div-turn loop-holds unused-bit-requires unused-write-requires add-slot loop-less loop-again same_length returns)
