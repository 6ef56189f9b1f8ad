-- `base_areas::put_turn_blocks` meets its contract. The invariant: the blocks that are left, written from `to` on, make all seven. Assumes nothing.
use mathlib.Core.Path.{◌≡◌, refl, sym, ◌∙◌}
use Prim.Native.Nat.{◌+◌, ◌*◌, ◌≤◌}
use native.Mathlib.Omega.{arith}
use lib.ListN.{length, length-set}
use Rattle.model.specs.Bytes.{puts}
use Rattle.model.specs.Layout.{turn_blocks}
use Rattle.base_areas.proofs.UnusedLaws.{turn_more, turn-none}
use Rattle.base_areas.proofs.turns.put_turn_blocks.Statement.{statement}
use Rattle.base_areas.proofs.turns.put_turn_blocks.Tie as tie

abbrev invariant-loop : tie.invariant-loop-left
invariant-loop dst₀ at bit last to₀ left₀ dst to left =
    (puts dst to (turn_blocks left bit) ≡ puts dst₀ at (turn_blocks 7 bit)) × (to + 64 * left ≡ at + 448) × (left ≤ 7) × (length dst ≡ length dst₀)

abbrev decreases-loop : tie.decreases-loop-left
decreases-loop dst₀ at bit last to₀ left₀ dst to left = left

cast-last : tie.Need-overflow_cast-last invariant-loop decreases-loop
cast-last c = omega arith

mul-last : tie.Need-overflow_mul-last invariant-loop decreases-loop
mul-last c = omega arith

loop-holds : tie.Need-loop-left-init invariant-loop decreases-loop
loop-holds c = (refl, omega arith, omega arith, refl)

clear-requires : tie.Need-clear-requires invariant-loop decreases-loop
clear-requires c κs = omega arith

add-dst : tie.Need-overflow_add-dst invariant-loop decreases-loop
add-dst c = omega arith

slice-write-dst : tie.Need-bounds-dst-to invariant-loop decreases-loop
slice-write-dst c = omega arith

add-to : tie.Need-overflow_add-to invariant-loop decreases-loop
add-to c = omega arith

sub-left : tie.Need-overflow_sub-left invariant-loop decreases-loop
sub-left c = omega arith

loop-less : tie.Need-loop-left-smaller invariant-loop decreases-loop
loop-less c = omega arith

loop-again : tie.Need-loop-left-preserved invariant-loop decreases-loop
loop-again c =
    let l = c.loop-left in
    (rw c.clear.ensures (turn_more _ l.to l.left _ (omega arith)) ∙ l.invariant.0, omega arith, omega arith, simp length-set (omega arith))

same_length : tie.Need-shape_of-dst invariant-loop decreases-loop
same_length c = omega arith

returns : tie.Need-returns invariant-loop decreases-loop
returns c =
    let l = c.loop-left in
    sym (turn-none _ l.to l.left _ (omega arith)) ∙ l.invariant.0

pub put_turn_blocks_spec : {M : Type 1} → statement M
put_turn_blocks_spec =
    tie.close
    (tie.spec
    invariant-loop
    decreases-loop
    cast-last
    mul-last
    loop-holds
    clear-requires
    add-dst
    slice-write-dst
    add-to
    sub-left
    loop-less
    loop-again
    same_length
    returns)
