-- `base_codec::clear` meets its contract. The loop's invariant: the zeros that are left, stored from `i` on, make the whole write.
-- Assumes nothing.
use mathlib.Core.Path.{◌≡◌, refl, sym, ◌∙◌}
use Prim.Native.Nat.{◌+◌}
use native.Mathlib.Omega.{arith}
use lib.ListN.{length, length-set}
use Rattle.model.specs.Bytes.{puts, zeros}
use Rattle.model_laws.proofs.bytes.ByteLaws.{zero_turn, zero-end}
use Rattle.base_codec.proofs.blocks.clear.Statement.{statement}
use Rattle.base_codec.proofs.blocks.clear.Tie as tie

abbrev invariant-loop : tie.invariant-loop-left
invariant-loop dst₀ at n i₀ left₀ dst i left = (puts dst i (zeros left) ≡ puts dst₀ at (zeros n)) × (i + left ≡ at + n) × (length dst ≡ length dst₀)

abbrev decreases-loop : tie.decreases-loop-left
decreases-loop dst₀ at n i₀ left₀ dst i left = left

loop-holds : tie.Need-loop-left-init invariant-loop decreases-loop
loop-holds c = (refl, refl, refl)

slice-write-dst : tie.Need-bounds-dst-i invariant-loop decreases-loop
slice-write-dst c = omega arith

add-i : tie.Need-overflow_add-i invariant-loop decreases-loop
add-i c = omega arith

sub-left : tie.Need-overflow_sub-left invariant-loop decreases-loop
sub-left c = omega arith

loop-less : tie.Need-loop-left-smaller invariant-loop decreases-loop
loop-less c = omega arith

loop-again : tie.Need-loop-left-preserved invariant-loop decreases-loop
loop-again c =
    let l = c.loop-left in
    (zero_turn _ _ l.left (omega arith) ∙ l.invariant.0, omega arith, simp length-set (omega arith))

same_length : tie.Need-shape_of-dst invariant-loop decreases-loop
same_length c = omega arith

returns : tie.Need-returns invariant-loop decreases-loop
returns c =
    let l = c.loop-left in
    sym (zero-end _ l.i l.left (omega arith)) ∙ l.invariant.0

pub clear_spec : {M : Type 1} → statement M
clear_spec = tie.close (tie.spec invariant-loop decreases-loop loop-holds slice-write-dst add-i sub-left loop-less loop-again same_length returns)
