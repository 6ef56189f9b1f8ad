-- `base_codec::put_each_byte` meets its contract. The loop's invariant: the `left` bytes of `x`, stored from `i` on, make the whole write.
-- Assumes nothing.
use mathlib.Core.Path.{◌≡◌, refl, sym, ◌∙◌}
use Prim.Native.Nat.{◌+◌}
use native.Mathlib.Omega.{arith}
use lib.ListN.{length, length-set}
use Rattle.model.specs.Bytes.{puts, bytes, put_number}
use Rattle.model_laws.proofs.bytes.ByteLaws.{put-turn, put-end}
use Rattle.base_codec.proofs.numbers.put_each_byte.Statement.{statement}
use Rattle.base_codec.proofs.numbers.put_each_byte.Tie as tie

abbrev invariant-loop : tie.invariant-loop-left
invariant-loop s₀ at k v x₀ i₀ left₀ s x i left = (puts s i (bytes left x) ≡ put_number k s₀ at v) × (i + left ≡ at + k) × (length s ≡ length s₀)

abbrev decreases-loop : tie.decreases-loop-left
decreases-loop s₀ at k v x₀ i₀ left₀ s x i left = left

loop-holds : tie.Need-loop-left-init invariant-loop decreases-loop
unfolding put_number
loop-holds c = (refl, refl, refl)

cast-s : tie.Need-overflow_cast-s invariant-loop decreases-loop
cast-s c = omega arith

slice-write-s : tie.Need-bounds-s-i invariant-loop decreases-loop
slice-write-s c = omega arith

add-i : tie.Need-overflow_add-i invariant-loop decreases-loop
add-i c = omega arith

sub-left : tie.Need-overflow_sub-left invariant-loop decreases-loop
sub-left c = omega arith

loop-less : tie.Need-loop-left-smaller invariant-loop decreases-loop
loop-less c = omega arith

loop-again : tie.Need-loop-left-preserved invariant-loop decreases-loop
loop-again c =
    let l = c.loop-left in
    (put-turn _ _ l.left l.x (omega arith) ∙ l.invariant.0, omega arith, simp length-set (omega arith))

same_length : tie.Need-shape_of-s invariant-loop decreases-loop
same_length c = omega arith

returns : tie.Need-returns invariant-loop decreases-loop
returns c =
    let l = c.loop-left in
    sym (put-end _ l.i l.left l.x (omega arith)) ∙ l.invariant.0

pub put_each_byte_spec : {M : Type 1} → statement M
put_each_byte_spec = tie.close (tie.spec invariant-loop decreases-loop loop-holds cast-s slice-write-s add-i sub-left loop-less loop-again same_length returns)
