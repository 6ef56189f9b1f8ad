-- `log_newest::keep_nothing` meets its contract. The loop's invariant: the bytes that are left, all ones, stored from `i` on, make the whole strip.
-- Assumes nothing.
use mathlib.Core.Path.{◌≡◌, refl, ◌∙◌}
use Prim.Native.Nat.{◌+◌}
use native.Mathlib.Omega.{arith}
use lib.ListN.{length, replicate, length-set}
use Rattle.model.specs.Bytes.{puts}
use Rattle.log_newest.proofs.PositionLaws.{ones-turn, ones-end}
use Rattle.log_newest.proofs.positions.keep_nothing.Statement.{statement}
use Rattle.log_newest.proofs.positions.keep_nothing.Tie as tie

abbrev invariant-loop : tie.invariant-loop-left
invariant-loop newest₀ homes i₀ left₀ newest i left =
    (puts newest i (replicate left 255) ≡ puts newest₀ 0 (replicate (length newest₀) 255)) × (i + left ≡ length newest₀) × (length newest ≡ length newest₀)

abbrev decreases-loop : tie.decreases-loop-left
decreases-loop newest₀ homes i₀ left₀ newest i left = left

loop-holds : tie.Need-loop-left-init invariant-loop decreases-loop
loop-holds c = (refl, omega arith, refl)

slice-write-newest : tie.Need-bounds-newest-i invariant-loop decreases-loop
slice-write-newest c = omega arith

add-i : tie.Need-overflow_add-i invariant-loop decreases-loop
add-i c = omega arith

sub-left : tie.Need-overflow_sub-left invariant-loop decreases-loop
sub-left c = omega arith

loop-less : tie.Need-loop-left-smaller invariant-loop decreases-loop
loop-less c = omega arith

loop-again : tie.Need-loop-left-preserved invariant-loop decreases-loop
loop-again c =
    let l = c.loop-left in
    (ones-turn _ _ l.left (omega arith) ∙ l.invariant.0, omega arith, simp length-set (omega arith))

same_length : tie.Need-shape_of-newest invariant-loop decreases-loop
same_length c = omega arith

returns : tie.Need-returns invariant-loop decreases-loop
returns c =
    let l = c.loop-left in
    ones-end _ _ _ l.i l.left (omega arith) (omega arith) l.invariant.0

pub keep_nothing_spec : {M : Type 1} → statement M
keep_nothing_spec =
    tie.close
    (tie.spec
    invariant-loop
    decreases-loop
    loop-holds
    slice-write-newest
    add-i
    sub-left
    loop-less
    loop-again
    same_length
    returns)
