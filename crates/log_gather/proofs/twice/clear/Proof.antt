-- `log_gather::clear` meets its contract. The loop's invariant: the zeros that are left, stored from `k` on, make the whole write. Assumes nothing.
use mathlib.Core.Path.{◌≡◌, refl, sym, ap, ◌∙◌}
use Prim.Native.Nat.{◌+◌}
use native.Mathlib.Omega.{arith}
use lib.ListN.{length, length-set}
use Rattle.model.specs.Bytes.{puts, zeros}
use Rattle.model_laws.proofs.bytes.ByteLaws.{zero_turn, zero-end, puts_whole, length-zeros}
use Rattle.log_gather.proofs.twice.clear.Statement.{statement}
use Rattle.log_gather.proofs.twice.clear.Tie as tie

abbrev invariant-loop : tie.invariant-loop-left
invariant-loop table₀ k₀ left₀ table k left =
    (puts table k (zeros left) ≡ puts table₀ 0 (zeros (length table₀))) × (k + left ≡ length table₀) × (length table ≡ length table₀)

abbrev decreases-loop : tie.decreases-loop-left
decreases-loop table₀ k₀ left₀ table k left = left

loop-holds : tie.Need-loop-left-init invariant-loop decreases-loop
loop-holds c = (refl, omega arith, refl)

mul-table : tie.Need-offset_bounds-table-k invariant-loop decreases-loop
mul-table c = omega arith

slice-write-table : tie.Need-bounds-table-k invariant-loop decreases-loop
slice-write-table c = omega arith

add-k : tie.Need-overflow_add-k invariant-loop decreases-loop
add-k c = omega arith

sub-left : tie.Need-overflow_sub-left invariant-loop decreases-loop
sub-left c = omega arith

loop-less : tie.Need-loop-left-smaller invariant-loop decreases-loop
loop-less c = omega arith

loop-again : tie.Need-loop-left-preserved invariant-loop decreases-loop
loop-again c =
    let l = c.loop-left in
    (zero_turn _ _ l.left (omega arith) ∙ l.invariant.0, omega arith, simp length-set (omega arith))

same_length : tie.Need-shape_of-table invariant-loop decreases-loop
same_length c = omega arith

returns : tie.Need-returns invariant-loop decreases-loop
unfolding zeros
returns c =
    let l = c.loop-left in
    sym (zero-end _ l.k l.left (omega arith)) ∙ l.invariant.0 ∙ puts_whole _ _ (sym (length-zeros _)) ∙ ap zeros (sym l.invariant.2)

pub clear_spec : {M : Type 1} → statement M
clear_spec = tie.close (tie.spec invariant-loop decreases-loop loop-holds mul-table slice-write-table add-k sub-left loop-less loop-again same_length returns)
