-- `log_replay::restore_word` meets its contract. The loop's invariant: the homes that `w` still marks, restored, make the whole. The measure is `w`.
-- Assumes nothing.
use mathlib.Core.Path.{◌≡◌, refl, sym, ap, ◌∙◌}
use Prim.Native.Nat.{◌+◌, ◌-◌, ◌*◌, ◌≤◌}
use native.Mathlib.Omega.{arith}
use lib.ListN.{length, get_or}
use Rattle.model_laws.proofs.bytes.LayoutLaws.{length-put_home}
use Rattle.base_bitmap.specs.Marks.{bits_of, raised}
use Rattle.log_replay.specs.Restore.{restored, Ready}
use Rattle.log_replay.proofs.RestoreLaws.{first-ready, rest-ready, word-turn, word_end}
use Rattle.log_replay.proofs.restore.restore_word.Statement.{statement}
use Rattle.log_replay.proofs.restore.restore_word.Tie as tie

abbrev invariant-loop : tie.invariant-loop-w
invariant-loop log area₀ table groups start slot word base w₀ area w =
    (restored log groups (λ h. 7 * start + get_or table (h - base) 0 - 1) (raised base (bits_of w)) area ≡ restored log groups (λ h. 7 * start + get_or table (h - base) 0 - 1) (raised base (bits_of word)) area₀)
    × (length area ≡ length area₀)
    × Ready area₀ groups table base (bits_of w)
    × (w ≤ word)

abbrev decreases-loop : tie.decreases-loop-w
decreases-loop log area₀ table groups start slot word base w₀ area w = w

loop-holds : tie.Need-loop-w-init invariant-loop decreases-loop
loop-holds c = (refl, refl, c.requires.6, omega arith)

lowest-requires : tie.Need-lowest-k-requires invariant-loop decreases-loop
lowest-requires c κs = omega arith

mul-restore-block : tie.Need-offset_bounds-table-k invariant-loop decreases-loop
mul-restore-block c = omega (arith, first-ready _ _ _ _ c.loop-w.w _ c.lowest-k.ensures.0 c.loop-w.invariant.2)

shared-slice-read-restore-block : tie.Need-bounds-table-k invariant-loop decreases-loop
shared-slice-read-restore-block c = omega (arith, first-ready _ _ _ _ c.loop-w.w _ c.lowest-k.ensures.0 c.loop-w.invariant.2)

cast-restore-block : tie.Need-overflow_cast-table invariant-loop decreases-loop
cast-restore-block c = omega (arith, c.shared_slice_known-in-loop-w-1.given c.lowest-k.result)

sub-restore-block : tie.Need-overflow_sub-table invariant-loop decreases-loop
sub-restore-block c = omega (arith, first-ready _ _ _ _ c.loop-w.w _ c.lowest-k.ensures.0 c.loop-w.invariant.2)

add-restore-block : tie.Need-overflow_add-base invariant-loop decreases-loop
add-restore-block c = omega (arith, first-ready _ _ _ _ c.loop-w.w _ c.lowest-k.ensures.0 c.loop-w.invariant.2, c.lowest-k.ensures.1)

restore-block-requires : tie.Need-restore_block-requires invariant-loop decreases-loop
restore-block-requires c κs =
    let p = c.requires in
    let f = first-ready _ _ _ _ c.loop-w.w _ c.lowest-k.ensures.0 c.loop-w.invariant.2 in
    (p.0, p.1, p.2, p.3, omega (arith, f), p.4, omega (arith, f, c.loop-w.invariant.1))

clear-lowest-requires : tie.Need-clear_lowest-w-requires invariant-loop decreases-loop
clear-lowest-requires c κs = omega arith

loop-less : tie.Need-loop-w-smaller invariant-loop decreases-loop
loop-less c = omega arith

loop-again : tie.Need-loop-w-preserved invariant-loop decreases-loop
loop-again c =
    let l = c.loop-w in
    let f = c.lowest-k.ensures.0 in
    let r = c.clear_lowest-w.ensures.1 in
    let q = first-ready _ _ _ _ l.w _ f l.invariant.2 in
    let d : c.args.base + c.lowest-k.result - c.args.base ≡ c.lowest-k.result = omega arith in (
      word-turn _ _ _ _ l.w _ c.clear_lowest-w.result f r _ _ _ c.restore_block.ensures (rw d (omega (arith, q.2))) ∙ l.invariant.0,
      ap length c.restore_block.ensures ∙ length-put_home _ _ _ ∙ l.invariant.1,
      rest-ready _ _ _ _ l.w _ c.clear_lowest-w.result f r l.invariant.2,
      omega arith,
    )

same_length : tie.Need-shape_of-area invariant-loop decreases-loop
same_length c = c.loop-w.invariant.1

returns : tie.Need-returns invariant-loop decreases-loop
returns c = sym (word_end _ _ _ _ c.loop-w.w _ c.loop-w-test.false) ∙ c.loop-w.invariant.0

pub restore_word_spec : {M : Type 1} → statement M
restore_word_spec =
    tie.close
    (tie.spec
    invariant-loop
    decreases-loop
    loop-holds
    lowest-requires
    mul-restore-block
    shared-slice-read-restore-block
    cast-restore-block
    sub-restore-block
    add-restore-block
    restore-block-requires
    clear-lowest-requires
    loop-less
    loop-again
    same_length
    returns)
