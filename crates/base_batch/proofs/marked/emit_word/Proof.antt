-- `base_batch::emit_word` meets its contract. The loop's invariant: the records of the homes that `w` still marks, stored from `next` on, make
-- the whole write. The measure is `w`. Assumes nothing.
use mathlib.Core.Path.{◌≡◌, refl, sym, ap, ◌∙◌}
use Prim.Native.Nat.{◌+◌, ◌*◌, ◌≤◌}
use native.Mathlib.Omega.{arith}
use lib.ListN.{length}
use Rattle.model.specs.Bytes.{puts}
use Rattle.model.specs.Batch.{batch_bytes}
use Rattle.model.specs.Effects.{home_writes}
use Rattle.model_laws.proofs.bytes.ByteLaws.{length-puts}
use Rattle.base_bitmap.specs.Marks.{bits_of, raised}
use Rattle.base_bitmap.proofs.WordLaws.{no_bits}
use Rattle.base_batch.specs.Within.{Within}
use Rattle.base_batch.proofs.HomeLaws.{first-within, rest-within, word-turn, word_end}
use Rattle.base_batch.proofs.marked.emit_word.Statement.{statement}
use Rattle.base_batch.proofs.marked.emit_word.Tie as tie

abbrev invariant-loop : tie.invariant-loop-w
invariant-loop batch₀ at word base area next₀ w₀ batch next w =
    (puts batch next (batch_bytes (home_writes area (raised base (bits_of w)))) ≡ puts batch₀ at (batch_bytes (home_writes area (raised base (bits_of word)))))
    × (next + 68 * length (bits_of w) ≡ at + 68 * length (bits_of word))
    × (length batch ≡ length batch₀)
    × Within area (raised base (bits_of w))
    × (w ≤ word)

abbrev decreases-loop : tie.decreases-loop-w
decreases-loop batch₀ at word base area next₀ w₀ batch next w = w

loop-holds : tie.Need-loop-w-init invariant-loop decreases-loop
loop-holds c = (refl, refl, refl, c.requires.0, omega arith)

lowest-requires : tie.Need-lowest-requires invariant-loop decreases-loop
lowest-requires c κs = omega arith

add-home : tie.Need-overflow_add-home invariant-loop decreases-loop
add-home c =
    let l = c.loop-w in
    omega (arith, first-within _ _ l.w _ c.lowest.ensures.0 l.invariant.3)

home-write-requires : tie.Need-home_write-next-requires invariant-loop decreases-loop
home-write-requires c κs =
    let l = c.loop-w in
    let e = ap length c.lowest.ensures.0 in
    (omega (arith, e), omega (arith, first-within _ _ l.w _ c.lowest.ensures.0 l.invariant.3))

clear-lowest-requires : tie.Need-clear_lowest-w-requires invariant-loop decreases-loop
clear-lowest-requires c κs = omega arith

loop-less : tie.Need-loop-w-smaller invariant-loop decreases-loop
loop-less c = omega arith

loop-again : tie.Need-loop-w-preserved invariant-loop decreases-loop
loop-again c =
    let f = c.lowest.ensures.0 in
    let l = c.loop-w in
    let p = c.home_write-next.ensures.1 in
    let r = c.clear_lowest-w.ensures.1 in (
      rw (c.home_write-next.ensures.0, p) (word-turn _ _ l.w _ f l.invariant.3 c.clear_lowest-w.result r l.batch l.next ∙ l.invariant.0),
      omega (arith, c.home_write-next.ensures.0, ap length f, ap length r),
      ap length p ∙ length-puts _ _ _ ∙ l.invariant.2,
      rest-within _ _ l.w _ f l.invariant.3 c.clear_lowest-w.result r,
      omega arith,
    )

same_length : tie.Need-shape_of-batch invariant-loop decreases-loop
same_length c = omega arith

returns : tie.Need-returns invariant-loop decreases-loop
returns c =
    let l = c.loop-w in
    let e = ap (λ (w : _). length (bits_of w)) c.loop-w-test.false in
    (sym (word_end l.batch l.next _ _ l.w c.loop-w-test.false) ∙ l.invariant.0, omega (arith, e, ap length no_bits))

pub emit_word_spec : {M : Type 1} → statement M
emit_word_spec =
    tie.close
    (tie.spec
    invariant-loop
    decreases-loop
    loop-holds
    lowest-requires
    add-home
    home-write-requires
    clear-lowest-requires
    loop-less
    loop-again
    same_length
    returns)
