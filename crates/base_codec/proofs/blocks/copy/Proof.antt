-- `base_codec::copy` meets its contract. The invariant of both loops: what is left of `src`, stored from `i` on, makes the whole copy.
-- Assumes nothing.
use mathlib.Core.Path.{◌≡◌, refl, sym, ◌∙◌}
use Prim.Native.Nat.{◌+◌, ◌-◌, ◌≤◌}
use native.Mathlib.Omega.{arith}
use lib.ListN.{length, length-set, drop}
use Rattle.model.specs.Bytes.{puts}
use Rattle.model_laws.proofs.bytes.ByteLaws.{puts-turn, puts-end}
use Rattle.base_codec.proofs.CopyLaws.{words-turn}
use Rattle.base_codec.proofs.blocks.copy.Statement.{statement}
use Rattle.base_codec.proofs.blocks.copy.Tie as tie

abbrev invariant-loop : tie.invariant-loop-j
invariant-loop dst₀ at src i₀ j₀ dst i j = (puts dst i (drop j src) ≡ puts dst₀ at src) × (i ≡ at + j) × (j ≤ length src) × (length dst ≡ length dst₀)

abbrev decreases-loop : tie.decreases-loop-j
decreases-loop dst₀ at src i₀ j₀ dst i j = length src - j

abbrev invariant-loop2 : tie.invariant-loop-j-2
invariant-loop2 dst₀ at src i₀ j₀ dst i j = (puts dst i (drop j src) ≡ puts dst₀ i₀ (drop j₀ src)) × (i ≡ at + j) × (j ≤ length src) × (length dst ≡ length dst₀)

abbrev decreases-loop2 : tie.decreases-loop-j-2
decreases-loop2 dst₀ at src i₀ j₀ dst i j = length src - j

loop-holds : tie.Need-loop-j-init invariant-loop decreases-loop invariant-loop2 decreases-loop2
loop-holds c = (refl, omega arith, omega arith, refl)

sub-loop : tie.Need-overflow_sub-src invariant-loop decreases-loop invariant-loop2 decreases-loop2
sub-loop c = omega arith

copy-words-requires : tie.Need-copy_words-requires invariant-loop decreases-loop invariant-loop2 decreases-loop2
copy-words-requires c κs = omega arith

add-i : tie.Need-overflow_add-i invariant-loop decreases-loop invariant-loop2 decreases-loop2
add-i c = omega arith

add-j : tie.Need-overflow_add-j invariant-loop decreases-loop invariant-loop2 decreases-loop2
add-j c = omega arith

loop-less : tie.Need-loop-j-smaller invariant-loop decreases-loop invariant-loop2 decreases-loop2
loop-less c = omega arith

loop-again : tie.Need-loop-j-preserved invariant-loop decreases-loop invariant-loop2 decreases-loop2
loop-again c =
    let l = c.loop-j in
    (rw c.copy_words.ensures (words-turn _ l.i _ l.j (omega arith) ∙ l.invariant.0), omega arith, omega arith, omega arith)

loop2-holds : tie.Need-loop-j-2-init invariant-loop decreases-loop invariant-loop2 decreases-loop2
loop2-holds c = (refl, omega arith, omega arith, refl)

shared-slice-read-dst : tie.Need-bounds-src-j invariant-loop decreases-loop invariant-loop2 decreases-loop2
shared-slice-read-dst c = omega arith

slice-write-dst : tie.Need-bounds-dst-i invariant-loop decreases-loop invariant-loop2 decreases-loop2
slice-write-dst c = omega arith

add-i-2 : tie.Need-overflow_add-i-in-loop-j-2 invariant-loop decreases-loop invariant-loop2 decreases-loop2
add-i-2 c = omega arith

add-j-2 : tie.Need-overflow_add-j-in-loop-j-2 invariant-loop decreases-loop invariant-loop2 decreases-loop2
add-j-2 c = omega arith

loop2-less : tie.Need-loop-j-2-smaller invariant-loop decreases-loop invariant-loop2 decreases-loop2
loop2-less c = omega arith

loop2-again : tie.Need-loop-j-2-preserved invariant-loop decreases-loop invariant-loop2 decreases-loop2
loop2-again c =
    let l = c.loop-j-2 in
    (puts-turn _ _ _ l.j (omega arith) ∙ l.invariant.0, omega arith, omega arith, simp length-set (omega arith))

same_length : tie.Need-shape_of-dst invariant-loop decreases-loop invariant-loop2 decreases-loop2
same_length c = omega arith

returns : tie.Need-returns invariant-loop decreases-loop invariant-loop2 decreases-loop2
returns c =
    let l = c.loop-j-2 in
    sym (puts-end _ _ _ l.j (omega arith) (omega arith)) ∙ l.invariant.0 ∙ c.loop-j.invariant.0

pub copy_spec : {M : Type 1} → statement M
copy_spec =
    tie.close
    (tie.spec
    invariant-loop
    decreases-loop
    invariant-loop2
    decreases-loop2
    loop-holds
    sub-loop
    copy-words-requires
    add-i
    add-j
    loop-less
    loop-again
    loop2-holds
    shared-slice-read-dst
    slice-write-dst
    add-i-2
    add-j-2
    loop2-less
    loop2-again
    same_length
    returns)
