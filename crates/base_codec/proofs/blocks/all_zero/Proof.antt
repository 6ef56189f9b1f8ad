-- `base_codec::all_zero` meets its contract. The invariant of both loops: the bytes that are left are zero just if all are.
-- Assumes nothing.
use mathlib.Core.Path.{◌≡◌, refl, sym, ◌∙◌}
use Prim.Native.Nat.{◌+◌}
use native.Mathlib.Omega.{arith}
use Rattle.model.specs.Bytes.{part, zeros, same}
use Rattle.base_codec.proofs.BlockLaws.{test-turn, test-stop, test-end, word-turn, word-stop}
use Rattle.base_codec.proofs.blocks.all_zero.Statement.{statement}
use Rattle.base_codec.proofs.blocks.all_zero.Tie as tie

abbrev invariant-loop : tie.invariant-loop-left
invariant-loop s at n i₀ left₀ i left = (same (part s i left) (zeros left) ≡ same (part s at n) (zeros n)) × (i + left ≡ at + n)

abbrev decreases-loop : tie.decreases-loop-left
decreases-loop s at n i₀ left₀ i left = left

abbrev invariant-loop2 : tie.invariant-loop-left-2
invariant-loop2 s at n i₀ left₀ i left = (same (part s i left) (zeros left) ≡ same (part s at n) (zeros n)) × (i + left ≡ at + n)

abbrev decreases-loop2 : tie.decreases-loop-left-2
decreases-loop2 s at n i₀ left₀ i left = left

loop-holds : tie.Need-loop-left-init invariant-loop decreases-loop invariant-loop2 decreases-loop2
loop-holds c = (refl, refl)

number-requires : tie.Need-number-requires invariant-loop decreases-loop invariant-loop2 decreases-loop2
number-requires c κs = omega arith

returns : tie.Need-returns-then-number-ne0 invariant-loop decreases-loop invariant-loop2 decreases-loop2
returns c =
    let l = c.loop-left in
    sym (word-stop 8 _ l.i l.left (omega arith) (omega arith) (λ q. c.if-number-ne0.true (c.number.ensures.0 ∙ q))) ∙ l.invariant.0

add-i : tie.Need-overflow_add-i invariant-loop decreases-loop invariant-loop2 decreases-loop2
add-i c = omega arith

loop-less : tie.Need-loop-left-smaller invariant-loop decreases-loop invariant-loop2 decreases-loop2
loop-less c = omega arith

loop-again : tie.Need-loop-left-preserved invariant-loop decreases-loop invariant-loop2 decreases-loop2
loop-again c =
    let l = c.loop-left in
    (word-turn 8 _ l.i l.left (omega arith) (omega arith) (sym c.number.ensures.0 ∙ c.if-number-ne0.false) ∙ l.invariant.0, omega arith)

loop2-holds : tie.Need-loop-left-2-init invariant-loop decreases-loop invariant-loop2 decreases-loop2
loop2-holds c = c.loop-left.invariant

shared-slice-read-if2 : tie.Need-bounds-s-i invariant-loop decreases-loop invariant-loop2 decreases-loop2
shared-slice-read-if2 c = omega arith

returns-2 : tie.Need-returns-then-s-i-ne0 invariant-loop decreases-loop invariant-loop2 decreases-loop2
returns-2 c =
    let l = c.loop-left-2 in
    sym (test-stop _ l.i l.left (omega arith) (omega arith) c.if-s-i-ne0.true) ∙ l.invariant.0

add-i-2 : tie.Need-overflow_add-i-in-loop-left-2 invariant-loop decreases-loop invariant-loop2 decreases-loop2
add-i-2 c = omega arith

sub-left : tie.Need-overflow_sub-left-in-loop-left-2 invariant-loop decreases-loop invariant-loop2 decreases-loop2
sub-left c = omega arith

loop2-less : tie.Need-loop-left-2-smaller invariant-loop decreases-loop invariant-loop2 decreases-loop2
loop2-less c = omega arith

loop2-again : tie.Need-loop-left-2-preserved invariant-loop decreases-loop invariant-loop2 decreases-loop2
loop2-again c =
    let l = c.loop-left-2 in
    (test-turn _ l.i l.left (omega arith) (omega arith) c.if-s-i-ne0.false ∙ l.invariant.0, omega arith)

returns-3 : tie.Need-returns invariant-loop decreases-loop invariant-loop2 decreases-loop2
returns-3 c =
    let l = c.loop-left-2 in
    sym (test-end _ l.i l.left (omega arith)) ∙ l.invariant.0

pub all_zero_spec : {M : Type 1} → statement M
all_zero_spec =
    tie.close
    (tie.spec
    invariant-loop
    decreases-loop
    invariant-loop2
    decreases-loop2
    loop-holds
    number-requires
    returns
    add-i
    loop-less
    loop-again
    loop2-holds
    shared-slice-read-if2
    returns-2
    add-i-2
    sub-left
    loop2-less
    loop2-again
    returns-3)
