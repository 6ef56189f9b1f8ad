-- `log_scan::tag_words` meets its contract. The loop's invariant: the first `k` words are read. Assumes nothing.
use mathlib.Core.Path.{◌≡◌, refl}
use Prim.Native.Nat.{ℕ, ◌-◌, ◌≤◌, ◌<◌}
use native.Mathlib.Omega.{arith}
use lib.ListN.{length, get_or, length-set}
use Rattle.model.specs.Layout.{word_there}
use Rattle.log_scan.proofs.GroupLaws.{words_more}
use Rattle.log_scan.proofs.groups.tag_words.Statement.{statement}
use Rattle.log_scan.proofs.groups.tag_words.Tie as tie

abbrev invariant-loop : tie.invariant-loop-k
invariant-loop group turn words₀ k₀ words k = ((j : ℕ) → j < k → get_or words j 0 ≡ word_there group turn j) × (length words ≡ 7) × (k ≤ 7)

abbrev decreases-loop : tie.decreases-loop-k
decreases-loop group turn words₀ k₀ words k = 7 - k

loop-holds : tie.Need-loop-k-init invariant-loop decreases-loop
loop-holds c = (λ j h. absurd (omega arith), refl, omega arith)

word-there-requires : tie.Need-word_there-requires invariant-loop decreases-loop
word-there-requires c κs = (omega arith, omega arith)

mul_words : tie.Need-offset_bounds-words-k invariant-loop decreases-loop
mul_words c = omega arith

array-write-words : tie.Need-bounds-words-k invariant-loop decreases-loop
array-write-words c = omega arith

add-k : tie.Need-overflow_add-k invariant-loop decreases-loop
add-k c = omega arith

loop-less : tie.Need-loop-k-smaller invariant-loop decreases-loop
loop-less c = omega arith

loop-again : tie.Need-loop-k-preserved invariant-loop decreases-loop
loop-again c =
    let l = c.loop-k in
    (words_more _ _ l.words _ _ l.invariant.1 (omega arith) c.word_there.ensures l.invariant.0, simp length-set l.invariant.1, omega arith)

returns : tie.Need-returns invariant-loop decreases-loop
returns c = λ j h. c.loop-k.invariant.0 j (omega arith)

pub tag_words_spec : {M : Type 1} → statement M
tag_words_spec =
    tie.close
    (tie.spec
    invariant-loop
    decreases-loop
    loop-holds
    word-there-requires
    mul_words
    array-write-words
    add-k
    loop-less
    loop-again
    returns)
