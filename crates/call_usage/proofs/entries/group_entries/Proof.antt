-- `call_usage::group_entries` meets its contract. The loop's invariant: `total` is the sum with the counts of the first `k` tags. Assumes nothing.
use mathlib.Core.Path.{◌≡◌, refl, sym, ◌∙◌}
use mathlib.Core.Bool.{true}
use Prim.Native.Nat.{◌+◌, ◌-◌, ◌*◌, ◌^◌, ◌≤◌}
use native.Mathlib.Omega.{arith}
use Rattle.model.specs.Layout.{group_valid, entry_within}
use Rattle.log_scan.specs.Scan.{over}
use Rattle.log_scan.proofs.PassLaws.{group-hole, group-turn}
use Rattle.call_usage.specs.Sums.{add_count, summed}
use Rattle.call_usage.proofs.SumLaws.{add-quiet}
use Rattle.call_usage.proofs.entries.group_entries.Statement.{statement}
use Rattle.call_usage.proofs.entries.group_entries.Tie as tie

abbrev invariant-loop : tie.invariant-loop-k
invariant-loop group groups homes start n turn m sum words base total₀ position₀ k₀ total position k =
    (total ≡ summed (entry_within group groups homes start) (7 * n) k sum) × (position ≡ 7 * n + k) × (k ≤ m) × (total ≤ sum + 2 ^ 13 * k)

abbrev decreases-loop : tie.decreases-loop-k
decreases-loop group groups homes start n turn m sum words base total₀ position₀ k₀ total position k = m - k

group-valid-requires : tie.Need-group_valid-requires invariant-loop decreases-loop
group-valid-requires c κs = omega arith

returns : tie.Need-returns-then-not-group_valid invariant-loop decreases-loop
returns c = (group-hole _ add-quiet _ _ _ _ _ _ _ (sym c.group_valid.ensures ∙ c.if-not-group_valid.true) (omega arith), omega arith)

tag-words-requires : tie.Need-tag_words-words-requires invariant-loop decreases-loop
tag-words-requires c κs = omega arith

mul-base : tie.Need-overflow_mul-base invariant-loop decreases-loop
mul-base c = omega arith

mul-position : tie.Need-overflow_mul-position invariant-loop decreases-loop
mul-position c = omega arith

loop-holds : tie.Need-loop-k-init invariant-loop decreases-loop
unfolding over
loop-holds c = (refl, omega arith, omega arith, omega arith)

mul-word-entries : tie.Need-offset_bounds-words-k invariant-loop decreases-loop
mul-word-entries c = omega arith

array-read-word-entries : tie.Need-bounds-words-k invariant-loop decreases-loop
array-read-word-entries c = omega arith

word-entries-requires : tie.Need-word_entries-total-requires invariant-loop decreases-loop
word-entries-requires c κs = omega arith

add-position : tie.Need-overflow_add-position invariant-loop decreases-loop
add-position c = omega arith

add-k : tie.Need-overflow_add-k invariant-loop decreases-loop
add-k c = omega arith

loop-less : tie.Need-loop-k-smaller invariant-loop decreases-loop
loop-less c = omega arith

loop-again : tie.Need-loop-k-preserved invariant-loop decreases-loop
loop-again c =
    let g : group_valid _ _ _ _ ≡ true = sym c.group_valid.ensures ∙ c.if-not-group_valid.false in (
      group-turn (λ p. add_count) _ _ _ _ _ _ _ _ _ _ _ _ g c.requires.4 (omega arith) c.loop-k.invariant.1 (c.tag_words-words.ensures c.loop-k.k (omega arith))
          c.word_entries-total.ensures.0 c.loop-k.invariant.0,
      omega arith,
      omega arith,
      omega (arith, c.word_entries-total.ensures.1, c.loop-k.invariant.3),
    )

returns-2 : tie.Need-returns invariant-loop decreases-loop
returns-2 c =
    let l = c.loop-k in
    let e : l.k ≡ c.args.m = omega arith in
    (rw (← e) l.invariant.0, omega (arith, l.invariant.3))

pub group_entries_spec : {M : Type 1} → statement M
group_entries_spec =
    tie.close
    (tie.spec
    invariant-loop
    decreases-loop
    group-valid-requires
    returns
    tag-words-requires
    mul-base
    mul-position
    loop-holds
    mul-word-entries
    array-read-word-entries
    word-entries-requires
    add-position
    add-k
    loop-less
    loop-again
    returns-2)
