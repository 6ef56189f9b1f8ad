-- `log_gather::visit_group` meets its contract. The loop's invariant: the pass has taken the first `k` tags. Assumes nothing.
use mathlib.Core.Path.{◌≡◌, refl, sym, ◌∙◌}
use mathlib.Core.Bool.{true}
use Prim.Native.Nat.{◌+◌, ◌-◌, ◌*◌, ◌≤◌}
use native.Mathlib.Omega.{arith}
use lib.ListN.{length}
use Rattle.model.specs.Layout.{group_valid, entry_within}
use Rattle.log_scan.specs.Scan.{over}
use Rattle.log_scan.proofs.PassLaws.{group-hole, group-turn}
use Rattle.log_gather.specs.Chains.{Chains, note}
use Rattle.log_gather.proofs.ChainLaws.{note-quiet}
use Rattle.log_gather.proofs.gathering.visit_group.Statement.{statement}
use Rattle.log_gather.proofs.gathering.visit_group.Tie as tie

abbrev invariant-loop : tie.invariant-loop-k
invariant-loop group groups homes start n turn m last₀ heads₀ links₀ words base position₀ k₀ last heads links position k =
    (
    ◌≡◌ {A = Chains} (record { last = last; heads = heads; links = links })
    (over (note (7 * start)) (entry_within group groups homes start) (7 * n) k (record { last = last₀; heads = heads₀; links = links₀ }))
    )
    × (position ≡ 7 * n + k)
    × (k ≤ m)
    × (length last ≡ length last₀)
    × (length heads ≡ length heads₀)
    × (length links ≡ length links₀)

abbrev decreases-loop : tie.decreases-loop-k
decreases-loop group groups homes start n turn m last₀ heads₀ links₀ words base position₀ k₀ last heads links position k = m - k

group-valid-requires : tie.Need-group_valid-requires invariant-loop decreases-loop
group-valid-requires c κs = omega arith

returns : tie.Need-returns-then-not-group_valid invariant-loop decreases-loop
returns c = group-hole _ (note-quiet _) _ _ _ _ _ _ _ (sym c.group_valid.ensures ∙ c.if-not-group_valid.true) (omega arith)

tag-words-requires : tie.Need-tag_words-words-requires invariant-loop decreases-loop
tag-words-requires c κs = omega arith

mul-base : tie.Need-overflow_mul-base invariant-loop decreases-loop
mul-base c = omega arith

mul-position : tie.Need-overflow_mul-position invariant-loop decreases-loop
mul-position c = omega arith

loop-holds : tie.Need-loop-k-init invariant-loop decreases-loop
unfolding over
loop-holds c = (refl, omega arith, omega arith, refl, refl, refl)

mul-visit : tie.Need-offset_bounds-words-k invariant-loop decreases-loop
mul-visit c = omega arith

array-read-visit : tie.Need-bounds-words-k invariant-loop decreases-loop
array-read-visit c = omega arith

visit-requires : tie.Need-visit-requires invariant-loop decreases-loop
visit-requires c κs =
    let i = c.loop-k.invariant in
    let p = c.requires.8 in (
      omega arith,
      omega arith,
      omega (arith, i.3),
      record { few = p.few; lasts = refl; words = i.4 ∙ p.words; each = i.5 ∙ p.each ∙ sym i.3 },
    )

add-position : tie.Need-overflow_add-position invariant-loop decreases-loop
add-position c = omega arith

add-k : tie.Need-overflow_add-k invariant-loop decreases-loop
add-k c = omega arith

loop-less : tie.Need-loop-k-smaller invariant-loop decreases-loop
loop-less c = omega arith

loop-again : tie.Need-loop-k-preserved invariant-loop decreases-loop
loop-again c =
    let l = c.loop-k in
    let g : group_valid _ _ _ _ ≡ true = sym c.group_valid.ensures ∙ c.if-not-group_valid.false in (
      group-turn _ _ _ _ _ _ _ _ _ _ _ _ _ g c.requires.5 (omega arith) l.invariant.1 (c.tag_words-words.ensures l.k (omega arith)) c.visit.ensures l.invariant.0,
      omega arith,
      omega arith,
      omega (arith, c.visit.auto, l.invariant.3),
      omega (arith, c.visit.auto, l.invariant.4),
      omega (arith, c.visit.auto, l.invariant.5),
    )

same_length : tie.Need-shape_of-last invariant-loop decreases-loop
same_length c = c.loop-k.invariant.3

same-length-2 : tie.Need-shape_of-heads invariant-loop decreases-loop
same-length-2 c = c.loop-k.invariant.4

same-length-3 : tie.Need-shape_of-links invariant-loop decreases-loop
same-length-3 c = c.loop-k.invariant.5

returns-2 : tie.Need-returns invariant-loop decreases-loop
returns-2 c =
    let l = c.loop-k in
    let e : l.k ≡ c.args.m = omega arith in
    rw (← e) l.invariant.0

pub visit_group_spec : {M : Type 1} → statement M
visit_group_spec =
    tie.close
    (tie.spec
    invariant-loop
    decreases-loop
    group-valid-requires
    returns
    tag-words-requires
    mul-base
    mul-position
    loop-holds
    mul-visit
    array-read-visit
    visit-requires
    add-position
    add-k
    loop-less
    loop-again
    same_length
    same-length-2
    same-length-3
    returns-2)
