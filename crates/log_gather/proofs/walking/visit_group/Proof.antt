-- `log_gather::visit_group` of the pass that walks and chains meets its contract. The loop's invariant: the pass has taken the first `k` tags. Assumes
-- nothing.
use mathlib.Core.Path.{◌≡◌, refl, sym, ◌∙◌}
use mathlib.Core.Bool.{true}
use Prim.Native.Nat.{◌+◌, ◌-◌, ◌*◌, ◌≤◌}
use native.Mathlib.Omega.{arith}
use lib.ListN.{length}
use Rattle.model.specs.Layout.{group_valid, entry_within}
use Rattle.log_scan.specs.Scan.{over}
use Rattle.log_scan.proofs.PassLaws.{group-hole, group-turn}
use Rattle.log_gather.specs.Walks.{Walk, join}
use Rattle.log_gather.proofs.WalkSteps.{small-reached, over-held, join-quiet}
use Rattle.log_gather.proofs.walking.visit_group.Statement.{statement}
use Rattle.log_gather.proofs.walking.visit_group.Tie as tie

abbrev invariant-loop : tie.invariant-loop-k
invariant-loop group groups homes start n turn m cells₀ heads₀ links₀ above base index reached₀ k₀ cells heads links reached k =
    (
    ◌≡◌ {A = Walk} (record { cells = cells; heads = heads; links = links; progress = reached })
    (over (join (7 * start)) (entry_within group groups homes start) (7 * n) k (record { cells = cells₀; heads = heads₀; links = links₀; progress = reached₀ }))
    )
    × (k ≤ m)
    × (length cells ≡ length cells₀)
    × (length heads ≡ length heads₀)
    × (length links ≡ length links₀)
    × (reached.failed ≡ 0)

abbrev decreases-loop : tie.decreases-loop-k
decreases-loop group groups homes start n turn m cells₀ heads₀ links₀ above base index reached₀ k₀ cells heads links reached k =
    m - k

group-valid-requires : tie.Need-group_valid-requires invariant-loop decreases-loop
group-valid-requires c κs = omega arith

returns : tie.Need-returns-then-not-group_valid invariant-loop decreases-loop
returns c = group-hole _ (join-quiet _) _ _ _ _ _ _ _ (sym c.group_valid.ensures ∙ c.if-not-group_valid.true) (omega arith)

entry-word-requires : tie.Need-entry_word-above-requires invariant-loop decreases-loop
entry-word-requires c κs = omega (arith, c.requires.11.few)

mul-base : tie.Need-overflow_mul-base invariant-loop decreases-loop
mul-base c = omega arith

mul-index : tie.Need-overflow_mul-index invariant-loop decreases-loop
mul-index c = omega arith

sub-index : tie.Need-overflow_sub-index invariant-loop decreases-loop
sub-index c = omega arith

loop-holds : tie.Need-loop-k-init invariant-loop decreases-loop
unfolding over
loop-holds c = (refl, omega arith, refl, refl, refl, c.requires.7)

word-there-requires : tie.Need-word_there-requires invariant-loop decreases-loop
word-there-requires c κs = omega arith

add-visit : tie.Need-overflow_add-index invariant-loop decreases-loop
add-visit c = omega arith

visit-requires : tie.Need-visit-reached-requires invariant-loop decreases-loop
visit-requires c κs =
    let l = c.loop-k in
    let i = l.invariant in
    let p = c.requires in
    let k = small-reached _ _ _ _ (7 * c.args.n + l.k) _ _ refl i.0 (record { end = p.8; number = p.9 }) in (
      omega (arith, p),
      omega (arith, p),
      omega (arith, p, i.2),
      i.5,
      omega (arith, p, k.end),
      omega (arith, p, k.number),
      record { few = omega arith; lasts = refl; words = i.3 ∙ p.11.words; each = i.4 ∙ p.11.each ∙ sym i.2 },
    )

-- the group is valid, and the pass has taken one tag more
module _ (c : tie.After-visit-reached invariant-loop decreases-loop) where
  abbrev lent : tie.Start invariant-loop decreases-loop
  lent = c.before.before.before.before.before.before.before.before.before.before.before.before.before.before

  more : ◌≡◌ {A = Walk} (record { cells = c.visit-reached.new.cells; heads = c.visit-reached.new.heads; links = c.visit-reached.new.links; progress = c.visit-reached.result })
      (
      over (join (7 * lent.args.start)) (entry_within lent.args.group.now lent.args.groups lent.args.homes lent.args.start) (7 * lent.args.n)
      (c.loop-k.k + 1)
      (record { cells = lent.args.cells.now; heads = lent.args.heads.now; links = lent.args.links.now; progress = lent.args.progress })
      )
  more =
      let p = c.requires in
      let g : group_valid _ _ _ _ ≡ true = sym c.group_valid.ensures ∙ c.if-not-group_valid.false in
      group-turn _ _ _ _ _ _ _ _ _ _ _ _ _ g p.5 (omega arith) (omega (arith, p)) c.word_there.ensures
      (c.visit-reached.ensures _ c.entry_word-above.ensures) c.loop-k.invariant.0

same_length : tie.Need-shape_of-cells-then-reached-ne0 invariant-loop decreases-loop
same_length c = omega (arith, c.visit-reached.auto, c.loop-k.invariant.2)

same-length-2 : tie.Need-shape_of-heads-then-reached-ne0 invariant-loop decreases-loop
same-length-2 c = omega (arith, c.visit-reached.auto, c.loop-k.invariant.3)

same-length-3 : tie.Need-shape_of-links-then-reached-ne0 invariant-loop decreases-loop
same-length-3 c = omega (arith, c.visit-reached.auto, c.loop-k.invariant.4)

returns-2 : tie.Need-returns-then-reached-ne0 invariant-loop decreases-loop
returns-2 c =
    let l = c.loop-k in
    let m = c.args.m in
    let e : l.k + 1 + (m - (l.k + 1)) ≡ m = omega arith in
    rw e at (over-held _ _ _ _ (m - (l.k + 1)) _ _ (more c.before.before.before.before.before.before.before.before) c.if-reached-ne0.true)

add-k : tie.Need-overflow_add-k invariant-loop decreases-loop
add-k c = omega arith

loop-less : tie.Need-loop-k-smaller invariant-loop decreases-loop
loop-less c = omega arith

loop-again : tie.Need-loop-k-preserved invariant-loop decreases-loop
loop-again c =
    let v = c.before.before.before.before.before.before.before.before in
    let i = c.loop-k.invariant in (
      more v,
      omega arith,
      omega (arith, v.visit-reached.auto, i.2),
      omega (arith, v.visit-reached.auto, i.3),
      omega (arith, v.visit-reached.auto, i.4),
      c.if-reached-ne0.false,
    )

same-length-4 : tie.Need-shape_of-cells invariant-loop decreases-loop
same-length-4 c = c.loop-k.invariant.2

same-length-5 : tie.Need-shape_of-heads invariant-loop decreases-loop
same-length-5 c = c.loop-k.invariant.3

same-length-6 : tie.Need-shape_of-links invariant-loop decreases-loop
same-length-6 c = c.loop-k.invariant.4

returns-3 : tie.Need-returns invariant-loop decreases-loop
returns-3 c =
    let l = c.loop-k in
    let e : l.k ≡ c.args.m = omega arith in
    rw (← e) l.invariant.0

pub visit_group_spec : {M : Type 1} → statement M
visit_group_spec =
    tie.close
    (tie.spec
    invariant-loop
    decreases-loop
    group-valid-requires
    returns
    entry-word-requires
    mul-base
    mul-index
    sub-index
    loop-holds
    word-there-requires
    add-visit
    visit-requires
    same_length
    same-length-2
    same-length-3
    returns-2
    add-k
    loop-less
    loop-again
    same-length-4
    same-length-5
    same-length-6
    returns-3)
