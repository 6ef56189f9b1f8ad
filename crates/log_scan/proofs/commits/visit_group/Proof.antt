-- `log_scan::visit_group` meets its contract. The loop's invariant: the pass has taken the first `k` tags. Assumes nothing.
use mathlib.Core.Path.{◌≡◌, refl, sym, ◌∙◌}
use mathlib.Core.Bool.{true}
use Prim.Native.Nat.{◌+◌, ◌-◌, ◌*◌, ◌≤◌}
use native.Mathlib.Omega.{arith}
use borrow.Author.Tests.{lt-ltb}
use lib.ListN.{length}
use Rattle.model.specs.Layout.{group_valid, entry_within}
use Rattle.log_scan.specs.Scan.{Scan, over, entered}
use Rattle.log_scan.proofs.GroupLaws.{valid-other, valid-range}
use Rattle.log_scan.proofs.PassLaws.{group-hole, group-turn}
use Rattle.log_scan.proofs.ScanLaws.{enter-quiet, within-reached}
use Rattle.log_scan.proofs.commits.visit_group.Statement.{statement}
use Rattle.log_scan.proofs.commits.visit_group.Tie as tie

abbrev invariant-loop : tie.invariant-loop-k
invariant-loop group groups homes start n turn m counts₀ above base index reached₀ k₀ counts reached k =
    (
    ◌≡◌ {A = Scan} (record { counts = counts; progress = reached })
    (entered (entry_within group groups homes start) (7 * start) (7 * n) k (record { counts = counts₀; progress = reached₀ }))
    )
    × (k ≤ m)
    × (length counts ≡ length counts₀)

abbrev decreases-loop : tie.decreases-loop-k
decreases-loop group groups homes start n turn m counts₀ above base index reached₀ k₀ counts reached k = m - k

has-group-head-requires : tie.Need-has_group_head-requires invariant-loop decreases-loop
has-group-head-requires c κs = omega arith

returns : tie.Need-returns-then-not-has_group_head invariant-loop decreases-loop
returns c =
    record {
      taken = c.args.m;
      most = omega arith;
      same = group-hole _ (enter-quiet _) _ _ _ _ _ _ _
          (sym (valid-other _ _ _ _ (omega arith) (sym c.has_group_head.ensures ∙ c.if-not-has_group_head.true))) (omega arith);
      whole = λ z. refl;
    }

entry-word-requires : tie.Need-entry_word-above-requires invariant-loop decreases-loop
entry-word-requires c κs = omega arith

mul-base : tie.Need-overflow_mul-base invariant-loop decreases-loop
mul-base c = omega arith

mul-index : tie.Need-overflow_mul-index invariant-loop decreases-loop
mul-index c = omega arith

sub-index : tie.Need-overflow_sub-index invariant-loop decreases-loop
sub-index c = omega arith

loop-holds : tie.Need-loop-k-init invariant-loop decreases-loop
unfolding over
loop-holds c = (refl, omega arith, refl)

word-there-requires : tie.Need-word_there-requires invariant-loop decreases-loop
word-there-requires c κs = omega arith

add-visit : tie.Need-overflow_add-index invariant-loop decreases-loop
add-visit c = omega arith

visit-requires : tie.Need-visit-reached-requires invariant-loop decreases-loop
visit-requires c κs =
    let p = c.requires in
    (omega (arith, p), omega (arith, p), omega (arith, p, c.loop-k.invariant.2), within-reached _ _ _ _ _ _ _ (omega (arith, p)) (omega (arith, p)) c.loop-k.invariant.0 p.9)

-- the group is valid, and the pass has taken one tag more
module _ (c : tie.After-visit-reached invariant-loop decreases-loop) where
  abbrev lent : tie.Start invariant-loop decreases-loop
  lent = c.before.before.before.before.before.before.before.before.before.before

  more : ◌≡◌ {A = Scan} (record { counts = c.visit-reached.new.counts; progress = c.visit-reached.result })
      (
      entered (entry_within lent.args.group.now lent.args.groups lent.args.homes lent.args.start) (7 * lent.args.start) (7 * lent.args.n)
      (c.loop-k.k + 1) (record { counts = lent.args.counts.now; progress = lent.args.progress })
      )
  more =
      let p = c.requires in
      let g : group_valid lent.args.group.now lent.args.groups lent.args.start lent.args.n ≡ true =
      sym (valid-range _ _ _ _ (omega (arith, p)) (sym c.has_group_head.ensures ∙ c.if-not-has_group_head.false) (omega (arith, p)))
      ∙ lt-ltb lent.args.n (lent.args.start + lent.args.groups) (omega (arith, p)) in
      group-turn _ _ _ _ _ _ _ _ _ _ _ _ _ g p.6 (omega arith) (omega (arith, p)) c.word_there.ensures
      (c.visit-reached.ensures _ c.entry_word-above.ensures) c.loop-k.invariant.0

same_length : tie.Need-shape_of-counts-then-reached-ne0 invariant-loop decreases-loop
same_length c = omega arith

returns-2 : tie.Need-returns-then-reached-ne0 invariant-loop decreases-loop
returns-2 c =
    let v = c.before.before.before.before in
    record {
      taken = v.loop-k.k + 1;
      most = omega arith;
      same = more v;
      whole = λ z. absurd (c.if-reached-ne0.true z);
    }

add-k : tie.Need-overflow_add-k invariant-loop decreases-loop
add-k c = omega arith

loop-less : tie.Need-loop-k-smaller invariant-loop decreases-loop
loop-less c = omega arith

loop-again : tie.Need-loop-k-preserved invariant-loop decreases-loop
loop-again c =
    let v = c.before.before.before.before in
    (more v, omega arith, omega (arith, v.visit-reached.auto, v.loop-k.invariant.2))

same-length-2 : tie.Need-shape_of-counts invariant-loop decreases-loop
same-length-2 c = omega arith

returns-3 : tie.Need-returns invariant-loop decreases-loop
returns-3 c =
    record {
      taken = c.loop-k.k;
      most = omega arith;
      same = c.loop-k.invariant.0;
      whole = λ z. omega arith;
    }

pub visit_group_spec : {M : Type 1} → statement M
visit_group_spec =
    tie.close
    (tie.spec
    invariant-loop
    decreases-loop
    has-group-head-requires
    returns
    entry-word-requires
    mul-base
    mul-index
    sub-index
    loop-holds
    word-there-requires
    add-visit
    visit-requires
    same_length
    returns-2
    add-k
    loop-less
    loop-again
    same-length-2
    returns-3)
