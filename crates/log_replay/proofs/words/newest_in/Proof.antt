-- `log_replay::newest_in` meets its contract. The loop's invariant: the entries of the chain from `code` on have been taken, and `code` is one past the
-- last entry before them. Assumes nothing.
use mathlib.Core.Path.{◌≡◌, sym, ap}
use Prim.Native.Nat.{ℕ, suc, ◌-◌, ◌*◌, ◌≤◌, ◌<◌}
use native.Mathlib.Omega.{arith}
use lib.ListN.{length, get_or}
use Rattle.model.specs.Layout.{entry_at}
use Rattle.model.specs.declared.Tag.{Tag}
use Rattle.log_scan.proofs.ScanLaws.{placed}
use Rattle.log_gather.specs.Chains.{top, Chained}
use Rattle.log_replay.specs.Words.{unseen}
use Rattle.log_gather.proofs.ChainLaws.{top-most, top_again, top_in}
use Rattle.log_replay.proofs.NewestLaws.{Agrees, agrees_start, agrees-next, present-in, newest-all}
use Rattle.log_replay.proofs.words.newest_in.Statement.{statement}
use Rattle.log_replay.proofs.words.newest_in.Tie as tie

abbrev invariant-loop : tie.invariant-loop-code
invariant-loop log last heads links table₀ w groups homes start end slot closers₀ map₀ code₀ table closers map code =
    (
    (ch : Chained log groups homes start end last heads links)
    → Agrees (entry_at log groups homes start) (7 * start) (end - 7 * start) ch.reach w code (record { closers = closers; table = table; map = map })
    × (code ≤ ch.reach)
    )
    × (top (entry_at log groups homes start) (7 * start) w code ≡ code)

abbrev decreases-loop : tie.decreases-loop-code
decreases-loop log last heads links table₀ w groups homes start end slot closers₀ map₀ code₀ table closers map code = code

mul-code : tie.Need-offset_bounds-heads-w invariant-loop decreases-loop
mul-code c = omega (arith, c.requires.1.room.words)

shared-slice-read-code : tie.Need-bounds-heads-w invariant-loop decreases-loop
shared-slice-read-code c = omega (arith, c.requires.1.room.words)

loop-holds : tie.Need-loop-code-init invariant-loop decreases-loop
unfolding unseen
loop-holds c =
    let p = c.requires in
    let a = c.args in
    let tags = entry_at a.log.now a.groups a.homes a.start in
    let N = a.end - 7 * a.start in
    let e = p.1.head a.w p.2 in (
      λ ch. rw (ch.head a.w p.2) (agrees_start tags (7 * a.start) N ch.reach a.w _ (rw p.4), top-most tags (7 * a.start) a.w ch.reach),
      rw e (top_again tags (7 * a.start) a.w p.1.reach),
    )

-- the next entry of the chain: its offset, and that it is for the word
offset-below : (c : tie.In-loop-code invariant-loop decreases-loop)
    → (suc (c.loop-code.code - 1) ≡ c.loop-code.code) × (c.loop-code.code - 1 < c.requires.1.reach)
offset-below c = (omega (arith, c.loop-code-test.true), omega (arith, c.loop-code-test.true, (c.loop-code.invariant.0 c.requires.1).1))

cast-offset : tie.Need-overflow_cast-offset invariant-loop decreases-loop
cast-offset c = omega (arith, c.requires.1.inside, c.requires.0.most, (c.loop-code.invariant.0 c.requires.1).1)

sub-offset : tie.Need-overflow_sub-offset invariant-loop decreases-loop
sub-offset c = omega (arith, c.loop-code-test.true)

slice-aggregate-take-at : tie.Need-slice_bounds-take_at-end invariant-loop decreases-loop
slice-aggregate-take-at c = sym (c.loop-code.invariant.0 c.requires.1).0.room.closing

slice-aggregate-take-at-2 : tie.Need-slice_bounds-take_at-end-in-loop-code invariant-loop decreases-loop
slice-aggregate-take-at-2 c = sym (c.loop-code.invariant.0 c.requires.1).0.room.words

take-at-requires : tie.Need-take_at-requires invariant-loop decreases-loop
take-at-requires c κs =
    let p = c.requires in
    let a = c.args in
    let l = c.loop-code in
    let o = offset-below c.before.before.before in
    let t = rw (← o.0) at l.invariant.1 in (
      p.0.long,
      p.0.most,
      p.0.some,
      p.0.low,
      omega (arith, o.1, p.1.inside),
      p.3,
      present-in a.w _ (top_in (entry_at a.log.now a.groups a.homes a.start) (7 * a.start) a.w (l.code - 1) (rw o.0 l.invariant.1)),
      p.1.long,
      (l.invariant.0 p.1).0.room,
    )

mul-code-2 : tie.Need-offset_bounds-links-offset invariant-loop decreases-loop
mul-code-2 c = omega (arith, (offset-below c.before.before.before.before.before.before.before.before).1, c.requires.1.inside, c.requires.0.most, c.requires.1.long, c.requires.1.room.each)

shared-slice-read-code-2 : tie.Need-bounds-links-offset invariant-loop decreases-loop
shared-slice-read-code-2 c = omega (arith, (offset-below c.before.before.before.before.before.before.before.before.before).1, c.requires.1.inside, c.requires.1.long, c.requires.1.room.each)

-- what the chain's link says
module _ (c : tie.After-shared_slice_known-in-loop-code-1 invariant-loop decreases-loop) where
  abbrev tags : ℕ → Tag
  tags = entry_at c.args.log.now c.args.groups c.args.homes c.args.start

  code-top : top tags (7 * c.args.start) c.args.w (suc (c.loop-code.code - 1)) ≡ suc (c.loop-code.code - 1)
  code-top = rw (offset-below c.before.before.before.before.before.before.before.before.before).0 c.loop-code.invariant.1

  link-top : get_or c.args.links.now (c.loop-code.code - 1) 0 ≡ top tags (7 * c.args.start) c.args.w (c.loop-code.code - 1)
  link-top =
      c.requires.1.link (c.loop-code.code - 1) (offset-below c.before.before.before.before.before.before.before.before.before).1 c.args.w
      (top_in tags (7 * c.args.start) c.args.w (c.loop-code.code - 1) code-top)

loop-less : tie.Need-loop-code-smaller invariant-loop decreases-loop
loop-less c = omega (arith, link-top c, top-most (tags c) (7 * c.args.start) c.args.w (c.loop-code.code - 1), c.loop-code-test.true)

loop-again : tie.Need-loop-code-preserved invariant-loop decreases-loop
loop-again c =
    let p = c.requires in
    let a = c.args in
    let l = c.loop-code in
    let o = offset-below c.before.before.before.before.before.before.before.before.before in
    rw (link-top c) (
      λ ch. (
        agrees-next (tags c) (7 * a.start) (a.end - 7 * a.start) ch.reach a.w a.last.now (placed _ _ _ _) ch.closing (l.code - 1) _ _
            (omega (arith, o.0, (l.invariant.0 ch).1)) (omega (arith, ch.inside, ch.long)) (code-top c) (rw o.0 (l.invariant.0 ch).0) c.take_at.ensures,
        omega (arith, top-most (tags c) (7 * a.start) a.w (l.code - 1), o.0, (l.invariant.0 ch).1),
      ),
      top_again (tags c) (7 * a.start) a.w (l.code - 1),
    )

array-read-result : tie.Need-bounds-map-0 invariant-loop decreases-loop
array-read-result c = omega (arith, (c.loop-code.invariant.0 c.requires.1).0.room.words)

same_length : tie.Need-shape_of-table invariant-loop decreases-loop
same_length c = omega (arith, (c.loop-code.invariant.0 c.requires.1).0.room.each, ap length c.requires.4)

returns : tie.Need-returns invariant-loop decreases-loop
returns c =
    let l = c.loop-code in
    let e : l.code ≡ 0 = omega (arith, c.loop-code-test.false) in
    let p = c.requires.1 in
    newest-all _ _ _ _ _ _ _ _ _ _ p.covers p.inside (rw e at (l.invariant.0 p).0)

pub newest_in_spec : {M : Type 1} → statement M
newest_in_spec =
    tie.close
    (tie.spec
    invariant-loop
    decreases-loop
    mul-code
    shared-slice-read-code
    loop-holds
    cast-offset
    sub-offset
    slice-aggregate-take-at
    slice-aggregate-take-at-2
    take-at-requires
    mul-code-2
    shared-slice-read-code-2
    loop-less
    loop-again
    array-read-result
    same_length
    returns)
