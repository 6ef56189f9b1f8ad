-- `log_replay::bring_from` meets its contract. The loop's invariant: the touched homes from the cursor to below `h` are brought back, and their records written, and
-- they are below the limit. Assumes nothing.
use mathlib.Core.Path.{◌≡◌, refl, sym, ap, ◌∙◌}
use Prim.Native.Nat.{◌-◌, ◌*◌, ◌≤◌, ◌<◌}
use native.Mathlib.Omega.{arith}
use lib.ListN.{length}
use Rattle.model.specs.Bytes.{puts}
use Rattle.model.specs.Batch.{batch_bytes}
use Rattle.model.specs.Effects.{home_writes}
use Rattle.model_laws.proofs.bytes.ByteLaws.{length-puts}
use Rattle.log_replay.specs.Words.{touches}
use Rattle.log_replay.specs.Restore.{restored, newest_at}
use Rattle.log_replay.specs.Steps.{span}
use Rattle.log_replay.proofs.RestoreLaws.{length-restored}
use Rattle.log_replay.proofs.StepLaws.{span_none, span-all, none-stepped, stepped-on, stepped-whole, left_here, left-later, left-none, left-all}
use Rattle.log_replay.proofs.stepping.bring_from.Statement.{statement}
use Rattle.log_replay.proofs.stepping.bring_from.Tie as tie

abbrev invariant-loop : tie.invariant-loop-h
invariant-loop log area₀ batch₀ last heads links groups homes start end cursor limit slot n₀ h₀ area batch n h =
    (area ≡ restored log groups (newest_at log groups homes start end) (span (touches log groups homes start end) cursor (h - cursor)) area₀)
    × (batch ≡ puts batch₀ 0 (batch_bytes (home_writes area (span (touches log groups homes start end) cursor (h - cursor)))))
    × (n ≡ length (span (touches log groups homes start end) cursor (h - cursor)))
    × (cursor ≤ h)
    × (cursor < h → h ≤ homes)
    × (n < limit)
    × (length area ≡ 64 * homes)
    × (length batch ≡ length batch₀)

abbrev decreases-loop : tie.decreases-loop-h
decreases-loop log area₀ batch₀ last heads links groups homes start end cursor limit slot n₀ h₀ area batch n h = homes - h

count-from-requires : tie.Need-count_from-requires invariant-loop decreases-loop
count-from-requires c κs = let p = c.requires in (p.0, p.1, p.2)

returns : tie.Need-returns-then-limit-eq0 invariant-loop decreases-loop
returns c =
    let q = c.requires in
    let a = c.args in
    let e : a.cursor - a.cursor ≡ 0 = omega arith in
    let n = none-stepped _ _ _ _ _ q.0 (span (touches a.log.now a.groups a.homes a.start a.end) a.cursor (a.cursor - a.cursor)) (rw e (span_none (touches a.log.now a.groups a.homes a.start a.end) a.cursor)) 0 a.area.now a.batch.now 0 in (
      record {
        rises = omega arith;
        within = omega arith;
        counted = n.0;
        most = omega arith;
        full = λ k. absurd (omega (arith, k));
        last_done = λ k. absurd (omega (arith, k));
        copied = n.1;
        written = n.2;
      },
      left-all _ _ _ _ _ q.0 _ _ _ c.if-limit-eq0.true c.count_from.ensures.0 c.count_from.ensures.1,
    )

first-slot-requires : tie.Need-first_slot-slot-requires invariant-loop decreases-loop
first-slot-requires c κs = omega (arith, c.requires.0.some)

loop-holds : tie.Need-loop-h-init invariant-loop decreases-loop
loop-holds c =
    let q = c.requires in
    let a = c.args in
    let e : a.cursor - a.cursor ≡ 0 = omega arith in
    let n = none-stepped _ _ _ _ _ q.0 (span (touches a.log.now a.groups a.homes a.start a.end) a.cursor (a.cursor - a.cursor)) (rw e (span_none (touches a.log.now a.groups a.homes a.start a.end) a.cursor)) 0 a.area.now a.batch.now 0 in
    (n.1, n.2, omega (arith, n.0), omega arith, (λ k. absurd (omega (arith, k))), omega (arith, c.if-limit-eq0.false), q.3, refl)

word-end-requires : tie.Need-word_end-upto-requires invariant-loop decreases-loop
word-end-requires c κs = (c.loop-h-test.true, c.requires.1)

bring-part-requires : tie.Need-bring_part-reached-requires invariant-loop decreases-loop
bring-part-requires c κs =
    let q = c.requires in
    let e = c.word_end-upto.ensures in
    let i = c.loop-h.invariant in (
      record {
        walkable = q.0;
        chained = q.2;
        word = omega (arith, c.loop-h-test.true, q.1);
        at = c.first_slot-slot.ensures.same;
        low = omega arith;
        rises = omega (arith, e);
        high = omega (arith, e);
      },
      e.1,
      q.1,
      i.6,
      i.5,
      q.5,
      omega (arith, q.4, i.7),
    )

same_length : tie.Need-shape_of-area-then-reached-ne0 invariant-loop decreases-loop
same_length c =
    let s = c.bring_part-reached.ensures.0 in
    ap length s.copied ∙ length-restored _ _ _ _ _ ∙ omega (arith, c.loop-h.invariant.6, c.requires.3)

same-length-2 : tie.Need-shape_of-batch-then-reached-ne0 invariant-loop decreases-loop
same-length-2 c = let s = c.bring_part-reached.ensures.0 in ap length s.written ∙ length-puts _ _ _ ∙ c.loop-h.invariant.7

returns-2 : tie.Need-returns-then-reached-ne0 invariant-loop decreases-loop
returns-2 c =
    let q = c.requires in
    let s = c.bring_part-reached.ensures in
    let i = c.loop-h.invariant in
    let t = stepped-on _ _ _ _ _ q.0 _ _ _ _ _ _ _ _ _ _ _ _ _ _ i.0 i.1 i.2 i.3 i.5 i.6 refl s.0 in (
      t,
      left_here _ _ _ _ _ q.0 _ _ _ _ _ _ t.rises s.0.within c.word_end-upto.ensures.1 c.if-reached-limit.true (omega (arith, t.counted)) s.1 c.if-reached-ne0.true,
    )

count-from-requires-2 : tie.Need-count_from-requires-then-reached-limit invariant-loop decreases-loop
count-from-requires-2 c κs = let p = c.requires in (p.0, p.1, p.2)

same-length-3 : tie.Need-shape_of-area-then-reached-limit invariant-loop decreases-loop
same-length-3 c =
    let s = c.bring_part-reached.ensures.0 in
    ap length s.copied ∙ length-restored _ _ _ _ _ ∙ omega (arith, c.loop-h.invariant.6, c.requires.3)

same-length-4 : tie.Need-shape_of-batch-then-reached-limit invariant-loop decreases-loop
same-length-4 c = let s = c.bring_part-reached.ensures.0 in ap length s.written ∙ length-puts _ _ _ ∙ c.loop-h.invariant.7

returns-3 : tie.Need-returns-then-reached-limit invariant-loop decreases-loop
returns-3 c =
    let q = c.requires in
    let s = c.bring_part-reached.ensures in
    let i = c.loop-h.invariant in
    let t = stepped-on _ _ _ _ _ q.0 _ _ _ _ _ _ _ _ _ _ _ _ _ _ i.0 i.1 i.2 i.3 i.5 i.6 (sym c.if-reached-limit.true) s.0 in (
      t,
      left-later _ _ _ _ _ q.0 _ _ _ _ _ _ t.rises s.0.within c.word_end-upto.ensures.1 refl (omega (arith, t.counted))
          (sym s.1 ∙ c.if-reached-ne0.false) c.count_from-then-reached-limit.ensures.0 c.count_from-then-reached-limit.ensures.1,
    )

loop-less : tie.Need-loop-h-smaller invariant-loop decreases-loop
loop-less c = omega (arith, c.word_end-upto.ensures, c.loop-h-test.true)

loop-again : tie.Need-loop-h-preserved invariant-loop decreases-loop
loop-again c =
    let q = c.requires in
    let s = c.bring_part-reached.ensures.0 in
    let i = c.loop-h.invariant in
    let t = stepped-on _ _ _ _ _ q.0 _ _ _ _ _ _ _ _ _ _ _ _ _ _ i.0 i.1 i.2 i.3 i.5 i.6 refl s in
    let e = stepped-whole _ _ _ _ _ q.0 _ _ _ _ _ _ _ _ _ _ s c.if-reached-limit.false in
    let w = c.word_end-upto.ensures in
    let u = rw e at t.counted in (
      rw e at t.copied,
      rw e at t.written,
      omega (arith, u),
      omega (arith, i.3, w.0),
      (λ k. w.1),
      omega (arith, s.most, c.if-reached-limit.false),
      ap length s.copied ∙ length-restored _ _ _ _ _ ∙ i.6,
      ap length s.written ∙ length-puts _ _ _ ∙ i.7,
    )

same-length-5 : tie.Need-shape_of-area invariant-loop decreases-loop
same-length-5 c = omega (arith, c.loop-h.invariant.6, c.requires.3)

same-length-6 : tie.Need-shape_of-batch invariant-loop decreases-loop
same-length-6 c = c.loop-h.invariant.7

returns-4 : tie.Need-returns invariant-loop decreases-loop
returns-4 c =
    let l = c.loop-h in
    let i = l.invariant in
    let a = c.args in
    let z = span-all (touches a.log.now a.groups a.homes a.start a.end) a.cursor l.h a.homes i.3 i.4 (omega (arith, c.loop-h-test.false)) in (
      record {
        rises = i.3;
        within = omega arith;
        counted = omega (arith, i.2);
        most = omega (arith, i.5);
        full = λ k. absurd (omega (arith, k));
        last_done = λ k j. absurd (omega (arith, j, i.5));
        copied = i.0;
        written = i.1;
      },
      left-none _ _ _ _ _ c.requires.0 _ _ _ (i.2 ∙ ap length z),
    )

pub bring_from_spec : {M : Type 1} → statement M
bring_from_spec =
    tie.close
    (tie.spec
    invariant-loop
    decreases-loop
    count-from-requires
    returns
    first-slot-requires
    loop-holds
    word-end-requires
    bring-part-requires
    same_length
    same-length-2
    returns-2
    count-from-requires-2
    same-length-3
    same-length-4
    returns-3
    loop-less
    loop-again
    same-length-5
    same-length-6
    returns-4)
