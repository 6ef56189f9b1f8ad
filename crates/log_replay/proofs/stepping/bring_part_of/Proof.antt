-- `log_replay::bring_part_of` meets its contract. The loop's invariant: the touched homes before `h` are brought back, and their records written; where that makes the
-- limit, the last of them is the home before `h`. Assumes nothing.
use mathlib.Core.Path.{◌≡◌, refl, sym, ap, ◌∙◌}
use mathlib.Core.Bool.{true}
use Prim.Native.Nat.{ℕ, ◌+◌, ◌-◌, ◌*◌, ◌≤◌, ◌<◌}
use native.Mathlib.Omega.{arith}
use lib.ListN.{length}
use Rattle.model.specs.Bytes.{puts}
use Rattle.model.specs.Batch.{batch_bytes}
use Rattle.model.specs.Effects.{home_writes}
use Rattle.model_laws.proofs.bytes.ByteLaws.{length-puts}
use Rattle.log_replay.specs.Words.{touches}
use Rattle.log_replay.specs.Restore.{restored, newest_at}
use Rattle.log_replay.specs.Steps.{span}
use Rattle.log_replay.proofs.RestoreLaws.{length-restored}
use Rattle.log_replay.proofs.StepLaws.{span_none, length-span, word-span, no-touched, code_one, one-most, code-most, length-next, part_none, copied_on, written_on, home-copied, home-written, home-touched, none-stepped}
use Rattle.log_replay.proofs.stepping.bring_part_of.Statement.{statement}
use Rattle.log_replay.proofs.stepping.bring_part_of.Tie as tie

abbrev invariant-loop : tie.invariant-loop-h
invariant-loop log area₀ batch₀ last heads links w from upto groups homes start end slot done limit table bits base n₀ h₀ area batch n h =
    (area ≡ restored log groups (newest_at log groups homes start end) (span (touches log groups homes start end) from (h - from)) area₀)
    × (batch ≡ puts batch₀ (68 * done) (batch_bytes (home_writes area (span (touches log groups homes start end) from (h - from)))))
    × (n ≡ done + length (span (touches log groups homes start end) from (h - from)))
    × (from ≤ h)
    × (h ≤ upto)
    × (n ≤ limit)
    × (done < n → n ≡ limit → (from < h) × (touches log groups homes start end (h - 1) ≡ true))
    × (length area ≡ 64 * homes)
    × (length batch ≡ length batch₀)

abbrev decreases-loop : tie.decreases-loop-h
decreases-loop log area₀ batch₀ last heads links w from upto groups homes start end slot done limit table bits base n₀ h₀ area batch n h = upto - h

sub-if1 : tie.Need-overflow_sub-upto invariant-loop decreases-loop
sub-if1 c = omega (arith, c.requires.0.rises)

sub-if2 : tie.Need-overflow_sub-limit invariant-loop decreases-loop
sub-if2 c = omega (arith, c.requires.4)

mul-bring-chain : tie.Need-overflow_mul-done invariant-loop decreases-loop
mul-bring-chain c = omega (arith, c.requires.4, c.requires.5)

bring-chain-requires : tie.Need-bring_chain-at-requires invariant-loop decreases-loop
bring-chain-requires c κs =
    let q = c.requires in
    let p = q.0 in
    let a = c.args in
    let e = word-span (touches a.log.now a.groups a.homes a.start a.end) a.w a.from a.upto p.low p.rises p.high c.if-upto-from-eq64.true in
    let n = length-span (touches a.log.now a.groups a.homes a.start a.end) a.from (a.upto - a.from) in
    (p.walkable, q.2, p.chained, p.word, p.at, q.3, omega (arith, ap length e, n, q.6, c.if-limit-done-gt64.true, c.if-upto-from-eq64.true))

same_length : tie.Need-shape_of-area-then-limit-done-gt64 invariant-loop decreases-loop
same_length c = omega (arith, c.bring_chain-at.auto)

same-length-2 : tie.Need-shape_of-batch-then-limit-done-gt64 invariant-loop decreases-loop
same-length-2 c = omega (arith, c.bring_chain-at.auto)

returns : tie.Need-returns-then-limit-done-gt64 invariant-loop decreases-loop
returns c =
    let q = c.requires in
    let p = q.0 in
    let a = c.args in
    let b = c.bring_chain-at.ensures in
    let e = word-span (touches a.log.now a.groups a.homes a.start a.end) a.w a.from a.upto p.low p.rises p.high c.if-upto-from-eq64.true in
    let n = length-span (touches a.log.now a.groups a.homes a.start a.end) a.from (a.upto - a.from) in
    let z : a.upto - a.upto ≡ 0 = omega arith in (
      record {
        rises = p.rises;
        within = omega arith;
        counted = omega (arith, b.0, ap length e);
        most = omega (arith, b.0, ap length e, n, c.if-limit-done-gt64.true, c.if-upto-from-eq64.true);
        full = λ k. absurd (omega (arith, k));
        last_done = λ k j. absurd (omega (arith, j, b.0, ap length e, n, c.if-limit-done-gt64.true, c.if-upto-from-eq64.true));
        copied = rw e at b.1.0;
        written = rw e at b.1.1;
      },
      sym (rw z (ap length (span_none (touches a.log.now a.groups a.homes a.start a.end) a.upto))),
    )

slice-aggregate-newest-in : tie.Need-slice_bounds-newest_in-end invariant-loop decreases-loop
slice-aggregate-newest-in c = refl

newest-in-requires : tie.Need-newest_in-bits-requires invariant-loop decreases-loop
newest-in-requires c κs = let p = c.requires.0 in (p.walkable, p.chained, p.word, p.at, refl)

returns-2 : tie.Need-returns-then-bits-eq0 invariant-loop decreases-loop
returns-2 c =
    let q = c.requires in
    let p = q.0 in
    let a = c.args in
    let e = part_none _ _ _ _ _ p.walkable a.w (no-touched _ _ _ _ _ p.walkable _ _ _ c.newest_in-bits.ensures c.if-bits-eq0.true) a.from a.upto p.low p.rises p.high in
    let n = none-stepped _ _ _ _ _ p.walkable _ e a.done a.area.now a.batch.now (68 * a.done) in
    let z : a.upto - a.upto ≡ 0 = omega arith in (
      record {
        rises = p.rises;
        within = omega arith;
        counted = n.0;
        most = omega (arith, q.4);
        full = λ k. absurd (omega (arith, k));
        last_done = λ k. absurd (omega (arith, k));
        copied = n.1;
        written = n.2;
      },
      sym (rw z (ap length (span_none (touches a.log.now a.groups a.homes a.start a.end) a.upto))),
    )

mul-base : tie.Need-overflow_mul-base invariant-loop decreases-loop
mul-base c = omega (arith, c.requires.0.word)

loop-holds : tie.Need-loop-h-init invariant-loop decreases-loop
loop-holds c =
    let q = c.requires in
    let p = q.0 in
    let a = c.args in
    let e : a.from - a.from ≡ 0 = omega arith in
    let n =
    none-stepped _ _ _ _ _ p.walkable (span (touches a.log.now a.groups a.homes a.start a.end) a.from (a.from - a.from)) (rw e (span_none (touches a.log.now a.groups a.homes a.start a.end) a.from)) a.done a.area.now
    a.batch.now (68 * a.done) in
    (n.1, n.2, n.0, omega arith, p.rises, omega (arith, q.4), (λ k. absurd (omega (arith, k))), q.3, refl)

slice-aggregate-codes-left : tie.Need-slice_bounds-codes_left-end invariant-loop decreases-loop
slice-aggregate-codes-left c = sym c.newest_in-bits.ensures.each

codes-left-requires : tie.Need-codes_left-requires invariant-loop decreases-loop
codes-left-requires c κs =
    let p = c.requires.0 in
    let i = c.loop-h.invariant in
    (c.newest_in-bits.ensures.each, p.word, omega (arith, p.low, i.3), i.4, p.high)

same-length-3 : tie.Need-shape_of-area-then-n-limit invariant-loop decreases-loop
same-length-3 c = omega (arith, c.loop-h.invariant.7, c.requires.3)

same-length-4 : tie.Need-shape_of-batch-then-n-limit invariant-loop decreases-loop
same-length-4 c = c.loop-h.invariant.8

returns-3 : tie.Need-returns-then-n-limit invariant-loop decreases-loop
returns-3 c =
    let i = c.loop-h.invariant in (
      record { rises = i.3; within = i.4; counted = i.2; most = i.5; full = λ k. c.if-n-limit.true; last_done = i.6; copied = i.0; written = i.1 },
      c.codes_left.ensures _ _ _ _ _ _ c.requires.0.walkable c.newest_in-bits.ensures,
    )

sub-code : tie.Need-overflow_sub-code invariant-loop decreases-loop
sub-code c = omega (arith, c.requires.0.low, c.loop-h.invariant.3)

mul-code : tie.Need-offset_bounds-table-h invariant-loop decreases-loop
mul-code c = omega (arith, c.requires.0.low, c.requires.0.high, c.loop-h.invariant.3, c.loop-h-test.true)

array-read-code : tie.Need-bounds-table-h invariant-loop decreases-loop
array-read-code c = omega (arith, c.requires.0.low, c.requires.0.high, c.loop-h.invariant.3, c.loop-h-test.true)

bring-home-requires : tie.Need-bring_home-n-requires invariant-loop decreases-loop
bring-home-requires c κs =
    let q = c.requires in
    let p = q.0 in
    let a = c.args in
    let l = c.loop-h in (
      p.walkable.long,
      p.walkable.most,
      p.walkable.some,
      p.walkable.low,
      p.at,
      code-most _ _ _ _ _ p.walkable a.w _ _ c.newest_in-bits.ensures l.h (omega (arith, p.low, l.invariant.3)) (omega (arith, p.high, c.loop-h-test.true)),
      omega (arith, l.invariant.7, c.loop-h-test.true, q.1),
      omega (arith, l.invariant.8, l.invariant.5, c.if-n-limit.false, q.6),
      omega (arith, c.loop-h-test.true, q.1, q.2),
    )

add-h : tie.Need-overflow_add-h invariant-loop decreases-loop
add-h c = omega (arith, c.loop-h-test.true, c.requires.1, c.requires.2)

loop-less : tie.Need-loop-h-smaller invariant-loop decreases-loop
loop-less c = omega (arith, c.loop-h-test.true)

loop-again : tie.Need-loop-h-preserved invariant-loop decreases-loop
loop-again c =
    let q = c.requires in
    let p = q.0 in
    let a = c.args in
    let l = c.loop-h in
    let n = c.newest_in-bits.ensures in
    let b = c.bring_home-n.ensures in
    let lo : 64 * a.w ≤ l.h = omega (arith, p.low, l.invariant.3) in
    let hi : l.h < 64 * a.w + 64 = omega (arith, p.high, c.loop-h-test.true) in
    let y = home-copied _ _ _ _ _ p.walkable a.w _ _ n l.h lo hi _ _ b.1.0 in
    let x = home-written _ _ _ _ _ p.walkable a.w _ _ n l.h lo hi _ _ _ _ b.1.1 in
    let e : 68 * a.done + 68 * length (span (touches a.log.now a.groups a.homes a.start a.end) a.from (l.h - a.from)) ≡ 68 * l.n = omega (arith, l.invariant.2) in (
      copied_on _ _ _ _ _ p.walkable a.from l.h (l.h + 1) l.invariant.3 (omega arith) _ _ _ l.invariant.0 y,
      written_on _ _ _ _ _ p.walkable a.from l.h (l.h + 1) l.invariant.3 (omega arith) _ _ _ _ _ (68 * a.done) l.invariant.7 y l.invariant.1 (rw e x),
      omega (arith, b.0 ∙ ap (λ (k : ℕ). l.n + k) (code_one _ _ _ _ _ p.walkable a.w _ _ n l.h lo hi), l.invariant.2, length-next a.log.now a.groups a.homes a.start a.end p.walkable a.from l.h l.invariant.3),
      omega (arith, l.invariant.3),
      omega (arith, c.loop-h-test.true),
      omega (arith, b.0 ∙ ap (λ (k : ℕ). l.n + k) (code_one _ _ _ _ _ p.walkable a.w _ _ n l.h lo hi), one-most (touches a.log.now a.groups a.homes a.start a.end l.h) l.h, l.invariant.5, c.if-n-limit.false),
      (λ k j. (omega (arith, l.invariant.3), (let s : l.h + 1 - 1 ≡ l.h = omega arith in rw s (home-touched _ _ _ _ _ p.walkable a.w _ _ n l.h lo hi l.n _ b.0 (omega (arith, j, l.invariant.5, c.if-n-limit.false)))))),
      ap length y ∙ length-restored _ _ _ _ _ ∙ l.invariant.7,
      ap length x ∙ length-puts _ _ _ ∙ l.invariant.8,
    )

same-length-5 : tie.Need-shape_of-area invariant-loop decreases-loop
same-length-5 c = omega (arith, c.loop-h.invariant.7, c.requires.3)

same-length-6 : tie.Need-shape_of-batch invariant-loop decreases-loop
same-length-6 c = c.loop-h.invariant.8

returns-4 : tie.Need-returns invariant-loop decreases-loop
returns-4 c =
    let l = c.loop-h in
    let i = l.invariant in
    let a = c.args in
    let z : a.upto - l.h ≡ 0 = omega (arith, c.loop-h-test.false, i.4) in (
      record { rises = i.3; within = i.4; counted = i.2; most = i.5; full = λ k. absurd (omega (arith, k, c.loop-h-test.false)); last_done = i.6; copied = i.0; written = i.1 },
      sym (rw z (ap length (span_none (touches a.log.now a.groups a.homes a.start a.end) l.h))),
    )

pub bring_part_of_spec : {M : Type 1} → statement M
bring_part_of_spec =
    tie.close
    (tie.spec
    invariant-loop
    decreases-loop
    sub-if1
    sub-if2
    mul-bring-chain
    bring-chain-requires
    same_length
    same-length-2
    returns
    slice-aggregate-newest-in
    newest-in-requires
    returns-2
    mul-base
    loop-holds
    slice-aggregate-codes-left
    codes-left-requires
    same-length-3
    same-length-4
    returns-3
    sub-code
    mul-code
    array-read-code
    bring-home-requires
    add-h
    loop-less
    loop-again
    same-length-5
    same-length-6
    returns-4)
