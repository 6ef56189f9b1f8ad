-- `log_replay::count_from` meets its contract. The loop's invariant: `n` is how many homes from the cursor to below `h` are touched. Assumes nothing.
use mathlib.Core.Path.{◌≡◌, sym, ap, ◌∙◌}
use Prim.Native.Nat.{◌+◌, ◌-◌, ◌≤◌, ◌<◌}
use native.Mathlib.Omega.{arith}
use lib.ListN.{length}
use Rattle.log_replay.specs.Words.{touches}
use Rattle.log_replay.specs.Steps.{span}
use Rattle.log_replay.proofs.StepLaws.{span_none, length-on, length-span, span-all}
use Rattle.log_replay.proofs.stepping.count_from.Statement.{statement}
use Rattle.log_replay.proofs.stepping.count_from.Tie as tie

abbrev invariant-loop : tie.invariant-loop-h
invariant-loop log last heads links groups homes start end cursor limit slot n₀ h₀ n h =
    (n ≡ length (span (touches log groups homes start end) cursor (h - cursor))) × (cursor ≤ h) × (cursor < h → h ≤ homes)

abbrev decreases-loop : tie.decreases-loop-h
decreases-loop log last heads links groups homes start end cursor limit slot n₀ h₀ n h = homes - h

first-slot-requires : tie.Need-first_slot-slot-requires invariant-loop decreases-loop
first-slot-requires c κs = omega (arith, c.requires.0.some)

loop-holds : tie.Need-loop-h-init invariant-loop decreases-loop
loop-holds c =
    let a = c.args in
    let e : a.cursor - a.cursor ≡ 0 = omega arith in
    (sym (rw e (ap length (span_none (touches a.log.now a.groups a.homes a.start a.end) a.cursor))), omega arith, λ k. absurd (omega arith))

returns : tie.Need-returns-then-limit-n invariant-loop decreases-loop
returns c =
    let a = c.args in
    let l = c.loop-h in (
      (λ k. absurd (omega (arith, c.if-limit-n.true, k))),
      omega (arith, l.invariant.0, length-on (touches a.log.now a.groups a.homes a.start a.end) a.cursor l.h a.homes l.invariant.1 (omega (arith, c.loop-h-test.true))),
    )

word-end-requires : tie.Need-word_end-upto-requires invariant-loop decreases-loop
word-end-requires c κs = (c.loop-h-test.true, c.requires.1)

count-part-requires : tie.Need-count_part-n-requires invariant-loop decreases-loop
count-part-requires c κs =
    let p = c.requires in
    let e = c.word_end-upto.ensures in
    record {
      walkable = p.0;
      chained = p.2;
      word = omega (arith, c.loop-h-test.true, p.1);
      at = c.first_slot-slot.ensures.same;
      low = omega arith;
      rises = omega (arith, e);
      high = omega (arith, e);
    }

-- one word more
more : (c : tie.After-count_part-n invariant-loop decreases-loop)
    → c.loop-h.n + c.count_part-n.result
    ≡ length (span (touches c.args.log.now c.args.groups c.args.homes c.args.start c.args.end) c.args.cursor (c.word_end-upto.result - c.args.cursor))
more c =
    let a = c.args in
    let l = c.loop-h in
    omega (
      arith,
      l.invariant.0,
      c.count_part-n.ensures,
      length-on (touches a.log.now a.groups a.homes a.start a.end) a.cursor l.h c.word_end-upto.result l.invariant.1
          (omega (arith, c.word_end-upto.ensures)),
    )

add-n : tie.Need-overflow_add-n invariant-loop decreases-loop
add-n c =
    let a = c.args in
    omega (
      arith,
      more c,
      length-span (touches a.log.now a.groups a.homes a.start a.end) a.cursor (c.word_end-upto.result - a.cursor),
      c.word_end-upto.ensures,
      c.requires.1,
    )

loop-less : tie.Need-loop-h-smaller invariant-loop decreases-loop
loop-less c = omega (arith, c.word_end-upto.ensures, c.loop-h-test.true)

loop-again : tie.Need-loop-h-preserved invariant-loop decreases-loop
loop-again c = (more c, omega (arith, c.word_end-upto.ensures, c.loop-h.invariant.1), λ k. omega (arith, c.word_end-upto.ensures))

returns-2 : tie.Need-returns invariant-loop decreases-loop
returns-2 c =
    let l = c.loop-h in
    let a = c.args in
    let e = span-all (touches a.log.now a.groups a.homes a.start a.end) a.cursor l.h a.homes l.invariant.1 l.invariant.2 (omega (arith, c.loop-h-test.false)) in
    ((λ k. l.invariant.0 ∙ ap length e), omega (arith, l.invariant.0, ap length e))

pub count_from_spec : {M : Type 1} → statement M
count_from_spec =
    tie.close
    (tie.spec
    invariant-loop
    decreases-loop
    first-slot-requires
    loop-holds
    returns
    word-end-requires
    count-part-requires
    add-n
    loop-less
    loop-again
    returns-2)
