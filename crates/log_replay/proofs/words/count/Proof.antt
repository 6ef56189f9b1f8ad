-- `log_replay::count` meets its contract. The loop's invariant: `n` is how many homes of the first `w` words are touched. Assumes nothing.
use mathlib.Core.Path.{◌≡◌, sym, ap, ◌∙◌}
use Prim.Native.Nat.{ℕ, ◌+◌, ◌-◌, ◌*◌, ◌/◌, ◌≤◌}
use native.Mathlib.Omega.{arith}
use lib.ListN.{length}
use Rattle.model.specs.Effects.{marked}
use Rattle.base_bitmap.proofs.MarkedLaws.{marked-zero, length_marked}
use Rattle.log_replay.specs.Words.{touches}
use Rattle.log_replay.proofs.RestoreLaws.{count-more, touched-all}
use Rattle.log_replay.proofs.words.count.Statement.{statement}
use Rattle.log_replay.proofs.words.count.Tie as tie

abbrev invariant-loop : tie.invariant-loop-w
invariant-loop log last heads links groups homes start end slot words n₀ w₀ n w = (n ≡ length (marked (touches log groups homes start end) (64 * w))) × (w ≤ (homes + 63) / 64)

abbrev decreases-loop : tie.decreases-loop-w
decreases-loop log last heads links groups homes start end slot words n₀ w₀ n w = (homes + 63) / 64 - w

first-slot-requires : tie.Need-first_slot-slot-requires invariant-loop decreases-loop
first-slot-requires c κs = omega (arith, c.requires.0.some)

add_words : tie.Need-overflow_add-words invariant-loop decreases-loop
add_words c = omega (arith, c.requires.1)

loop-holds : tie.Need-loop-w-init invariant-loop decreases-loop
loop-holds c = let a = c.args in (sym (ap length (marked-zero (touches a.log.now a.groups a.homes a.start a.end))), omega arith)

count-word-requires : tie.Need-count_word-n-requires invariant-loop decreases-loop
count-word-requires c κs = let p = c.requires in (p.0, p.2, omega (arith, c.loop-w-test.true, p.1), c.first_slot-slot.ensures.same)

-- one word more
more : (c : tie.After-count_word-n invariant-loop decreases-loop)
    → c.loop-w.n + c.count_word-n.result
    ≡ length (marked (touches c.args.log.now c.args.groups c.args.homes c.args.start c.args.end) (64 * (c.loop-w.w + 1)))
more c =
    let a = c.args in
    omega (arith, c.loop-w.invariant.0, c.count_word-n.ensures, count-more a.log.now a.groups a.homes a.start a.end c.requires.0 c.loop-w.w)

add-n : tie.Need-overflow_add-n invariant-loop decreases-loop
add-n c =
    let a = c.args in
    omega (arith, more c, c.loop-w-test.true, c.requires.1, length_marked (touches a.log.now a.groups a.homes a.start a.end) (64 * (c.loop-w.w + 1)))

add-w : tie.Need-overflow_add-w invariant-loop decreases-loop
add-w c = omega (arith, c.requires.1, c.loop-w-test.true)

loop-less : tie.Need-loop-w-smaller invariant-loop decreases-loop
loop-less c = omega arith

loop-again : tie.Need-loop-w-preserved invariant-loop decreases-loop
loop-again c = (more c, omega arith)

returns : tie.Need-returns invariant-loop decreases-loop
returns c =
    let l = c.loop-w in
    let a = c.args in
    let p = c.requires in
    let e : l.w ≡ (a.homes + 63) / 64 = omega (arith, c.loop-w-test.false, l.invariant.1) in
    l.invariant.0 ∙ ap (λ (k : ℕ). length (marked (touches a.log.now a.groups a.homes a.start a.end) (64 * k))) e
    ∙ ap length (touched-all a.log.now a.groups a.homes a.start a.end p.0 (64 * ((a.homes + 63) / 64)) (omega arith))

pub count_spec : {M : Type 1} → statement M
count_spec =
    tie.close
    (tie.spec
    invariant-loop
    decreases-loop
    first-slot-requires
    add_words
    loop-holds
    count-word-requires
    add-n
    add-w
    loop-less
    loop-again
    returns)
