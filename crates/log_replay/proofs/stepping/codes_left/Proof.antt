-- `log_replay::codes_left` meets its contract. The loop's invariant: `n` is how many homes before `h` are touched. Assumes nothing.
use mathlib.Core.Path.{◌≡◌, sym, ap, ◌∙◌}
use mathlib.Core.Bool.{Bool, true, false, cond}
use mathlib.Core.List.{List}
use Prim.Native.Nat.{ℕ, ◌+◌, ◌-◌, ◌*◌, ◌≤◌}
use native.Mathlib.Omega.{arith}
use lib.Dec.{eqb}
use lib.ListN.{length, get_or}
use Rattle.log_scan.specs.Walk.{Walkable}
use Rattle.log_replay.specs.Words.{Newest, touches}
use Rattle.log_replay.specs.Steps.{span}
use Rattle.log_replay.proofs.StepLaws.{span_none, code_one, length-next}
use Rattle.log_replay.proofs.stepping.codes_left.Statement.{statement}
use Rattle.log_replay.proofs.stepping.codes_left.Tie as tie

abbrev invariant-loop : tie.invariant-loop-h
invariant-loop table w from upto base n₀ h₀ n h =
    ((log : List ℕ) (groups homes start end bits : ℕ) → Walkable log groups start end → Newest log groups homes start end w table bits
    → n ≡ length (span (touches log groups homes start end) from (h - from)))
    × (from ≤ h)
    × (h ≤ upto)
    × (n ≤ h - from)

abbrev decreases-loop : tie.decreases-loop-h
decreases-loop table w from upto base n₀ h₀ n h = upto - h

mul-base : tie.Need-overflow_mul-base invariant-loop decreases-loop
mul-base c = omega (arith, c.requires)

loop-holds : tie.Need-loop-h-init invariant-loop decreases-loop
loop-holds c = let p = c.requires in (none c, omega arith, p.3, omega arith)
  where
    none : (c : tie.After-shared_slice_known-1 invariant-loop decreases-loop) (log : List ℕ) (groups homes start end bits : ℕ) → Walkable log groups start end
        → Newest log groups homes start end c.args.w c.args.table.now bits
        → 0 ≡ length (span (touches log groups homes start end) c.args.from (c.args.from - c.args.from))
    none c log groups homes start end bits k n =
        let e : c.args.from - c.args.from ≡ 0 = omega arith in
        sym (rw e (ap length (span_none (touches log groups homes start end) c.args.from)))

sub-one-if : tie.Need-overflow_sub-h invariant-loop decreases-loop
sub-one-if c = omega (arith, c.requires, c.loop-h.invariant.1)

mul-one-if : tie.Need-offset_bounds-table-h invariant-loop decreases-loop
mul-one-if c = omega (arith, c.requires, c.loop-h.invariant.1, c.loop-h-test.true)

shared-slice-read-one-if : tie.Need-bounds-table-h invariant-loop decreases-loop
shared-slice-read-one-if c = omega (arith, c.requires, c.loop-h.invariant.1, c.loop-h-test.true)

one-if-requires : tie.Need-one_if-n-requires invariant-loop decreases-loop
one-if-requires c κs = tt

-- a code counts as one at most
few : (code r : ℕ) → r ≡ cond (eqb code 0) 0 1 → r ≤ 1
few code r e = go (eqb code 0) e
  where
    go : (b : Bool) → r ≡ cond b 0 1 → r ≤ 1
    go true e = omega arith
    go false e = omega arith

one-few : (c : tie.After-one_if-n invariant-loop decreases-loop) → c.one_if-n.result ≤ 1
one-few c =
    let a = c.args in
    few (get_or a.table.now (c.loop-h.h - 64 * a.w) 0) _ c.one_if-n.ensures

add-n : tie.Need-overflow_add-n invariant-loop decreases-loop
add-n c = omega (arith, one-few c, c.loop-h.invariant.3, c.loop-h-test.true, c.requires)

add-h : tie.Need-overflow_add-h invariant-loop decreases-loop
add-h c = omega (arith, c.loop-h-test.true, c.requires)

loop-less : tie.Need-loop-h-smaller invariant-loop decreases-loop
loop-less c = omega (arith, c.loop-h-test.true)

loop-again : tie.Need-loop-h-preserved invariant-loop decreases-loop
loop-again c =
    let l = c.loop-h in
    let t = c.loop-h-test.true in
    (more c, omega (arith, l.invariant.1), omega (arith, t), omega (arith, one-few c, l.invariant.3, l.invariant.1))
  where
    more : (c : tie.After-one_if-n invariant-loop decreases-loop) (log : List ℕ) (groups homes start end bits : ℕ) → Walkable log groups start end
        → Newest log groups homes start end c.args.w c.args.table.now bits
        → c.loop-h.n + c.one_if-n.result
        ≡ length (span (touches log groups homes start end) c.args.from
        (c.loop-h.h + 1 - c.args.from))
    more c log groups homes start end bits k n =
        let a = c.args in
        let p = c.requires in
        let l = c.loop-h in
        omega (
          arith,
          l.invariant.0 log groups homes start end bits k n,
          c.one_if-n.ensures
              ∙ code_one log groups homes start end k a.w _ bits n l.h (omega (arith, p, l.invariant.1)) (omega (arith, p, c.loop-h-test.true)),
          length-next log groups homes start end k a.from l.h l.invariant.1,
        )

returns : tie.Need-returns invariant-loop decreases-loop
returns c log groups homes start end bits k n =
    let l = c.loop-h in
    let a = c.args in
    let e : l.h ≡ a.upto = omega (arith, c.loop-h-test.false, l.invariant.2) in
    l.invariant.0 log groups homes start end bits k n ∙ ap (λ (h : ℕ). length (span (touches log groups homes start end) a.from (h - a.from))) e

pub codes_left_spec : {M : Type 1} → statement M
codes_left_spec =
    tie.close
    (tie.spec
    invariant-loop
    decreases-loop
    mul-base
    loop-holds
    sub-one-if
    mul-one-if
    shared-slice-read-one-if
    one-if-requires
    add-n
    add-h
    loop-less
    loop-again
    returns)
