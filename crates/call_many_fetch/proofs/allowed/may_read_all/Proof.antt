-- `call_many_fetch::may_read_all` meets its contract. The loop's invariant: each home below home + i is open to the writer. Assumes nothing.
use mathlib.Core.Path.{◌≡◌, ap}
use mathlib.Core.Bool.{true, not}
use Prim.Native.Nat.{◌+◌, ◌-◌, ◌≤◌}
use native.Mathlib.Omega.{arith}
use Rattle.acts.specs.Many.{all_of}
use Rattle.call_many_fetch.proofs.AllowedLaws.{all_none, all_more, all-refused, all_done, read_test, read-test}
use Rattle.call_many_fetch.proofs.allowed.may_read_all.Statement.{statement}
use Rattle.call_many_fetch.proofs.allowed.may_read_all.Tie as tie

abbrev invariant-loop : tie.invariant-loop-i
invariant-loop log area state newest writer home n i₀ i =
    (i ≤ n) × (all_of (read_test log area state newest writer) home i ≡ true)

abbrev decreases-loop : tie.decreases-loop-i
decreases-loop log area state newest writer home n i₀ i =
    n - i

loop-holds : tie.Need-loop-i-init invariant-loop decreases-loop
loop-holds c =
    (omega arith, all_none _ _)

add-may-read : tie.Need-overflow_add-home invariant-loop decreases-loop
add-may-read c =
    let u = c.requires.0 in omega (arith, u.homes-most)

may-read-requires : tie.Need-may_read-requires invariant-loop decreases-loop
may-read-requires c κs =
    (c.requires.0, c.requires.2, c.requires.1)

returns : tie.Need-returns-then-not-may_read invariant-loop decreases-loop
returns c =
    let x = c.args in
    all-refused (read_test x.log.now x.area.now x.state.now x.newest.now x.writer) x.home c.loop-i.i x.n _ (omega arith)
    (read-test x.log.now x.area.now x.state.now x.newest.now x.writer (x.home + c.loop-i.i) _ c.may_read.ensures) (ap not c.if-not-may_read.true)

add-i : tie.Need-overflow_add-i invariant-loop decreases-loop
add-i c =
    omega arith

loop-less : tie.Need-loop-i-smaller invariant-loop decreases-loop
loop-less c =
    omega arith

loop-again : tie.Need-loop-i-preserved invariant-loop decreases-loop
loop-again c =
    let x = c.args in (
      omega arith,
      all_more (read_test x.log.now x.area.now x.state.now x.newest.now x.writer) x.home c.loop-i.i _ c.loop-i.invariant.1
          (read-test x.log.now x.area.now x.state.now x.newest.now x.writer (x.home + c.loop-i.i) _ c.may_read.ensures) (ap not c.if-not-may_read.false),
    )

returns-2 : tie.Need-returns invariant-loop decreases-loop
returns-2 c =
    let x = c.args in
    all_done (read_test x.log.now x.area.now x.state.now x.newest.now x.writer) x.home c.loop-i.i x.n c.loop-i.invariant.1 (omega arith)

pub may_read_all_spec : {M : Type 1} → statement M
may_read_all_spec = tie.close (tie.spec invariant-loop decreases-loop loop-holds add-may-read may-read-requires returns add-i loop-less loop-again returns-2)
