-- `call_many_fetch::may_store_all` meets its contract. The loop's invariant: each home below home + i is open to the writer. Assumes nothing.
use mathlib.Core.Path.{◌≡◌, ap}
use mathlib.Core.Bool.{true, not}
use Prim.Native.Nat.{◌+◌, ◌-◌, ◌≤◌}
use native.Mathlib.Omega.{arith}
use Rattle.acts.specs.Many.{all_of}
use Rattle.call_many_fetch.proofs.AllowedLaws.{all_none, all_more, all-refused, all_done, store_test, store-test}
use Rattle.call_many_fetch.proofs.allowed.may_store_all.Statement.{statement}
use Rattle.call_many_fetch.proofs.allowed.may_store_all.Tie as tie

abbrev invariant-loop : tie.invariant-loop-i
invariant-loop log area state newest writer home n i₀ i =
    (i ≤ n) × (all_of (store_test log area state newest writer) home i ≡ true)

abbrev decreases-loop : tie.decreases-loop-i
decreases-loop log area state newest writer home n i₀ i =
    n - i

loop-holds : tie.Need-loop-i-init invariant-loop decreases-loop
loop-holds c =
    (omega arith, all_none _ _)

add-may-store-newest : tie.Need-overflow_add-home invariant-loop decreases-loop
add-may-store-newest c =
    let u = c.requires.0 in omega (arith, u.homes-most)

may-store-newest-requires : tie.Need-may_store_newest-requires invariant-loop decreases-loop
may-store-newest-requires c κs =
    (c.requires.0, c.requires.2, c.requires.1)

returns : tie.Need-returns-then-not-may_store_newest invariant-loop decreases-loop
returns c =
    let x = c.args in
    all-refused (store_test x.log.now x.area.now x.state.now x.newest.now x.writer) x.home c.loop-i.i x.n _ (omega arith)
    (store-test x.log.now x.area.now x.state.now x.newest.now x.writer (x.home + c.loop-i.i) _ c.may_store_newest.ensures) (ap not c.if-not-may_store_newest.true)

add-i : tie.Need-overflow_add-i invariant-loop decreases-loop
add-i c =
    omega arith

loop-less : tie.Need-loop-i-smaller invariant-loop decreases-loop
loop-less c =
    omega arith

loop-again : tie.Need-loop-i-preserved invariant-loop decreases-loop
loop-again c =
    let x = c.args in (
      omega arith,
      all_more (store_test x.log.now x.area.now x.state.now x.newest.now x.writer) x.home c.loop-i.i _ c.loop-i.invariant.1
          (store-test x.log.now x.area.now x.state.now x.newest.now x.writer (x.home + c.loop-i.i) _ c.may_store_newest.ensures) (ap not c.if-not-may_store_newest.false),
    )

returns-2 : tie.Need-returns invariant-loop decreases-loop
returns-2 c =
    let x = c.args in
    all_done (store_test x.log.now x.area.now x.state.now x.newest.now x.writer) x.home c.loop-i.i x.n c.loop-i.invariant.1 (omega arith)

pub may_store_all_spec : {M : Type 1} → statement M
may_store_all_spec = tie.close (tie.spec invariant-loop decreases-loop loop-holds add-may-store-newest may-store-newest-requires returns add-i loop-less loop-again returns-2)
