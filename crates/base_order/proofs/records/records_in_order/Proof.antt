-- `base_order::records_in_order` meets its contract. The loop's invariant: writers of whose mode no bit is left are in order. Assumes nothing.
use mathlib.Core.Bool.{not}
use mathlib.Core.Path.{◌≡◌, refl, ap}
use Prim.Native.Nat.{ℕ, ◌*◌}
use borrow.Author.Rules.{rules}
use native.Mathlib.Omega.{arith}
use Rattle.model.specs.State.{state_of}
use Rattle.base_order.proofs.OrderTests.{answered-no, answered-yes}
use Rattle.base_order.proofs.ModeLaws.{Visited, visited-none, visited-next, visited-all}
use Rattle.base_order.proofs.RecordLaws.{records-yes, records-no, none_left, none-such, word_small, visited-bit}
use Rattle.base_order.proofs.records.records_in_order.Statement.{statement}
use Rattle.base_order.proofs.records.records_in_order.Tie as tie

abbrev invariant-loop : tie.invariant-loop-left
invariant-loop s homes low all modes left₀ twice left = Visited s (state_of s) left

abbrev decreases-loop : tie.decreases-loop-left
decreases-loop s homes low all modes left₀ twice left = left

number-requires : tie.Need-number-modes-requires invariant-loop decreases-loop
number-requires c κs = search rules

returns : tie.Need-returns-then-left-eq0 invariant-loop decreases-loop
returns c =
    none_left _ _ (λ i. omega (arith, c.shared_slice_known-1.given i)) c.number-modes.ensures.0 c.if-left-eq0.true

returns-2 : tie.Need-returns-then-modes-ne0 invariant-loop decreases-loop
returns-2 c =
    none-such _ _ (λ i. omega (arith, c.shared_slice_known-1.given i)) c.number-modes.ensures.0 c.if-modes-ne0.true

mul-twice : tie.Need-overflow_mul-twice invariant-loop decreases-loop
mul-twice c =
    let h = word_small _ _ (λ i. omega (arith, c.shared_slice_known-1.given i)) c.number-modes.ensures.0 c.if-modes-ne0.false in
    omega (arith, h)

loop-holds : tie.Need-loop-left-init invariant-loop decreases-loop
loop-holds c =
    visited-none _ _ _ _ (λ i. omega (arith, c.shared_slice_known-1.given i)) c.number-modes.ensures.0 refl

lowest-requires : tie.Need-lowest-t-requires invariant-loop decreases-loop
lowest-requires c κs = search rules

record-in-order-requires : tie.Need-record_in_order-requires invariant-loop decreases-loop
record-in-order-requires c κs =
    let p = c.requires in
    let t = c.lowest-t.ensures in
    let v = visited-bit _ _ (λ j. omega (arith, c.shared_slice_known-1.given j)) c.number-modes.ensures.0 _ _ c.if-modes-ne0.false c.loop-left.invariant t.1 t.3 in
    (p.0, p.1, p.2, ap (λ (x : ℕ). 2 * x) c.number-modes.ensures.0, t.1, v.0, v.1, v.2)

returns-3 : tie.Need-returns-then-not-record_in_order invariant-loop decreases-loop
returns-3 c =
    records-no _ _ (omega (arith, c.lowest-t.ensures.1)) (answered-no c.record_in_order.ensures (ap not c.if-not-record_in_order.true))

clear-lowest-requires : tie.Need-clear_lowest-left-requires invariant-loop decreases-loop
clear-lowest-requires c κs = search rules

loop-less : tie.Need-loop-left-smaller invariant-loop decreases-loop
loop-less c = c.clear_lowest-left.ensures.0

loop-again : tie.Need-loop-left-preserved invariant-loop decreases-loop
loop-again c =
    let t = c.lowest-t.ensures in
    visited-next _ _ _ _ _ c.loop-left.invariant t.2 t.3 c.clear_lowest-left.ensures.2
    (answered-yes c.record_in_order.ensures (ap not c.if-not-record_in_order.false))

returns-4 : tie.Need-returns invariant-loop decreases-loop
returns-4 c =
    let e : c.loop-left.left ≡ 0 = omega arith in
    records-yes _ (visited-all _ _ (rw e at c.loop-left.invariant))

pub records_in_order_spec : {M : Type 1} → statement M
records_in_order_spec =
    tie.close
    (tie.spec
    invariant-loop
    decreases-loop
    number-requires
    returns
    returns-2
    mul-twice
    loop-holds
    lowest-requires
    record-in-order-requires
    returns-3
    clear-lowest-requires
    loop-less
    loop-again
    returns-4)
