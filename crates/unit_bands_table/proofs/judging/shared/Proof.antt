-- `unit_bands_table::judging::shared` meets its contract. The loop's invariant: the lowest so far and the lowest from `j` on give the lowest of all behind. Assumes nothing.
use Prim.Native.Nat.{◌+◌, ◌-◌, ◌%◌, ◌≤◌, min}
use mathlib.Core.Path.{◌≡◌, ◌∙◌}
use native.Mathlib.Omega.{arith}
use borrow.Author.Rules.{rules}
use lib.ListN.{length}
use Rattle.unit_bands_table.specs.Sweep.{rest, shared}
use Rattle.unit_bands_table.proofs.SweepLaws.{shared-high}
use Rattle.unit_bands_table.proofs.LoopLaws.{shared-over, shared-ended, shared_of}
use Rattle.unit_bands_table.proofs.judging.shared.Statement.{statement}
use Rattle.unit_bands_table.proofs.judging.shared.Tie as tie

abbrev invariant-loop : tie.invariant-loop-j
invariant-loop s at from to lowest₀ j₀ lowest j = (j ≤ length s) × (j % 5 ≡ 0) × (lowest ≤ 10000)
    × (min lowest (shared from to (rest s j)) ≡ shared from to (rest s (at + 5)))

abbrev decreases-loop : tie.decreases-loop-j
decreases-loop s at from to lowest₀ j₀ lowest j = length s - j

two-bytes-requires : tie.Need-two_bytes-from-requires invariant-loop decreases-loop
two-bytes-requires c κs = omega arith

add-two-bytes : tie.Need-overflow_add-at invariant-loop decreases-loop
add-two-bytes c = search rules

two-bytes-requires-2 : tie.Need-two_bytes-to-requires invariant-loop decreases-loop
two-bytes-requires-2 c κs = omega arith

add-j : tie.Need-overflow_add-j invariant-loop decreases-loop
add-j c = search rules

loop-holds : tie.Need-loop-j-init invariant-loop decreases-loop
loop-holds c =
    let a = c.args in (
      omega arith,
      omega arith,
      omega arith,
      omega (arith, shared-high c.two_bytes-from.result c.two_bytes-to.result (rest a.s.now (a.at + 5))),
    )

two-bytes-requires-3 : tie.Need-two_bytes-requires invariant-loop decreases-loop
two-bytes-requires-3 c κs = omega arith

add-two-bytes-2 : tie.Need-overflow_add-j-in-loop-j invariant-loop decreases-loop
add-two-bytes-2 c = search rules

two-bytes-requires-4 : tie.Need-two_bytes-requires-in-loop-j invariant-loop decreases-loop
two-bytes-requires-4 c κs = omega arith

common-requires : tie.Need-common-requires invariant-loop decreases-loop
common-requires c κs = search rules

lesser-requires : tie.Need-lesser-lowest-requires invariant-loop decreases-loop
lesser-requires c κs = search rules

add-j-2 : tie.Need-overflow_add-j-in-loop-j-2 invariant-loop decreases-loop
add-j-2 c = search rules

loop-less : tie.Need-loop-j-smaller invariant-loop decreases-loop
loop-less c = search rules

loop-again : tie.Need-loop-j-preserved invariant-loop decreases-loop
loop-again c =
    let s = c.args.s.now in
    let l = c.loop-j in
    let f = c.two_bytes-from.result in
    let t = c.two_bytes-to.result in (
      omega arith,
      omega arith,
      omega arith,
      omega (arith, shared-over f t s l.j (omega arith) c.two_bytes.ensures.0 c.two_bytes-in-loop-j.ensures.0),
    )

returns : tie.Need-returns invariant-loop decreases-loop
returns c =
    let a = c.args in
    let l = c.loop-j in
    let f = c.two_bytes-from in
    let t = c.two_bytes-to in
    let e : l.lowest ≡ shared f.result t.result (rest a.s.now (a.at + 5)) =
    omega (arith, shared-ended f.result t.result a.s.now l.j (omega arith)) in
    e ∙ shared_of a.s.now a.at (rest a.s.now (a.at + 5)) f.ensures.0 t.ensures.0

pub shared_spec : {M : Type 1} → statement M
shared_spec =
    tie.close
    (tie.spec
    invariant-loop
    decreases-loop
    two-bytes-requires
    add-two-bytes
    two-bytes-requires-2
    add-j
    loop-holds
    two-bytes-requires-3
    add-two-bytes-2
    two-bytes-requires-4
    common-requires
    lesser-requires
    add-j-2
    loop-less
    loop-again
    returns)
