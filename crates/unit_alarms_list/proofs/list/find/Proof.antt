-- `unit_alarms_list::list::find` meets its contract. The loop's invariant: the place is `i` past the first of the alarms that are left. Assumes nothing.
use Prim.Native.Nat.{◌+◌, ◌-◌, ◌*◌, ◌≤◌}
use mathlib.Core.Path.{◌≡◌, refl, sym, ◌∙◌}
use native.Mathlib.Omega.{arith}
use borrow.Author.Rules.{rules}
use lib.ListN.{length}
use Rattle.unit_alarms_list.specs.OpenAlarms.{place, alarms_from}
use Rattle.unit_alarms_list.proofs.WalkLaws.{find-end, find-hit, find-miss}
use Rattle.unit_alarms_list.proofs.list.find.Statement.{statement}
use Rattle.unit_alarms_list.proofs.list.find.Tie as tie

abbrev invariant-loop : tie.invariant-loop-i
invariant-loop s n identity i₀ at₀ i at =
    (i ≤ n) × (at ≡ 8 + 7 * i) × (n ≤ 48) × (length s ≡ 384) × (i + place identity (alarms_from s (n - i) at) ≡ place identity (alarms_from s n 8))

abbrev decreases-loop : tie.decreases-loop-i
decreases-loop s n identity i₀ at₀ i at = n - i

loop-holds : tie.Need-loop-i-init invariant-loop decreases-loop
loop-holds c =
    let a = c.args in
    let e : a.n - 0 ≡ a.n = omega arith in
    (omega arith, refl, c.requires.1, c.requires.0, rw e (omega arith))

number-requires : tie.Need-number-requires invariant-loop decreases-loop
number-requires c κs = search rules

returns : tie.Need-returns-then-number-identity invariant-loop decreases-loop
returns c =
    let l = c.loop-i in
    omega (arith, l.invariant.4, find-hit _ _ l.i l.at _ c.loop-i-test.true (sym c.number.ensures.0 ∙ c.if-number-identity.true))

add-i : tie.Need-overflow_add-i invariant-loop decreases-loop
add-i c = omega arith

add_at : tie.Need-overflow_add-at invariant-loop decreases-loop
add_at c = omega arith

loop-less : tie.Need-loop-i-smaller invariant-loop decreases-loop
loop-less c = omega arith

loop-again : tie.Need-loop-i-preserved invariant-loop decreases-loop
loop-again c =
    let l = c.loop-i in
    let m = find-miss _ _ l.i l.at _ c.loop-i-test.true (λ e. c.if-number-identity.false (c.number.ensures.0 ∙ e)) in
    (omega arith, omega arith, l.invariant.2, l.invariant.3, omega (arith, l.invariant.4, m))

returns-2 : tie.Need-returns invariant-loop decreases-loop
returns-2 c =
    let l = c.loop-i in
    let a = c.args in
    omega (arith, l.invariant.4, find-end a.s.now a.n l.i l.at a.identity c.loop-i-test.false)

pub find_spec : {M : Type 1} → statement M
find_spec =
    tie.close
    (tie.spec
    invariant-loop
    decreases-loop
    loop-holds
    number-requires
    returns
    add-i
    add_at
    loop-less
    loop-again
    returns-2)
