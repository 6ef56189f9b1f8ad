-- `unit_alarms_list::list::gravest_of` meets its contract. The loop's invariant: the best so far and the alarms that are left have the list's gravest. Assumes nothing.
use Prim.Native.Nat.{◌+◌, ◌-◌, ◌*◌, ◌≤◌}
use mathlib.Core.Path.{◌≡◌, refl, sym, ◌∙◌}
use native.Mathlib.Omega.{arith}
use borrow.Author.Rules.{rules}
use lib.ListN.{length}
use Rattle.unit_alarms_list.specs.OpenAlarms.{gravest_from, gravest, told, alarms_from}
use Rattle.unit_alarms_list.proofs.WalkLaws.{gravest-none, gravest-begin, gravest-end, gravest-turn}
use Rattle.unit_alarms_list.proofs.list.gravest_of.Statement.{statement}
use Rattle.unit_alarms_list.proofs.list.gravest_of.Tie as tie

abbrev invariant-loop : tie.invariant-loop-i
invariant-loop s n best₀ i₀ at₀ best i at =
    (i ≤ n) × (at ≡ 8 + 7 * i) × (n ≤ 48) × (length s ≡ 384) × (gravest_from best (alarms_from s (n - i) at) ≡ told (gravest (alarms_from s n 8)))

abbrev decreases-loop : tie.decreases-loop-i
decreases-loop s n best₀ i₀ at₀ best i at = n - i

returns : tie.Need-returns-then-n-eq0 invariant-loop decreases-loop
returns c = gravest-none _ _ c.if-n-eq0.true

alarm-at-requires : tie.Need-alarm_at-best-requires invariant-loop decreases-loop
alarm-at-requires c κs = search rules

loop-holds : tie.Need-loop-i-init invariant-loop decreases-loop
loop-holds c =
    (omega arith, refl, c.requires.1, c.requires.0, gravest-begin _ _ c.if-n-eq0.false c.alarm_at-best.ensures.0)

alarm-at-requires-2 : tie.Need-alarm_at-next-requires invariant-loop decreases-loop
alarm-at-requires-2 c κs = search rules

graver-requires : tie.Need-graver-best-requires invariant-loop decreases-loop
graver-requires c κs = search rules

add-i : tie.Need-overflow_add-i invariant-loop decreases-loop
add-i c = omega arith

add_at : tie.Need-overflow_add-at invariant-loop decreases-loop
add_at c = omega arith

loop-less : tie.Need-loop-i-smaller invariant-loop decreases-loop
loop-less c = omega arith

loop-again : tie.Need-loop-i-preserved invariant-loop decreases-loop
loop-again c =
    let l = c.loop-i in
    (omega arith, omega arith, l.invariant.2, l.invariant.3, gravest-turn _ _ _ _ _ c.loop-i-test.true c.alarm_at-next.ensures.0 c.graver-best.ensures ∙ l.invariant.4)

returns-2 : tie.Need-returns invariant-loop decreases-loop
returns-2 c =
    let l = c.loop-i in
    sym (gravest-end _ _ _ _ _ c.loop-i-test.false) ∙ l.invariant.4

pub gravest_of_spec : {M : Type 1} → statement M
gravest_of_spec =
    tie.close
    (tie.spec
    invariant-loop
    decreases-loop
    returns
    alarm-at-requires
    loop-holds
    alarm-at-requires-2
    graver-requires
    add-i
    add_at
    loop-less
    loop-again
    returns-2)
