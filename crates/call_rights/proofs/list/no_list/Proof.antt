-- `call_rights::no_list` meets its contract. The loop's invariant: the blocks below `i` are zeros. Assumes nothing.
use mathlib.Core.Path.{◌≡◌}
use mathlib.Core.Bool.{true}
use Prim.Native.Nat.{◌*◌, ◌-◌, ◌≤◌}
use native.Mathlib.Omega.{arith}
use Rattle.model.specs.Bytes.{zeros, same}
use Rattle.model.specs.State.{state_of}
use Rattle.call_rights.specs.Listed.{blocks_by}
use Rattle.call_rights.proofs.PlaceLaws.{zeros-end}
use Rattle.call_rights.proofs.RightsLaws.{zeros-start, zeros-next, zeros-stop}
use Rattle.call_rights.proofs.list.no_list.Statement.{statement}
use Rattle.call_rights.proofs.list.no_list.Tie as tie

abbrev invariant-loop : tie.invariant-loop-i
invariant-loop log area state kept from own i₀ i = (i ≤ 4) × (same (blocks_by log area (state_of state) kept from i) (zeros (64 * i)) ≡ true)

abbrev decreases-loop : tie.decreases-loop-i
decreases-loop log area state kept from own i₀ i = 4 - i

loop-holds : tie.Need-loop-i-init invariant-loop decreases-loop
loop-holds c = (omega arith, zeros-start _ _ _ _ _ c.requires.0 c.requires.2)

other-zero-requires : tie.Need-other_zero-requires invariant-loop decreases-loop
other-zero-requires c κs = let p = c.requires in (p.0, p.1, p.2, omega arith, p.3)

returns : tie.Need-returns-then-not-other_zero invariant-loop decreases-loop
returns c = let p = c.requires in zeros-stop _ _ _ _ _ p.0 p.2 c.loop-i.i _ (omega arith) c.other_zero.ensures (c.if-not-other_zero.true)

add-i : tie.Need-overflow_add-i invariant-loop decreases-loop
add-i c = omega arith

loop-less : tie.Need-loop-i-smaller invariant-loop decreases-loop
loop-less c = omega arith

loop-again : tie.Need-loop-i-preserved invariant-loop decreases-loop
loop-again c = let p = c.requires in (omega arith, zeros-next _ _ _ _ _ p.0 p.2 c.loop-i.i _ (omega arith) c.loop-i.invariant.1 c.other_zero.ensures (c.if-not-other_zero.false))

returns-2 : tie.Need-returns invariant-loop decreases-loop
returns-2 c = zeros-end _ _ _ _ _ c.loop-i.i (omega arith) c.loop-i.invariant.1

pub no_list_spec : {M : Type 1} → statement M
no_list_spec =
    tie.close
    (tie.spec
    invariant-loop
    decreases-loop
    loop-holds
    other-zero-requires
    returns
    add-i
    loop-less
    loop-again
    returns-2)
