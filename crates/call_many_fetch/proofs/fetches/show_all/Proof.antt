-- `call_many_fetch::show_all` meets its contract. The loop's invariant: the blocks of the homes below home + i stand one behind the other. Assumes nothing.
use mathlib.Core.Path.{◌≡◌, refl}
use mathlib.Core.List.{[]}
use Prim.Native.Nat.{◌*◌, ◌-◌, ◌≤◌}
use native.Mathlib.Omega.{arith}
use lib.ListN.{length}
use Rattle.model.specs.Bytes.{puts}
use Rattle.call_ask.specs.Lent.{lent_all}
use Rattle.acts.specs.Many.{blocks_read}
use Rattle.call_many_fetch.proofs.FetchLaws.{read_none, read_more, read_all}
use Rattle.call_many_fetch.proofs.fetches.show_all.Statement.{statement}
use Rattle.call_many_fetch.proofs.fetches.show_all.Tie as tie

abbrev invariant-loop : tie.invariant-loop-i
invariant-loop log area state newest blocks₀ writer home n i₀ blocks i =
    (i ≤ n) × (length blocks ≡ length blocks₀)
    × ((blocks ≡ puts blocks₀ 0 (blocks_read (lent_all log area state newest blocks₀ [] writer home) i))
    × (length (blocks_read (lent_all log area state newest blocks₀ [] writer home) i) ≡ 64 * i))

abbrev decreases-loop : tie.decreases-loop-i
decreases-loop log area state newest blocks₀ writer home n i₀ blocks i =
    n - i

loop-holds : tie.Need-loop-i-init invariant-loop decreases-loop
loop-holds c =
    (omega arith, refl, read_none _ _ _ _ _ _ _)

mul-show-at : tie.Need-overflow_mul-i invariant-loop decreases-loop
mul-show-at c =
    omega arith

add-show-at : tie.Need-overflow_add-home invariant-loop decreases-loop
add-show-at c =
    let u = c.requires.0 in omega (arith, u.homes-most)

show-at-requires : tie.Need-show_at-requires invariant-loop decreases-loop
show-at-requires c κs =
    let p = c.requires in (p.0, omega arith, p.1, p.3, omega arith)

add-i : tie.Need-overflow_add-i invariant-loop decreases-loop
add-i c =
    omega arith

loop-less : tie.Need-loop-i-smaller invariant-loop decreases-loop
loop-less c =
    omega arith

loop-again : tie.Need-loop-i-preserved invariant-loop decreases-loop
loop-again c =
    (omega arith, omega (arith, c.show_at.auto), read_more _ _ _ _ _ _ _ _ _ _ c.loop-i.invariant.2 c.show_at.ensures)

same_length : tie.Need-shape_of-blocks invariant-loop decreases-loop
same_length c =
    omega arith

returns : tie.Need-returns invariant-loop decreases-loop
returns c =
    read_all _ _ _ _ _ _ _ c.loop-i.i _ _ c.loop-i.invariant.2 c.requires.2 (omega arith)

pub show_all_spec : {M : Type 1} → statement M
show_all_spec =
    tie.close
    (tie.spec
    invariant-loop
    decreases-loop
    loop-holds
    mul-show-at
    add-show-at
    show-at-requires
    add-i
    loop-less
    loop-again
    same_length
    returns)
