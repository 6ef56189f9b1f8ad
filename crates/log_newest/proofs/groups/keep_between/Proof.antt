-- `log_newest::keep_between` meets its contract. The loop's invariant: the tags below `k` are taken. Assumes nothing.
use mathlib.Core.Path.{◌≡◌, refl, sym, ◌∙◌}
use mathlib.Core.Bool.{true}
use mathlib.Core.List.{List}
use Prim.Native.Nat.{ℕ, ◌+◌, ◌-◌, ◌*◌, ◌≤◌}
use native.Mathlib.Omega.{arith}
use lib.ListN.{length}
use Rattle.model.specs.Layout.{group_valid, entry_within}
use Rattle.log_scan.specs.Members.{taking}
use Rattle.log_scan.proofs.PassLaws.{group-turn}
use Rattle.log_newest.specs.Keeping.{keep_at, kept_over}
use Rattle.log_newest.proofs.KeepLaws.{hole-between}
use Rattle.log_newest.proofs.groups.keep_between.Statement.{statement}
use Rattle.log_newest.proofs.groups.keep_between.Tie as tie

abbrev invariant-loop : tie.invariant-loop-k
invariant-loop group groups homes start n turn done m first newest₀ base k₀ newest k =
    ((before : List ℕ) → newest₀ ≡ kept_over (entry_within group groups homes start) first (7 * n) done before
    → newest ≡ kept_over (entry_within group groups homes start) first (7 * n) k before)
    × (k ≤ m)
    × (first ≤ 7 * n + k)
    × (length newest ≡ 8 * homes)

abbrev decreases-loop : tie.decreases-loop-k
decreases-loop group groups homes start n turn done m first newest₀ base k₀ newest k = m - k

group-valid-requires : tie.Need-group_valid-requires invariant-loop decreases-loop
group-valid-requires c κs = omega arith

returns : tie.Need-returns-then-not-group_valid invariant-loop decreases-loop
returns c before e =
    hole-between _ _ _ _ _ _ _ _ _ before (sym c.group_valid.ensures ∙ c.if-not-group_valid.true) (omega arith) (omega arith) e

mul-base : tie.Need-overflow_mul-base invariant-loop decreases-loop
mul-base c = omega arith

loop-holds : tie.Need-loop-k-init invariant-loop decreases-loop
loop-holds c = (λ before e. e, omega arith, omega arith, omega arith)

mul-keep-entry : tie.Need-overflow_mul-n invariant-loop decreases-loop
mul-keep-entry c = omega arith

add-keep-entry : tie.Need-overflow_add-n invariant-loop decreases-loop
add-keep-entry c = omega arith

keep-entry-requires : tie.Need-keep_entry-requires invariant-loop decreases-loop
keep-entry-requires c κs =
    (omega arith, omega arith, omega arith, omega arith, omega arith, omega arith, omega arith, omega arith)

add-k : tie.Need-overflow_add-k invariant-loop decreases-loop
add-k c = omega arith

loop-less : tie.Need-loop-k-smaller invariant-loop decreases-loop
loop-less c = omega arith

loop-again : tie.Need-loop-k-preserved invariant-loop decreases-loop
loop-again c =
    let g : group_valid _ _ _ _ ≡ true = sym c.group_valid.ensures ∙ c.if-not-group_valid.false in (
      λ before e.
          group-turn (taking _ keep_at) _ _ _ _ _ _ _ _ _ _ _ _ g c.requires.5 (omega arith) refl refl
          c.keep_entry.ensures (c.loop-k.invariant.0 before e),
      omega arith,
      omega arith,
      omega (arith, c.keep_entry.auto, c.loop-k.invariant.3),
    )

same_length : tie.Need-shape_of-newest invariant-loop decreases-loop
same_length c = omega (arith, c.loop-k.invariant.3)

returns-2 : tie.Need-returns invariant-loop decreases-loop
returns-2 c before e =
    let l = c.loop-k in
    let q : l.k ≡ c.args.m = omega arith in
    rw (← q) (l.invariant.0 before e)

pub keep_between_spec : {M : Type 1} → statement M
keep_between_spec =
    tie.close
    (tie.spec
    invariant-loop
    decreases-loop
    group-valid-requires
    returns
    mul-base
    loop-holds
    mul-keep-entry
    add-keep-entry
    keep-entry-requires
    add-k
    loop-less
    loop-again
    same_length
    returns-2)
