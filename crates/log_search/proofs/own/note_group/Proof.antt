-- `log_search::note_group` meets its contract. The loop's invariant: the first `k` tags are taken. Assumes nothing.
use mathlib.Core.Path.{◌≡◌, refl, sym, ◌∙◌}
use mathlib.Core.Bool.{true}
use Prim.Native.Nat.{◌+◌, ◌-◌, ◌*◌, ◌≤◌}
use native.Mathlib.Omega.{arith}
use Rattle.model.specs.Layout.{group_valid, entry_within}
use Rattle.log_scan.specs.Members.{taking}
use Rattle.log_scan.proofs.PassLaws.{group-hole, group-turn}
use Rattle.log_scan.proofs.MemberPass.{taking-quiet, over-before}
use Rattle.log_search.specs.Own.{note_at, noted}
use Rattle.log_search.proofs.own.note_group.Statement.{statement}
use Rattle.log_search.proofs.own.note_group.Tie as tie

abbrev invariant-loop : tie.invariant-loop-k
invariant-loop group groups homes start n turn m first home newest base latest₀ k₀ position₀ latest k position =
    (latest ≡ noted (entry_within group groups homes start) home first (7 * n) k newest)
    × (position ≡ 7 * n + k)
    × (k ≤ m)
    × (first ≤ position)

abbrev decreases-loop : tie.decreases-loop-k
decreases-loop group groups homes start n turn m first home newest base latest₀ k₀ position₀ latest k position =
    m - k

group-valid-requires : tie.Need-group_valid-requires invariant-loop decreases-loop
group-valid-requires c κs = omega arith

returns : tie.Need-returns-then-not-group_valid invariant-loop decreases-loop
returns c =
    group-hole _ (taking-quiet _ (note_at _)) _ _ _ _ _ _ _ (sym c.group_valid.ensures ∙ c.if-not-group_valid.true) (omega arith)

mul-base : tie.Need-overflow_mul-base invariant-loop decreases-loop
mul-base c = omega arith

mul-skipped : tie.Need-overflow_mul-n invariant-loop decreases-loop
mul-skipped c = omega arith

skipped-requires : tie.Need-skipped-k-requires invariant-loop decreases-loop
skipped-requires c κs = tt

mul-position : tie.Need-overflow_mul-position invariant-loop decreases-loop
mul-position c = omega arith

add-position : tie.Need-overflow_add-position invariant-loop decreases-loop
add-position c = omega arith

loop-holds : tie.Need-loop-k-init invariant-loop decreases-loop
loop-holds c =
    let e = c.skipped-k.ensures in
    (over-before _ (note_at _) _ _ _ _ (omega (arith, e)), omega arith, omega (arith, e), omega (arith, e))

note-entry-requires : tie.Need-note_entry-latest-requires invariant-loop decreases-loop
note-entry-requires c κs = (omega arith, omega arith, omega arith, omega arith)

add-position-2 : tie.Need-overflow_add-position-in-loop-k invariant-loop decreases-loop
add-position-2 c = omega arith

add-k : tie.Need-overflow_add-k invariant-loop decreases-loop
add-k c = omega arith

loop-less : tie.Need-loop-k-smaller invariant-loop decreases-loop
loop-less c = omega arith

loop-again : tie.Need-loop-k-preserved invariant-loop decreases-loop
loop-again c =
    let g : group_valid _ _ _ _ ≡ true = sym c.group_valid.ensures ∙ c.if-not-group_valid.false in (
      group-turn (taking _ (note_at _)) _ _ _ _ _ _ _ _ _ _ _ _ g c.requires.4 (omega arith) c.loop-k.invariant.1 refl
          c.note_entry-latest.ensures c.loop-k.invariant.0,
      omega arith,
      omega arith,
      omega arith,
    )

returns-2 : tie.Need-returns invariant-loop decreases-loop
returns-2 c =
    let l = c.loop-k in
    let e : l.k ≡ c.args.m = omega arith in
    rw (← e) l.invariant.0

pub note_group_spec : {M : Type 1} → statement M
note_group_spec =
    tie.close
    (tie.spec
    invariant-loop
    decreases-loop
    group-valid-requires
    returns
    mul-base
    mul-skipped
    skipped-requires
    mul-position
    add-position
    loop-holds
    note-entry-requires
    add-position-2
    add-k
    loop-less
    loop-again
    returns-2)
