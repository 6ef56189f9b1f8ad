-- `log_limits::group_limit` meets its contract. The loop's invariant: the first `k` tags have lowered the limit to `lowest`. Assumes nothing.
use mathlib.Core.Path.{◌≡◌, refl, sym, ◌∙◌}
use mathlib.Core.Bool.{true}
use Prim.Native.Nat.{◌+◌, ◌-◌, ◌*◌, ◌≤◌}
use native.Mathlib.Omega.{arith}
use Rattle.model.specs.Layout.{group_valid, entry_within}
use Rattle.log_scan.specs.Scan.{over}
use Rattle.log_scan.proofs.PassLaws.{group-hole, group-turn}
use Rattle.log_limits.specs.Limits.{span_limit, lowered}
use Rattle.log_limits.proofs.SpanLaws.{span-quiet}
use Rattle.log_limits.proofs.spans.group_limit.Statement.{statement}
use Rattle.log_limits.proofs.spans.group_limit.Tie as tie

abbrev invariant-loop : tie.invariant-loop-k
invariant-loop group groups homes start n turn m limit base lowest₀ position₀ k₀ lowest position k =
    (lowest ≡ lowered (entry_within group groups homes start) (7 * n) k limit) × (position ≡ 7 * n + k) × (k ≤ m)

abbrev decreases-loop : tie.decreases-loop-k
decreases-loop group groups homes start n turn m limit base lowest₀ position₀ k₀ lowest position k = m - k

group-valid-requires : tie.Need-group_valid-requires invariant-loop decreases-loop
group-valid-requires c κs = omega arith

returns : tie.Need-returns-then-not-group_valid invariant-loop decreases-loop
returns c = group-hole _ span-quiet _ _ _ _ _ _ _ (sym c.group_valid.ensures ∙ c.if-not-group_valid.true) (omega arith)

mul-base : tie.Need-overflow_mul-base invariant-loop decreases-loop
mul-base c = omega arith

mul-position : tie.Need-overflow_mul-position invariant-loop decreases-loop
mul-position c = omega arith

loop-holds : tie.Need-loop-k-init invariant-loop decreases-loop
unfolding over
loop-holds c = (refl, omega arith, omega arith)

tag-limit-requires : tie.Need-tag_limit-lowest-requires invariant-loop decreases-loop
tag-limit-requires c κs = (omega arith, omega arith)

add-position : tie.Need-overflow_add-position invariant-loop decreases-loop
add-position c = omega arith

add-k : tie.Need-overflow_add-k invariant-loop decreases-loop
add-k c = omega arith

loop-less : tie.Need-loop-k-smaller invariant-loop decreases-loop
loop-less c = omega arith

loop-again : tie.Need-loop-k-preserved invariant-loop decreases-loop
loop-again c =
    let g : group_valid _ _ _ _ ≡ true = sym c.group_valid.ensures ∙ c.if-not-group_valid.false in (
      group-turn (λ p. span_limit) _ _ _ _ _ _ _ _ _ _ _ _ g c.requires.4 (omega arith) c.loop-k.invariant.1 refl
          c.tag_limit-lowest.ensures c.loop-k.invariant.0,
      omega arith,
      omega arith,
    )

returns-2 : tie.Need-returns invariant-loop decreases-loop
returns-2 c =
    let l = c.loop-k in
    let e : l.k ≡ c.args.m = omega arith in
    rw (← e) l.invariant.0

pub group_limit_spec : {M : Type 1} → statement M
group_limit_spec =
    tie.close
    (tie.spec
    invariant-loop
    decreases-loop
    group-valid-requires
    returns
    mul-base
    mul-position
    loop-holds
    tag-limit-requires
    add-position
    add-k
    loop-less
    loop-again
    returns-2)
