-- The committed transactions end within the log. Assumes nothing.
use mathlib.Core.Path.{◌≡◌}
use mathlib.Core.Logic.{◌⊎◌, inl, inr}
use mathlib.Core.List.{List}
use Prim.Native.Nat.{ℕ, ◌+◌, ◌*◌, ◌^◌, ◌≤◌, ◌<◌}
use native.Mathlib.Omega.{arith}
use lib.ListN.{length}
use Rattle.model.specs.Layout.{entry_at}
use Rattle.model.specs.Commit.{committed}
use Rattle.model_laws.proofs.rule.Closings.{end_of}
use Rattle.model_laws.proofs.rule.ClosingLaws.{committed-within}
use Rattle.log_scan.specs.Walk.{Walkable}

pub end-walkable : (log : List ℕ) (groups homes start n end : ℕ) → length log ≡ 64 + 512 * groups → 0 < groups → groups ≤ 1024 → start ≤ 2 ^ 47
    → n ≤ 7 * groups → end ≡ end_of (committed (entry_at log groups homes start) (7 * start) n) → Walkable log groups start end
end-walkable log groups homes start n end long some most low within e =
    record { long = long; some = some; most = most; low = low; within = go (committed-within (entry_at log groups homes start) (7 * start) n) }
  where
    go : (end_of (committed (entry_at log groups homes start) (7 * start) n) ≡ 0)
        ⊎ ((7 * start < end_of (committed (entry_at log groups homes start) (7 * start) n))
        × (end_of (committed (entry_at log groups homes start) (7 * start) n) ≤ 7 * start + n))
        → end ≤ 7 * (start + groups)
    go (inl z) = omega arith
    go (inr z) = omega arith
