-- A copy of a part, of a whole block, and of a home into a block. Assumes nothing.
use mathlib.Core.Path.{◌≡◌, ap}
use mathlib.Core.List.{List}
use Prim.Native.Nat.{ℕ, ◌+◌, ◌-◌, ◌*◌, ◌≤◌}
use native.Mathlib.Omega.{arith}
use lib.ListN.{length, take, drop}
use Rattle.model.specs.Bytes.{part, puts}
use Rattle.model.specs.Layout.{home_at}
use Rattle.model_laws.proofs.bytes.ByteLaws.{puts_whole, length_part, part-whole}

pub part-copied : (d : List ℕ) (at : ℕ) (xs : List ℕ) (from : ℕ) → puts d at (take (from + 64 - from) (drop from xs)) ≡ puts d at (part xs from 64)
unfolding part
part-copied d at xs from = let e : from + 64 - from ≡ 64 = omega arith in rw e

pub whole-block : (d : List ℕ) (at : ℕ) (block : List ℕ) → length block ≡ 64 → puts d at (part block 0 64) ≡ puts d at block
whole-block d at block e = ap (λ (r : List ℕ). puts d at r) (part-whole block 64 (omega arith))

pub home-read : (block area : List ℕ) (home : ℕ) → length block ≡ 64 → 64 * home + 64 ≤ length area
    → puts block 0 (part area (64 * home) 64) ≡ home_at area home
unfolding home_at
home-read block area home e h =
    let l : length (part area (64 * home) 64) ≡ 64 = length_part area (64 * home) 64 h in
    puts_whole block (part area (64 * home) 64) (omega arith)
