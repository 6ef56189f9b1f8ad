-- Laws of the last closing entry of a transaction. Assumes nothing.
use mathlib.Core.Path.{◌≡◌}
use mathlib.Core.Bool.{Bool, true, false, cond}
use Prim.Native.Nat.{ℕ, zero, suc, ◌+◌, ◌≤◌}
use native.Mathlib.Omega.{arith}
use Rattle.model.specs.declared.Tag.{Tag}
use Rattle.log_gather.specs.Closers.{closes, closer}

module _ (tags : ℕ → Tag) (base f : ℕ) where
  pub closer-most : (n : ℕ) → closer tags base n f ≤ n
  unfolding closer
  closer-most zero = omega arith
  closer-most (suc n) = go (closes f (tags (base + n))) (closer-most n)
    where
      go : (b : Bool) → closer tags base n f ≤ n → cond b (n + 1) (closer tags base n f) ≤ suc n
      go true h = omega arith
      go false h = omega arith

  pub closer-same : (n : ℕ) → closes f (tags (base + n)) ≡ false → closer tags base (suc n) f ≡ closer tags base n f
  unfolding closer
  closer-same n e = rw e

  pub closer-now : (n : ℕ) → closes f (tags (base + n)) ≡ true → closer tags base (suc n) f ≡ n + 1
  unfolding closer
  closer-now n e = rw e
