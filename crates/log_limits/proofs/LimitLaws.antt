-- The highest start that neither an open nor a committed transaction lies across is the one that the definition takes. Assumes nothing.
use mathlib.Core.Path.{◌≡◌, refl}
use mathlib.Core.Bool.{Bool, true, false, cond, ◌&&◌, and-false}
use mathlib.Core.List.{List}
use Prim.Native.Nat.{ℕ, zero, suc, ◌+◌, ◌-◌, ◌*◌, ◌≤◌, ◌<◌}
use native.Mathlib.Decide.{dec_le, ℕ_discrete}
use native.Mathlib.Omega.{arith}
use Rattle.model.specs.Commit.{Span}
use Rattle.model.specs.Effects.{none_across, none_open_before, may_start, largest}
use Rattle.log_limits.specs.Limits.{Highest}
use Rattle.log_limits.proofs.WriterLaws.{open-below}

largest-is : (may : ℕ → Bool) (start n r : ℕ) → start ≤ r → r ≤ start + n → may r ≡ true
    → ((s : ℕ) → r < s → s ≤ start + n → may s ≡ false) → r ≡ largest may start n
unfolding largest
largest-is may start zero r a b e f = omega arith
largest-is may start (suc n) r a b e f =
    go (ℕ_discrete r (start + suc n)) (λ l. largest-is may start n r a l e (λ s h k. f s h (omega arith)))
  where
    go : Dec (r ≡ start + suc n) → (r ≤ start + n → r ≡ largest may start n) → r ≡ cond (may (start + suc n)) (start + suc n) (largest may start n)
    go (yes q) k = let m : may (start + suc n) ≡ true = rw q at e in rw m q
    go (no q) k = let m : may (start + suc n) ≡ false = f (start + suc n) (omega arith) (omega arith) in rw m (k (omega arith))

pub trim-is : (s : List ℕ) (spans : List Span) (start limit r₁ r : ℕ) → start ≤ r → start ≤ limit
    → Highest (λ t. none_open_before (7 * t) s 8) limit r₁ → Highest (λ t. none_across (7 * t) spans) r₁ r
    → r ≡ largest (may_start s spans) start (limit - start)
unfolding may_start
trim-is s spans start limit r₁ r a b h k =
    largest-is (may_start s spans) start (limit - start) r a (omega (arith, h.most, k.most))
    (rw (k.allowed, open-below s (7 * r₁) (7 * r) 8 (omega (arith, k.most)) h.allowed))
    (λ t l m. go t l (omega arith) (dec_le t r₁))
  where
    go : (t : ℕ) → r < t → t ≤ limit → Dec (t ≤ r₁) → (none_across (7 * t) spans && none_open_before (7 * t) s 8) ≡ false
    go t l m (yes q) = rw (k.above t l q)
    go t l m (no q) = rw (h.above t (omega arith) m) (and-false (none_across (7 * t) spans))

-- where open transactions leave no start but the log's own, committed ones change nothing
pub trim-none : (s : List ℕ) (spans : List Span) (start limit : ℕ) → Highest (λ t. none_open_before (7 * t) s 8) limit start
    → start ≡ largest (may_start s spans) start (limit - start)
unfolding may_start largest
trim-none s spans start limit h = none (limit - start) (λ t i j. rw (h.above t i (omega (arith, h.most))) (and-false (none_across (7 * t) spans)))
  where
    none : (n : ℕ) → ((t : ℕ) → start < t → t ≤ start + n → may_start s spans t ≡ false) → start ≡ largest (may_start s spans) start n
    none zero f = refl
    none (suc n) f = rw (f (start + suc n) (omega arith) (omega arith)) (none n (λ t i j. f t i (omega arith)))
