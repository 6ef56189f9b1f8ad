-- Differences of two naturals as integers: their order, their range, and how the machine computes them. Assumes nothing.
use mathlib.Core.Path.{◌≡◌, refl, ap, ◌∙◌}
use mathlib.Core.Bool.{Bool, true, false}
use Prim.Native.Nat.{ℕ, zero, suc, ◌+◌, ◌-◌, ◌^◌, ◌≤◌, ◌<◌}
use native.Mathlib.Omega.{arith}
use borrow.Author.Tests.{lt-ltb, le-ltb, ltb-true, ltb-false}
use lib.Dec.{ltb, le→leb}
use lib.IntN.{pos, negsuc, neg_ℤ, sub_ℕ, ◌+ℤ◌, ◌-ℤ◌}
use lib.Signed.{mag, ◌≤ℤ◌}
use mir.Syntax.{w64}
use mir.Val.{SFits, to_z, of_z}
use mir.ValLaws.{to_z_pos, to_z-of_z}

pub sub-ge : (a b : ℕ) → b ≤ a → sub_ℕ a b ≡ pos (a - b)
sub-ge a b h = rw (le-ltb a b h)

pub sub-lt : (a b : ℕ) → a < b → sub_ℕ a b ≡ negsuc (b - suc a)
sub-lt a b h = rw (lt-ltb a b h)

pub minus : (a b : ℕ) → pos a -ℤ pos b ≡ sub_ℕ a b
minus a zero = let e : a + 0 ≡ a - 0 = omega arith in ap pos e ∙ rw (sub-ge a 0 (omega arith))
minus a (suc b) = refl

pub neg-plus : (n p : ℕ) → neg_ℤ (pos n) +ℤ pos p ≡ sub_ℕ p n
neg-plus zero p = let e : 0 + p ≡ p - 0 = omega arith in ap pos e ∙ rw (sub-ge p 0 (omega arith))
neg-plus (suc n) p = refl

-- the same taken off both
pub sub-shift : (k a b : ℕ) → sub_ℕ (k + a) (k + b) ≡ sub_ℕ a b
sub-shift k a b = go (ltb a b) refl
  where
    go : (t : Bool) → ltb a b ≡ t → sub_ℕ (k + a) (k + b) ≡ sub_ℕ a b
    go true e =
        let l = ltb-true a b e in
        let n : k + b - suc (k + a) ≡ b - suc a = omega arith in
        rw (sub-lt (k + a) (k + b) (omega arith), sub-lt a b l, n)
    go false e =
        let l = ltb-false a b e in
        let n : k + a - (k + b) ≡ a - b = omega arith in
        rw (sub-ge (k + a) (k + b) (omega arith), sub-ge a b l, n)

-- ---- order

pos-le : (m n : ℕ) → m ≤ n → pos m ≤ℤ pos n
pos-le m n h = record { le = le→leb m n h }

negsuc-le : (m n : ℕ) → n ≤ m → negsuc m ≤ℤ negsuc n
negsuc-le m n h = record { le = le→leb n m h }

-- more less fewer is more
pub sub-mono : (a b a' b' : ℕ) → a ≤ a' → b' ≤ b → sub_ℕ a b ≤ℤ sub_ℕ a' b'
sub-mono a b a' b' h l = go (ltb a b) (ltb a' b') refl refl
  where
    go : (s t : Bool) → ltb a b ≡ s → ltb a' b' ≡ t → sub_ℕ a b ≤ℤ sub_ℕ a' b'
    go true true d e =
        let x = ltb-true a b d in
        let y = ltb-true a' b' e in
        rw (sub-lt a b x, sub-lt a' b' y) (negsuc-le _ _ (omega arith))
    go true false d e = rw (sub-lt a b (ltb-true a b d), sub-ge a' b' (ltb-false a' b' e)) (record { le = tt })
    go false true d e =
        let x = ltb-false a b d in
        let y = ltb-true a' b' e in
        absurd (omega arith)
    go false false d e =
        let x = ltb-false a b d in
        let y = ltb-false a' b' e in
        rw (sub-ge a b x, sub-ge a' b' y) (pos-le _ _ (omega arith))

-- ---- range

pub mag-sub : (n a b : ℕ) → a < n → b < n → mag (sub_ℕ a b) < n
mag-sub n a b h l = go (ltb a b) refl
  where
    go : (t : Bool) → ltb a b ≡ t → mag (sub_ℕ a b) < n
    go true e = let x = ltb-true a b e in rw (sub-lt a b x) (omega arith)
    go false e = let x = ltb-false a b e in rw (sub-ge a b x) (omega arith)

-- ---- `a as i64 - b as i64`

module _ (a b : ℕ) (h : a < 2 ^ 63) (l : b < 2 ^ 63) where
  pub difference-fits : SFits w64 (to_z w64 a -ℤ to_z w64 b)
  difference-fits = rw (to_z_pos w64 a h, to_z_pos w64 b l, minus a b) (record { sfits = mag-sub (2 ^ 63) a b h l })

  pub difference-is : to_z w64 (of_z w64 (to_z w64 a -ℤ to_z w64 b)) ≡ sub_ℕ a b
  difference-is = to_z-of_z w64 (to_z w64 a -ℤ to_z w64 b) difference-fits ∙ rw (to_z_pos w64 a h, to_z_pos w64 b l) (minus a b)
