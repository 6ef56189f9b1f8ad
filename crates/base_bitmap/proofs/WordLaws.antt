-- Laws of a word's bits: the lowest that is set by trailing zeros, the word without it, counts of ones, and a bit that is set. Assumes nothing.
use mathlib.Core.Path.{◌≡◌, refl, sym, ap, ap₂, ◌∙◌, subst}
use mathlib.Core.Bool.{Bool, true, false, cond}
use mathlib.Core.List.{[], ◌∷◌}
use Prim.Native.Nat.{ℕ, zero, suc, ◌+◌, ◌-◌, ◌*◌, ◌/◌, ◌%◌, ◌^◌, max, ◌<◌}
use native.Mathlib.Nat.{mod-lt, mod-eq_of_lt, pow-suc, div-div-eq-div-mul, mul_comm, mul-mod_left, div-one, zero-div, one-mul, le_of_suc-le-suc, not-suc-le-zero}
use native.Mathlib.Numerals.{one-add}
use native.Mathlib.Omega.{arith}
use borrow.Author.Tests.{eqb-true, eqb-false, eq-eqb, ne_eqb}
use lib.Dec.{lit<, eqb}
use lib.ListN.{length, drop, length-append}
use lib.Bits.{bit_and, bit_or, or_step, or_shr, or_zero_r, and_step, and_self, and_le_r, and_mask}
use lib.Pow.{shl-shr, shl_exact, mod-pow-add, pow_pos}
use lib.Count.{ones, ones_cat, count_trailing_zeros, under}
use Rattle.model.specs.Effects.{marked}
use Rattle.base_bitmap.specs.Marks.{bit, bits_of, with_bit}
use Rattle.base_bitmap.proofs.MarkedLaws.{marked-none, marked-lowest, marked-rest}

-- ---- one bit as a digit: the lowest, and the next

abbrev digit : ℕ → ℕ → ℕ
digit w i = w / 2 ^ i % 2

digit-zero : (w : ℕ) → digit w 0 ≡ w % 2
digit-zero w = ap (λ (x : ℕ). x % 2) (div-one w)

digit-suc : (w i : ℕ) → digit w (suc i) ≡ digit (w / 2) i
digit-suc w i = ap (λ (x : ℕ). x % 2) (ap (λ (x : ℕ). w / x) (pow-suc 2 i ∙ mul_comm (2 ^ i) 2) ∙ sym (div-div-eq-div-mul w 2 (2 ^ i)))

digit_lt : (w i : ℕ) → digit w i < 2
digit_lt w i = mod-lt (w / 2 ^ i) (lit< tt)

digit-none : (i : ℕ) → digit 0 i ≡ 0
digit-none i = ap (λ (x : ℕ). x % 2) (zero-div (2 ^ i))

bit-one : (w k : ℕ) → digit w k ≡ 1 → bit w k ≡ true
unfolding bit
bit-one w k e = eq-eqb (digit w k) 1 e

bit-no : (w k : ℕ) → digit w k ≡ 0 → bit w k ≡ false
unfolding bit
bit-no w k e = ne_eqb (digit w k) 1 (λ f. omega arith)

bit-same : (v w k : ℕ) → digit v k ≡ digit w k → bit v k ≡ bit w k
unfolding bit
bit-same v w k e = ap (λ (d : ℕ). eqb d 1) e

pub bit-zero : (k : ℕ) → bit 0 k ≡ false
bit-zero k = bit-no 0 k (digit-none k)

-- ---- the lowest bit that is set

record Lowest (w t : ℕ) : Type 0 where
  set : digit w t ≡ 1
  below : (j : ℕ) → j < t → digit w j ≡ 0

-- one place up: w is even, and t is the lowest of its half
lowest-up : (w t : ℕ) → w % 2 ≡ 0 → Lowest (w / 2) t → Lowest w (suc t)
lowest-up w t e l = record { set = digit-suc w t ∙ l.set; below = go }
  where
    go : (j : ℕ) → j < suc t → digit w j ≡ 0
    go zero h = digit-zero w ∙ e
    go (suc j) h = digit-suc w j ∙ l.below j (le_of_suc-le-suc h)

lowest-is : (k w : ℕ) → 0 < w → w < 2 ^ k → (count_trailing_zeros k w < k) × Lowest w (count_trailing_zeros k w)
unfolding count_trailing_zeros
lowest-is zero w p h = absurd (omega arith)
lowest-is (suc k) w p h = go (λ q. lowest-is k (w / 2) q (omega (arith, pow-suc 2 k))) (w % 2) refl
  where
    go : (0 < w / 2 → (count_trailing_zeros k (w / 2) < k) × Lowest (w / 2) (count_trailing_zeros k (w / 2)))
        → (d : ℕ) → w % 2 ≡ d → (under d (count_trailing_zeros k (w / 2)) < suc k) × Lowest w (under d (count_trailing_zeros k (w / 2)))
    go rest zero e = let r = rest (omega arith) in (omega arith, lowest-up w (count_trailing_zeros k (w / 2)) e r.1)
    go rest (suc d) e = (omega arith, record { set = digit-zero w ∙ omega arith; below = λ j h. absurd (not-suc-le-zero h) })

-- ---- `w & (w - 1)` clears it

record Without (w t v : ℕ) : Type 0 where
  gone : digit v t ≡ 0
  kept : (j : ℕ) → (j ≡ t → ⊥) → digit v j ≡ digit w j

-- twice v' is w without a bit, where v' is w's half without the bit below it
without-up : (w t v' : ℕ) → w % 2 ≡ 0 → Without (w / 2) t v' → Without w (suc t) (v' * 2)
without-up w t v' e r = record { gone = digit-suc (v' * 2) t ∙ ap (λ (x : ℕ). digit x t) (shl-shr v' 1) ∙ r.gone; kept = go }
  where
    go : (j : ℕ) → (j ≡ suc t → ⊥) → digit (v' * 2) j ≡ digit w j
    go zero n = digit-zero (v' * 2) ∙ mul-mod_left v' 2 ∙ sym e ∙ sym (digit-zero w)
    go (suc j) n =
        digit-suc (v' * 2) j ∙ ap (λ (x : ℕ). digit x j) (shl-shr v' 1) ∙ r.kept j (λ q. n (ap suc q)) ∙ sym (digit-suc w j)

without-first : (w : ℕ) → w % 2 ≡ 1 → Without w 0 (w / 2 * 2)
without-first w e = record { gone = digit-zero (w / 2 * 2) ∙ mul-mod_left (w / 2) 2; kept = go }
  where
    go : (j : ℕ) → (j ≡ 0 → ⊥) → digit (w / 2 * 2) j ≡ digit w j
    go zero n = absurd (n refl)
    go (suc j) n = digit-suc (w / 2 * 2) j ∙ ap (λ (x : ℕ). digit x j) (shl-shr (w / 2) 1) ∙ sym (digit-suc w j)

clear-odd : (w : ℕ) → w % 2 ≡ 1 → bit_and w (w - 1) ≡ w / 2 * 2
clear-odd w e =
    let q : (w - 1) / 2 ≡ w / 2 = omega arith in
    omega (arith, and_step w (w - 1), ap (λ (x : ℕ). bit_and (w / 2) x) q, and_self (w / 2))

clear-even : (w : ℕ) → 0 < w → w % 2 ≡ 0 → bit_and w (w - 1) ≡ bit_and (w / 2) (w / 2 - 1) * 2
clear-even w p e =
    let q : (w - 1) / 2 ≡ w / 2 - 1 = omega arith in
    omega (arith, and_step w (w - 1), ap (λ (x : ℕ). bit_and (w / 2) x) q)

cleared : (w t : ℕ) → 0 < w → Lowest w t → Without w t (bit_and w (w - 1))
cleared w zero p l =
    let e : w % 2 ≡ 1 = sym (digit-zero w) ∙ l.set in
    subst (λ (x : ℕ). Without w 0 x) (sym (clear-odd w e)) (without-first w e)
cleared w (suc t) p l =
    let e : w % 2 ≡ 0 = sym (digit-zero w) ∙ l.below 0 (omega arith) in
    let l' : Lowest (w / 2) t = record { set = sym (digit-suc w t) ∙ l.set; below = λ j h. sym (digit-suc w j) ∙ l.below (suc j) (omega arith) } in
    subst (λ (x : ℕ). Without w (suc t) x) (sym (clear-even w p e))
    (without-up w t (bit_and (w / 2) (w / 2 - 1)) e (cleared (w / 2) t (omega arith) l'))

-- ---- the bits of a word: the lowest first, then the rest

pub no_bits : bits_of 0 ≡ []
unfolding bits_of
no_bits = marked-none (bit 0) 64 (λ j l. bit-zero j)

module _ (w : ℕ) (some : 0 < w) (fits : w < 2 ^ 64) where
  pub lowest-lt : count_trailing_zeros 64 w < 64
  lowest-lt = (lowest-is 64 w some fits).0

  low : Lowest w (count_trailing_zeros 64 w)
  low = (lowest-is 64 w some fits).1

  pub lowest-first : bits_of w ≡ count_trailing_zeros 64 w ∷ drop 1 (bits_of w)
  unfolding bits_of
  lowest-first =
      marked-lowest (bit w) 64 (count_trailing_zeros 64 w) lowest-lt (λ j h. bit-no w j (low.below j h)) (bit-one w (count_trailing_zeros 64 w) low.set)

  -- it is set, and the others are as they were without it
  pub lowest_set : bit w (count_trailing_zeros 64 w) ≡ true
  lowest_set = bit-one w (count_trailing_zeros 64 w) low.set

  pub cleared-others : (j : ℕ) → (j ≡ count_trailing_zeros 64 w → ⊥) → bit (bit_and w (w - 1)) j ≡ bit w j
  cleared-others j n = bit-same (bit_and w (w - 1)) w j ((cleared w (count_trailing_zeros 64 w) some low).kept j n)

  pub cleared-rest : bits_of (bit_and w (w - 1)) ≡ drop 1 (bits_of w)
  unfolding bits_of
  cleared-rest =
      let c : Without w (count_trailing_zeros 64 w) (bit_and w (w - 1)) = cleared w (count_trailing_zeros 64 w) some low in
      marked-rest (bit w) 64 (count_trailing_zeros 64 w) lowest-lt (λ j h. bit-no w j (low.below j h)) (bit-one w (count_trailing_zeros 64 w) low.set)
      (bit (bit_and w (w - 1)))
      (bit-no (bit_and w (w - 1)) (count_trailing_zeros 64 w) c.gone)
      (λ j n. bit-same (bit_and w (w - 1)) w j (c.kept j n))

pub cleared-lt : (w : ℕ) → 0 < w → bit_and w (w - 1) < w
cleared-lt w p = omega (arith, and_le_r w (w - 1))

-- ---- how many are set

ones-digit : (d n : ℕ) → d < 2 → length (cond (eqb d 1) (n ∷ []) []) ≡ ones d
unfolding ones
ones-digit zero n h = refl
ones-digit (suc zero) n h = refl
ones-digit (suc (suc d)) n h = absurd (omega arith)

ones-marked : (w k : ℕ) → length (marked (bit w) k) ≡ ones (w % 2 ^ k)
unfolding marked bit ones
ones-marked w zero = let e : w % 1 ≡ 0 = omega arith in sym (ap ones e)
ones-marked w (suc k) =
    length-append (marked (bit w) k) (cond (bit w k) (k ∷ []) [])
    ∙ ap₂ (λ (x y : ℕ). x + y) (ones-marked w k) (ones-digit (digit w k) k (digit_lt w k))
    ∙ omega (arith, ones_cat k (digit w k) (w % 2 ^ k) (mod-lt w (pow_pos k)))
    ∙ sym (ap (λ (x : ℕ). ones (w % 2 ^ x)) (sym (one-add k)) ∙ ap ones (mod-pow-add w 1 k))

pub ones-bits : (w : ℕ) → w < 2 ^ 64 → ones w ≡ length (bits_of w)
unfolding bits_of
ones-bits w h = ap ones (sym (mod-eq_of_lt h)) ∙ sym (ones-marked w 64)

-- ---- a bit that is set

half_pow : (k : ℕ) → 2 ^ suc k / 2 ≡ 2 ^ k
half_pow k = omega (arith, pow-suc 2 k)

even-pow : (k : ℕ) → 2 ^ suc k % 2 ≡ 0
even-pow k = omega (arith, pow-suc 2 k)

with-zero : (w : ℕ) → with_bit w 0 ≡ w / 2 * 2 + 1
unfolding with_bit bit
with-zero w = go (eqb (digit w 0) 1) refl
  where
    go : (b : Bool) → eqb (digit w 0) 1 ≡ b → cond b w (w + 1) ≡ w / 2 * 2 + 1
    go true e = let d : digit w 0 ≡ 1 = eqb-true (digit w 0) 1 e in omega (arith, digit-zero w)
    go false e =
        let n : digit w 0 ≡ 1 → ⊥ = eqb-false (digit w 0) 1 e in
        omega (arith, digit-zero w, digit_lt w 0)

with-suc : (w k : ℕ) → with_bit w (suc k) ≡ with_bit (w / 2) k * 2 + w % 2
unfolding with_bit bit
with-suc w k = ap (λ (d : ℕ). cond (eqb d 1) w (w + 2 ^ suc k)) (digit-suc w k) ∙ go (eqb (digit (w / 2) k) 1)
  where
    go : (b : Bool) → cond b w (w + 2 ^ suc k) ≡ cond b (w / 2) (w / 2 + 2 ^ k) * 2 + w % 2
    go true = omega arith
    go false = omega (arith, pow-suc 2 k)

-- `|` with a power
pub or-pow : (w k : ℕ) → bit_or w (2 ^ k) ≡ with_bit w k
or-pow w zero = omega (arith, or_step w 1, or_zero_r (w / 2), with-zero w)
or-pow w (suc k) = omega (arith, or_step w (2 ^ suc k), ap (λ (x : ℕ). bit_or (w / 2) x) (half_pow k), even-pow k, with-suc w k, or-pow (w / 2) k)

digit_or : (a b i : ℕ) → digit (bit_or a b) i ≡ max (digit a i) (digit b i)
digit_or a b i = omega (arith, or_shr a b i, or_step (a / 2 ^ i) (b / 2 ^ i))

-- the digits of a power
pow-same : (k : ℕ) → digit (2 ^ k) k ≡ 1
pow-same zero = refl
pow-same (suc k) = digit-suc (2 ^ suc k) k ∙ ap (λ (x : ℕ). digit x k) (half_pow k) ∙ pow-same k

pow-other : (k i : ℕ) → (i ≡ k → ⊥) → digit (2 ^ k) i ≡ 0
pow-other zero zero n = absurd (n refl)
pow-other zero (suc i) n = digit-suc 1 i ∙ digit-none i
pow-other (suc k) zero n = digit-zero (2 ^ suc k) ∙ even-pow k
pow-other (suc k) (suc i) n = digit-suc (2 ^ suc k) i ∙ ap (λ (x : ℕ). digit x i) (half_pow k) ∙ pow-other k i (λ e. n (ap suc e))

pub with-same : (w k : ℕ) → bit (with_bit w k) k ≡ true
with-same w k =
    rw (← or-pow) (bit-one (bit_or w (2 ^ k)) k (omega (arith, digit_or w (2 ^ k) k, pow-same k, digit_lt w k)))

pub with-other : (w k j : ℕ) → (j ≡ k → ⊥) → bit (with_bit w k) j ≡ bit w j
with-other w k j n =
    rw (← or-pow) (bit-same (bit_or w (2 ^ k)) w j (omega (arith, digit_or w (2 ^ k) j, pow-other k j n)))

-- `1 << (i & 63)`
pub one_shifted : (i : ℕ) → (1 * 2 ^ bit_and i 63) % 2 ^ 64 ≡ 2 ^ (i % 64)
one_shifted i =
    ap (λ (x : ℕ). (1 * 2 ^ x) % 2 ^ 64) (and_mask i 6) ∙ shl_exact 1 (i % 64) 64 (lit< tt) (omega arith) ∙ one-mul (2 ^ (i % 64))
