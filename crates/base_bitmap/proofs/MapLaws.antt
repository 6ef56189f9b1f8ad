-- Laws of maps of marks: word by word, an empty map, and a mark that is set. Assumes nothing.
use mathlib.Core.Path.{◌≡◌, refl, ap, ◌∙◌}
use mathlib.Core.Bool.{Bool, true, false, ◌||◌}
use mathlib.Core.List.{List}
use Prim.Native.Nat.{ℕ, zero, suc, ◌+◌, ◌*◌, ◌/◌, ◌%◌, ◌^◌, ◌<◌}
use native.Mathlib.Omega.{arith}
use borrow.Author.Tests.{eqb-true, eqb-false}
use lib.Bits.{bit_and, bit_or}
use lib.Dec.{eqb}
use lib.ListN.{length, get_or, set, replicate, length-set}
use lib.Seq.{get_or-set_same, get_or-set_other}
use Rattle.base_bitmap.specs.Marks.{bit, marks, with_bit, with_mark}
use Rattle.base_bitmap.proofs.WordLaws.{bit-zero, or-pow, one_shifted, with-same, with-other}

-- ---- word by word

pub marks-in : (ws : List ℕ) (n k : ℕ) → k < 64 → marks ws (64 * n + k) ≡ bit (get_or ws n 0) k
unfolding marks
marks-in ws n k h =
    let e : (64 * n + k) / 64 ≡ n = omega arith in
    let f : (64 * n + k) % 64 ≡ k = omega arith in
    rw (e, f)

-- ---- an empty map

pub marks-none : (n j : ℕ) → marks (replicate n 0) j ≡ false
unfolding marks
marks-none n j = ap (λ (w : ℕ). bit w (j % 64)) (go n (j / 64)) ∙ bit-zero (j % 64)
  where
    go : (n i : ℕ) → ◌≡◌ {A = ℕ} (get_or (replicate n 0) i 0) 0
    go zero i = refl
    go (suc n) zero = refl
    go (suc n) (suc i) = go n i

-- ---- a mark that is set

pub length-mark : (ws : List ℕ) (i : ℕ) → length (with_mark ws i) ≡ length ws
unfolding with_mark
length-mark ws i = length-set ws (i / 64) _

-- `ws[i >> 6] | 1 << (i & 63)`, stored
pub mark_set : (ws : List ℕ) (i : ℕ) → set ws (i / 64) (bit_or (get_or ws (i / 64) 0) ((1 * 2 ^ bit_and i 63) % 2 ^ 64)) ≡ with_mark ws i
unfolding with_mark
mark_set ws i = rw (one_shifted, or-pow)

module _ (ws : List ℕ) (i : ℕ) (h : i < 64 * length ws) where
  mark-here : marks (with_mark ws i) i ≡ true
  unfolding marks with_mark
  mark-here = let l : i / 64 < length ws = omega arith in rw (get_or-set_same ws (i / 64) (with_bit (get_or ws (i / 64) 0) (i % 64)) 0 l) (with-same (get_or ws (i / 64) 0) (i % 64))

  mark-other : (j : ℕ) → (i ≡ j → ⊥) → marks (with_mark ws i) j ≡ marks ws j
  unfolding marks with_mark
  mark-other j n = go (eqb (j / 64) (i / 64)) refl
    where
      go : (b : Bool) → eqb (j / 64) (i / 64) ≡ b → bit (get_or (set ws (i / 64) (with_bit (get_or ws (i / 64) 0) (i % 64))) (j / 64) 0) (j % 64) ≡ bit (get_or ws (j / 64) 0) (j % 64)
      go true e =
          let l : i / 64 < length ws = omega arith in
          let q : j / 64 ≡ i / 64 = eqb-true (j / 64) (i / 64) e in
          rw (q, get_or-set_same ws (i / 64) (with_bit (get_or ws (i / 64) 0) (i % 64)) 0 l)
          (with-other (get_or ws (i / 64) 0) (i % 64) (j % 64) (λ r. n (omega arith)))
      go false e = ap (λ (w : ℕ). bit w (j % 64)) (get_or-set_other ws (i / 64) (j / 64) _ 0 (eqb-false (j / 64) (i / 64) e))

  -- i is marked, and every other is as before
  pub mark-each : (j : ℕ) → marks (with_mark ws i) j ≡ (eqb i j || marks ws j)
  mark-each j = go (eqb i j) refl
    where
      go : (b : Bool) → eqb i j ≡ b → marks (with_mark ws i) j ≡ (b || marks ws j)
      go true e = let q : i ≡ j = eqb-true i j e in rw (← q) mark-here
      go false e = mark-other j (eqb-false i j e)
