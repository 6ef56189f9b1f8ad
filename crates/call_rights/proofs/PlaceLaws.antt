-- Laws of the list's blocks by their places in the log, of the ranges in one, and of zeros word by word. Assumes nothing.
use mathlib.Core.Path.{◌≡◌, refl, sym, ◌∙◌}
use mathlib.Core.Bool.{Bool, true, false, cond, ◌&&◌}
use mathlib.Core.List.{List, []}
use Prim.Native.Nat.{ℕ, zero, suc, ◌+◌, ◌-◌, ◌*◌, ◌≤◌, ◌<◌}
use native.Mathlib.Decide.{ℕ_discrete}
use native.Mathlib.Omega.{arith}
use borrow.Author.Tests.{eqb-true, eqb-false, eq-eqb, ne_eqb}
use lib.Bits.{bit_or, or_add_and, and_le_l, and_le_r}
use lib.Dec.{eqb}
use lib.ListN.{length}
use Rattle.model.specs.Bytes.{part, zeros, number, same}
use Rattle.model.specs.Tag.{displaced}
use Rattle.model.specs.Layout.{with_top_bit, home_at}
use Rattle.model.specs.declared.State.{State}
use Rattle.model.specs.Rights.{in_range, in_ranges}
use Rattle.model_laws.proofs.bytes.ByteLaws.{number-below, number-part}
use Rattle.base_codec.proofs.BlockLaws.{word-turn, word-stop, test-end}
use Rattle.log_shown.specs.There.{Searchable, place_by, shown_with, tag_from, entry_from}
use Rattle.log_shown.proofs.ThereLaws.{place-fits, shown-home, shown-at}
use Rattle.call_rights.specs.Listed.{block_by, blocks_by, block_from}
use Rattle.call_rights.proofs.RightsLaws.{ranges-part}

-- ---- words of zeros

pub or-none : (a b : ℕ) → eqb (bit_or a b) 0 ≡ (eqb a 0 && eqb b 0)
or-none a b = go (ℕ_discrete a 0) (ℕ_discrete b 0)
  where
    go : Dec (a ≡ 0) → Dec (b ≡ 0) → eqb (bit_or a b) 0 ≡ (eqb a 0 && eqb b 0)
    go (yes x) (yes y) = rw (eq-eqb a 0 x, eq-eqb b 0 y) (eq-eqb (bit_or a b) 0 (omega (arith, or_add_and a b, x, y)))
    go (yes x) (no y) =
        rw (eq-eqb a 0 x, ne_eqb b 0 y) (ne_eqb (bit_or a b) 0 (λ e. y (omega (arith, or_add_and a b, and_le_l a b, and_le_r a b, e))))
    go (no x) k = rw (ne_eqb a 0 x) (ne_eqb (bit_or a b) 0 (λ e. x (omega (arith, or_add_and a b, and_le_l a b, and_le_r a b, e))))

pub four-words : (a b c d i j k l : ℕ) → a ≡ i → b ≡ j → c ≡ k → d ≡ l
    → eqb (bit_or a (bit_or b (bit_or c d))) 0 ≡ (eqb i 0 && (eqb j 0 && (eqb k 0 && eqb l 0)))
four-words a b c d i j k l p q r s = rw (or-none a (bit_or b (bit_or c d)), or-none b (bit_or c d), or-none c d, p, q, r, s)

word-step : (s : List ℕ) (at next n m : ℕ) → next ≡ at + 8 → n ≡ m + 8 → at + 8 ≤ length s
    → same (part s at n) (zeros n) ≡ (eqb (number 8 s at) 0 && same (part s next m) (zeros m))
word-step s at next n m e f l = go (ℕ_discrete (number 8 s at) 0)
  where
    go : Dec (number 8 s at ≡ 0) → same (part s at n) (zeros n) ≡ (eqb (number 8 s at) 0 && same (part s next m) (zeros m))
    go (yes z) =
        let k : n - 8 ≡ m = omega arith in
        rw (eq-eqb (number 8 s at) 0 z, e) (sym (rw k at (word-turn 8 s at n (omega arith) l z)))
    go (no z) = rw (ne_eqb (number 8 s at) 0 z) (word-stop 8 s at n (omega arith) l z)

pub eight-words : (s : List ℕ) (at : ℕ) → at + 64 ≤ length s
    → same (part s at 64) (zeros 64)
    ≡ (eqb (number 8 s at) 0
    && (eqb (number 8 s (at + 8)) 0
    && (eqb (number 8 s (at + 16)) 0
    && (eqb (number 8 s (at + 24)) 0
    && (eqb (number 8 s (at + 32)) 0
    && (eqb (number 8 s (at + 32 + 8)) 0 && (eqb (number 8 s (at + 32 + 16)) 0 && (eqb (number 8 s (at + 32 + 24)) 0 && true))))))))
eight-words s at l =
    rw (
      word-step s at (at + 8) 64 56 refl (omega arith) (omega arith),
      word-step s (at + 8) (at + 16) 56 48 (omega arith) (omega arith) (omega arith),
      word-step s (at + 16) (at + 24) 48 40 (omega arith) (omega arith) (omega arith),
      word-step s (at + 24) (at + 32) 40 32 (omega arith) (omega arith) (omega arith),
      word-step s (at + 32) (at + 32 + 8) 32 24 (omega arith) (omega arith) (omega arith),
      word-step s (at + 32 + 8) (at + 32 + 16) 24 16 (omega arith) (omega arith) (omega arith),
      word-step s (at + 32 + 16) (at + 32 + 24) 16 8 (omega arith) (omega arith) (omega arith),
      word-step s (at + 32 + 24) (at + 64) 8 0 (omega arith) (omega arith) (omega arith),
      test-end s (at + 64) 0 (omega arith),
    )

and-eight : (a b c d e f g h : Bool)
    → (a && (b && (c && (d && (e && (f && (g && (h && true)))))))) ≡ ((a && (b && (c && d))) && (e && (f && (g && h))))
and-eight false b c d e f g h = refl
and-eight true false c d e f g h = refl
and-eight true true false d e f g h = refl
and-eight true true true false e f g h = refl
and-eight true true true true false f g h = refl
and-eight true true true true true false g h = refl
and-eight true true true true true true false h = refl
and-eight true true true true true true true true = refl
and-eight true true true true true true true false = refl

pub zero-words : (s : List ℕ) (at a b : ℕ) → at + 64 ≤ length s
    → eqb a 0
    ≡ (eqb (number 8 s at) 0 && (eqb (number 8 s (at + 8)) 0 && (eqb (number 8 s (at + 16)) 0 && eqb (number 8 s (at + 24)) 0)))
    → eqb b 0
    ≡ (eqb (number 8 s (at + 32)) 0
    && (eqb (number 8 s (at + 32 + 8)) 0 && (eqb (number 8 s (at + 32 + 16)) 0 && eqb (number 8 s (at + 32 + 24)) 0)))
    → eqb (bit_or a b) 0 ≡ same (part s at 64) (zeros 64)
zero-words s at a b l p q =
    or-none a b
    ∙ rw (p, q)
    (sym
    (eight-words s at l
    ∙ and-eight (eqb (number 8 s at) 0) (eqb (number 8 s (at + 8)) 0) (eqb (number 8 s (at + 16)) 0) (eqb (number 8 s (at + 24)) 0)
    (eqb (number 8 s (at + 32)) 0) (eqb (number 8 s (at + 32 + 8)) 0) (eqb (number 8 s (at + 32 + 16)) 0) (eqb (number 8 s (at + 32 + 24)) 0)))

-- ---- ranges in the block of an entry

top-number : (b : List ℕ) (bit o : ℕ) → o + 2 ≤ 63 → number 2 (with_top_bit b bit) o ≡ number 2 b o
unfolding with_top_bit
top-number b bit o h = number-below 2 b 63 _ o h

pub range-raw : (log : List ℕ) (p o home : ℕ) → o + 4 ≤ 63 → in_range log (p + o) home ≡ in_range (entry_from log p) o home
unfolding in_range entry_from
range-raw log p o home h =
    let e : p + o + 2 ≡ p + (o + 2) = omega arith in
    rw (
      top-number (part log p 64) (displaced (number 8 log (tag_from p))) o (omega arith),
      top-number (part log p 64) (displaced (number 8 log (tag_from p))) (o + 2) (omega arith),
      number-part 2 log p 64 o (omega arith),
      number-part 2 log p 64 (o + 2) (omega arith),
      e,
    )

pub last-range : (xs : List ℕ) (o home : ℕ) → o + 12 ≡ 60 → in_range xs 60 home ≡ in_range xs (o + 12) home
last-range xs o home e = rw e

-- ---- blocks by their places

module _ (log area : List ℕ) (st : State) (kept : List ℕ) (from i at : ℕ) where
  pub block-from : at ≡ place_by log st (8 + i) (number 8 kept (from + 8 * i)) → block_from log area at i ≡ block_by log area st kept from i
  unfolding block_from block_by home_at
  block-from e = go (eqb at 0) refl
    where
      go : (b : Bool) → eqb at 0 ≡ b → cond b (part area (64 * (8 + i)) 64) (entry_from log at) ≡ shown_with log area st (8 + i) (number 8 kept (from + 8 * i))
      go true t = sym (shown-home log area st (8 + i) _ at e (eqb-true at 0 t))
      go false t = sym (shown-at log area st (8 + i) _ at e (eqb-false at 0 t))

  pub ranges-by : at ≡ place_by log st (8 + i) (number 8 kept (from + 8 * i)) → (r : Bool) (o home : ℕ)
      → r ≡ in_ranges (block_from log area at i) o home 4 → r ≡ in_ranges (block_by log area st kept from i) o home 4
  ranges-by e r o home q = q ∙ rw (block-from e)

  pub zero-by : at ≡ place_by log st (8 + i) (number 8 kept (from + 8 * i)) → (r : Bool) → r ≡ same (block_from log area at i) (zeros 64)
      → r ≡ same (block_by log area st kept from i) (zeros 64)
  zero-by e r q = q ∙ rw (block-from e)

-- a place is one in the log
pub fits : (log : List ℕ) (st : State) (home p at : ℕ) → at ≡ place_by log st home p → Searchable log st → (at ≡ 0 → ⊥)
    → (128 ≤ at) × (at + 64 ≤ length log)
fits log st home p at e s z = place-fits log [] st home p at e s z

module _ (log area : List ℕ) (st : State) (kept : List ℕ) (from : ℕ) where
  pub own-zero : (own i : ℕ) → i ≡ own → same (block_by log area st kept from own) (zeros 64) ≡ true
      → true ≡ same (block_by log area st kept from i) (zeros 64)
  own-zero own i e q = sym (rw e q)

  pub zeros-end : (i : ℕ) → i ≡ 4 → same (blocks_by log area st kept from i) (zeros (64 * i)) ≡ true
      → true ≡ same (blocks_by log area st kept from 4) (zeros 256)
  zeros-end i e q = sym (rw e at q)

module _ (log area : List ℕ) (i at : ℕ) where
  from-home : at ≡ 0 → block_from log area at i ≡ part area (64 * (8 + i)) 64
  unfolding block_from
  from-home z = rw (eq-eqb at 0 z)

  from-entry : (at ≡ 0 → ⊥) → block_from log area at i ≡ entry_from log at
  unfolding block_from
  from-entry z = rw (ne_eqb at 0 z)

  pub ranges-home : (r : Bool) (o home : ℕ) → at ≡ 0 → o + 16 ≤ 64 → r ≡ in_ranges area (64 * (8 + i) + o) home 4
      → r ≡ in_ranges (block_from log area at i) o home 4
  ranges-home r o home z h q = q ∙ ranges-part area (64 * (8 + i)) o home 4 h ∙ rw (from-home z)

  pub ranges-entry : (r : Bool) (o home : ℕ) → (at ≡ 0 → ⊥) → r ≡ in_ranges (entry_from log at) o home 4 → r ≡ in_ranges (block_from log area at i) o home 4
  ranges-entry r o home z q = q ∙ rw (from-entry z)

  pub zero-home : (r : Bool) → at ≡ 0 → r ≡ same (part area (64 * (8 + i)) 64) (zeros 64) → r ≡ same (block_from log area at i) (zeros 64)
  zero-home r z q = q ∙ rw (from-home z)

  pub zero-entry : (r : Bool) → (at ≡ 0 → ⊥) → r ≡ same (entry_from log at) (zeros 64) → r ≡ same (block_from log area at i) (zeros 64)
  zero-entry r z q = q ∙ rw (from-entry z)

-- ---- where no position is kept

pub four-kept : (xs : List ℕ) (from m : ℕ) → number 8 xs from ≡ m → number 8 xs (from + 8) ≡ m → number 8 xs (from + 16) ≡ m
    → number 8 xs (from + 24) ≡ m → (i : ℕ) → i < 4 → number 8 xs (from + 8 * i) ≡ m
four-kept xs from m p q r s zero h = let e : from + 8 * 0 ≡ from = omega arith in rw e p
four-kept xs from m p q r s (suc zero) h = q
four-kept xs from m p q r s (suc (suc zero)) h = r
four-kept xs from m p q r s (suc (suc (suc zero))) h = s
four-kept xs from m p q r s (suc (suc (suc (suc i)))) h = absurd (omega arith)
