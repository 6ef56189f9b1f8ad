-- Laws of an entry's block read in its place: its last number, and zeros. Assumes nothing.
use mathlib.Core.Path.{◌≡◌, refl, sym, ap, ◌∙◌}
use mathlib.Core.Bool.{Bool, true, false, ◌&&◌}
use mathlib.Core.List.{List, [], ◌∷◌}
use Prim.Native.Nat.{ℕ, zero, suc, ◌+◌, ◌-◌, ◌*◌, ◌/◌, ◌%◌, ◌^◌, ◌≤◌, ◌<◌}
use native.Mathlib.Decide.{ℕ_discrete}
use native.Mathlib.Omega.{arith}
use borrow.Author.Tests.{eq-eqb, ne_eqb}
use lib.Bits.{bit_or}
use lib.Dec.{eqb}
use lib.ListN.{length, get_or}
use Rattle.model.specs.Bytes.{part, zeros, number, same}
use Rattle.model.specs.Tag.{field, displaced}
use Rattle.model.specs.Layout.{top_bit, with_top_bit}
use Rattle.model_laws.proofs.bytes.ByteLaws.{length_part, number-below, number-inside, number_lt, number-part, part-whole}
use Rattle.model_laws.proofs.bytes.TurnLaws.{byte-number, length-with_top_bit}
use Rattle.base_codec.proofs.JoinLaws.{number-join}
use Rattle.log_shown.specs.There.{tag_from, entry_from}
use Rattle.call_rights.proofs.PlaceLaws.{or-none, eight-words}

-- a word without its top bit, doubled
doubled : (w : ℕ) → w < 2 ^ 64 → w * 2 ^ 1 % 2 ^ 64 ≡ 2 * (w % 2 ^ 63)
doubled w h = go (w / 2 ^ 63) refl
  where
    go : (q : ℕ) → w / 2 ^ 63 ≡ q → w * 2 ^ 1 % 2 ^ 64 ≡ 2 * (w % 2 ^ 63)
    go zero e = let l : w < 2 ^ 63 = omega arith in omega (arith, l)
    go (suc zero) e = let l : 2 ^ 63 ≤ w = omega arith in omega (arith, l)
    go (suc (suc n)) e = absurd (omega arith)

-- the last byte and the bytes before it, of an entry's block by the log's
module _ (log : List ℕ) (p bit : ℕ) (e : bit ≡ displaced (number 8 log (tag_from p))) (fits : p + 64 ≤ length log) where
  length-entry : length (entry_from log p) ≡ 64
  unfolding entry_from
  length-entry = length-with_top_bit (part log p 64) _ ∙ length_part log p 64 fits

  pub entry-number : (k o : ℕ) → o + k ≤ 63 → number k (entry_from log p) o ≡ number k log (p + o)
  unfolding entry_from with_top_bit
  entry-number k o h = number-below k (part log p 64) 63 _ o h ∙ number-part k log p 64 o (omega arith)

  entry-byte : number 1 (entry_from log p) 63 ≡ number 1 log (p + 63) - 2 ^ 7 * (number 1 log (p + 63) / 2 ^ 7 % 2 ^ 1) + 2 ^ 7 * bit
  unfolding entry_from with_top_bit top_bit field
  entry-byte =
      number-inside 1 (part log p 64) 63 (_ ∷ []) 0 (omega (arith, length_part log p 64 fits)) (omega arith)
      ∙ byte-number _ ∙ rw (number-part 1 log p 64 63 (omega arith), e)

  module _ (byte : (i : ℕ) → get_or log i 0 < 256) where
    pub last_word : number 8 (entry_from log p) 56 ≡ number 8 log (p + 56) % 2 ^ 63 + 2 ^ 63 * bit
    last_word =
        let x : number 1 log (p + 63) < 256 = number_lt 1 log (p + 63) byte in
        let l : number 7 log (p + 56) < 256 ^ 7 = number_lt 7 log (p + 56) byte in
        let a : p + 56 + 7 ≡ p + 63 = omega arith in
        let j : number 8 log (p + 56) ≡ number 7 log (p + 56) + 256 ^ 7 * number 1 log (p + 63) = number-join 7 1 log (p + 56) ∙ rw a in
        let k : number 8 (entry_from log p) 56 ≡ number 7 (entry_from log p) 56 + 256 ^ 7 * number 1 (entry_from log p) 63 = number-join 7 1 (entry_from log p) 56 in
        omega (arith, entry-byte, entry-number 7 56 (omega arith))

    pub last-number : number 2 (entry_from log p) 62 ≡ number 2 log (p + 62) % 0x8000 + 0x8000 * bit
    last-number =
        let x : number 1 log (p + 63) < 256 = number_lt 1 log (p + 63) byte in
        let l : number 1 log (p + 62) < 256 = number_lt 1 log (p + 62) byte in
        let a : p + 62 + 1 ≡ p + 63 = omega arith in
        let j : number 2 log (p + 62) ≡ number 1 log (p + 62) + 256 * number 1 log (p + 63) = number-join 1 1 log (p + 62) ∙ rw a in
        let k : number 2 (entry_from log p) 62 ≡ number 1 (entry_from log p) 62 + 256 * number 1 (entry_from log p) 63 = number-join 1 1 (entry_from log p) 62 in
        omega (arith, entry-byte, entry-number 1 62 (omega arith))

    shifted-out : (w : ℕ) → w < 2 ^ 64 → bit < 2 → eqb (w % 2 ^ 63 + 2 ^ 63 * bit) 0 ≡ (eqb (w * 2 ^ 1 % 2 ^ 64) 0 && eqb bit 0)
    shifted-out w h s = go (ℕ_discrete (w * 2 ^ 1 % 2 ^ 64) 0) (ℕ_discrete bit 0)
      where
        go : Dec (w * 2 ^ 1 % 2 ^ 64 ≡ 0) → Dec (bit ≡ 0) → eqb (w % 2 ^ 63 + 2 ^ 63 * bit) 0 ≡ (eqb (w * 2 ^ 1 % 2 ^ 64) 0 && eqb bit 0)
        go (yes x) (yes y) = rw (eq-eqb (w * 2 ^ 1 % 2 ^ 64) 0 x, eq-eqb bit 0 y) (eq-eqb (w % 2 ^ 63 + 2 ^ 63 * bit) 0 (omega (arith, doubled w h)))
        go (yes x) (no y) = rw (eq-eqb (w * 2 ^ 1 % 2 ^ 64) 0 x, ne_eqb bit 0 y) (ne_eqb (w % 2 ^ 63 + 2 ^ 63 * bit) 0 (λ z. y (omega arith)))
        go (no x) y = rw (ne_eqb (w * 2 ^ 1 % 2 ^ 64) 0 x) (ne_eqb (w % 2 ^ 63 + 2 ^ 63 * bit) 0 (λ z. x (omega (arith, doubled w h))))

    -- eight words of which the fourth is tested twice
    entry-words : (front back : ℕ)
        → eqb front 0
        ≡ (eqb (number 8 log p) 0 && (eqb (number 8 log (p + 8)) 0 && (eqb (number 8 log (p + 16)) 0 && eqb (number 8 log (p + 24)) 0)))
        → eqb back 0
        ≡ (eqb (number 8 log (p + 24)) 0
        && (eqb (number 8 log (p + 24 + 8)) 0 && (eqb (number 8 log (p + 24 + 16)) 0 && eqb (number 8 log (p + 24 + 24)) 0)))
        → same (entry_from log p) (zeros 64) ≡ (eqb (bit_or front back) 0 && eqb (number 8 (entry_from log p) 56) 0)
    entry-words front back f g =
        let a : p + 24 + 8 ≡ p + 32 = omega arith in
        let b : p + 24 + 16 ≡ p + 40 = omega arith in
        let c : p + 24 + 24 ≡ p + 48 = omega arith in
        all (entry_from log p) refl
        ∙ grouped (eqb (number 8 log p) 0) (eqb (number 8 log (p + 8)) 0) (eqb (number 8 log (p + 16)) 0) (eqb (number 8 log (p + 24)) 0)
        (eqb (number 8 log (p + 32)) 0) (eqb (number 8 log (p + 40)) 0) (eqb (number 8 log (p + 48)) 0) (eqb (number 8 (entry_from log p) 56) 0)
        ∙ rw (or-none front back, f, g, a, b, c)
      where
        grouped : (a b c d e f g h : Bool)
            → (a && (b && (c && (d && (e && (f && (g && (h && true)))))))) ≡ (((a && (b && (c && d))) && (d && (e && (f && g)))) && h)
        grouped false b c d e f g h = refl
        grouped true false c d e f g h = refl
        grouped true true false d e f g h = refl
        grouped true true true false e f g h = refl
        grouped true true true true false f g h = refl
        grouped true true true true true false g h = refl
        grouped true true true true true true false h = refl
        grouped true true true true true true true true = refl
        grouped true true true true true true true false = refl

        all : (x : List ℕ) → x ≡ entry_from log p
            → same x (zeros 64)
            ≡ (eqb (number 8 log p) 0
            && (eqb (number 8 log (p + 8)) 0
            && (eqb (number 8 log (p + 16)) 0
            && (eqb (number 8 log (p + 24)) 0
            && (eqb (number 8 log (p + 32)) 0
            && (eqb (number 8 log (p + 40)) 0 && (eqb (number 8 log (p + 48)) 0 && (eqb (number 8 x 56) 0 && true))))))))
        all x q =
            let n : (o : ℕ) → o + 8 ≤ 63 → number 8 x o ≡ number 8 log (p + o) = λ o g. rw q (entry-number 8 o g) in
            let z : p + 0 ≡ p = omega arith in
            let m : number 8 x 0 ≡ number 8 log p = n 0 (omega arith) ∙ rw z in
            let l : length x ≡ 64 = rw q length-entry in
            rw (
              ← m,
              ← n 8 (omega arith),
              ← n 16 (omega arith),
              ← n 24 (omega arith),
              ← n 32 (omega arith),
              ← n 40 (omega arith),
              ← n 48 (omega arith),
            )
            (ap (λ (y : List ℕ). same y (zeros 64)) (sym (part-whole x 64 (omega arith))) ∙ eight-words x 0 (omega arith))

    module _ (front back : ℕ)
        (f : eqb front 0
        ≡ (eqb (number 8 log p) 0 && (eqb (number 8 log (p + 8)) 0 && (eqb (number 8 log (p + 16)) 0 && eqb (number 8 log (p + 24)) 0))))
        (g : eqb back 0
        ≡ (eqb (number 8 log (p + 24)) 0
        && (eqb (number 8 log (p + 24 + 8)) 0 && (eqb (number 8 log (p + 24 + 16)) 0 && eqb (number 8 log (p + 24 + 24)) 0)))) where
      pub not-zero : (bit_or front back ≡ 0 → ⊥) → false ≡ same (entry_from log p) (zeros 64)
      not-zero n = sym (entry-words front back f g ∙ rw (ne_eqb (bit_or front back) 0 n))

      pub zero-last : (last : ℕ) → bit_or front back ≡ 0 → bit < 2 → last < 2 ^ 64 → last ≡ number 8 log (p + 56)
          → eqb (bit_or (last * 2 ^ 1 % 2 ^ 64) bit) 0 ≡ same (entry_from log p) (zeros 64)
      zero-last last z s h l =
          let w : eqb (number 8 (entry_from log p) 56) 0 ≡ (eqb (last * 2 ^ 1 % 2 ^ 64) 0 && eqb bit 0) = rw (last_word, ← l) (shifted-out last h s) in
          or-none (last * 2 ^ 1 % 2 ^ 64) bit ∙ sym (entry-words front back f g ∙ rw (eq-eqb (bit_or front back) 0 z, w))
