-- Laws of a word compared with that of an entry for home 0 which does not close its transaction, by the bits in which the two differ. Assumes nothing.
use mathlib.Core.Path.{◌≡◌, refl, sym, ap, ◌∙◌}
use Prim.Native.Nat.{ℕ, ◌+◌, ◌-◌, ◌*◌, ◌/◌, ◌%◌, ◌^◌, ◌<◌}
use native.Mathlib.Nat.{mod-mod}
use native.Mathlib.Omega.{arith}
use lib.Bits.{bit_and, bit_xor, xor_self, xor_zero_r, xor_block, xor_add_and, and_le_l, and_le_r, and_mask, and_high, and_shr, and_mod, xor_shr, xor_mod}
use Rattle.model.specs.Tag.{tag_word, entry_word, with_displaced, displaced, field, home_field}
use Rattle.model_laws.proofs.bytes.TagLaws.{field_of}

-- ---- fields of two words

xor-none : (a b : ℕ) → bit_xor a b ≡ 0 → a ≡ b
xor-none a b e = omega (arith, e, xor_add_and a b, and_le_l a b, and_le_r a b)

xor-field : (a b k j : ℕ) → field (bit_xor a b) k j ≡ bit_xor (field a k j) (field b k j)
unfolding field
xor-field a b k j = ap (λ (x : ℕ). x % 2 ^ j) (xor_shr a b k) ∙ xor_mod (a / 2 ^ k) (b / 2 ^ k) j

-- a field that a mask leaves
pub and-field : (d m k j : ℕ) → m / 2 ^ k % 2 ^ j ≡ 2 ^ j - 1 → field (bit_and d m) k j ≡ field d k j
unfolding field
and-field d m k j e =
    ap (λ (x : ℕ). x % 2 ^ j) (and_shr d m k) ∙ and_mod (d / 2 ^ k) (m / 2 ^ k) j ∙ ap (λ (x : ℕ). bit_and (d / 2 ^ k % 2 ^ j) x) e
    ∙ and_mask (d / 2 ^ k % 2 ^ j) j ∙ mod-mod (d / 2 ^ k) (2 ^ j)

-- two words that a mask finds alike have that field in common
alike : (a b m k j : ℕ) → bit_and (bit_xor a b) m ≡ 0 → m / 2 ^ k % 2 ^ j ≡ 2 ^ j - 1 → field 0 k j ≡ 0 → field a k j ≡ field b k j
alike a b m k j e f z =
    xor-none (field a k j) (field b k j)
    (sym (xor-field a b k j) ∙ sym (and-field (bit_xor a b) m k j f) ∙ ap (λ (x : ℕ). field x k j) e ∙ z)

-- a word by its fields
chain : (w q1 q2 q14 q27 q53 q57 q58 a0 a1 a2 a14 a27 a53 a57 : ℕ) → w ≡ a0 + 2 * q1 → q1 ≡ a1 + 2 * q2 → q2 ≡ a2 + 2 ^ 12 * q14 → q14 ≡ a14 + 2 ^ 13 * q27
    → q27 ≡ a27 + 2 ^ 26 * q53 → q53 ≡ a53 + 2 ^ 4 * q57 → q57 ≡ a57 + 2 * q58
    → w ≡ a0 + 2 * a1 + 2 ^ 2 * a2 + 2 ^ 14 * a14 + 2 ^ 27 * a27 + 2 ^ 53 * a53 + 2 ^ 57 * a57 + 2 ^ 58 * q58
chain w q1 q2 q14 q27 q53 q57 q58 a0 a1 a2 a14 a27 a53 a57 e0 e1 e2 e14 e27 e53 e57 = omega arith

parts : (w : ℕ) → w < 2 ^ 64
    → w
    ≡ w / 2 ^ 0 % 2 ^ 1 + 2 * (w / 2 ^ 1 % 2 ^ 1) + 2 ^ 2 * (w / 2 ^ 2 % 2 ^ 12) + 2 ^ 14 * (w / 2 ^ 14 % 2 ^ 13) + 2 ^ 27 * (w / 2 ^ 27 % 2 ^ 26)
    + 2 ^ 53 * (w / 2 ^ 53 % 2 ^ 4)
    + 2 ^ 57 * (w / 2 ^ 57 % 2 ^ 1)
    + 2 ^ 58 * (w / 2 ^ 58 % 2 ^ 6)
parts w h =
    let top : w / 2 ^ 58 % 2 ^ 6 ≡ w / 2 ^ 58 = omega arith in
    rw top
    (chain w (w / 2 ^ 1) (w / 2 ^ 2) (w / 2 ^ 14) (w / 2 ^ 27) (w / 2 ^ 53) (w / 2 ^ 57) (w / 2 ^ 58) (w / 2 ^ 0 % 2 ^ 1) (w / 2 ^ 1 % 2 ^ 1)
    (w / 2 ^ 2 % 2 ^ 12)
    (w / 2 ^ 14 % 2 ^ 13)
    (w / 2 ^ 27 % 2 ^ 26)
    (w / 2 ^ 53 % 2 ^ 4)
    (w / 2 ^ 57 % 2 ^ 1)
    (omega arith)
    (omega arith)
    (omega arith)
    (omega arith)
    (omega arith)
    (omega arith)
    (omega arith))

-- ---- the word of an entry for home 0

-- all but the home's bits and the displaced one
abbrev pub apart_from_home : ℕ
apart_from_home = 0xfc1f_ffff_ffff_c003

module _ (plain back : ℕ) (e : plain ≡ entry_word 0 back) (h : back < 2 ^ 13) where
  plain_word : plain ≡ 1 + 2 ^ 14 * back
  unfolding entry_word tag_word
  plain_word = e ∙ omega arith

  plain-used : field plain 0 1 ≡ 1
  plain-used = field_of 1 0 (2 ^ 13 * back) 1 0 (omega (arith, plain_word)) (omega arith) (omega arith)

  plain-open : field plain 1 1 ≡ 0
  plain-open = field_of 1 1 (2 ^ 12 * back) 0 1 (omega (arith, plain_word)) (omega arith) (omega arith)

  plain-above : field plain 58 6 ≡ 0
  plain-above = field_of 6 58 0 0 plain (omega arith) (omega arith) (omega (arith, plain_word))

  plain-upper : field plain 27 26 ≡ 0
  plain-upper = field_of 26 27 0 0 plain (omega arith) (omega arith) (omega (arith, plain_word))

  plain_back : field plain 14 13 ≡ back
  plain_back = field_of 13 14 0 back 1 (omega (arith, plain_word)) h (omega arith)

  module _ (word : ℕ) where
    -- one that differs in home and displaced bit alone
    pub plain-shape : word < 2 ^ 64 → bit_and (bit_xor word plain) apart_from_home ≡ 0 → word ≡ with_displaced (entry_word (home_field word) back) (displaced word)
    unfolding field displaced with_displaced entry_word tag_word
    plain-shape w s =
        let used : word / 2 ^ 0 % 2 ^ 1 ≡ 1 = alike word plain apart_from_home 0 1 s refl refl ∙ plain-used in
        let closing : word / 2 ^ 1 % 2 ^ 1 ≡ 0 = alike word plain apart_from_home 1 1 s refl refl ∙ plain-open in
        let b : word / 2 ^ 14 % 2 ^ 13 ≡ back = alike word plain apart_from_home 14 13 s refl refl ∙ plain_back in
        let upper : word / 2 ^ 27 % 2 ^ 26 ≡ 0 = alike word plain apart_from_home 27 26 s refl refl ∙ plain-upper in
        let above : word / 2 ^ 58 % 2 ^ 6 ≡ 0 = alike word plain apart_from_home 58 6 s refl refl ∙ plain-above in
        let low : home_field word % 2 ^ 12 ≡ word / 2 ^ 2 % 2 ^ 12 = omega arith in
        let high : home_field word / 2 ^ 12 ≡ word / 2 ^ 53 % 2 ^ 4 = omega arith in
        parts word w ∙ omega arith

    -- one with the same distance back
    pub back-same : field word 14 13 ≡ back → bit_and (bit_xor word plain) 0x7ff_c000 ≡ 0
    unfolding field
    back-same s =
        and_high (bit_xor word plain) 13 14
        ∙ ap (λ (x : ℕ). x * 2 ^ 14) (xor-field word plain 14 13 ∙ ap (λ (x : ℕ). bit_xor x (field plain 14 13)) (s ∙ sym plain_back) ∙ xor_self (field plain 14 13))

-- ---- the bits in which the word of an entry for another home differs

below-16 : (x home above : ℕ) → x ≡ home + 2 ^ 16 * above → home < 2 ^ 16 → x % 2 ^ 16 ≡ home
below-16 x home above e h = omega arith

module _ (word plain home back bit : ℕ) (h : home < 2 ^ 16) (m : back < 2 ^ 13) (e : plain ≡ entry_word 0 back)
    (f : word ≡ with_displaced (entry_word home back) bit) where
  apart_low : bit_xor (4 * (home % 2 ^ 12) + 1) 1 ≡ 4 * (home % 2 ^ 12)
  apart_low =
      let q : 4 * (home % 2 ^ 12) + 1 ≡ (home % 2 ^ 12) * 2 ^ 2 + 1 = omega arith in
      rw q (xor_block 2 (home % 2 ^ 12) 0 1 1 (omega arith) (omega arith) ∙ omega (arith, xor_zero_r (home % 2 ^ 12), xor_self 1))

  apart-middle : bit_xor (back * 2 ^ 14 + (4 * (home % 2 ^ 12) + 1)) (back * 2 ^ 14 + 1) ≡ 4 * (home % 2 ^ 12)
  apart-middle =
      xor_block 14 back back (4 * (home % 2 ^ 12) + 1) 1 (omega arith) (omega arith) ∙ omega (arith, xor_self back, apart_low)

  pub apart-home : bit_xor word plain ≡ 4 * (home % 2 ^ 12) + 2 ^ 53 * (home / 2 ^ 12) + 2 ^ 57 * bit
  unfolding with_displaced entry_word tag_word
  apart-home =
      let high : ℕ = 2 ^ 26 * (home / 2 ^ 12) + 2 ^ 30 * bit in
      let w : word ≡ high * 2 ^ 27 + (back * 2 ^ 14 + (4 * (home % 2 ^ 12) + 1)) = omega (arith, f) in
      let p : plain ≡ 0 * 2 ^ 27 + (back * 2 ^ 14 + 1) = omega (arith, e) in
      rw (w, p)
      (xor_block 27 high 0 (back * 2 ^ 14 + (4 * (home % 2 ^ 12) + 1)) (back * 2 ^ 14 + 1) (omega arith) (omega arith)
      ∙ omega (arith, xor_zero_r high, apart-middle))

  -- shifted to their places and added
  pub apart-sum : bit < 2 → (bit_xor word plain / 2 ^ 2 + bit_xor word plain / 2 ^ 41) % 2 ^ 16 ≡ home
  apart-sum b =
      let low : ℕ = home % 2 ^ 12 in
      let high : ℕ = home / 2 ^ 12 in
      let s : bit_xor word plain / 2 ^ 2 ≡ low + 2 ^ 51 * high + 2 ^ 55 * bit = omega (arith, apart-home) in
      let t : bit_xor word plain / 2 ^ 41 ≡ 2 ^ 12 * high + 2 ^ 16 * bit = omega (arith, apart-home) in
      let u : bit_xor word plain / 2 ^ 2 + bit_xor word plain / 2 ^ 41 ≡ home + 2 ^ 16 * (2 ^ 35 * high + 2 ^ 39 * bit + bit) = omega arith in
      below-16 _ home (2 ^ 35 * high + 2 ^ 39 * bit + bit) u h
