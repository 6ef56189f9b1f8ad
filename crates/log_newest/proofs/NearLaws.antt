-- Laws of a word that differs from that of an entry for home 0 in a near home, below 4,096, and perhaps in its displaced bit. Assumes nothing.
use mathlib.Core.Path.{◌≡◌, refl, sym, ap, ◌∙◌}
use Prim.Native.Nat.{ℕ, ◌+◌, ◌*◌, ◌/◌, ◌%◌, ◌^◌, ◌≤◌, ◌<◌}
use native.Mathlib.Nat.{div-add-mod', mul-div_left, mul-mod_left}
use native.Mathlib.Omega.{arith}
use lib.Arith.{mod-mul}
use lib.Bits.{bit_and, bit_xor, xor_lt, xor_zero_r, xor_block, xor_add_and, and_le_l, and_le_r, and_zero_r, and_shr, and_mod}
use Rattle.model.specs.Tag.{tag_word, entry_word, with_displaced, displaced, field}
use Rattle.model_laws.proofs.bytes.TagLaws.{field_lt}
use Rattle.base_codec.proofs.PlainLaws.{and-field}

xor-none : (a b : ℕ) → bit_xor a b ≡ 0 → a ≡ b
xor-none a b e = omega (arith, e, xor_add_and a b, and_le_l a b, and_le_r a b)

-- ---- all bits but the displaced one

abbrev rest : ℕ
rest = 0xfdff_ffff_ffff_ffff

around-57 : (v : ℕ) → v < 2 ^ 64 → v ≡ field v 0 57 + 2 ^ 57 * field v 57 1 + 2 ^ 58 * field v 58 6
unfolding field
around-57 v h =
    let e0 : v / 2 ^ 0 ≡ v / 2 ^ 0 % 2 ^ 57 + 2 ^ 57 * (v / 2 ^ 57) = omega arith in
    let e1 : v / 2 ^ 57 ≡ v / 2 ^ 57 % 2 ^ 1 + 2 ^ 1 * (v / 2 ^ 58) = omega arith in
    let e2 : v / 2 ^ 58 ≡ v / 2 ^ 58 % 2 ^ 6 = omega arith in
    omega arith

cleared : (d : ℕ) → field (bit_and d rest) 57 1 ≡ 0
unfolding field
cleared d =
    ap (λ (x : ℕ). x % 2 ^ 1) (and_shr d rest 57) ∙ and_mod (d / 2 ^ 57) (rest / 2 ^ 57) 1 ∙ and_zero_r (d / 2 ^ 57 % 2 ^ 1)

with-57 : (d : ℕ) → d < 2 ^ 64 → d ≡ bit_and d rest + 2 ^ 57 * field d 57 1
with-57 d h =
    omega (
      arith,
      around-57 d h,
      around-57 (bit_and d rest) (omega (arith, and_le_l d rest)),
      and-field d rest 0 57 refl,
      cleared d,
      and-field d rest 58 6 refl,
    )

-- ---- the bits in which two words differ

-- bits 0 to 13 of a word, against bit 0 alone
low-apart : (low x : ℕ) → bit_xor low 1 ≡ x → x % 4 ≡ 0 → low ≡ x + 1
low-apart low x e z =
    let q : bit_xor (low / 4 * 2 ^ 2 + low % 4) (0 * 2 ^ 2 + 1) ≡ bit_xor (low / 4) 0 * 2 ^ 2 + bit_xor (low % 4) 1 =
    xor_block 2 (low / 4) 0 (low % 4) 1 (omega arith) (omega arith) in
    let l : low / 4 * 2 ^ 2 + low % 4 ≡ low = omega arith in
    let p : bit_xor low 1 ≡ low / 4 * 4 + bit_xor (low % 4) 1 = ap (λ (v : ℕ). bit_xor v 1) (sym l) ∙ q ∙ omega (arith, xor_zero_r (low / 4)) in
    let s : bit_xor (low % 4) 1 < 4 = xor_lt 2 (low % 4) 1 (omega arith) (omega arith) in
    let n : bit_xor (low % 4) 1 ≡ 0 = omega (arith, p, e, z, s) in
    omega (arith, p, e, n, xor-none (low % 4) 1 n)

-- bits 14 and above, against a distance back
high-apart : (high back bit : ℕ) → back < 2 ^ 13 → bit_xor high back ≡ 2 ^ 43 * bit → high ≡ 2 ^ 43 * bit + back
high-apart high back bit h e =
    let q : bit_xor (high / 2 ^ 43 * 2 ^ 43 + high % 2 ^ 43) (0 * 2 ^ 43 + back) ≡ bit_xor (high / 2 ^ 43) 0 * 2 ^ 43 + bit_xor (high % 2 ^ 43) back =
    xor_block 43 (high / 2 ^ 43) 0 (high % 2 ^ 43) back (omega arith) (omega arith) in
    let l : high / 2 ^ 43 * 2 ^ 43 + high % 2 ^ 43 ≡ high = omega arith in
    let r : 0 * 2 ^ 43 + back ≡ back = omega arith in
    let p : bit_xor high back ≡ high / 2 ^ 43 * 2 ^ 43 + bit_xor (high % 2 ^ 43) back =
    ap (λ (v : ℕ). bit_xor v back) (sym l) ∙ ap (bit_xor (high / 2 ^ 43 * 2 ^ 43 + high % 2 ^ 43)) (sym r) ∙ q ∙ omega (arith, xor_zero_r (high / 2 ^ 43)) in
    let s : bit_xor (high % 2 ^ 43) back < 2 ^ 43 = xor_lt 43 (high % 2 ^ 43) back (omega arith) (omega arith) in
    let n : bit_xor (high % 2 ^ 43) back ≡ 0 = omega (arith, p, e, s) in
    omega (arith, p, e, n, xor-none (high % 2 ^ 43) back n)

-- a word by its bits from 14 on and those below
joined : (w q r x k b : ℕ) → w ≡ q * 2 ^ 14 + r → r ≡ x + 1 → q ≡ 2 ^ 43 * b + k → w ≡ 2 ^ 57 * b + (2 ^ 14 * k + x + 1)
joined w q r x k b e f g = omega arith

top_bit : (w b r : ℕ) → w ≡ 2 ^ 57 * b + r → r < 2 ^ 57 → b < 2 → w / 2 ^ 57 % 2 ^ 1 ≡ b
top_bit w b r e l h = omega arith

near_parts : (x : ℕ) → x < 2 ^ 14 → x % 4 ≡ 0 → (2 ^ 2 * (x / 4 % 2 ^ 12) ≡ x) × (x / 4 / 2 ^ 12 ≡ 0)
near_parts x l z = (omega arith, omega arith)

summed : (w x k b low high d : ℕ) → w ≡ 2 ^ 57 * b + (2 ^ 14 * k + x + 1) → 2 ^ 2 * low ≡ x → high ≡ 0 → d ≡ b
    → w ≡ 1 + 2 * 0 + 2 ^ 2 * low + 2 ^ 14 * k + 2 ^ 27 * 0 + 2 ^ 40 * 0 + 2 ^ 53 * high + 2 ^ 57 * d
summed w x k b low high d e f g h = omega arith

shaped : (w x k b : ℕ) → w % 2 ^ 14 ≡ x + 1 → w / 2 ^ 14 ≡ 2 ^ 43 * b + k → x < 2 ^ 14 → x % 4 ≡ 0 → k < 2 ^ 13 → b < 2
    → w
    ≡ 1 + 2 * 0 + 2 ^ 2 * (x / 4 % 2 ^ 12) + 2 ^ 14 * k + 2 ^ 27 * 0 + 2 ^ 40 * 0 + 2 ^ 53 * (x / 4 / 2 ^ 12) + 2 ^ 57 * (w / 2 ^ 57 % 2 ^ 1)
shaped w x k b low high l z m c =
    let v = joined w (w / 2 ^ 14) (w % 2 ^ 14) x k b (sym (div-add-mod' w (2 ^ 14))) low high in
    let n = near_parts x l z in
    summed w x k b (x / 4 % 2 ^ 12) (x / 4 / 2 ^ 12) (w / 2 ^ 57 % 2 ^ 1) v n.0 n.1 (top_bit w b (2 ^ 14 * k + x + 1) v (omega arith) c)

module _ (word plain back : ℕ) (fits : word < 2 ^ 64) (e : plain ≡ entry_word 0 back) (h : back < 2 ^ 13) where
  plain-is : plain ≡ back * 2 ^ 14 + 1
  unfolding entry_word tag_word
  plain-is = e ∙ omega arith

  apart-blocks : bit_xor word plain ≡ bit_xor (word / 2 ^ 14) back * 2 ^ 14 + bit_xor (word % 2 ^ 14) 1
  apart-blocks =
      let l : word ≡ word / 2 ^ 14 * 2 ^ 14 + word % 2 ^ 14 = omega arith in
      ap (λ (v : ℕ). bit_xor v plain) l ∙ ap (bit_xor (word / 2 ^ 14 * 2 ^ 14 + word % 2 ^ 14)) plain-is
      ∙ xor_block 14 (word / 2 ^ 14) back (word % 2 ^ 14) 1 (omega arith) (omega arith)

  -- they are those of a near home
  pub near_word : (x : ℕ) → x ≡ bit_and (bit_xor word plain) 0xfdff_ffff_ffff_ffff → x < 2 ^ 14 → x % 4 ≡ 0
      → word ≡ with_displaced (entry_word (x / 4) back) (displaced word)
  unfolding with_displaced entry_word tag_word displaced field
  near_word x a l z =
      let b : ℕ = field (bit_xor word plain) 57 1 in
      let d : bit_xor word plain ≡ x + 2 ^ 57 * b =
      with-57 (bit_xor word plain) (xor_lt 64 word plain fits (omega (arith, plain-is))) ∙ ap (λ (v : ℕ). v + 2 ^ 57 * b) (sym a) in
      let s : bit_xor (word % 2 ^ 14) 1 < 2 ^ 14 = xor_lt 14 (word % 2 ^ 14) 1 (omega arith) (omega arith) in
      let t : bit_xor (word % 2 ^ 14) 1 ≡ x = omega (arith, d, apart-blocks, s, l) in
      let u : bit_xor (word / 2 ^ 14) back ≡ 2 ^ 43 * b = omega (arith, d, apart-blocks, s, l) in
      let low : word % 2 ^ 14 ≡ x + 1 = low-apart (word % 2 ^ 14) x t z in
      let high : word / 2 ^ 14 ≡ 2 ^ 43 * b + back = high-apart (word / 2 ^ 14) back b h u in
      let c : b < 2 = field_lt (bit_xor word plain) 57 1 in
      shaped word x back b low high l z h c

-- ---- a word turned by two bits

turned-top : (a : ℕ) → a * 2 ^ 62 % 2 ^ 64 ≡ (a % 4) * 2 ^ 62
turned-top a =
    mod-mul (a * 2 ^ 62) {m = 4} {c = 2 ^ 62} (omega arith) (omega arith)
    ∙ rw (mul-div_left a {n = 2 ^ 62} (omega arith), mul-mod_left a (2 ^ 62)) (omega arith)

turned-sum : (a t r : ℕ) → t ≡ (a % 4) * 2 ^ 62 → r ≡ a / 2 ^ 2 + t → r < 4096 → (a < 2 ^ 14) × (a % 4 ≡ 0) × (a / 4 ≡ r)
turned-sum a t r f e h = (omega arith, omega arith, omega arith)

turned-most : (a t : ℕ) → a < 2 ^ 64 → t ≡ (a % 4) * 2 ^ 62 → a / 2 ^ 2 + t < 2 ^ 64
turned-most a t l f = sum (a / 2 ^ 2) t (omega arith) (top (a % 4) t (omega arith) f)
  where
    top : (b t : ℕ) → b < 4 → t ≡ b * 2 ^ 62 → t ≤ 3 * 2 ^ 62
    top b t h e = omega arith

    sum : (q t : ℕ) → q < 2 ^ 62 → t ≤ 3 * 2 ^ 62 → q + t < 2 ^ 64
    sum q t h e = omega arith

pub turned-fits : (a : ℕ) → a < 2 ^ 64 → a / 2 ^ 2 + a * 2 ^ 62 % 2 ^ 64 < 2 ^ 64
turned-fits a l = turned-most a (a * 2 ^ 62 % 2 ^ 64) l (turned-top a)

pub turned-small : (a r : ℕ) → r ≡ a / 2 ^ 2 + a * 2 ^ 62 % 2 ^ 64 → r < 4096 → (a < 2 ^ 14) × (a % 4 ≡ 0) × (a / 4 ≡ r)
turned-small a r e h = turned-sum a (a * 2 ^ 62 % 2 ^ 64) r (turned-top a) e h
