-- What a tag's word says, test by test of its shifted and masked fields: one that fails, or all that hold. Assumes nothing.
use mathlib.Core.Path.{◌≡◌, refl, sym, ◌∙◌}
use mathlib.Core.Bool.{Bool, true, false}
use Prim.Native.Nat.{ℕ, ◌+◌, ◌-◌, ◌*◌, ◌/◌, ◌%◌, ◌^◌, ◌≤◌, ◌<◌}
use native.Mathlib.Omega.{arith}
use borrow.Author.Tests.{eq-eqb, ne_eqb, le-leb, lt-leb}
use lib.Bits.{bit_and, bit_or, and_mask, mask_lt}
use Rattle.model.specs.Tag.{field, home_field, says, read_fields, read_tag}
use Rattle.model.specs.declared.Tag.TheVariants.{Nothing, Entry, Closing}
use Rattle.base_codec.proofs.WordLaws.{field-or}

pub says_nothing : (b : Bool) → says b Nothing ≡ Nothing
unfolding says
says_nothing true = refl
says_nothing false = refl

-- the tests of the fields
module _ (used closing above upper home back link count position base homes : ℕ) where
  unused : used ≡ 0 → read_fields used closing above upper home back link count position base homes ≡ Nothing
  unfolding read_fields says
  unused e = simp (ne_eqb used 1 (λ f. omega arith))

  bits_above : (above ≡ 0 → ⊥) → read_fields used closing above upper home back link count position base homes ≡ Nothing
  unfolding read_fields says
  bits_above e = simp (ne_eqb above 0 e, says_nothing)

  pub no-home : homes ≤ home → read_fields used closing above upper home back link count position base homes ≡ Nothing
  unfolding read_fields says
  no-home e = simp (lt-leb (home + 1) homes (omega arith), says_nothing)

  pub before-start : position < base + back → read_fields used closing above upper home back link count position base homes ≡ Nothing
  unfolding read_fields says
  before-start e = simp (lt-leb (base + back) position e, says_nothing)

  bits-upper : closing ≡ 0 → (upper ≡ 0 → ⊥) → read_fields used closing above upper home back link count position base homes ≡ Nothing
  unfolding read_fields says
  bits-upper e f = simp (eq-eqb closing 0 e, ne_eqb upper 0 f, says_nothing)

  no-count : (closing ≡ 0 → ⊥) → count ≡ 0 → read_fields used closing above upper home back link count position base homes ≡ Nothing
  unfolding read_fields says
  no-count e f = simp (ne_eqb closing 0 e, lt-leb 1 count (omega arith), says_nothing)

  pub is-entry : used ≡ 1 → above ≡ 0 → home < homes → base + back ≤ position → closing ≡ 0 → upper ≡ 0
      → read_fields used closing above upper home back link count position base homes ≡ Entry home (position - back)
  unfolding read_fields says
  is-entry e f g h i j =
      simp (eq-eqb used 1 e, eq-eqb above 0 f, le-leb (home + 1) homes (omega arith), le-leb (base + back) position h, eq-eqb closing 0 i, eq-eqb upper 0 j)

  is-closing : used ≡ 1 → above ≡ 0 → home < homes → base + back ≤ position → (closing ≡ 0 → ⊥) → (count ≡ 0 → ⊥)
      → read_fields used closing above upper home back link count position base homes ≡ Closing home (position - back) link count
  unfolding read_fields says
  is-closing e f g h i j =
      let k : 1 ≤ count = nonzero count j in
      simp (eq-eqb used 1 e, eq-eqb above 0 f, le-leb (home + 1) homes (omega arith), le-leb (base + back) position h, ne_eqb closing 0 i, le-leb 1 count k)
    where
      nonzero : (n : ℕ) → (n ≡ 0 → ⊥) → 1 ≤ n
      nonzero n z = omega arith

-- a word's home by shifts and masks
abbrev pub home_bits : ℕ → ℕ
home_bits w = bit_or (bit_and (w / 2 ^ 2) 0xfff) ((bit_and (w / 2 ^ 53) 0xf * 2 ^ 12) % 2 ^ 64)

pub home-bits : (w : ℕ) → home_field w ≡ home_bits w
unfolding field
home-bits w =
    let low : bit_and (w / 2 ^ 2) 0xfff ≡ w / 2 ^ 2 % 2 ^ 12 = and_mask (w / 2 ^ 2) 12 in
    let high : bit_and (w / 2 ^ 53) 0xf ≡ w / 2 ^ 53 % 2 ^ 4 = and_mask (w / 2 ^ 53) 4 in
    let e : home_bits w ≡ bit_and (w / 2 ^ 53) 0xf * 2 ^ 12 + bit_and (w / 2 ^ 2) 0xfff =
    field-or 4 12 (bit_and (w / 2 ^ 53) 0xf) (bit_and (w / 2 ^ 2) 0xfff) (mask_lt (w / 2 ^ 53) 4) (mask_lt (w / 2 ^ 2) 12) (omega arith) in
    sym (e ∙ omega (arith, low, high))

-- a tag's fields by shifts and masks
masked : (w p b d : ℕ) → w < 2 ^ 64
    → read_tag w p b d
    ≡ read_fields (bit_and w 1) (bit_and (w / 2) 1) (w / 2 ^ 58) (bit_and (w / 2 ^ 27) 0x3ff_ffff) (home_bits w) (bit_and (w / 2 ^ 14) 0x1fff)
    (bit_and (w / 2 ^ 27) 0x1fff) (bit_and (w / 2 ^ 40) 0x1fff) p b d
unfolding read_tag field
masked w p b d h =
    let e0 : w / 2 ^ 0 % 2 ^ 1 ≡ w % 2 ^ 1 = omega arith in
    let e1 : w / 2 ^ 58 % 2 ^ 6 ≡ w / 2 ^ 58 = omega arith in
    rw (
      e0,
      e1,
      and_mask w 1,
      and_mask (w / 2) 1,
      and_mask (w / 2 ^ 27) 26,
      home-bits w,
      and_mask (w / 2 ^ 14) 13,
      and_mask (w / 2 ^ 27) 13,
      and_mask (w / 2 ^ 40) 13,
    )

-- the tests of the word, as the code makes them
module _ (w position base homes : ℕ) (fits : w < 2 ^ 64) where
  pub word-unused : bit_and w 1 ≡ 0 → Nothing ≡ read_tag w position base homes
  word-unused e = sym (masked w position base homes fits ∙ unused _ _ _ _ _ _ _ _ _ _ _ e)

  pub word-above : (w / 2 ^ 58 ≡ 0 → ⊥) → Nothing ≡ read_tag w position base homes
  word-above e = sym (masked w position base homes fits ∙ bits_above _ _ _ _ _ _ _ _ _ _ _ e)

  pub word-home : homes ≤ home_bits w → Nothing ≡ read_tag w position base homes
  word-home e = sym (masked w position base homes fits ∙ no-home _ _ _ _ _ _ _ _ _ _ _ e)

  pub word-start : position < base + bit_and (w / 2 ^ 14) 0x1fff → Nothing ≡ read_tag w position base homes
  word-start e = sym (masked w position base homes fits ∙ before-start _ _ _ _ _ _ _ _ _ _ _ e)

  pub word-upper : bit_and (w / 2) 1 ≡ 0 → (bit_and (w / 2 ^ 27) 0x3ff_ffff ≡ 0 → ⊥) → Nothing ≡ read_tag w position base homes
  word-upper e f = sym (masked w position base homes fits ∙ bits-upper _ _ _ _ _ _ _ _ _ _ _ e f)

  pub word_count : (bit_and (w / 2) 1 ≡ 0 → ⊥) → bit_and (w / 2 ^ 40) 0x1fff ≡ 0 → Nothing ≡ read_tag w position base homes
  word_count e f = sym (masked w position base homes fits ∙ no-count _ _ _ _ _ _ _ _ _ _ _ e f)

  -- where the first four tests hold
  module _ (used : bit_and w 1 ≡ 0 → ⊥) (above : w / 2 ^ 58 ≡ 0) (known : home_bits w < homes)
      (started : base + bit_and (w / 2 ^ 14) 0x1fff ≤ position) where
    one : bit_and w 1 ≡ 1
    one = omega (arith, mask_lt w 1)

    pub word-entry : bit_and (w / 2) 1 ≡ 0 → bit_and (w / 2 ^ 27) 0x3ff_ffff ≡ 0
        → Entry (home_bits w) (position - bit_and (w / 2 ^ 14) 0x1fff) ≡ read_tag w position base homes
    word-entry e f = sym (masked w position base homes fits ∙ is-entry _ _ _ _ _ _ _ _ _ _ _ one above known started e f)

    pub word-closing : (bit_and (w / 2) 1 ≡ 0 → ⊥) → (bit_and (w / 2 ^ 40) 0x1fff ≡ 0 → ⊥)
        → Closing (home_bits w) (position - bit_and (w / 2 ^ 14) 0x1fff) (bit_and (w / 2 ^ 27) 0x1fff) (bit_and (w / 2 ^ 40) 0x1fff)
        ≡ read_tag w position base homes
    word-closing e f = sym (masked w position base homes fits ∙ is-closing _ _ _ _ _ _ _ _ _ _ _ one above known started e f)
