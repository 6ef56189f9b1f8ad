-- The modes of the eight writers, read as one word: a writer's mode is two or more where a bit of its byte but the lowest is set. Assumes nothing.
use mathlib.Core.Path.{◌≡◌, refl, sym, ap, ap₂, ◌∙◌}
use mathlib.Core.Bool.{true, false}
use mathlib.Core.Logic.{◌≢◌}
use mathlib.Core.List.{List}
use Prim.Native.Nat.{ℕ, zero, suc, ◌+◌, ◌*◌, ◌/◌, ◌%◌, ◌^◌, min, ◌≤◌, ◌<◌}
use native.Mathlib.Nat.{mod-lt}
use native.Mathlib.Decide.{ℕ_discrete}
use native.Mathlib.Omega.{arith}
use borrow.Author.Tests.{eqb-true, eqb-false}
use lib.Dec.{lit<}
use lib.ListN.{get_or}
use lib.Bits.{bit_and, and_shr, and_step}
use lib.Pow.{shr-shr}
use lib.Count.{count_trailing_zeros}
use Rattle.model.specs.Bytes.{number}
use Rattle.model.specs.declared.State.{State}
use Rattle.model.specs.State.{mode_offset, writer_offset, one_more_than, writer_of, writer_in_order}
use Rattle.model_laws.proofs.bytes.ByteLaws.{number_lt}
use Rattle.model_laws.proofs.state.OrderLaws.{order-writer}
use Rattle.base_codec.proofs.JoinLaws.{number-join}
use Rattle.base_bitmap.specs.Marks.{bit}
use Rattle.base_bitmap.proofs.WordLaws.{bit-zero}

-- every bit of a byte but the lowest, for each writer
abbrev pub high : ℕ
high = 18374403900871474942

-- and but the lowest two, of modes that there are not
abbrev pub top : ℕ
top = 18229723555195321596

-- ---- what holds of each of eight

eight : (P : ℕ → Type 0) → P 0 → P 1 → P 2 → P 3 → P 4 → P 5 → P 6 → P 7 → (k : ℕ) → k < 8 → P k
eight P a b c d e f g i zero h = a
eight P a b c d e f g i (suc zero) h = b
eight P a b c d e f g i (suc (suc zero)) h = c
eight P a b c d e f g i (suc (suc (suc zero))) h = d
eight P a b c d e f g i (suc (suc (suc (suc zero)))) h = e
eight P a b c d e f g i (suc (suc (suc (suc (suc zero))))) h = f
eight P a b c d e f g i (suc (suc (suc (suc (suc (suc zero)))))) h = g
eight P a b c d e f g i (suc (suc (suc (suc (suc (suc (suc zero))))))) h = i
eight P a b c d e f g i (suc (suc (suc (suc (suc (suc (suc (suc k)))))))) h = absurd (omega arith)

-- ---- the bytes of a word and their bits

digit_and : (a b i : ℕ) → bit_and a b / 2 ^ i % 2 ≡ min (a / 2 ^ i % 2) (b / 2 ^ i % 2)
digit_and a b i = omega (arith, and_shr a b i, and_step (a / 2 ^ i) (b / 2 ^ i))

digit_lt : (x i : ℕ) → x / 2 ^ i % 2 < 2
digit_lt x i = mod-lt (x / 2 ^ i) (lit< tt)

digit-byte : (x w k : ℕ) → k < 8 → x / 2 ^ (8 * w + k) % 2 ≡ x / 2 ^ (8 * w) % 256 / 2 ^ k % 2
digit-byte x w k h =
    let y = x / 2 ^ (8 * w) in
    ap (λ (z : ℕ). z % 2) (sym (shr-shr x (8 * w) k))
    ∙ eight (λ k. y / 2 ^ k % 2 ≡ y % 256 / 2 ^ k % 2) (omega arith) (omega arith) (omega arith) (omega arith) (omega arith) (omega arith) (omega arith) (omega arith) k h

high_byte : (w : ℕ) → w < 8 → high / 2 ^ (8 * w) % 256 ≡ 254
high_byte = eight (λ w. high / 2 ^ (8 * w) % 256 ≡ 254) refl refl refl refl refl refl refl refl

top_byte : (w : ℕ) → w < 8 → top / 2 ^ (8 * w) % 256 ≡ 252
top_byte = eight (λ w. top / 2 ^ (8 * w) % 256 ≡ 252) refl refl refl refl refl refl refl refl

-- bit k of the byte of writer w in a word that is masked by the same byte for each writer
masked : (x mask byte w k : ℕ) → mask / 2 ^ (8 * w) % 256 ≡ byte → k < 8
    → bit_and x mask / 2 ^ (8 * w + k) % 2 ≡ min (x / 2 ^ (8 * w) % 256 / 2 ^ k % 2) (byte / 2 ^ k % 2)
masked x mask byte w k e l =
    digit_and x mask (8 * w + k) ∙ ap₂ min (digit-byte x w k l) (digit-byte mask w k l ∙ ap (λ (z : ℕ). z / 2 ^ k % 2) e)

-- ---- the word of the modes

module _ (s : List ℕ) (b : (i : ℕ) → get_or s i 0 < 256) where
  small : (n at : ℕ) → number n s at < 256 ^ n
  small n at = number_lt n s at b

  byte-there : (w : ℕ) → w < 8 → number 8 s 104 / 2 ^ (8 * w) % 256 ≡ number 1 s (104 + w)
  byte-there =
      eight (λ w. number 8 s 104 / 2 ^ (8 * w) % 256 ≡ number 1 s (104 + w))
      (omega (arith, number-join 1 7 s 104, small 1 104))
      (omega (arith, number-join 1 7 s 104, number-join 1 6 s 105, small 1 104, small 1 105))
      (omega (arith, number-join 2 6 s 104, number-join 1 5 s 106, small 2 104, small 1 106))
      (omega (arith, number-join 3 5 s 104, number-join 1 4 s 107, small 3 104, small 1 107))
      (omega (arith, number-join 4 4 s 104, number-join 1 3 s 108, small 4 104, small 1 108))
      (omega (arith, number-join 5 3 s 104, number-join 1 2 s 109, small 5 104, small 1 109))
      (omega (arith, number-join 6 2 s 104, number-join 1 1 s 110, small 6 104, small 1 110))
      (omega (arith, number-join 7 1 s 104, small 7 104, small 1 111))

  -- the bit k of a writer's mode, among those that are looked at
  bit-there : (w k : ℕ) → w < 8 → k < 8 → bit_and (number 8 s 104) high / 2 ^ (8 * w + k) % 2 ≡ min ((writer_of s w).mode / 2 ^ k % 2) (254 / 2 ^ k % 2)
  unfolding writer_of mode_offset
  bit-there w k h l = masked (number 8 s 104) high 254 w k (high_byte w h) l ∙ ap (λ (z : ℕ). min (z / 2 ^ k % 2) (254 / 2 ^ k % 2)) (byte-there w h)

  top-there : (w k : ℕ) → w < 8 → k < 8 → bit_and (number 8 s 104) top / 2 ^ (8 * w + k) % 2 ≡ min ((writer_of s w).mode / 2 ^ k % 2) (252 / 2 ^ k % 2)
  unfolding writer_of mode_offset
  top-there w k h l = masked (number 8 s 104) top 252 w k (top_byte w h) l ∙ ap (λ (z : ℕ). min (z / 2 ^ k % 2) (252 / 2 ^ k % 2)) (byte-there w h)

  mode-lt : (w : ℕ) → (writer_of s w).mode < 256
  unfolding writer_of
  mode-lt w = small 1 (mode_offset w)

  -- no bit is set: the writer is idle, or has begun and holds nothing
  pub mode-low : (w : ℕ) → w < 8 → ((k : ℕ) → k < 8 → bit (bit_and (number 8 s 104) high) (8 * w + k) ≡ false) → (writer_of s w).mode < 2
  unfolding bit
  mode-low w h none =
      let none-at : (k : ℕ) → k < 8 → min ((writer_of s w).mode / 2 ^ k % 2) (254 / 2 ^ k % 2) ≢ 1 =
      λ k l e. eqb-false (bit_and (number 8 s 104) high / 2 ^ (8 * w + k) % 2) 1 (none k l) (bit-there w k h l ∙ e) in
      let zero-at : (k : ℕ) → k < 8 → 254 / 2 ^ k % 2 ≡ 1 → (writer_of s w).mode / 2 ^ k % 2 ≡ 0 =
      λ k l e. omega (arith, none-at k l, digit_lt (writer_of s w).mode k) in
      let m = (writer_of s w).mode in
      let l7 : m < 128 = omega (arith, mode-lt w, zero-at 7 (omega arith) refl) in
      let l6 : m < 64 = omega (arith, l7, zero-at 6 (omega arith) refl) in
      let l5 : m < 32 = omega (arith, l6, zero-at 5 (omega arith) refl) in
      let l4 : m < 16 = omega (arith, l5, zero-at 4 (omega arith) refl) in
      let l3 : m < 8 = omega (arith, l4, zero-at 3 (omega arith) refl) in
      let l2 : m < 4 = omega (arith, l3, zero-at 2 (omega arith) refl) in
      omega (arith, l2, zero-at 1 (omega arith) refl)

  -- a bit is set: it is one of a writer that holds a block, or of a mode that there is not
  pub mode-high : (t : ℕ) → t < 64 → bit (bit_and (number 8 s 104) high) t ≡ true → 2 ≤ (writer_of s (t / 8)).mode
  unfolding bit
  mode-high t h e =
      let w = t / 8 in
      let k = t % 8 in
      let f : 8 * w + k ≡ t = omega arith in
      let d : bit_and (number 8 s 104) high / 2 ^ (8 * w + k) % 2 ≡ 1 = rw f (eqb-true (bit_and (number 8 s 104) high / 2 ^ t % 2) 1 e) in
      go k (omega arith) (sym (bit-there w k (omega arith) (omega arith)) ∙ d)
    where
      go : (k : ℕ) → k < 8 → min ((writer_of s (t / 8)).mode / 2 ^ k % 2) (254 / 2 ^ k % 2) ≡ 1 → 2 ≤ (writer_of s (t / 8)).mode
      go =
          eight (λ k. min ((writer_of s (t / 8)).mode / 2 ^ k % 2) (254 / 2 ^ k % 2) ≡ 1 → 2 ≤ (writer_of s (t / 8)).mode)
          (λ e. omega arith)
          (λ e. omega arith)
          (λ e. omega arith)
          (λ e. omega arith)
          (λ e. omega arith)
          (λ e. omega arith)
          (λ e. omega arith)
          (λ e. omega arith)

  -- no bit but the lowest two is set: every mode is one that there is
  pub mode-most : bit_and (number 8 s 104) top ≡ 0 → (w : ℕ) → w < 8 → (writer_of s w).mode ≤ 3
  unfolding bit
  mode-most z w h =
      let none-at : (k : ℕ) → k < 8 → min ((writer_of s w).mode / 2 ^ k % 2) (252 / 2 ^ k % 2) ≢ 1 =
      λ k l e. eqb-false (0 / 2 ^ (8 * w + k) % 2) 1 (bit-zero (8 * w + k)) (ap (λ (x : ℕ). x / 2 ^ (8 * w + k) % 2) (sym z) ∙ top-there w k h l ∙ e) in
      let zero-at : (k : ℕ) → k < 8 → 252 / 2 ^ k % 2 ≡ 1 → (writer_of s w).mode / 2 ^ k % 2 ≡ 0 =
      λ k l e. omega (arith, none-at k l, digit_lt (writer_of s w).mode k) in
      let m = (writer_of s w).mode in
      let l7 : m < 128 = omega (arith, mode-lt w, zero-at 7 (omega arith) refl) in
      let l6 : m < 64 = omega (arith, l7, zero-at 6 (omega arith) refl) in
      let l5 : m < 32 = omega (arith, l6, zero-at 5 (omega arith) refl) in
      let l4 : m < 16 = omega (arith, l5, zero-at 4 (omega arith) refl) in
      let l3 : m < 8 = omega (arith, l4, zero-at 3 (omega arith) refl) in
      omega (arith, l3, zero-at 2 (omega arith) refl)

  -- one is set: that writer's mode is none that there is
  pub mode-over : (t : ℕ) → t < 64 → bit (bit_and (number 8 s 104) top) t ≡ true → 3 < (writer_of s (t / 8)).mode
  unfolding bit
  mode-over t h e =
      let w = t / 8 in
      let k = t % 8 in
      let f : 8 * w + k ≡ t = omega arith in
      let d : bit_and (number 8 s 104) top / 2 ^ (8 * w + k) % 2 ≡ 1 = rw f (eqb-true (bit_and (number 8 s 104) top / 2 ^ t % 2) 1 e) in
      go k (omega arith) (sym (top-there w k (omega arith) (omega arith)) ∙ d)
    where
      go : (k : ℕ) → k < 8 → min ((writer_of s (t / 8)).mode / 2 ^ k % 2) (252 / 2 ^ k % 2) ≡ 1 → 3 < (writer_of s (t / 8)).mode
      go =
          eight (λ k. min ((writer_of s (t / 8)).mode / 2 ^ k % 2) (252 / 2 ^ k % 2) ≡ 1 → 3 < (writer_of s (t / 8)).mode)
          (λ e. omega arith)
          (λ e. omega arith)
          (λ e. omega arith)
          (λ e. omega arith)
          (λ e. omega arith)
          (λ e. omega arith)
          (λ e. omega arith)
          (λ e. omega arith)

  -- where every mode is one that there is, a bit that is looked at is a mode's second one
  pub mode-second : (t : ℕ) → t < 64 → bit (bit_and (number 8 s 104) high) t ≡ true → (writer_of s (t / 8)).mode ≤ 3 → t % 8 ≡ 1
  unfolding bit
  mode-second t h e m =
      let w = t / 8 in
      let k = t % 8 in
      let f : 8 * w + k ≡ t = omega arith in
      let d : bit_and (number 8 s 104) high / 2 ^ (8 * w + k) % 2 ≡ 1 = rw f (eqb-true (bit_and (number 8 s 104) high / 2 ^ t % 2) 1 e) in
      go k (omega arith) (sym (bit-there w k (omega arith) (omega arith)) ∙ d)
    where
      go : (k : ℕ) → k < 8 → min ((writer_of s (t / 8)).mode / 2 ^ k % 2) (254 / 2 ^ k % 2) ≡ 1 → k ≡ 1
      go =
          eight (λ k. min ((writer_of s (t / 8)).mode / 2 ^ k % 2) (254 / 2 ^ k % 2) ≡ 1 → k ≡ 1)
          (λ e. omega arith)
          (λ e. refl)
          (λ e. omega arith)
          (λ e. omega arith)
          (λ e. omega arith)
          (λ e. omega arith)
          (λ e. omega arith)
          (λ e. omega arith)

  -- the word can be doubled
  pub modes-small : bit_and (number 8 s 104) top ≡ 0 → 2 * number 8 s 104 < 2 ^ 64
  unfolding writer_of mode_offset
  modes-small z = let m = mode-most z 7 (omega arith) in omega (arith, number-join 7 1 s 104, small 7 104, m)

  -- in twice the word a mode's lowest bit stands where its second one stands in the word
  pub mode-odd : (t : ℕ) → t < 64 → t % 8 ≡ 1 → 2 * number 8 s 104 / 2 ^ t % 2 ≡ (writer_of s (t / 8)).mode % 2
  unfolding writer_of mode_offset
  mode-odd t h e =
      let w = t / 8 in
      let x = number 8 s 104 in
      let f : t ≡ 1 + (8 * w + 0) = omega arith in
      let g : 2 * x / 2 ^ (1 + (8 * w + 0)) ≡ x / 2 ^ (8 * w + 0) =
      sym (shr-shr (2 * x) 1 (8 * w + 0)) ∙ ap (λ (y : ℕ). y / 2 ^ (8 * w + 0)) (omega arith) in
      let d : x / 2 ^ (8 * w + 0) % 2 ≡ number 1 s (104 + w) / 2 ^ 0 % 2 =
      digit-byte x w 0 (lit< tt) ∙ ap (λ (z : ℕ). z / 2 ^ 0 % 2) (byte-there w (omega arith)) in
      ap (λ (i : ℕ). 2 * x / 2 ^ i % 2) f ∙ ap (λ (y : ℕ). y % 2) g ∙ d ∙ omega arith

-- ---- a writer's numbers, three bytes further on for each bit

module _ (s : List ℕ) (t : ℕ) (e : t % 8 ≡ 1) where
  begin : 3 * t + 125 ≡ 128 + 24 * (t / 8)
  begin = omega arith

  pub home_at : number 8 s (3 * t + 125) ≡ (writer_of s (t / 8)).home
  unfolding writer_of writer_offset
  home_at = ap (number 8 s) begin

  pub first-at : number 8 s (3 * t + 125 + 8) ≡ (writer_of s (t / 8)).first
  unfolding writer_of writer_offset
  first-at = ap (λ (i : ℕ). number 8 s (i + 8)) begin

  pub less-at : (number 8 s (3 * t + 125 + 16) + 1) % 2 ^ 64 ≡ (writer_of s (t / 8)).count
  unfolding writer_of writer_offset one_more_than
  less-at = ap (λ (i : ℕ). (number 8 s (i + 16) + 1) % 2 ^ 64) begin

-- ---- the writers visited one after the other, by the bits that are left

-- a writer of whose mode no bit is left is in order, and the bits left are among those looked at
pub record Visited (s : List ℕ) (st : State) (left : ℕ) : Type 0 where
  pub in_order : (w : ℕ) → w < 8 → ((k : ℕ) → k < 8 → bit left (8 * w + k) ≡ false) → true ≡ writer_in_order st (writer_of s w)
  pub among : (t : ℕ) → bit left t ≡ true → bit (bit_and (number 8 s 104) high) t ≡ true

module _ (s : List ℕ) (st : State) where
  -- at the beginning
  pub visited-none : (left word : ℕ) → ((i : ℕ) → get_or s i 0 < 256) → word ≡ number 8 s 104 → left ≡ bit_and word high → Visited s st left
  visited-none left word b f e =
      let g : left ≡ bit_and (number 8 s 104) high = e ∙ ap (λ (x : ℕ). bit_and x high) f in
      record {
        in_order =
            λ w h none.
            let m = mode-low s b w h (λ k l. ap (λ (x : ℕ). bit x (8 * w + k)) (sym g) ∙ none k l) in
            sym (order-writer st (writer_of s w) (record { mode = omega arith; home = λ k. omega arith; logged = λ k. omega arith }));
        among = λ t h. ap (λ (x : ℕ). bit x t) (sym g) ∙ h;
      }

  -- once the writer of the lowest bit is found in order, and that bit is cleared
  pub visited-next : (left next t : ℕ) → Visited s st left → t ≡ count_trailing_zeros 64 left → bit left t ≡ true
      → ((j : ℕ) → (j ≡ count_trailing_zeros 64 left → ⊥) → bit next j ≡ bit left j) → true ≡ writer_in_order st (writer_of s (t / 8)) → Visited s st next
  visited-next left next t v e set others o = record { in_order = orders; among = amongs }
    where
      kept : (j : ℕ) → j ≢ t → bit next j ≡ bit left j
      kept j n = others j (λ f. n (f ∙ sym e))

      orders : (w : ℕ) → w < 8 → ((k : ℕ) → k < 8 → bit next (8 * w + k) ≡ false) → true ≡ writer_in_order st (writer_of s w)
      orders w h none = go (ℕ_discrete w (t / 8))
        where
          go : Dec (w ≡ t / 8) → true ≡ writer_in_order st (writer_of s w)
          go (yes f) = rw f o
          go (no f) = v.in_order w h (λ k l. sym (kept (8 * w + k) (λ q. f (omega arith))) ∙ none k l)

      amongs : (j : ℕ) → bit next j ≡ true → bit (bit_and (number 8 s 104) high) j ≡ true
      amongs j h = go (ℕ_discrete j t)
        where
          go : Dec (j ≡ t) → bit (bit_and (number 8 s 104) high) j ≡ true
          go (yes f) = v.among j (ap (bit left) f ∙ set)
          go (no f) = v.among j (sym (kept j f) ∙ h)

  -- with none left all are in order
  pub visited-all : Visited s st 0 → (w : ℕ) → w < 8 → true ≡ writer_in_order st (writer_of s w)
  visited-all v w h = v.in_order w h (λ k l. bit-zero (8 * w + k))
