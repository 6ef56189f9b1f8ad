-- Laws of the list of rights: its blocks, its ranges in one block, and when it is none. Assumes nothing.
use mathlib.Core.Path.{◌≡◌, refl, sym, ap, ◌∙◌}
use mathlib.Core.Bool.{Bool, true, false, cond, not, ◌&&◌, ◌||◌, and-false}
use mathlib.Core.List.{List, [], ◌∷◌, ◌++◌}
use mathlib.Core.Option.{none, some}
use Prim.Native.Nat.{ℕ, zero, suc, ◌+◌, ◌-◌, ◌*◌, ◌/◌, ◌%◌, ◌^◌, ◌≤◌, ◌<◌}
use native.Mathlib.Omega.{arith}
use borrow.Author.Tests.{eqb-true, eqb-false, ne_eqb, le-leb, lt-leb, ltb-true, ltb-false, lt-ltb, le-ltb, leb-true, leb-false}
use lib.Dec.{eqb, leb, ltb}
use lib.ListN.{length, length-append, replicate}
use Rattle.model.specs.Bytes.{part, zeros, number, same}
use Rattle.model.specs.Layout.{home_count, block_at, home_at}
use Rattle.model.specs.State.{state_of, listed_of, list_sign, next_position}
use Rattle.model.specs.declared.State.{State}
use Rattle.model.specs.Newest.{kept_for}
use Rattle.model.specs.Effects.{Given, groups, homes, tags_of, live_tags, live_base, block_or, is_there}
use Rattle.model.specs.Rights.{for_home, shown_at, list_by, store_list, read_list, of_list, is_list, in_range, in_ranges, signed_list, right_to_store, right_to_read}
use Rattle.model.specs.Questions.{store_allowed, read_allowed}
use Rattle.model_laws.proofs.bytes.ByteLaws.{length_part, number-part, part-whole}
use Rattle.model_laws.proofs.bytes.LayoutLaws.{part-after, part-of-front}
use Rattle.model_laws.proofs.trace.ReplayLaws.{length-block_at}
use Rattle.call_ask.specs.Lent.{lent, lent_all}
use Rattle.call_ask.proofs.AnswerLaws.{Usable}
use Rattle.log_shown.specs.There.{there_by, shown_with, Searchable}
use Rattle.log_shown.proofs.ThereLaws.{searchable, shown-same, kept-past}
use Rattle.call_rights.specs.Listed.{Listed, block_by, blocks_by, opens, opens_by}

-- ---- the answer by the ranges of the whole list

pub open-inside : (homes : ℕ) (list : List ℕ) (at home : ℕ) (b : Bool) → b ≡ in_ranges list at home 4 → b ≡ true → true ≡ opens homes list at home
unfolding opens
open-inside homes list at home b e t = rw (sym e ∙ t) (go (is_list homes list))
  where
    go : (a : Bool) → true ≡ (not a || true)
    go true = refl
    go false = refl

pub open-outside : (homes : ℕ) (list : List ℕ) (at home : ℕ) (b z : Bool) → 12 ≤ homes → b ≡ in_ranges list at home 4 → b ≡ false
    → z ≡ same list (zeros 256) → z ≡ opens homes list at home
unfolding opens is_list
open-outside homes list at home b z d e t r = rw (sym e ∙ t, le-leb 12 homes d, ← r) (go z)
  where
    go : (z : Bool) → z ≡ (not (not z) || false)
    go true = refl
    go false = refl

-- ---- ranges in a part

range-part : (xs : List ℕ) (a o home : ℕ) → o + 4 ≤ 64 → in_range xs (a + o) home ≡ in_range (part xs a 64) o home
unfolding in_range
range-part xs a o home h =
    let e : a + o + 2 ≡ a + (o + 2) = omega arith in
    rw (number-part 2 xs a 64 o (omega arith), number-part 2 xs a 64 (o + 2) (omega arith), e)

pub ranges-part : (xs : List ℕ) (a o home n : ℕ) → o + 4 * n ≤ 64 → in_ranges xs (a + o) home n ≡ in_ranges (part xs a 64) o home n
unfolding in_ranges
ranges-part xs a o home zero h = refl
ranges-part xs a o home (suc n) h =
    let e : a + o + 4 * n ≡ a + (o + 4 * n) = omega arith in
    rw (ranges-part xs a o home n (omega arith), e, range-part xs a (o + 4 * n) home (omega arith))

-- ---- a range as it is tested

module _ (xs : List ℕ) (at home first : ℕ) (e : first ≡ number 2 xs at) where
  pub range-before : home < first → false ≡ in_range xs at home
  unfolding in_range
  range-before h = rw (← e, lt-leb first home h)

  pub range-within : (n : ℕ) → n ≡ number 2 xs (at + 2) → first ≤ home → ltb home (first + n) ≡ in_range xs at home
  unfolding in_range
  range-within n q h = rw (← e, ← q, le-leb first home h)

-- the same by the difference, which wraps where the home lies before the range
wrapped-above : (d first home : ℕ) → d < 2 ^ 64 → first < 256 ^ 2 → (d + first) % 2 ^ 64 ≡ home → first ≤ home → home ≡ d + first
wrapped-above d first home l f e h = go ((d + first) / 2 ^ 64) refl
  where
    go : (q : ℕ) → (d + first) / 2 ^ 64 ≡ q → home ≡ d + first
    go zero z = omega arith
    go (suc q) z = absurd (omega arith)

wrapped-below : (d first home n : ℕ) → first < 256 ^ 2 → n < 256 ^ 2 → (d + first) % 2 ^ 64 ≡ home → home < first → n ≤ d
wrapped-below d first home n f g e h = go ((d + first) / 2 ^ 64) refl
  where
    go : (q : ℕ) → (d + first) / 2 ^ 64 ≡ q → n ≤ d
    go zero z = absurd (omega arith)
    go (suc q) z = omega arith

pub range-wrapped : (xs : List ℕ) (at home first n d : ℕ) → first ≡ number 2 xs at → n ≡ number 2 xs (at + 2) → first < 256 ^ 2 → n < 256 ^ 2 → d < 2 ^ 64
    → (d + first) % 2 ^ 64 ≡ home → ltb d n ≡ in_range xs at home
range-wrapped xs at home first n d e q f g l w = go (leb first home) refl
  where
    same-side : first ≤ home → (b : Bool) → ltb d n ≡ b → ltb d n ≡ ltb home (first + n)
    same-side h true t = t ∙ sym (lt-ltb home (first + n) (omega (arith, ltb-true d n t, wrapped-above d first home l f w h)))
    same-side h false t = t ∙ sym (le-ltb home (first + n) (omega (arith, ltb-false d n t, wrapped-above d first home l f w h)))

    go : (b : Bool) → leb first home ≡ b → ltb d n ≡ in_range xs at home
    go true t = let h : first ≤ home = leb-true first home t in same-side h (ltb d n) refl ∙ range-within xs at home first e n q h
    go false t =
        let h : home < first = leb-false first home t in
        le-ltb d n (wrapped-below d first home n f g w h) ∙ range-before xs at home first e h

pub list-before : (home : ℕ) → home < 8 → false ≡ of_list home
unfolding of_list
list-before home h = rw (lt-leb 8 home h)

pub list-within : (home : ℕ) → 8 ≤ home → ltb home 12 ≡ of_list home
unfolding of_list
list-within home h = rw (le-leb 8 home h)

-- four ranges, one after the other
four-ranges : (xs : List ℕ) (at home : ℕ)
    → in_ranges xs at home 4 ≡ (((in_range xs at home || in_range xs (at + 4) home) || in_range xs (at + 8) home) || in_range xs (at + 12) home)
unfolding in_ranges
four-ranges xs at home = let e : at + 0 ≡ at = omega arith in rw e

module _ (xs : List ℕ) (at home : ℕ) (a : Bool) (ea : a ≡ in_range xs at home) where
  pub ranges-first : a ≡ true → true ≡ in_ranges xs at home 4
  ranges-first t = sym (four-ranges xs at home ∙ rw (sym ea ∙ t))

  module _ (b : Bool) (eb : b ≡ in_range xs (at + 4) home) (fa : a ≡ false) where
    pub ranges-second : b ≡ true → true ≡ in_ranges xs at home 4
    ranges-second t = sym (four-ranges xs at home ∙ rw (sym ea ∙ fa, sym eb ∙ t))

    module _ (c : Bool) (ec : c ≡ in_range xs (at + 8) home) (fb : b ≡ false) where
      pub ranges-third : c ≡ true → true ≡ in_ranges xs at home 4
      ranges-third t = sym (four-ranges xs at home ∙ rw (sym ea ∙ fa, sym eb ∙ fb, sym ec ∙ t))

      pub ranges-fourth : (d : Bool) → d ≡ in_range xs (at + 12) home → c ≡ false → d ≡ in_ranges xs at home 4
      ranges-fourth d ed fc = ed ∙ sym (four-ranges xs at home ∙ rw (sym ea ∙ fa, sym eb ∙ fb, sym ec ∙ fc))

-- ---- zeros in a row

zeros-append : (xs ys : List ℕ) (m n : ℕ) → length xs ≡ m → same (xs ++ ys) (zeros (m + n)) ≡ (same xs (zeros m) && same ys (zeros n))
unfolding same zeros
zeros-append [] ys zero n h = let e : 0 + n ≡ n = omega arith in rw e
zeros-append [] ys (suc m) n h = absurd (omega arith)
zeros-append (x ∷ xs) ys zero n h = absurd (omega arith)
zeros-append (x ∷ xs) ys (suc m) n h =
    let e : suc m + n ≡ suc (m + n) = omega arith in
    rw e (go (eqb x 0) (zeros-append xs ys m n (omega arith)))
  where
    go : (b : Bool) → same (xs ++ ys) (replicate (m + n) 0) ≡ (same xs (replicate m 0) && same ys (replicate n 0))
        → (b && same (xs ++ ys) (replicate (m + n) 0)) ≡ ((b && same xs (replicate m 0)) && same ys (replicate n 0))
    go true q = q
    go false q = refl

-- ---- the blocks

module _ (log area : List ℕ) (st : State) (kept : List ℕ) (from : ℕ) (x : Listed log area st kept from) (d : 12 ≤ st.homes) where
  length-block : (i : ℕ) → i < 4 → length (block_by log area st kept from i) ≡ 64
  unfolding block_by shown_with home_at
  length-block i h = go (there_by log st (8 + i) (number 8 kept (from + 8 * i)))
    where
      go : (b : Bool) → length (cond b (block_at log st.groups (number 8 kept (from + 8 * i))) (part area (64 * (8 + i)) 64)) ≡ 64
      go true = length-block_at log st.groups _ (omega (arith, x.search.least)) x.search.long
      go false = length_part area (64 * (8 + i)) 64 (omega (arith, x.long))

  length-blocks : (n : ℕ) → n ≤ 4 → length (blocks_by log area st kept from n) ≡ 64 * n
  unfolding blocks_by
  length-blocks zero h = refl
  length-blocks (suc n) h = rw (length-append, length-blocks n (omega arith), length-block n (omega arith)) (omega arith)

  block-part : (n i : ℕ) → n ≤ 4 → i < n → part (blocks_by log area st kept from n) (64 * i) 64 ≡ block_by log area st kept from i
  unfolding blocks_by
  block-part zero i l h = absurd (omega arith)
  block-part (suc n) i l h = go (eqb i n) refl (block-part n i (omega arith))
    where
      go : (b : Bool) → eqb i n ≡ b → (i < n → part (blocks_by log area st kept from n) (64 * i) 64 ≡ block_by log area st kept from i)
          → part (blocks_by log area st kept from n ++ block_by log area st kept from n) (64 * i) 64 ≡ block_by log area st kept from i
      go true t f =
          let e : i ≡ n = eqb-true i n t in
          let z : 64 * n ≡ 64 * n + 0 = omega arith in
          rw (e, z)
          (part-after (blocks_by log area st kept from n) (block_by log area st kept from n) (64 * n) 0 64 (length-blocks n (omega arith))
          ∙ part-whole (block_by log area st kept from n) 64 (omega (arith, length-block n (omega arith))))
      go false t f =
          let k : i < n = omega (arith, eqb-false i n t) in
          sym (part-of-front (blocks_by log area st kept from n) (block_by log area st kept from n) (64 * n) (64 * i) 64 (length-blocks n (omega arith)) (omega arith)) ∙ f k

  -- the four ranges of a writer lie in one block
  pub ranges-own : (at home : ℕ) → at < 256 → at % 64 + 16 ≤ 64
      → in_ranges (blocks_by log area st kept from 4) at home 4 ≡ in_ranges (block_by log area st kept from (at / 64)) (at % 64) home 4
  ranges-own at home h k =
      let e : at ≡ 64 * (at / 64) + at % 64 = omega arith in
      let q : in_ranges (blocks_by log area st kept from 4) at home 4 ≡ in_ranges (blocks_by log area st kept from 4) (64 * (at / 64) + at % 64) home 4 =
      ap (λ (a : ℕ). in_ranges (blocks_by log area st kept from 4) a home 4) e in
      q ∙ ranges-part (blocks_by log area st kept from 4) (64 * (at / 64)) (at % 64) home 4 (omega arith)
      ∙ ap (λ (xs : List ℕ). in_ranges xs (at % 64) home 4) (block-part 4 (at / 64) (omega arith) (omega arith))

  zero_more : (n : ℕ) → n < 4
      → same (blocks_by log area st kept from (suc n)) (zeros (64 * n + 64))
      ≡ (same (blocks_by log area st kept from n) (zeros (64 * n)) && same (block_by log area st kept from n) (zeros 64))
  unfolding blocks_by
  zero_more n h = zeros-append _ _ (64 * n) 64 (length-blocks n (omega arith))

  none-none : same (blocks_by log area st kept from 0) (zeros 0) ≡ true
  unfolding blocks_by zeros same
  none-none = refl

  four-zeros : (a b c e : Bool) → a ≡ same (block_by log area st kept from 0) (zeros 64) → b ≡ same (block_by log area st kept from 1) (zeros 64)
      → c ≡ same (block_by log area st kept from 2) (zeros 64) → e ≡ same (block_by log area st kept from 3) (zeros 64)
      → (a && (b && (c && e))) ≡ same (blocks_by log area st kept from 4) (zeros 256)
  four-zeros a b c e p q r s =
      sym (zero_more 3 (omega arith) ∙ rw (zero_more 2 (omega arith), zero_more 1 (omega arith), zero_more 0 (omega arith), none-none, ← p, ← q, ← r, ← s) (go a b c e))
    where
      go : (a b c e : Bool) → ((((true && a) && b) && c) && e) ≡ (a && (b && (c && e)))
      go true true c e = refl
      go true false c e = refl
      go false b c e = refl

  zeros-some : (n i : ℕ) → n ≤ 4 → i < n → same (block_by log area st kept from i) (zeros 64) ≡ false
      → same (blocks_by log area st kept from n) (zeros (64 * n)) ≡ false
  zeros-some zero i l h q = absurd (omega arith)
  zeros-some (suc n) i l h q =
      let z : 64 * suc n ≡ 64 * n + 64 = omega arith in
      rw z (zero_more n (omega arith) ∙ go (eqb i n) refl (λ k. zeros-some n i (omega arith) k q))
    where
      go : (b : Bool) → eqb i n ≡ b → (i < n → same (blocks_by log area st kept from n) (zeros (64 * n)) ≡ false)
          → (same (blocks_by log area st kept from n) (zeros (64 * n)) && same (block_by log area st kept from n) (zeros 64)) ≡ false
      go true t f =
          let e : same (block_by log area st kept from n) (zeros 64) ≡ false = rw (eqb-true i n t) at q in
          simp (e, and-false)
      go false t f = rw (f (omega (arith, eqb-false i n t)))

  -- the blocks one after the other
  pub zeros-start : same (blocks_by log area st kept from 0) (zeros (64 * 0)) ≡ true
  zeros-start = none-none

  pub zeros-next : (i : ℕ) (b : Bool) → i < 4 → same (blocks_by log area st kept from i) (zeros (64 * i)) ≡ true
      → b ≡ same (block_by log area st kept from i) (zeros 64) → b ≡ true
      → same (blocks_by log area st kept from (i + 1)) (zeros (64 * (i + 1))) ≡ true
  zeros-next i b h q e t =
      let z : 64 * (i + 1) ≡ 64 * i + 64 = omega arith in
      let k : i + 1 ≡ suc i = omega arith in
      rw (z, k) (zero_more i h ∙ rw (q, ← e, t))

  pub zeros-stop : (i : ℕ) (b : Bool) → i < 4 → b ≡ same (block_by log area st kept from i) (zeros 64) → b ≡ false
      → false ≡ same (blocks_by log area st kept from 4) (zeros 256)
  zeros-stop i b h e f = sym (zeros-some 4 i (omega arith) h (sym e ∙ f))

  -- ---- the answer in the order in which it is asked

  pub open-ranges : (at home : ℕ) (b : Bool) → at < 256 → at % 64 + 16 ≤ 64
      → b ≡ in_ranges (block_by log area st kept from (at / 64)) (at % 64) home 4 → b ≡ true
      → true ≡ opens st.homes (blocks_by log area st kept from 4) at home
  open-ranges at home b h k e t = open-inside st.homes _ at home b (e ∙ sym (ranges-own at home h k)) t

  pub open_none : (at home : ℕ) (b z : Bool) → at < 256 → at % 64 + 16 ≤ 64
      → b ≡ in_ranges (block_by log area st kept from (at / 64)) (at % 64) home 4 → b ≡ false
      → z ≡ same (blocks_by log area st kept from 4) (zeros 256)
      → z ≡ opens st.homes (blocks_by log area st kept from 4) at home
  open_none at home b z h k e t r = open-outside st.homes _ at home b z d (e ∙ sym (ranges-own at home h k)) t r

  -- ---- and by the sign

  pub sign-open : (sign at home : ℕ) → sign ≡ 1 → true ≡ opens_by sign st.homes (blocks_by log area st kept from 4) at home
  unfolding opens_by signed_list
  sign-open sign at home e = rw (e, le-leb 12 st.homes d)

  pub sign-listed : (sign at home : ℕ) (r : Bool) → sign ≡ 2 → r ≡ in_ranges (blocks_by log area st kept from 4) at home 4
      → r ≡ opens_by sign st.homes (blocks_by log area st kept from 4) at home
  unfolding opens_by signed_list
  sign-listed sign at home r e q = rw (e, le-leb 12 st.homes d) q

  pub sign-silent : (sign at home : ℕ) (r : Bool) → (sign ≡ 1 → ⊥) → (sign ≡ 2 → ⊥) → r ≡ opens st.homes (blocks_by log area st kept from 4) at home
      → r ≡ opens_by sign st.homes (blocks_by log area st kept from 4) at home
  unfolding opens_by opens signed_list is_list
  sign-silent sign at home r e f q = rw (ne_eqb sign 1 e, ne_eqb sign 2 f) q

-- none is kept: no log has such a position
pub none_kept : (log : List ℕ) (st : State) (home p : ℕ) → Searchable log st → p ≡ 2 ^ 64 - 1 → false ≡ there_by log st home p
none_kept log st home p s e = kept-past log st home p (next_position st) refl (omega (arith, s.within, s.low, s.most))

-- ---- a block that is shown

module _ (log area : List ℕ) (st : State) (kept : List ℕ) (from i p : ℕ) (b : Bool) (e : p ≡ number 8 kept (from + 8 * i))
    (t : b ≡ there_by log st (8 + i) p) where
  pub block-home : b ≡ false → block_by log area st kept from i ≡ part area (64 * (8 + i)) 64
  unfolding block_by shown_with home_at
  block-home f = rw (← e, ← t, f)

-- ---- the whole list in the data copy

module _ (log area : List ℕ) (st : State) (kept : List ℕ) (from : ℕ) (x : Listed log area st kept from) (d : 12 ≤ st.homes)
    (n : (i : ℕ) → i < 4 → number 8 kept (from + 8 * i) ≡ 2 ^ 64 - 1) where
  block-copy : (i : ℕ) → i < 4 → block_by log area st kept from i ≡ part area (64 * (8 + i)) 64
  block-copy i h = block-home log area st kept from i _ false refl (none_kept log st (8 + i) _ x.search (n i h)) refl

  copy-ranges : (at home : ℕ) (r : Bool) → at < 256 → at % 64 + 16 ≤ 64 → r ≡ in_ranges area (512 + at) home 4
      → r ≡ in_ranges (block_by log area st kept from (at / 64)) (at % 64) home 4
  copy-ranges at home r h k q =
      let e : 512 + at ≡ 64 * (8 + at / 64) + at % 64 = omega arith in
      q ∙ ap (λ (a : ℕ). in_ranges area a home 4) e ∙ ranges-part area (64 * (8 + at / 64)) (at % 64) home 4 (omega arith)
      ∙ ap (λ (xs : List ℕ). in_ranges xs (at % 64) home 4) (sym (block-copy (at / 64) (omega arith)))

  pub copy-open : (at home : ℕ) (r : Bool) → at < 256 → at % 64 + 16 ≤ 64 → r ≡ in_ranges area (512 + at) home 4 → r ≡ true
      → true ≡ opens st.homes (blocks_by log area st kept from 4) at home
  copy-open at home r h k q t = open-ranges log area st kept from x d at home r h k (copy-ranges at home r h k q) t

  copy-zero : (i : ℕ) → i < 4 → same (part area (64 * (8 + i)) 64) (zeros 64) ≡ same (block_by log area st kept from i) (zeros 64)
  copy-zero i h = ap (λ (xs : List ℕ). same xs (zeros 64)) (sym (block-copy i h))

  pub copy-none : (at home : ℕ) (r z : Bool) → at < 256 → at % 64 + 16 ≤ 64 → r ≡ in_ranges area (512 + at) home 4 → r ≡ false
      → z
      ≡ (same (part area 512 64) (zeros 64)
      && (same (part area 576 64) (zeros 64) && (same (part area 640 64) (zeros 64) && same (part area 704 64) (zeros 64))))
      → z ≡ opens st.homes (blocks_by log area st kept from 4) at home
  copy-none at home r z h k q t e =
      open_none log area st kept from x d at home r z h k (copy-ranges at home r h k q) t
      (e ∙ four-zeros log area st kept from x d _ _ _ _ (copy-zero 0 (omega arith)) (copy-zero 1 (omega arith)) (copy-zero 2 (omega arith)) (copy-zero 3 (omega arith)))

-- ---- by what a call is lent

module _ (g : Given) (st : State) (es : st ≡ state_of g.state) (eg : (state_of g.state).groups ≡ groups g) (eh : (state_of g.state).homes ≡ homes g) (kept : List ℕ) (from : ℕ) (by : ℕ → ℕ)
    (q : (i : ℕ) → by i ≡ number 8 kept (from + 8 * i)) where
  pub list_same : (n : ℕ) → list_by g by n ≡ blocks_by g.log g.area st kept from n
  unfolding list_by blocks_by block_by for_home
  list_same zero = refl
  list_same (suc n) = rw (list_same n, q n, shown-same (for_home g (8 + n)) st es eg eh)

pub kept_at : (newest : List ℕ) (i : ℕ) → kept_for newest (8 + i) ≡ number 8 newest (64 + 8 * i)
unfolding kept_for
kept_at newest i = let z : 8 * (8 + i) ≡ 64 + 8 * i = omega arith in rw z

module _ (log area state : List ℕ) (st : State) (u : Usable log area state) (es : st ≡ state_of state) where
  pub listed-state : Listed log area st state 896
  listed-state =
      record {
        search = searchable log area state st u es;
        long = rw es (omega (arith, u.area-length, u.order.homes_same));
        holds = λ d. omega (arith, u.state-length);
        low = omega arith;
      }

  pub listed-newest : (newest : List ℕ) → length newest ≡ 8 * home_count (length area) → Listed log area st newest 64
  listed-newest newest l =
      let h : st.homes ≡ home_count (length area) = ap (λ (s : State). s.homes) es ∙ u.order.homes_same in
      record {
        search = searchable log area state st u es;
        long = rw es (omega (arith, u.area-length, u.order.homes_same));
        holds = λ d. omega (arith, h);
        low = omega arith;
      }

  homes_by : st.homes ≡ home_count (length area)
  homes_by = ap (λ (s : State). s.homes) es ∙ u.order.homes_same

  pub store-listed : (writer home : ℕ) (b : Bool) → b ≡ of_list home → b ≡ true → eqb writer 0 ≡ store_allowed (lent log area state [] [] writer home)
  unfolding store_allowed right_to_store
  store-listed writer home b e t = rw (sym e ∙ t)

  pub store-open : (writer home : ℕ) (b r : Bool) → b ≡ of_list home → b ≡ false
      → r ≡ opens_by (list_sign state) st.homes (blocks_by log area st state 896 4) (32 * writer) home → r ≡ store_allowed (lent log area state [] [] writer home)
  unfolding store_allowed right_to_store store_list opens_by listed_of
  store-open writer home b r e t q =
      q ∙ rw (sym e ∙ t, list_same (lent log area state [] [] writer home) st es u.order.groups-same u.order.homes_same state 896 (listed_of state) (λ i. refl) 4, homes_by)

  small : length area < 768 → home_count (length area) < 12
  unfolding home_count
  small h = omega arith

  pub store-small : (writer home : ℕ) (b : Bool) → b ≡ of_list home → b ≡ false → length area < 768
      → true ≡ store_allowed (lent log area state [] [] writer home)
  unfolding store_allowed right_to_store signed_list
  store-small writer home b e t h = rw (sym e ∙ t, lt-leb 12 (home_count (length area)) (small h))

  pub read_small : (newest : List ℕ) (writer home : ℕ) (b : Bool) → b ≡ of_list home → b ≡ false → length area < 768
      → true ≡ read_allowed (lent_all log area state newest [] [] writer home)
  unfolding read_allowed right_to_read signed_list
  read_small newest writer home b e t h = rw (sym e ∙ t, lt-leb 12 (home_count (length area)) (small h))

  pub newest-small : (newest : List ℕ) (writer home : ℕ) (b : Bool) → b ≡ of_list home → b ≡ false → length area < 768
      → true ≡ right_to_store (list_sign state) (home_count (length area)) (read_list (lent_all log area state newest [] [] writer home)) writer home
  unfolding right_to_store signed_list
  newest-small newest writer home b e t h = rw (sym e ∙ t, lt-leb 12 (home_count (length area)) (small h))

  pub read-listed : (newest : List ℕ) (writer home : ℕ) (b : Bool) → b ≡ of_list home → b ≡ true
      → true ≡ read_allowed (lent_all log area state newest [] [] writer home)
  unfolding read_allowed right_to_read
  read-listed newest writer home b e t = rw (sym e ∙ t)

  pub read-open : (newest : List ℕ) (writer home : ℕ) (b r : Bool) → b ≡ of_list home → b ≡ false
      → r ≡ opens_by (list_sign state) st.homes (blocks_by log area st newest 64 4) (32 * writer + 16) home → r ≡ read_allowed (lent_all log area state newest [] [] writer home)
  unfolding read_allowed right_to_read read_list opens_by
  read-open newest writer home b r e t q =
      q
      ∙ rw (
        sym e ∙ t,
        list_same (lent_all log area state newest [] [] writer home) st es u.order.groups-same u.order.homes_same newest 64 (λ i. kept_for newest (8 + i)) (kept_at newest) 4,
        homes_by,
      )

  pub newest-listed : (newest : List ℕ) (writer home : ℕ) (b : Bool) → b ≡ of_list home → b ≡ true
      → eqb writer 0 ≡ right_to_store (list_sign state) (home_count (length area)) (read_list (lent_all log area state newest [] [] writer home)) writer home
  unfolding right_to_store
  newest-listed newest writer home b e t = rw (sym e ∙ t)

  pub newest-open : (newest : List ℕ) (writer home : ℕ) (b r : Bool) → b ≡ of_list home → b ≡ false
      → r ≡ opens_by (list_sign state) st.homes (blocks_by log area st newest 64 4) (32 * writer) home
      → r ≡ right_to_store (list_sign state) (home_count (length area)) (read_list (lent_all log area state newest [] [] writer home)) writer home
  unfolding right_to_store read_list opens_by
  newest-open newest writer home b r e t q =
      q
      ∙ rw (
        sym e ∙ t,
        list_same (lent_all log area state newest [] [] writer home) st es u.order.groups-same u.order.homes_same newest 64 (λ i. kept_for newest (8 + i)) (kept_at newest) 4,
        homes_by,
      )

-- ---- neither the block nor the batch is asked

module _ (log area state newest block batch : List ℕ) (writer home : ℕ) where
  shown-only : (h p : ℕ)
      → shown_at (for_home (lent_all log area state newest block batch writer home) h) p ≡ shown_at (for_home (lent_all log area state newest [] [] writer home) h) p
  unfolding shown_at for_home is_there block_or live_tags tags_of live_base
  shown-only h p = go (is_there (for_home (lent_all log area state newest [] [] writer home) h) p)
    where
      go : (b : Bool)
          → block_or (for_home (lent_all log area state newest block batch writer home) h) (cond b (some p) none) (home_at area h)
          ≡ block_or (for_home (lent_all log area state newest [] [] writer home) h) (cond b (some p) none) (home_at area h)
      go true = refl
      go false = refl

  list-only : (by : ℕ → ℕ) (n : ℕ)
      → list_by (lent_all log area state newest block batch writer home) by n ≡ list_by (lent_all log area state newest [] [] writer home) by n
  unfolding list_by
  list-only by zero = refl
  list-only by (suc n) = rw (list-only by n, shown-only (8 + n) (by n))

  pub read_only : read_allowed (lent_all log area state newest block batch writer home) ≡ read_allowed (lent_all log area state newest [] [] writer home)
  unfolding read_allowed read_list
  read_only = ap (λ (xs : List ℕ). right_to_read (list_sign state) (home_count (length area)) xs writer home) (list-only _ 4)

pub store-only : (log area state block batch : List ℕ) (writer home : ℕ)
    → store_allowed (lent log area state block batch writer home) ≡ store_allowed (lent log area state [] [] writer home)
unfolding store_allowed store_list
store-only log area state block batch writer home =
    ap (λ (xs : List ℕ). right_to_store (list_sign state) (home_count (length area)) xs writer home) (list-only log area state [] block batch writer home (listed_of state) 4)
