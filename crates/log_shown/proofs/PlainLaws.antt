-- Laws of a tag's word that is compared with a home: one with nothing above its distance back, and any. Assumes nothing.
use mathlib.Core.Path.{◌≡◌, refl, sym, ◌∙◌}
use mathlib.Core.Bool.{Bool, true, false, cond, ◌&&◌, and-false, false≢true}
use Prim.Native.Nat.{ℕ, zero, suc, ◌+◌, ◌-◌, ◌*◌, ◌/◌, ◌%◌, ◌^◌, ◌≤◌, ◌<◌}
use native.Mathlib.Decide.{ℕ_discrete}
use native.Mathlib.Omega.{arith}
use borrow.Author.Tests.{eq-eqb, ne_eqb, le-leb, lt-leb}
use lib.Dec.{eqb, leb, ltb}
use Rattle.model.specs.Tag.{field, says, read_fields, read_tag, present, home_of}
use Rattle.model.specs.declared.Tag.TheVariants.{Nothing, Entry, Closing}

says_nothing : (b : Bool) → says b Nothing ≡ Nothing
unfolding says
says_nothing true = refl
says_nothing false = refl

-- an entry for one home, asked for another
other : (b : Bool) (h f home : ℕ) → (h ≡ home → ⊥) → false ≡ (present (says b (Entry h f)) && eqb (home_of (says b (Entry h f))) home)
unfolding says present home_of
other true h f home n = sym (ne_eqb h home n)
other false h f home n = refl

-- the fields of such a word: nothing above, no bits from 27 to 52, no count
plain-fields : (used closing h back link position base homes home low : ℕ) → used < 2 → closing < 2 → low ≡ used + 2 * closing + 4 * h
    → base + back ≤ position → home < homes
    → eqb low (4 * home + 1)
    ≡ (present (read_fields used closing 0 0 h back link 0 position base homes)
    && eqb (home_of (read_fields used closing 0 0 h back link 0 position base homes)) home)
unfolding read_fields says present home_of
plain-fields zero closing h back link position base homes home low u c e s k = ne_eqb low (4 * home + 1) (λ q. omega arith)
plain-fields (suc zero) zero h back link position base homes home low u c e s k =
    rw (le-leb (base + back) position s) (go (ℕ_discrete h home))
  where
    go : Dec (h ≡ home)
        → eqb low (4 * home + 1)
        ≡ (present (says (leb (h + 1) homes) (Entry h (position - back))) && eqb (home_of (says (leb (h + 1) homes) (Entry h (position - back)))) home)
    go (yes q) = rw (eq-eqb low (4 * home + 1) (omega arith), le-leb (h + 1) homes (omega arith)) (sym (eq-eqb h home q))
    go (no q) = ne_eqb low (4 * home + 1) (λ z. q (omega arith)) ∙ other (leb (h + 1) homes) h (position - back) home q
plain-fields (suc zero) (suc zero) h back link position base homes home low u c e s k =
    simp says_nothing (ne_eqb low (4 * home + 1) (λ q. omega arith))
plain-fields (suc zero) (suc (suc n)) h back link position base homes home low u c e s k = absurd (omega arith)
plain-fields (suc (suc n)) closing h back link position base homes home low u c e s k = absurd (omega arith)

low_bits : (w : ℕ) → w % 2 ^ 14 ≡ w % 2 + 2 * (w / 2 % 2) + 4 * (w / 4 % 2 ^ 12)
low_bits w =
    let e : w % 2 ^ 14 ≡ w % 4 + 4 * (w / 4 % 2 ^ 12) = omega arith in
    let f : w % 4 ≡ w % 2 + 2 * (w / 2 % 2) = omega arith in
    omega (arith, e, f)

-- the parts of a word's low bits
module _ (l u c h x : ℕ) (e : l ≡ u + 2 * c + 4 * h) (a : u < 2) (b : c < 2) where
  low-plain : l ≡ 4 * x + 1 → (u ≡ 1) × (c ≡ 0) × (h ≡ x)
  low-plain f = (omega arith, omega arith, omega arith)

  low-closing : l ≡ 4 * x + 1 + 2 → (u ≡ 1) × (c ≡ 1) × (h ≡ x)
  low-closing f = (omega arith, omega arith, omega arith)

  low-other : u ≡ 1 → h ≡ x → (l ≡ 4 * x + 1 → ⊥) → (l ≡ 4 * x + 1 + 2 → ⊥) → ⊥
  low-other f g p q = none c refl
    where
      none : (n : ℕ) → c ≡ n → ⊥
      none zero z = p (omega arith)
      none (suc zero) z = q (omega arith)
      none (suc (suc n)) z = omega arith

  low-joined : (t : ℕ) → t ≡ 0 → l ≡ u + 2 * c + 4 * (h + 2 ^ 12 * t)
  low-joined t z = omega arith

home-parts : (home a b : ℕ) → a ≡ home % 2 ^ 12 → b ≡ home / 2 ^ 12 → a + 2 ^ 12 * b ≡ home
home-parts home a b e f = omega arith

home-low : (home a b : ℕ) → a < 2 ^ 12 → a + 2 ^ 12 * b ≡ home → a ≡ home % 2 ^ 12
home-low home a b l e = omega arith

home-top : (home a b : ℕ) → a < 2 ^ 12 → a + 2 ^ 12 * b ≡ home → b ≡ home / 2 ^ 12
home-top home a b l e = omega arith

sixteen : (t h : ℕ) → t < 32 → t % 2 ^ 4 ≡ h → (t ≡ h → ⊥) → (t ≡ h + 16 → ⊥) → ⊥
sixteen t h l m p q = none (t / 16) refl
  where
    none : (n : ℕ) → t / 16 ≡ n → ⊥
    none zero z = p (omega arith)
    none (suc zero) z = q (omega arith)
    none (suc (suc n)) z = omega arith

-- a word's bits from 53 on: those of the home, and with the displaced bit
pub top-plain : (w home : ℕ) → home < 2 ^ 16 → w / 2 ^ 53 ≡ home / 2 ^ 12 → (w / 2 ^ 53 % 2 ^ 4 ≡ home / 2 ^ 12) × (w / 2 ^ 58 ≡ 0)
top-plain w home h e = let l : w / 2 ^ 53 < 16 = omega arith in (omega (arith, e, l), omega (arith, l))

pub top-displaced : (w home : ℕ) → home < 2 ^ 16 → w / 2 ^ 53 ≡ home / 2 ^ 12 + 16 → (w / 2 ^ 53 % 2 ^ 4 ≡ home / 2 ^ 12) × (w / 2 ^ 58 ≡ 0)
top-displaced w home h e = let l : w / 2 ^ 53 < 32 = omega arith in let k : home / 2 ^ 12 < 16 = omega arith in (omega (arith, e, k), omega (arith, l))

-- lowest and highest bits next to each other
key-parts : (l t home k : ℕ) → l < 2 ^ 14 → k < 4 → l + 2 ^ 14 * t ≡ 4 * home + k → (t ≡ home / 2 ^ 12) × (l ≡ 4 * (home % 2 ^ 12) + k)
key-parts l t home k h s e = (omega arith, omega arith)

low-key : (w : ℕ) → w % 0x4000 < 2 ^ 14
low-key w = omega arith

one-zero : (n : ℕ) → n ≡ 1 → n ≡ 0 → ⊥
one-zero n e z = omega arith

odd : (w : ℕ) → w % 2 < 2
odd w = omega arith

low-lt : (w : ℕ) → w / 2 ^ 2 % 2 ^ 12 < 2 ^ 12
low-lt w = omega arith

first_bit : (w : ℕ) → w / 2 ^ 0 % 2 ^ 1 ≡ w % 2
first_bit w = omega arith

pub plain-test : (w home after base homes : ℕ) → w / 2 ^ 14 ≤ after → after < 2 ^ 13 → home < homes
    → eqb (w % 0x4000) (4 * home + 1)
    ≡ (present (read_tag w (base + after) base homes) && eqb (home_of (read_tag w (base + after) base homes)) home)
unfolding read_tag field
plain-test w home after base homes l s k =
    let above : w / 2 ^ 58 % 2 ^ 6 ≡ 0 = omega arith in
    let upper : w / 2 ^ 27 % 2 ^ 26 ≡ 0 = omega arith in
    let high : w / 2 ^ 53 % 2 ^ 4 ≡ 0 = omega arith in
    let count : w / 2 ^ 40 % 2 ^ 13 ≡ 0 = omega arith in
    rw (above, upper, count)
    (plain-fields (w / 2 ^ 0 % 2 ^ 1) (w / 2 ^ 1 % 2 ^ 1) (w / 2 ^ 2 % 2 ^ 12 + 2 ^ 12 * (w / 2 ^ 53 % 2 ^ 4)) (w / 2 ^ 14 % 2 ^ 13) _ (base + after) base homes home
    (w % 0x4000) (omega arith) (omega arith)
    (rw (first_bit w) (low-joined (w % 2 ^ 14) (w % 2) (w / 2 % 2) (w / 4 % 2 ^ 12) 0 (low_bits w) (omega arith) (omega arith) (w / 2 ^ 53 % 2 ^ 4) high))
    (omega arith) k)

-- ---- any word, test by test

tested : (used closing above upper h back link count position base homes home : ℕ) → home < homes
    → (present (read_fields used closing above upper h back link count position base homes)
    && eqb (home_of (read_fields used closing above upper h back link count position base homes)) home)
    ≡ (eqb used 1
    && (eqb above 0 && (leb (base + back) position && (eqb h home && cond (eqb closing 0) (eqb upper 0) (leb 1 count)))))
unfolding read_fields says present home_of
tested used closing above upper h back link count position base homes home l =
    go (eqb used 1) (eqb above 0) (leb (h + 1) homes) (leb (base + back) position) (eqb closing 0) (eqb upper 0) (leb 1 count) (ℕ_discrete h home)
    (λ e. le-leb (h + 1) homes (omega arith))
  where
    go : (u a k s c p n : Bool) → Dec (h ≡ home) → (h ≡ home → k ≡ true)
        → (present (says u (says a (says k (says s (cond c (says p (Entry h (position - back))) (says n (Closing h (position - back) link count)))))))
        && eqb (home_of (says u (says a (says k (says s (cond c (says p (Entry h (position - back))) (says n (Closing h (position - back) link count)))))))) home)
        ≡ (u && (a && (s && (eqb h home && cond c p n))))
    go false a k s c p n d f = refl
    go true false k s c p n d f = refl
    go true true false s c p n (yes e) f = absurd (false≢true (f e))
    go true true false s c p n (no e) f = simp (ne_eqb h home e, and-false)
    go true true true false c p n d f = refl
    go true true true true true false n d f = simp and-false
    go true true true true true true n (yes e) f = rw (eq-eqb h home e)
    go true true true true true true n (no e) f = rw (ne_eqb h home e)
    go true true true true false p false d f = simp and-false
    go true true true true false p true (yes e) f = rw (eq-eqb h home e)
    go true true true true false p true (no e) f = rw (ne_eqb h home e)

module _ (w home after base homes : ℕ) (fits : w < 2 ^ 64) (small : home < 2 ^ 16) (known : home < homes) where
  by-fields : (present (read_tag w (base + after) base homes) && eqb (home_of (read_tag w (base + after) base homes)) home)
      ≡ (eqb (w % 2) 1
      && (eqb (w / 2 ^ 58) 0
      && (leb (base + w / 2 ^ 14 % 2 ^ 13) (base + after)
      && (eqb (w / 2 ^ 2 % 2 ^ 12 + 2 ^ 12 * (w / 2 ^ 53 % 2 ^ 4)) home
      && cond (eqb (w / 2 % 2) 0) (eqb (w / 2 ^ 27 % 2 ^ 26) 0) (leb 1 (w / 2 ^ 40 % 2 ^ 13))))))
  unfolding read_tag field
  by-fields =
      let e0 : w / 2 ^ 0 % 2 ^ 1 ≡ w % 2 = omega arith in
      let e1 : w / 2 ^ 58 % 2 ^ 6 ≡ w / 2 ^ 58 = omega arith in
      tested (w / 2 ^ 0 % 2 ^ 1) (w / 2 ^ 1 % 2 ^ 1) (w / 2 ^ 58 % 2 ^ 6) (w / 2 ^ 27 % 2 ^ 26) (w / 2 ^ 2 % 2 ^ 12 + 2 ^ 12 * (w / 2 ^ 53 % 2 ^ 4)) (w / 2 ^ 14 % 2 ^ 13)
      (w / 2 ^ 27 % 2 ^ 13) (w / 2 ^ 40 % 2 ^ 13) (base + after) base homes home known
      ∙ rw (e0, e1)

  pub far-back : after < w / 2 ^ 14 % 0x2000 → false ≡ (present (read_tag w (base + after) base homes) && eqb (home_of (read_tag w (base + after) base homes)) home)
  far-back l = sym (by-fields ∙ simp (lt-leb (base + w / 2 ^ 14 % 2 ^ 13) (base + after) (omega arith), and-false))

  pub other-top : (w / 2 ^ 53 ≡ home / 2 ^ 12 → ⊥) → (w / 2 ^ 53 ≡ home / 2 ^ 12 + 16 → ⊥)
      → false ≡ (present (read_tag w (base + after) base homes) && eqb (home_of (read_tag w (base + after) base homes)) home)
  other-top p q = sym (by-fields ∙ go (ℕ_discrete (w / 2 ^ 58) 0))
    where
      go : Dec (w / 2 ^ 58 ≡ 0)
          → (eqb (w % 2) 1
          && (eqb (w / 2 ^ 58) 0
          && (leb (base + w / 2 ^ 14 % 2 ^ 13) (base + after)
          && (eqb (w / 2 ^ 2 % 2 ^ 12 + 2 ^ 12 * (w / 2 ^ 53 % 2 ^ 4)) home
          && cond (eqb (w / 2 % 2) 0) (eqb (w / 2 ^ 27 % 2 ^ 26) 0) (leb 1 (w / 2 ^ 40 % 2 ^ 13))))))
          ≡ false
      go (no z) = simp (ne_eqb (w / 2 ^ 58) 0 z, and-false)
      go (yes z) =
          let t : w / 2 ^ 53 < 32 = omega arith in
          let n : w / 2 ^ 2 % 2 ^ 12 + 2 ^ 12 * (w / 2 ^ 53 % 2 ^ 4) ≡ home → ⊥ =
          λ e. sixteen (w / 2 ^ 53) (home / 2 ^ 12) t (home-top home (w / 2 ^ 2 % 2 ^ 12) (w / 2 ^ 53 % 2 ^ 4) (low-lt w) e) p q in
          simp (ne_eqb (w / 2 ^ 2 % 2 ^ 12 + 2 ^ 12 * (w / 2 ^ 53 % 2 ^ 4)) home n, and-false)

  -- where distance back and top bits fit
  module _ (near : w / 2 ^ 14 % 0x2000 ≤ after) (top : w / 2 ^ 53 % 2 ^ 4 ≡ home / 2 ^ 12) (above : w / 2 ^ 58 ≡ 0) where
    fitting : (present (read_tag w (base + after) base homes) && eqb (home_of (read_tag w (base + after) base homes)) home)
        ≡ (eqb (w % 2) 1
        && (eqb (w / 2 ^ 2 % 2 ^ 12 + 2 ^ 12 * (w / 2 ^ 53 % 2 ^ 4)) home
        && cond (eqb (w / 2 % 2) 0) (eqb (w / 2 ^ 27 % 2 ^ 26) 0) (leb 1 (w / 2 ^ 40 % 2 ^ 13))))
    fitting = by-fields ∙ rw (eq-eqb (w / 2 ^ 58) 0 above, le-leb (base + w / 2 ^ 14 % 2 ^ 13) (base + after) (omega arith))

    pub plain-low : w % 0x4000 ≡ 4 * (home % 0x1000) + 1
        → eqb (w / 2 ^ 27 % 0x400_0000) 0
        ≡ (present (read_tag w (base + after) base homes) && eqb (home_of (read_tag w (base + after) base homes)) home)
    plain-low e =
        let t = low-plain (w % 2 ^ 14) (w % 2) (w / 2 % 2) (w / 4 % 2 ^ 12) (home % 2 ^ 12) (low_bits w) (odd w) (odd (w / 2)) e in
        sym
        (fitting
        ∙ rw (
          eq-eqb (w % 2) 1 t.0,
          eq-eqb (w / 2 ^ 2 % 2 ^ 12 + 2 ^ 12 * (w / 2 ^ 53 % 2 ^ 4)) home (home-parts home _ _ t.2 top),
          eq-eqb (w / 2 % 2) 0 t.1,
        ))

    pub other-low : (w % 0x4000 ≡ 4 * (home % 0x1000) + 1 → ⊥) → (w % 0x4000 ≡ 4 * (home % 0x1000) + 1 + 2 → ⊥)
        → false ≡ (present (read_tag w (base + after) base homes) && eqb (home_of (read_tag w (base + after) base homes)) home)
    other-low p q = sym (fitting ∙ go (ℕ_discrete (w % 2) 1))
      where
        go : Dec (w % 2 ≡ 1)
            → (eqb (w % 2) 1
            && (eqb (w / 2 ^ 2 % 2 ^ 12 + 2 ^ 12 * (w / 2 ^ 53 % 2 ^ 4)) home
            && cond (eqb (w / 2 % 2) 0) (eqb (w / 2 ^ 27 % 2 ^ 26) 0) (leb 1 (w / 2 ^ 40 % 2 ^ 13))))
            ≡ false
        go (no z) = rw (ne_eqb (w % 2) 1 z)
        go (yes z) =
            let n : w / 2 ^ 2 % 2 ^ 12 + 2 ^ 12 * (w / 2 ^ 53 % 2 ^ 4) ≡ home → ⊥ =
            λ e.
            low-other (w % 2 ^ 14) (w % 2) (w / 2 % 2) (w / 4 % 2 ^ 12) (home % 2 ^ 12) (low_bits w) (odd w) (odd (w / 2)) z
            (home-low home (w / 2 ^ 2 % 2 ^ 12) (w / 2 ^ 53 % 2 ^ 4) (low-lt w) e) p q in
            simp (ne_eqb (w / 2 ^ 2 % 2 ^ 12 + 2 ^ 12 * (w / 2 ^ 53 % 2 ^ 4)) home n, and-false)

    pub closing-low : w % 0x4000 ≡ 4 * (home % 0x1000) + 1 + 2
        → ltb 0 (w / 2 ^ 40 % 0x2000)
        ≡ (present (read_tag w (base + after) base homes) && eqb (home_of (read_tag w (base + after) base homes)) home)
    closing-low e =
        let t = low-closing (w % 2 ^ 14) (w % 2) (w / 2 % 2) (w / 4 % 2 ^ 12) (home % 2 ^ 12) (low_bits w) (odd w) (odd (w / 2)) e in
        sym
        (fitting
        ∙ rw (
          eq-eqb (w % 2) 1 t.0,
          eq-eqb (w / 2 ^ 2 % 2 ^ 12 + 2 ^ 12 * (w / 2 ^ 53 % 2 ^ 4)) home (home-parts home _ _ t.2 top),
          ne_eqb (w / 2 % 2) 0 (λ z. one-zero (w / 2 % 2) t.1 z),
        ))

  -- the same with lowest and highest bits compared at once
  module _ (near : w / 2 ^ 14 % 0x2000 ≤ after) where
    pub closing-key : w % 0x4000 + 0x4000 * (w / 2 ^ 53) ≡ 4 * home + 1 + 2
        → ltb 0 (w / 2 ^ 40 % 0x2000)
        ≡ (present (read_tag w (base + after) base homes) && eqb (home_of (read_tag w (base + after) base homes)) home)
    closing-key e =
        let q = key-parts (w % 0x4000) (w / 2 ^ 53) home 3 (low-key w) (omega arith) (omega (arith, e)) in
        let t = top-plain w home small q.0 in
        closing-low near t.0 t.1 (omega (arith, q.1))

    pub closing-displaced : w % 0x4000 + 0x4000 * (w / 2 ^ 53) ≡ 4 * home + 1 + 0x4_0002
        → ltb 0 (w / 2 ^ 40 % 0x2000)
        ≡ (present (read_tag w (base + after) base homes) && eqb (home_of (read_tag w (base + after) base homes)) home)
    closing-displaced e =
        let q = key-parts (w % 0x4000) (w / 2 ^ 53) (home + 2 ^ 16) 3 (low-key w) (omega arith) (omega (arith, e)) in
        let t = top-displaced w home small (omega (arith, q.0)) in
        closing-low near t.0 t.1 (omega (arith, q.1))

    pub plain-key : w % 0x4000 + 0x4000 * (w / 2 ^ 53) ≡ 4 * home + 1
        → eqb (w / 2 ^ 27 % 0x400_0000) 0
        ≡ (present (read_tag w (base + after) base homes) && eqb (home_of (read_tag w (base + after) base homes)) home)
    plain-key e =
        let q = key-parts (w % 0x4000) (w / 2 ^ 53) home 1 (low-key w) (omega arith) e in
        let t = top-plain w home small q.0 in
        plain-low near t.0 t.1 (omega (arith, q.1))

    pub plain-displaced : w % 0x4000 + 0x4000 * (w / 2 ^ 53) ≡ 4 * home + 1 + 0x4_0000
        → eqb (w / 2 ^ 27 % 0x400_0000) 0
        ≡ (present (read_tag w (base + after) base homes) && eqb (home_of (read_tag w (base + after) base homes)) home)
    plain-displaced e =
        let q = key-parts (w % 0x4000) (w / 2 ^ 53) (home + 2 ^ 16) 1 (low-key w) (omega arith) (omega (arith, e)) in
        let t = top-displaced w home small (omega (arith, q.0)) in
        plain-low near t.0 t.1 (omega (arith, q.1))

    pub other_key : (w % 0x4000 + 0x4000 * (w / 2 ^ 53) ≡ 4 * home + 1 + 2 → ⊥) → (w % 0x4000 + 0x4000 * (w / 2 ^ 53) ≡ 4 * home + 1 + 0x4_0002 → ⊥)
        → (w % 0x4000 + 0x4000 * (w / 2 ^ 53) ≡ 4 * home + 1 → ⊥) → (w % 0x4000 + 0x4000 * (w / 2 ^ 53) ≡ 4 * home + 1 + 0x4_0000 → ⊥)
        → false ≡ (present (read_tag w (base + after) base homes) && eqb (home_of (read_tag w (base + after) base homes)) home)
    other_key a b c d = go (ℕ_discrete (w / 2 ^ 53) (home / 2 ^ 12)) (ℕ_discrete (w / 2 ^ 53) (home / 2 ^ 12 + 16))
      where
        go : Dec (w / 2 ^ 53 ≡ home / 2 ^ 12) → Dec (w / 2 ^ 53 ≡ home / 2 ^ 12 + 16)
            → false ≡ (present (read_tag w (base + after) base homes) && eqb (home_of (read_tag w (base + after) base homes)) home)
        go (yes e) f =
            let t = top-plain w home small e in
            other-low near t.0 t.1 (λ z. c (omega (arith, e, z))) (λ z. a (omega (arith, e, z)))
        go (no p) (yes e) =
            let t = top-displaced w home small e in
            other-low near t.0 t.1 (λ z. d (omega (arith, e, z))) (λ z. b (omega (arith, e, z)))
        go (no p) (no q) = other-top p q
