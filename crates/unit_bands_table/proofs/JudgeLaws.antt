-- The verdict, question by question. Assumes nothing.
use mathlib.Core.Path.{◌≡◌, refl, sym, ap, ◌∙◌}
use mathlib.Core.Bool.{Bool, true, false, ◌&&◌}
use mathlib.Core.List.{List}
use Prim.Native.Nat.{ℕ, ◌≤◌, ◌<◌}
use native.Mathlib.Omega.{arith}
use borrow.Author.Tests.{leb-true, leb-false, ltb-true, ltb-false, lt-ltb, le-ltb, eq-eqb, ne_eqb}
use lib.Dec.{eqb, leb, ltb}
use lib.ListN.{length}
use Rattle.unit_bands_table.specs.Rows.{Row, rows, count}
use Rattle.unit_bands_table.specs.Judge.{Verdict, verdict, depths, all_fit, sound, uncovered, doubled, overlaps, coverage, judgement}
use Rattle.unit_bands_table.specs.Sweep.{sized, rising, width}
use Rattle.unit_bands_table.proofs.RowLaws.{both_left, both_right, sound-short, sound-fit, sound-unsized, sound-rest}
use Rattle.unit_bands_table.proofs.LowestLaws.{uncovered-is, uncovered-passed, uncovered-high, doubled-is, doubled-passed}
use Rattle.unit_bands_table.proofs.SweepLaws.{rising-one}
use Rattle.unit_bands_table.proofs.WidthLaws.{width-single, single-width}

module _ (rs : List Row) where
  pub coverage-gap : uncovered rs < 10000 → coverage rs ≡ verdict 12 (uncovered rs)
  unfolding coverage depths
  coverage-gap h = rw (lt-ltb (uncovered rs) 10000 h)

  module _ (c : 10000 ≤ uncovered rs) where
    pub coverage-double : doubled rs < 10000 → coverage rs ≡ verdict 13 (doubled rs)
    unfolding coverage overlaps depths
    coverage-double h = rw (le-ltb (uncovered rs) 10000 c, lt-ltb (doubled rs) 10000 h)

    pub coverage-one : 10000 ≤ doubled rs → coverage rs ≡ verdict 0 0
    unfolding coverage overlaps depths
    coverage-one h = rw (le-ltb (uncovered rs) 10000 c, le-ltb (doubled rs) 10000 h)

pub judged-unsound : (bytes : List ℕ) → sound bytes ≡ false → judgement bytes ≡ verdict 11 0
unfolding judgement
judged-unsound bytes e = rw e

pub judged-sound : (bytes : List ℕ) → sound bytes ≡ true → judgement bytes ≡ coverage (rows bytes)
unfolding judgement
judged-sound bytes e = rw e

module _ (bytes : List ℕ) (e : sound bytes ≡ true) where
  -- rows that rise leave no gap
  pub rising-covered : rising 0 (rows bytes) ≡ true → 10000 ≡ uncovered (rows bytes)
  rising-covered r =
      sym (uncovered-is (rows bytes) 10000 (omega arith)
      (λ mm h. omega (arith, rising-one mm 0 (rows bytes) r (sound-fit bytes e) (omega arith) h))
      (λ h. absurd (omega arith)))

  covered : 10000 ≤ uncovered (rows bytes) → (k : ℕ) → k < 10000 → 1 ≤ count k (rows bytes)
  covered c k h = uncovered-passed (rows bytes) k (omega arith)

  width-doubled : 10000 ≤ uncovered (rows bytes) → width (rows bytes) ≡ 10000 → doubled (rows bytes) ≡ 10000
  width-doubled c w =
      doubled-is (rows bytes) 10000 (omega arith) (width-single (rows bytes) (sound-fit bytes e) (covered c) w) (λ h. absurd (omega arith))

  doubled-width : 10000 ≤ uncovered (rows bytes) → 10000 ≤ doubled (rows bytes) → width (rows bytes) ≡ 10000
  doubled-width c d =
      single-width (rows bytes) (sound-fit bytes e) (covered c) (λ k h. doubled-passed (rows bytes) k (omega arith))

  module _ {gap : ℕ} (u : gap ≡ uncovered (rows bytes)) where
    pub judged-gap : gap < 10000 → judgement bytes ≡ verdict 12 gap
    judged-gap h = rw u (judged-sound bytes e ∙ coverage-gap (rows bytes) (omega arith))

    module _ (c : 10000 ≤ gap) {sum : ℕ} (w : sum ≡ width (rows bytes)) where
      pub judged-one : sum ≡ 10000 → judgement bytes ≡ verdict 0 0
      judged-one h = judged-sound bytes e ∙ coverage-one (rows bytes) (omega arith) (omega (arith, width-doubled (omega arith) (omega arith)))

      pub judged-double : (sum ≡ 10000 → ⊥) → {double : ℕ} → double ≡ doubled (rows bytes) → judgement bytes ≡ verdict 13 double
      judged-double h {double} d =
          rw d (judged-sound bytes e ∙ coverage-double (rows bytes) (omega arith) (go (leb 10000 (doubled (rows bytes))) refl))
        where
          go : (t : Bool) → leb 10000 (doubled (rows bytes)) ≡ t → doubled (rows bytes) < 10000
          go true q = absurd (h (w ∙ doubled-width (omega arith) (leb-true 10000 (doubled (rows bytes)) q)))
          go false q = leb-false 10000 (doubled (rows bytes)) q

-- only rows that are asked for are accepted
pub accepted-sound : (bytes : List ℕ) → (judgement bytes).code ≡ 0 → sound bytes ≡ true
accepted-sound bytes h = go (sound bytes) refl
  where
    go : (t : Bool) → sound bytes ≡ t → sound bytes ≡ true
    go true e = e
    go false e = absurd (omega (arith, ap (λ (v : Verdict). v.code) (judged-unsound bytes e)))

-- and they fit into the home blocks
pub accepted-short : (bytes : List ℕ) → (judgement bytes).code ≡ 0 → length bytes ≤ 160
accepted-short bytes h = sound-short bytes (accepted-sound bytes h)

-- ---- accepted or not, with no refusal told

code_of : (bytes : List ℕ) {code mm : ℕ} → judgement bytes ≡ verdict code mm → (judgement bytes).code ≡ code
code_of bytes v = ap (λ (x : Verdict). x.code) v

pub refuses : (bytes : List ℕ) {code mm : ℕ} → judgement bytes ≡ verdict code mm → (code ≡ 0 → ⊥) → false ≡ eqb (judgement bytes).code 0
refuses bytes v n = sym (ne_eqb (judgement bytes).code 0 (λ z. n (sym (code_of bytes v) ∙ z)))

pub accepts-unsound : (bytes : List ℕ) → sound bytes ≡ false → false ≡ eqb (judgement bytes).code 0
accepts-unsound bytes e = refuses bytes (judged-unsound bytes e) (λ z. omega arith)

pub accepts-unsized : (bytes : List ℕ) → sized bytes ≡ false → false ≡ eqb (judgement bytes).code 0
accepts-unsized bytes e = accepts-unsound bytes (sound-unsized bytes e)

-- rows that a table may have and that rise without a gap are accepted
pub accepts-tiled : (bytes : List ℕ) → sized bytes ≡ true → (all_fit (rows bytes) && rising 0 (rows bytes)) ≡ true → true ≡ eqb (judgement bytes).code 0
accepts-tiled bytes z t =
    let f = both_left (all_fit (rows bytes)) _ t in
    let r = both_right (all_fit (rows bytes)) _ t in
    let e = sound-rest bytes z ∙ f in
    let u = rising-covered bytes e r in
    let d = doubled-is (rows bytes) 10000 (omega arith) (λ mm h. omega (arith, rising-one mm 0 (rows bytes) r f (omega arith) h)) (λ h. absurd (omega arith)) in
    sym (eq-eqb (judgement bytes).code 0 (code_of bytes (judged-sound bytes e ∙ coverage-one (rows bytes) (omega arith) (omega arith))))

module _ (bytes : List ℕ) (e : sound bytes ≡ true) {sum : ℕ} (w : sum ≡ width (rows bytes)) where
  pub accepts-wide : (sum ≡ 10000 → ⊥) → false ≡ eqb (judgement bytes).code 0
  accepts-wide n = go (ltb (uncovered (rows bytes)) 10000) refl
    where
      go : (t : Bool) → ltb (uncovered (rows bytes)) 10000 ≡ t → false ≡ eqb (judgement bytes).code 0
      go true q = refuses bytes (judged-gap bytes e refl (ltb-true (uncovered (rows bytes)) 10000 q)) (λ z. omega arith)
      go false q = refuses bytes (judged-double bytes e refl (ltb-false (uncovered (rows bytes)) 10000 q) w n refl) (λ z. omega arith)

  pub accepts-covered : sum ≡ 10000 → {gap : ℕ} → gap ≡ uncovered (rows bytes) → eqb gap 10000 ≡ eqb (judgement bytes).code 0
  accepts-covered h {gap} u = go (ltb gap 10000) refl
    where
      go : (t : Bool) → ltb gap 10000 ≡ t → eqb gap 10000 ≡ eqb (judgement bytes).code 0
      go true q =
          let l = ltb-true gap 10000 q in
          ne_eqb gap 10000 (λ z. omega arith) ∙ refuses bytes (judged-gap bytes e u l) (λ z. omega arith)
      go false q =
          let l = ltb-false gap 10000 q in
          eq-eqb gap 10000 (omega (arith, uncovered-high (rows bytes)))
          ∙ sym (eq-eqb (judgement bytes).code 0 (code_of bytes (judged-one bytes e u l w h)))
