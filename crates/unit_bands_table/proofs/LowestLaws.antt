-- Laws of the lowest number that a test takes, and of the lowest millimetre in no row and in two. Assumes nothing.
use mathlib.Core.Path.{◌≡◌, refl, ◌∙◌}
use mathlib.Core.Bool.{Bool, true, false}
use mathlib.Core.List.{List}
use Prim.Native.Nat.{ℕ, zero, suc, ◌+◌, ◌≤◌, ◌<◌}
use native.Mathlib.Omega.{arith}
use borrow.Author.Tests.{eqb-true, eqb-false, leb-true, leb-false, le-leb, lt-leb, eq-eqb, ne_eqb}
use lib.Dec.{eqb, leb}
use Rattle.unit_bands_table.specs.Rows.{Row, count}
use Rattle.unit_bands_table.specs.Judge.{depths, lowest, uncovered, doubled}

-- ---- any test

pub record Lowest (test : ℕ → Bool) (n at k : ℕ) : Type 0 where
  pub low : at ≤ k
  pub high : k ≤ at + n
  pub passed : (j : ℕ) → at ≤ j → j < k → test j ≡ false
  pub taken : k < at + n → test k ≡ true

module _ (test : ℕ → Bool) where
  lowest-taken : (n at : ℕ) → test at ≡ true → lowest test (suc n) at ≡ at
  unfolding lowest
  lowest-taken n at e = rw e

  lowest-passed : (n at : ℕ) → test at ≡ false → lowest test (suc n) at ≡ lowest test n (at + 1)
  unfolding lowest
  lowest-passed n at e = rw e

  lowest-none : (at : ℕ) → lowest test zero at ≡ at
  unfolding lowest
  lowest-none at = refl

  passed-more : (at k : ℕ) → test at ≡ false → ((j : ℕ) → at + 1 ≤ j → j < k → test j ≡ false) → (j : ℕ) → at ≤ j → j < k → test j ≡ false
  passed-more at k e f j a b = go (eqb j at) refl
    where
      go : (t : Bool) → eqb j at ≡ t → test j ≡ false
      go true q = rw (eqb-true j at q) e
      go false q = let d = eqb-false j at q in f j (omega arith) b

  pub lowest-is : (n at k : ℕ) → Lowest test n at k → lowest test n at ≡ k
  lowest-is zero at k l = omega (arith, lowest-none at, l.low, l.high)
  lowest-is (suc n) at k l = go (eqb at k) refl (lowest-is n (at + 1) k)
    where
      go : (t : Bool) → eqb at k ≡ t → (Lowest test n (at + 1) k → lowest test n (at + 1) ≡ k) → lowest test (suc n) at ≡ k
      go true q rec =
          let e = eqb-true at k q in
          let h : at < at + suc n = omega arith in
          let t : test k ≡ true = l.taken (rw (← e) h) in
          lowest-taken n at (rw e t) ∙ e
      go false q rec =
          let d = eqb-false at k q in
          let a = l.low in
          let b = l.high in
          lowest-passed n at (l.passed at (omega arith) (omega arith))
          ∙ rec (record { low = omega arith; high = omega arith; passed = λ j a b. l.passed j (omega arith) b; taken = λ h. l.taken (omega arith) })

  pub lowest-holds : (n at : ℕ) → Lowest test n at (lowest test n at)
  lowest-holds zero at =
      rw (lowest-none at)
      (record { low = omega arith; high = omega arith; passed = λ j a b. absurd (omega arith); taken = λ h. absurd (omega arith) })
  lowest-holds (suc n) at = go (test at) refl (lowest-holds n (at + 1))
    where
      go : (t : Bool) → test at ≡ t → Lowest test n (at + 1) (lowest test n (at + 1)) → Lowest test (suc n) at (lowest test (suc n) at)
      go true e l =
          rw (lowest-taken n at e)
          (record { low = omega arith; high = omega arith; passed = λ j a b. absurd (omega arith); taken = λ h. e })
      go false e l =
          let a = l.low in
          let b = l.high in
          rw (lowest-passed n at e)
          (record { low = omega arith; high = omega arith; passed = passed-more at (lowest test n (at + 1)) e l.passed; taken = λ h. l.taken (omega arith) })

-- ---- millimetres

module _ (rs : List Row) where
  pub uncovered-is : (k : ℕ) → k ≤ 10000 → ((j : ℕ) → j < k → 1 ≤ count j rs) → (k < 10000 → count k rs ≡ 0) → uncovered rs ≡ k
  unfolding uncovered depths
  uncovered-is k h c z =
      lowest-is (λ mm. eqb (count mm rs) 0) 10000 0 k
      (record {
        low = omega arith;
        high = omega arith;
        passed = λ j a b. ne_eqb (count j rs) 0 (λ e. let d = c j b in omega arith);
        taken = λ l. eq-eqb (count k rs) 0 (z (omega arith));
      })

  lowest-bare : Lowest (λ mm. eqb (count mm rs) 0) 10000 0 (uncovered rs)
  unfolding uncovered depths
  lowest-bare = lowest-holds (λ mm. eqb (count mm rs) 0) 10000 0

  pub uncovered-high : uncovered rs ≤ 10000
  uncovered-high = omega (arith, lowest-bare.high)

  pub uncovered-passed : (j : ℕ) → j < uncovered rs → 1 ≤ count j rs
  uncovered-passed j h = let d = eqb-false (count j rs) 0 (lowest-bare.passed j (omega arith) h) in omega arith

  pub uncovered-here : uncovered rs < 10000 → count (uncovered rs) rs ≡ 0
  uncovered-here h = eqb-true (count (uncovered rs) rs) 0 (lowest-bare.taken (omega arith))

  pub doubled-is : (k : ℕ) → k ≤ 10000 → ((j : ℕ) → j < k → count j rs ≤ 1) → (k < 10000 → 2 ≤ count k rs) → doubled rs ≡ k
  unfolding doubled depths
  doubled-is k h c z =
      lowest-is (λ mm. leb 2 (count mm rs)) 10000 0 k
      (record {
        low = omega arith;
        high = omega arith;
        passed = λ j a b. let d = c j b in lt-leb 2 (count j rs) (omega arith);
        taken = λ l. le-leb 2 (count k rs) (z (omega arith));
      })

  lowest-crowded : Lowest (λ mm. leb 2 (count mm rs)) 10000 0 (doubled rs)
  unfolding doubled depths
  lowest-crowded = lowest-holds (λ mm. leb 2 (count mm rs)) 10000 0

  pub doubled-passed : (j : ℕ) → j < doubled rs → count j rs ≤ 1
  doubled-passed j h = let d = leb-false 2 (count j rs) (lowest-crowded.passed j (omega arith) h) in omega arith

  pub doubled-here : doubled rs < 10000 → 2 ≤ count (doubled rs) rs
  doubled-here h = leb-true 2 (count (doubled rs) rs) (lowest-crowded.taken (omega arith))
