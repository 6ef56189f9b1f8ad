-- Whether a closing entry is committed, test by test. Assumes nothing.
use mathlib.Core.Path.{◌≡◌, refl}
use mathlib.Core.Bool.{Bool, true, false, and-false}
use Prim.Native.Nat.{ℕ, zero, suc, ◌+◌}
use native.Mathlib.Decide.{ℕ_discrete}
use native.Mathlib.Omega.{arith}
use borrow.Author.Tests.{eq-eqb, ne_eqb}
use lib.Dec.{eqb, ltb}
use Rattle.model.specs.Commit.{linked}
use Rattle.model_laws.proofs.rule.ClosingLaws.{last_at}
use Rattle.log_scan.specs.declared.commits.Progress.{Progress}
use Rattle.log_scan.specs.Scan.{taken, decided}

eqb_same : (a b c d : ℕ) → (a ≡ b → c ≡ d) → (c ≡ d → a ≡ b) → eqb a b ≡ eqb c d
eqb_same a b c d f g = go (ℕ_discrete a b)
  where
    go : Dec (a ≡ b) → eqb a b ≡ eqb c d
    go (yes e) = rw (eq-eqb a b e, eq-eqb c d (f e))
    go (no e) = rw (ne_eqb a b e, ne_eqb c d (λ h. e (g h)))

-- ---- the link

pub linked-after : (end base position link : ℕ) → (end ≡ 0 → ⊥) → eqb (position + 1) (end + link) ≡ linked base (last_at end) position link
unfolding linked last_at
linked-after zero base position link h = absurd (h refl)
linked-after (suc p) base position link h = eqb_same (position + 1) (suc p + link) position (p + link) (λ e. omega arith) (λ e. omega arith)

pub linked-none : (end base position link : ℕ) → end ≡ 0 → link ≡ 0 → true ≡ linked base (last_at end) position link
unfolding linked last_at
linked-none end base position link e f = rw (e, f)

pub linked-before : (end base position link : ℕ) → end ≡ 0 → (link ≡ 0 → ⊥) → ltb position (base + link) ≡ linked base (last_at end) position link
unfolding linked last_at
linked-before end base position link e f = rw (e, ne_eqb link 0 f)

-- ---- the judgement

module _ (base position link : ℕ) (complete : Bool) (p : Progress) where
  pub decided-stopped : (p.failed ≡ 0 → ⊥) → ◌≡◌ {A = Progress} (record { end = p.end; number = p.number; failed = 1 }) (decided base position link complete p)
  unfolding decided taken
  decided-stopped g = rw (ne_eqb p.failed 0 g)

  pub decided-unlinked : linked base (last_at p.end) position link ≡ false
      → ◌≡◌ {A = Progress} (record { end = p.end; number = p.number; failed = 1 }) (decided base position link complete p)
  unfolding decided taken
  decided-unlinked l = simp (l, and-false)

  pub decided-incomplete : complete ≡ false → ◌≡◌ {A = Progress} (record { end = p.end; number = p.number; failed = 1 }) (decided base position link complete p)
  unfolding decided taken
  decided-incomplete c = simp (c, and-false)

  pub decided-taken : p.failed ≡ 0 → linked base (last_at p.end) position link ≡ true → complete ≡ true
      → ◌≡◌ {A = Progress} (record { end = position + 1; number = p.number + 1; failed = 0 }) (decided base position link complete p)
  unfolding decided taken
  decided-taken g l c = simp (eq-eqb p.failed 0 g, l, c)
