-- The order of two alarms, test by test. Assumes nothing.
use mathlib.Core.Path.{◌≡◌, refl, sym}
use mathlib.Core.Bool.{Bool, true, false, ◌||◌}
use Prim.Native.Nat.{ℕ, ◌≤◌, ◌<◌}
use native.Mathlib.Omega.{arith}
use borrow.Author.Tests.{eq-eqb, ne_eqb, le-leb, lt-leb, le-ltb}
use lib.Dec.{leb, ltb}
use Rattle.unit_alarms_list.specs.Alarm.{Alarm, class_known, goes_before, graver}

or-false : (b : Bool) → (b || false) ≡ b
or-false true = refl
or-false false = refl

pub class_low : (class : ℕ) → class < 1 → false ≡ class_known class
unfolding class_known
class_low class h = rw (lt-leb 1 class h)

pub class-above : (class : ℕ) → 1 ≤ class → leb class 9 ≡ class_known class
unfolding class_known
class-above class h = rw (le-leb 1 class h)

module _ (a b : Alarm) where
  pub by-class : (a.class ≡ b.class → ⊥) → ltb a.class b.class ≡ goes_before a b
  unfolding goes_before
  by-class h = rw (ne_eqb a.class b.class h, or-false (ltb a.class b.class))

  module _ (e : a.class ≡ b.class) where
    pub by-second : (a.second ≡ b.second → ⊥) → ltb a.second b.second ≡ goes_before a b
    unfolding goes_before
    by-second h =
        rw (
          le-ltb a.class b.class (omega arith),
          eq-eqb a.class b.class e,
          ne_eqb a.second b.second h,
          or-false (ltb a.second b.second),
        )

    pub by-identity : a.second ≡ b.second → ltb a.identity b.identity ≡ goes_before a b
    unfolding goes_before
    by-identity f =
        rw (
          le-ltb a.class b.class (omega arith),
          eq-eqb a.class b.class e,
          le-ltb a.second b.second (omega arith),
          eq-eqb a.second b.second f,
        )

  pub graver-second : goes_before b a ≡ true → b ≡ graver a b
  unfolding graver
  graver-second h = sym (rw h)

  pub graver-first : goes_before b a ≡ false → a ≡ graver a b
  unfolding graver
  graver-first h = sym (rw h)
