-- The gravest of a list is in it, and none goes before it. Assumes nothing.
use mathlib.Core.Path.{◌≡◌, refl, sym, ap, ◌∙◌}
use mathlib.Core.Bool.{Bool, true, false, ◌&&◌, ◌||◌, cond}
use mathlib.Core.List.{List, [], ◌∷◌, Memᴰ}
use Prim.Native.Nat.{ℕ, ◌≤◌, ◌<◌}
use native.Mathlib.Omega.{arith}
use borrow.Author.Tests.{eqb-true, eqb-false, ltb-true, ltb-false}
use lib.Dec.{eqb, ltb}
use Rattle.unit_alarms_list.specs.Alarm.{Alarm, alarm, goes_before, graver}
use Rattle.unit_alarms_list.specs.OpenAlarms.{gravest_from, gravest, told}
use Rattle.unit_alarms_list.specs.Guarantees.{Before, by_class, by_second, by_identity, Gravest}

-- equally grave, or before
data Upto (a b : Alarm) : Type 0 where
  up_class : a.class < b.class → Upto a b
  up_second : a.class ≡ b.class → a.second < b.second → Upto a b
  up_identity : a.class ≡ b.class → a.second ≡ b.second → a.identity ≤ b.identity → Upto a b

upto-refl : (a : Alarm) → Upto a a
upto-refl a = up_identity refl refl (omega arith)

upto-trans : (a b c : Alarm) → Upto a b → Upto b c → Upto a c
upto-trans a b c (up_class h) (up_class k) = up_class (omega arith)
upto-trans a b c (up_class h) (up_second k l) = up_class (omega arith)
upto-trans a b c (up_class h) (up_identity k l m) = up_class (omega arith)
upto-trans a b c (up_second h i) (up_class k) = up_class (omega arith)
upto-trans a b c (up_second h i) (up_second k l) = up_second (h ∙ k) (omega arith)
upto-trans a b c (up_second h i) (up_identity k l m) = up_second (h ∙ k) (omega arith)
upto-trans a b c (up_identity h i j) (up_class k) = up_class (omega arith)
upto-trans a b c (up_identity h i j) (up_second k l) = up_second (h ∙ k) (omega arith)
upto-trans a b c (up_identity h i j) (up_identity k l m) = up_identity (h ∙ k) (i ∙ l) (omega arith)

not-before : (a b : Alarm) → Upto a b → Before b a → ⊥
not-before a b (up_class h) (by_class k) = omega arith
not-before a b (up_class h) (by_second k l) = omega arith
not-before a b (up_class h) (by_identity k l m) = omega arith
not-before a b (up_second h i) (by_class k) = omega arith
not-before a b (up_second h i) (by_second k l) = omega arith
not-before a b (up_second h i) (by_identity k l m) = omega arith
not-before a b (up_identity h i j) (by_class k) = omega arith
not-before a b (up_identity h i j) (by_second k l) = omega arith
not-before a b (up_identity h i j) (by_identity k l m) = omega arith

-- ---- the test

data Compared (a b : Alarm) : Bool → Type 0 where
  sooner : Upto a b → Compared a b true
  later : Upto b a → Compared a b false

compared : (a b : Alarm) → Compared a b (goes_before a b)
unfolding goes_before
compared a b =
    go (ltb a.class b.class) (eqb a.class b.class) (ltb a.second b.second) (eqb a.second b.second) (ltb a.identity b.identity)
    refl refl refl refl refl
  where
    go : (l e m f n : Bool) → ltb a.class b.class ≡ l → eqb a.class b.class ≡ e → ltb a.second b.second ≡ m → eqb a.second b.second ≡ f
        → ltb a.identity b.identity ≡ n → Compared a b (l || (e && (m || (f && n))))
    go true e m f n p q r s t = sooner (up_class (ltb-true a.class b.class p))
    go false false m f n p q r s t =
        let x = ltb-false a.class b.class p in
        let y = eqb-false a.class b.class q in
        later (up_class (omega arith))
    go false true true f n p q r s t = sooner (up_second (eqb-true a.class b.class q) (ltb-true a.second b.second r))
    go false true false false n p q r s t =
        let x = ltb-false a.second b.second r in
        let y = eqb-false a.second b.second s in
        later (up_second (sym (eqb-true a.class b.class q)) (omega arith))
    go false true false true true p q r s t =
        let x = ltb-true a.identity b.identity t in
        sooner (up_identity (eqb-true a.class b.class q) (eqb-true a.second b.second s) (omega arith))
    go false true false true false p q r s t =
        later (up_identity (sym (eqb-true a.class b.class q)) (sym (eqb-true a.second b.second s)) (ltb-false a.identity b.identity t))

-- the graver of two is one of them, and neither goes before it
record Chosen (a b c : Alarm) : Type 0 where
  first : Upto c a
  second : Upto c b
  one : Memᴰ c (a ∷ b ∷ [])

chosen : (a b : Alarm) → Chosen a b (graver a b)
unfolding graver
chosen a b = go (goes_before b a) (compared b a)
  where
    go : (t : Bool) → Compared b a t → Chosen a b (cond t b a)
    go true (sooner u) = record { first = u; second = upto-refl b; one = Memᴰ.tail (Memᴰ.head refl) }
    go false (later u) = record { first = upto-refl a; second = u; one = Memᴰ.head refl }

-- ---- a list

from-least : (a : Alarm) (xs : List Alarm) (b : Alarm) → Memᴰ b (a ∷ xs) → Upto (gravest_from a xs) b
unfolding gravest_from
from-least a [] b (Memᴰ.head e) = rw e (upto-refl a)
from-least a [] b (Memᴰ.tail m) = absurd (elim m [ ])
from-least a (x ∷ xs) b (Memᴰ.head e) =
    rw e (upto-trans (gravest_from (graver a x) xs) (graver a x) a (from-least (graver a x) xs (graver a x) (Memᴰ.head refl)) (chosen a x).first)
from-least a (x ∷ xs) b (Memᴰ.tail (Memᴰ.head e)) =
    rw e (upto-trans (gravest_from (graver a x) xs) (graver a x) x (from-least (graver a x) xs (graver a x) (Memᴰ.head refl)) (chosen a x).second)
from-least a (x ∷ xs) b (Memᴰ.tail (Memᴰ.tail m)) = from-least (graver a x) xs b (Memᴰ.tail m)

from_member : (a : Alarm) (xs : List Alarm) → Memᴰ (gravest_from a xs) (a ∷ xs)
unfolding gravest_from
from_member a [] = Memᴰ.head refl
from_member a (x ∷ xs) = go (gravest_from (graver a x) xs) (graver a x) (chosen a x).one (from_member (graver a x) xs)
  where
    pick : (g c : Alarm) → g ≡ c → Memᴰ c (a ∷ x ∷ []) → Memᴰ g (a ∷ x ∷ xs)
    pick g c e (Memᴰ.head f) = Memᴰ.head (e ∙ f)
    pick g c e (Memᴰ.tail (Memᴰ.head f)) = Memᴰ.tail (Memᴰ.head (e ∙ f))
    pick g c e (Memᴰ.tail (Memᴰ.tail m)) = absurd (elim m [ ])

    go : (g c : Alarm) → Memᴰ c (a ∷ x ∷ []) → Memᴰ g (c ∷ xs) → Memᴰ g (a ∷ x ∷ xs)
    go g c o (Memᴰ.head e) = pick g c e o
    go g c o (Memᴰ.tail m) = Memᴰ.tail (Memᴰ.tail m)

-- what the gravest is told as is in the list, or three zeros
pub told-cases : (P : Alarm → Type 0) (xs : List Alarm) → P (alarm 0 0 0) → ((a : Alarm) → Memᴰ a xs → P a) → P (told (gravest xs))
unfolding gravest told
told-cases P [] z h = z
told-cases P (x ∷ xs) z h = h (gravest_from x xs) (from_member x xs)

pub gravest-of : (xs : List Alarm) → Gravest xs
unfolding gravest told
gravest-of [] =
    record {
      member = λ a e. let z : ◌≡◌ {A = ℕ} 0 1 = cc in absurd (omega arith);
      first = λ a b e m k. elim m [ ];
      empty = λ e. refl;
      full = λ e. refl;
      zeros = λ e. refl;
      known = λ h e. refl;
    }
gravest-of (x ∷ xs) =
    record {
      member = λ a e. let f : gravest_from x xs ≡ a = cc in rw (← f) (from_member x xs);
      first = λ a b e m k. let f : gravest_from x xs ≡ a = cc in not-before (gravest_from x xs) b (from-least x xs b m) (rw f k);
      empty = λ e. let z : ◌≡◌ {A = ℕ} 0 1 = cc in absurd (omega arith);
      full = λ e. let z : ◌≡◌ {A = ℕ} 0 1 = cc in absurd (omega arith);
      zeros = λ e. let z : ◌≡◌ {A = ℕ} 0 1 = cc in absurd (omega arith);
      known = λ h e. absurd (omega (arith, h (gravest_from x xs) (from_member x xs), ap (λ (a : Alarm). a.class) e));
    }
