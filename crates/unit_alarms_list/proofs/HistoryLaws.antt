-- The arrivals not cleared after, once one more event has come. Assumes nothing.
use mathlib.Core.Path.{◌≡◌, refl, sym, ap, ◌∙◌}
use mathlib.Core.Bool.{Bool, true, false, ◌||◌, cond}
use mathlib.Core.List.{List, [], ◌∷◌, ◌++◌}
use Prim.Native.Nat.{ℕ}
use borrow.Author.Tests.{eqb-true}
use lib.Dec.{eqb}
use Rattle.unit_alarms_list.specs.Alarm.{Alarm}
use Rattle.unit_alarms_list.specs.OpenAlarms.{among, without}
use Rattle.unit_alarms_list.specs.Events.{Event, arrival, clearing, after}
use Rattle.unit_alarms_list.specs.Guarantees.{Distinct, nothing, more, cleared_in, open_by}
use Rattle.unit_alarms_list.proofs.HasLaws.{has-not}

cleared-arrival : (i : ℕ) (es : List Event) (a : Alarm) → cleared_in i (es ++ (arrival a ∷ [])) ≡ cleared_in i es
unfolding cleared_in
cleared-arrival i [] a = refl
cleared-arrival i (arrival b ∷ es) a = cleared-arrival i es a
cleared-arrival i (clearing j ∷ es) a = ap (λ (t : Bool). eqb i j || t) (cleared-arrival i es a)

cleared-clearing : (i : ℕ) (es : List Event) (k : ℕ) → cleared_in i (es ++ (clearing k ∷ [])) ≡ (cleared_in i es || eqb i k)
unfolding cleared_in
cleared-clearing i [] k = go (eqb i k)
  where
    go : (b : Bool) → (b || false) ≡ b
    go true = refl
    go false = refl
cleared-clearing i (arrival b ∷ es) k = cleared-clearing i es k
cleared-clearing i (clearing j ∷ es) k = rw (cleared-clearing i es k) (go (eqb i j))
  where
    go : (b : Bool) → (b || (cleared_in i es || eqb i k)) ≡ ((b || cleared_in i es) || eqb i k)
    go true = refl
    go false = refl

open-arrival : (es : List Event) (a : Alarm) → open_by (es ++ (arrival a ∷ [])) ≡ open_by es ++ (a ∷ [])
unfolding open_by cleared_in
open-arrival [] a = refl
open-arrival (arrival b ∷ es) a = rw (cleared-arrival b.identity es a, open-arrival es a) (go (cleared_in b.identity es))
  where
    go : (t : Bool) → cond t (open_by es ++ (a ∷ [])) (b ∷ (open_by es ++ (a ∷ []))) ≡ cond t (open_by es) (b ∷ open_by es) ++ (a ∷ [])
    go true = refl
    go false = refl
open-arrival (clearing i ∷ es) a = open-arrival es a

-- a list without all alarms of an identity
others : ℕ → List Alarm → List Alarm
others i [] = []
others i (a ∷ xs) = cond (eqb a.identity i) (others i xs) (a ∷ others i xs)

open-clearing : (es : List Event) (i : ℕ) → open_by (es ++ (clearing i ∷ [])) ≡ others i (open_by es)
unfolding open_by cleared_in others
open-clearing [] i = refl
open-clearing (arrival b ∷ es) i = rw (cleared-clearing b.identity es i, open-clearing es i) (go (cleared_in b.identity es))
  where
    go : (t : Bool) → cond (t || eqb b.identity i) (others i (open_by es)) (b ∷ others i (open_by es)) ≡ others i (cond t (open_by es) (b ∷ open_by es))
    go true = refl
    go false = refl
open-clearing (clearing j ∷ es) i = open-clearing es i

others-none : (i : ℕ) (xs : List Alarm) → among i xs ≡ false → others i xs ≡ xs
unfolding others among
others-none i [] e = refl
others-none i (a ∷ xs) e = go (eqb a.identity i) (others-none i xs) e
  where
    go : (b : Bool) → (among i xs ≡ false → others i xs ≡ xs) → (b || among i xs) ≡ false → cond b (others i xs) (a ∷ others i xs) ≡ a ∷ xs
    go true rec h = cc
    go false rec h = ap {B = List Alarm} (λ r. a ∷ r) (rec h)

others-one : (i : ℕ) {xs : List Alarm} → Distinct xs → others i xs ≡ without i xs
unfolding others without
others-one i nothing = refl
others-one i (more {a} {xs} n d) = go (eqb a.identity i) refl (others-one i d)
  where
    go : (b : Bool) → eqb a.identity i ≡ b → others i xs ≡ without i xs → cond b (others i xs) (a ∷ others i xs) ≡ cond b xs (a ∷ without i xs)
    go true q rec = let e = eqb-true a.identity i q in others-none i xs (ap (λ (v : ℕ). among v xs) (sym e) ∙ has-not a.identity xs n)
    go false q rec = ap {B = List Alarm} (λ r. a ∷ r) rec

pub open_after : (es : List Event) (e : Event) → Distinct (open_by es) → open_by (es ++ (e ∷ [])) ≡ after (open_by es) e
unfolding after
open_after es (arrival a) d = open-arrival es a
open_after es (clearing i) d = open-clearing es i ∙ others-one i d
