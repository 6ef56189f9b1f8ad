-- An event's outcome, question by question, as the code finds it. Assumes nothing.
use mathlib.Core.Path.{◌≡◌, refl, sym, ap, ◌∙◌}
use mathlib.Core.Bool.{Bool, true, false, ◌&&◌, ◌||◌, cond}
use mathlib.Core.List.{List, [], ◌∷◌, ◌++◌}
use Prim.Native.Nat.{ℕ, zero, suc, ◌+◌, ◌-◌, ◌*◌, ◌≤◌, ◌<◌}
use native.Mathlib.Omega.{arith}
use borrow.Author.Tests.{ne_eqb, lt-ltb, le-ltb, leb-true}
use lib.Dec.{eqb, leb}
use lib.ListN.{length}
use Rattle.unit_alarms_list.specs.Alarm.{Alarm, alarm_at, class_known}
use Rattle.unit_alarms_list.specs.OpenAlarms.{among, without, place, alarms_from, number_open, alarms_of, packed}
use Rattle.unit_alarms_list.specs.Events.{Event, arrival, clearing, answer, after, leaves, settled, applied}
use Rattle.unit_alarms_list.proofs.WalkLaws.{length_from}

pub class-most : (class : ℕ) → class_known class ≡ true → (1 ≤ class) × (class ≤ 9)
unfolding class_known
class-most class = go (leb 1 class) (leb class 9) refl refl
  where
    go : (a b : Bool) → leb 1 class ≡ a → leb class 9 ≡ b → (a && b) ≡ true → (1 ≤ class) × (class ≤ 9)
    go true true e f h = (leb-true 1 class e, leb-true class 9 f)
    go true false e f h = let z : ◌≡◌ {A = ℕ} 0 1 = cc in absurd (omega arith)
    go false b e f h = let z : ◌≡◌ {A = ℕ} 0 1 = cc in absurd (omega arith)

-- ---- the place of an identity

pub place-open : (v : ℕ) (xs : List Alarm) → place v xs < length xs → among v xs ≡ true
unfolding place among
place-open v [] h = absurd (omega arith)
place-open v (a ∷ xs) h = go (eqb a.identity v) (place-open v xs) h
  where
    go : (b : Bool) → (place v xs < length xs → among v xs ≡ true) → cond b 0 (1 + place v xs) < length (a ∷ xs) → (b || among v xs) ≡ true
    go true rec l = refl
    go false rec l = rec (omega arith)

pub place_none : (v : ℕ) (xs : List Alarm) → length xs ≤ place v xs → among v xs ≡ false
unfolding place among
place_none v [] h = refl
place_none v (a ∷ xs) h = go (eqb a.identity v) (place_none v xs) h
  where
    go : (b : Bool) → (length xs ≤ place v xs → among v xs ≡ false) → length (a ∷ xs) ≤ cond b 0 (1 + place v xs) → (b || among v xs) ≡ false
    go true rec l = absurd (omega arith)
    go false rec l = rec (omega arith)

-- a list without the alarm at that place
pub without-place : (s : List ℕ) (v n at i : ℕ) → i ≡ place v (alarms_from s n at) → i < n
    → without v (alarms_from s n at) ≡ alarms_from s i at ++ alarms_from s (n - 1 - i) (at + 7 + 7 * i)
unfolding alarms_from place without
without-place s v zero at i e h = absurd (omega arith)
without-place s v (suc n) at i e h = go (eqb (alarm_at s at).identity v) e (without-place s v n (at + 7) (i - 1))
  where
    xs : List Alarm
    xs = alarms_from s n (at + 7)

    go : (b : Bool) → i ≡ cond b 0 (1 + place v (alarms_from s n (at + 7)))
        → (i - 1 ≡ place v (alarms_from s n (at + 7)) → i - 1 < n → without v (alarms_from s n (at + 7)) ≡ alarms_from s (i - 1) (at + 7) ++ alarms_from s (n - 1 - (i - 1)) (at + 7 + 7 + 7 * (i - 1)))
        → cond b (alarms_from s n (at + 7)) (alarm_at s at ∷ without v (alarms_from s n (at + 7))) ≡ alarms_from s i at ++ alarms_from s (suc n - 1 - i) (at + 7 + 7 * i)
    go true f rec =
        let p : suc n - 1 - 0 ≡ n = omega arith in
        let q : at + 7 + 7 * 0 ≡ at + 7 = omega arith in
        rw (f, p, q)
    go false f rec =
        let k : i ≡ suc (i - 1) = omega arith in
        let p : suc n - 1 - i ≡ n - 1 - (i - 1) = omega arith in
        let q : at + 7 + 7 * i ≡ at + 7 + 7 + 7 * (i - 1) = omega arith in
        rw (rec (omega arith) (omega arith), p, q) (ap (λ (m : ℕ). alarms_from s m at ++ alarms_from s (n - 1 - (i - 1)) (at + 7 + 7 + 7 * (i - 1))) (sym k))

-- ---- answers of a list

module _ (xs : List Alarm) (a : Alarm) where
  pub bad-class : class_known a.class ≡ false → 24 ≡ answer xs (arrival a)
  unfolding answer
  bad-class h = rw h

  module _ (h : class_known a.class ≡ true) where
    pub already : among a.identity xs ≡ true → 24 ≡ answer xs (arrival a)
    unfolding answer
    already k = rw (h, k)

    pub no_room : among a.identity xs ≡ false → 48 ≤ length xs → 25 ≡ answer xs (arrival a)
    unfolding answer
    no_room k l = rw (h, k, le-ltb (length xs) 48 l)

    pub arrives : among a.identity xs ≡ false → length xs < 48 → answer xs (arrival a) ≡ 0
    unfolding answer
    arrives k l = rw (h, k, lt-ltb (length xs) 48 l)

pub not_there : (xs : List Alarm) (i : ℕ) → among i xs ≡ false → 24 ≡ answer xs (clearing i)
unfolding answer
not_there xs i h = rw h

pub clears : (xs : List Alarm) (i : ℕ) → among i xs ≡ true → answer xs (clearing i) ≡ 0
unfolding answer
clears xs i h = rw h

-- ---- outcomes, where `n` alarms are open and the identity's place is known

module _ (bs output : List ℕ) where
  refusal : (e : Event) {code : ℕ} → code ≡ answer (alarms_of bs) e → (code ≡ 0 → ⊥) → leaves code output ≡ applied bs output e
  unfolding applied settled
  refusal e {code} a n = rw (← a, ne_eqb code 0 n)

  completion : (e : Event) {out : List ℕ} → answer (alarms_of bs) e ≡ 0 → out ≡ packed (after (alarms_of bs) e) → leaves 0 out ≡ applied bs output e
  unfolding applied settled
  completion e a w = rw (a, w)

  pub refused-class : (a : Alarm) {r : Bool} → r ≡ class_known a.class → r ≡ false → leaves 24 output ≡ applied bs output (arrival a)
  refused-class a e f = refusal (arrival a) (bad-class (alarms_of bs) a (sym e ∙ f)) (λ z. omega arith)

  module _ {n p : ℕ} (v : ℕ) (e : n ≡ number_open bs) (f : p ≡ place v (alarms_from bs n 8)) where
    list-is : alarms_of bs ≡ alarms_from bs n 8
    unfolding alarms_of
    list-is = rw (← e)

    there : p < n → among v (alarms_of bs) ≡ true
    there h = rw list-is (place-open v (alarms_from bs n 8) (omega (arith, length_from bs n 8)))

    gone : n ≤ p → among v (alarms_of bs) ≡ false
    gone h = rw list-is (place_none v (alarms_from bs n 8) (omega (arith, length_from bs n 8)))

    size : length (alarms_of bs) ≡ n
    size = ap length list-is ∙ length_from bs n 8

    pub refused-clearing : n ≤ p → leaves 24 output ≡ applied bs output (clearing v)
    refused-clearing h = refusal (clearing v) (not_there (alarms_of bs) v (gone h)) (λ z. omega arith)

    pub done-clearing : {out : List ℕ} → p < n → out ≡ packed (alarms_from bs p 8 ++ alarms_from bs (n - 1 - p) (15 + 7 * p)) → leaves 0 out ≡ applied bs output (clearing v)
    unfolding after
    done-clearing h w = completion (clearing v) (clears (alarms_of bs) v (there h)) (w ∙ ap packed (sym (ap (without v) list-is ∙ without-place bs v n 8 p f h)))

  module _ {n p : ℕ} (a : Alarm) (e : n ≡ number_open bs) (f : p ≡ place a.identity (alarms_from bs n 8)) {r : Bool} (k : r ≡ class_known a.class) (t : r ≡ true) where
    pub refused-open : p < n → leaves 24 output ≡ applied bs output (arrival a)
    refused-open h = refusal (arrival a) (already (alarms_of bs) a (sym k ∙ t) (there a.identity e f h)) (λ z. omega arith)

    pub refused-room : n ≤ p → 48 ≤ n → leaves 25 output ≡ applied bs output (arrival a)
    refused-room h l = refusal (arrival a) (no_room (alarms_of bs) a (sym k ∙ t) (gone a.identity e f h) (omega (arith, size a.identity e f))) (λ z. omega arith)

    pub done-arrival : {out : List ℕ} → n ≤ p → n < 48 → out ≡ packed (alarms_from bs n 8 ++ (a ∷ [])) → leaves 0 out ≡ applied bs output (arrival a)
    unfolding after
    done-arrival h l w =
        completion (arrival a) (arrives (alarms_of bs) a (sym k ∙ t) (gone a.identity e f h) (omega (arith, size a.identity e f)))
        (w ∙ ap (λ (xs : List Alarm). packed (xs ++ (a ∷ []))) (sym (list-is a.identity e f)))
