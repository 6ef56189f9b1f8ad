-- Identities in a list: the test, lists without one, and that they stay distinct. Assumes nothing.
use mathlib.Core.Path.{◌≡◌, refl, sym, ap, ◌∙◌}
use mathlib.Core.Bool.{Bool, true, false, ◌||◌, cond}
use mathlib.Core.List.Memᴰ
use mathlib.Core.List.{List, [], ◌∷◌, ◌++◌, Memᴰ}
use mathlib.Core.Logic.{⊎_elim}
use Prim.Native.Nat.{ℕ, ◌≤◌}
use native.Mathlib.Omega.{arith}
use borrow.Author.Tests.{eq-eqb, eqb-true}
use lib.Dec.{eqb}
use lib.ListN.{length}
use Rattle.unit_alarms_list.specs.Alarm.{Alarm}
use Rattle.unit_alarms_list.specs.OpenAlarms.{among, without}
use Rattle.unit_alarms_list.specs.Guarantees.{Has, Distinct, nothing, more}

-- ---- the test

pub among-has : (i : ℕ) (xs : List Alarm) → among i xs ≡ true → Has xs i
unfolding among
among-has i [] e = let z : ◌≡◌ {A = ℕ} 0 1 = cc in absurd (omega arith)
among-has i (a ∷ xs) e = go (eqb a.identity i) refl (among-has i xs) e
  where
    go : (b : Bool) → eqb a.identity i ≡ b → (among i xs ≡ true → Has xs i) → (b || among i xs) ≡ true → Has (a ∷ xs) i
    go true q rec h = record { which = a; member = Memᴰ.head refl; same = eqb-true a.identity i q }
    go false q rec h = let r = rec h in record { which = r.which; member = Memᴰ.tail r.member; same = r.same }

member-among : (i : ℕ) (xs : List Alarm) (c : Alarm) → Memᴰ c xs → c.identity ≡ i → among i xs ≡ true
unfolding among
member-among i [] c m e = absurd (Memᴰ.not-nil m)
member-among i (a ∷ xs) c (Memᴰ.head f) e = rw (eq-eqb a.identity i (sym (ap (λ (x : Alarm). x.identity) f) ∙ e))
member-among i (a ∷ xs) c (Memᴰ.tail m) e = rw (member-among i xs c m e) (go (eqb a.identity i))
  where
    go : (b : Bool) → (b || true) ≡ true
    go true = refl
    go false = refl

pub among_none : (i : ℕ) (xs : List Alarm) → among i xs ≡ false → Has xs i → ⊥
among_none i xs e h =
    let t = member-among i xs h.which h.member h.same in
    let z : ◌≡◌ {A = ℕ} 0 1 = cc in
    omega arith

pub has-not : (i : ℕ) (xs : List Alarm) → (Has xs i → ⊥) → among i xs ≡ false
has-not i xs n = go (among i xs) refl
  where
    go : (b : Bool) → among i xs ≡ b → b ≡ false
    go true e = absurd (n (among-has i xs e))
    go false e = refl

-- ---- without one

pub without-member : (i : ℕ) (xs : List Alarm) (c : Alarm) → Memᴰ c (without i xs) → Memᴰ c xs
unfolding without
without-member i [] c m = m
without-member i (a ∷ xs) c m = go (eqb a.identity i) (without-member i xs c) m
  where
    go : (b : Bool) → (Memᴰ c (without i xs) → Memᴰ c xs) → Memᴰ c (cond b xs (a ∷ without i xs)) → Memᴰ c (a ∷ xs)
    go true rec k = Memᴰ.tail k
    go false rec (Memᴰ.head e) = Memᴰ.head e
    go false rec (Memᴰ.tail k) = Memᴰ.tail (rec k)

pub without-short : (i : ℕ) (xs : List Alarm) → length (without i xs) ≤ length xs
unfolding without
without-short i [] = omega arith
without-short i (a ∷ xs) = go (eqb a.identity i) (without-short i xs)
  where
    go : (b : Bool) → length (without i xs) ≤ length xs → length (cond b xs (a ∷ without i xs)) ≤ length (a ∷ xs)
    go true h = omega arith
    go false h = omega arith

-- ---- distinct identities

pub distinct_without : (i : ℕ) {xs : List Alarm} → Distinct xs → Distinct (without i xs)
unfolding without
distinct_without i nothing = nothing
distinct_without i (more {a} {xs} n d) = go (eqb a.identity i) (distinct_without i d)
  where
    go : (b : Bool) → Distinct (without i xs) → Distinct (cond b xs (a ∷ without i xs))
    go true r = d
    go false r = more (λ h. n (record { which = h.which; member = without-member i xs h.which h.member; same = h.same })) r

pub distinct-join : {xs : List Alarm} (c : Alarm) → Distinct xs → (Has xs c.identity → ⊥) → Distinct (xs ++ (c ∷ []))
distinct-join c nothing k = more (λ h. Memᴰ.not-nil h.member) nothing
distinct-join c (more {a} {xs} n d) k =
    more
    (λ h. ⊎_elim (λ l. n (record { which = h.which; member = l; same = h.same }))
    (λ r. k (record { which = a; member = Memᴰ.head refl; same = sym h.same ∙ ap (λ (x : Alarm). x.identity) (Memᴰ.eq_of_singleton r) }))
    (Memᴰ.append_cases xs h.member))
    (distinct-join c d (λ h. k (record { which = h.which; member = Memᴰ.tail h.member; same = h.same })))
