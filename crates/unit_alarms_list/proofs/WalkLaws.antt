-- A walk over the alarms in a list's bytes: a turn of the search and of the gravest, and the ends. Assumes nothing.
use mathlib.Core.Path.{◌≡◌, refl, ap}
use mathlib.Core.List.{List, [], ◌∷◌}
use Prim.Native.Nat.{ℕ, zero, suc, ◌+◌, ◌-◌, ◌≤◌, ◌<◌}
use native.Mathlib.Omega.{arith}
use borrow.Author.Tests.{eq-eqb, ne_eqb, le-leb, lt-leb}
use lib.ListN.{length}
use Rattle.model.specs.Bytes.{number}
use Rattle.unit_alarms_list.specs.Alarm.{Alarm, alarm, alarm_at, graver}
use Rattle.unit_alarms_list.specs.OpenAlarms.{place, gravest_from, gravest, told, alarms_from, limited, number_open}

pub length_from : (s : List ℕ) (n at : ℕ) → length (alarms_from s n at) ≡ n
unfolding alarms_from
length_from s zero at = refl
length_from s (suc n) at = ap suc (length_from s n (at + 7))

from-none : (s : List ℕ) (n i at : ℕ) → n ≤ i → alarms_from s (n - i) at ≡ []
unfolding alarms_from
from-none s n i at h = let e : n - i ≡ 0 = omega arith in rw e

from_more : (s : List ℕ) (n i at : ℕ) → i < n → alarms_from s (n - i) at ≡ alarm_at s at ∷ alarms_from s (n - (i + 1)) (at + 7)
unfolding alarms_from
from_more s n i at h = let e : n - i ≡ suc (n - (i + 1)) = omega arith in rw e

-- ---- how many

pub open-few : (s : List ℕ) {n : ℕ} → n ≡ number 1 s 0 → n ≤ 48 → (n ≡ number_open s) × (n ≤ 48)
unfolding number_open limited
open-few s {n} e h = (rw (← e, le-leb n 48 h), h)

pub open-many : (s : List ℕ) {n : ℕ} → n ≡ number 1 s 0 → 48 < n → (48 ≡ number_open s) × (48 ≤ 48)
unfolding number_open limited
open-many s {n} e h = (rw (← e, lt-leb n 48 h), omega arith)

-- ---- the search

module _ (s : List ℕ) (n i at v : ℕ) where
  pub find-end : n ≤ i → place v (alarms_from s (n - i) at) ≡ 0
  unfolding place
  find-end h = rw (from-none s n i at h)

  module _ (h : i < n) where
    pub find-hit : number 2 s at ≡ v → place v (alarms_from s (n - i) at) ≡ 0
    unfolding place alarm_at
    find-hit e = rw (from_more s n i at h, eq-eqb (number 2 s at) v e)

    pub find-miss : (number 2 s at ≡ v → ⊥) → place v (alarms_from s (n - i) at) ≡ 1 + place v (alarms_from s (n - (i + 1)) (at + 7))
    unfolding place alarm_at
    find-miss e = rw (from_more s n i at h, ne_eqb (number 2 s at) v e)

-- ---- the gravest

pub gravest-none : (s : List ℕ) (n : ℕ) → n ≡ 0 → alarm 0 0 0 ≡ told (gravest (alarms_from s n 8))
unfolding alarms_from gravest told
gravest-none s n e = rw e

pub gravest-begin : (s : List ℕ) (n : ℕ) {a : Alarm} → (n ≡ 0 → ⊥) → a ≡ alarm_at s 8 → gravest_from a (alarms_from s (n - 1) 15) ≡ told (gravest (alarms_from s n 8))
unfolding alarms_from gravest told
gravest-begin s zero h e = absurd (h refl)
gravest-begin s (suc n) h e = let f : suc n - 1 ≡ n = omega arith in rw (f, e)

module _ (s : List ℕ) (n i at : ℕ) (best : Alarm) where
  pub gravest-end : n ≤ i → gravest_from best (alarms_from s (n - i) at) ≡ best
  unfolding gravest_from
  gravest-end h = rw (from-none s n i at h)

  pub gravest-turn : {a b : Alarm} → i < n → a ≡ alarm_at s at → b ≡ graver best a
      → gravest_from b (alarms_from s (n - (i + 1)) (at + 7)) ≡ gravest_from best (alarms_from s (n - i) at)
  unfolding gravest_from
  gravest-turn h e f = rw (from_more s n i at h, f, e)
