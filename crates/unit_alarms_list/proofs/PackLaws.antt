-- The bytes of a list: read back, and made of parts of another list's bytes. Assumes nothing.
use mathlib.Core.Path.{◌≡◌, refl, sym, ap, ◌∙◌}
use mathlib.Core.List.Memᴰ
use mathlib.Core.List.{List, [], ◌∷◌, ◌++◌, append-nil, append_assoc}
use mathlib.Core.Logic.{⊎_elim}
use Prim.Native.Nat.{ℕ, zero, suc, ◌+◌, ◌-◌, ◌*◌, ◌≤◌, ◌<◌}
use native.Mathlib.Omega.{arith}
use lib.ListN.{length, get_or, length-append}
use Rattle.model.specs.Bytes.{part, puts, zeros}
use Rattle.model_laws.proofs.bytes.ByteLaws.{puts-append, puts_whole, length-puts, length-zeros}
use Rattle.unit_alarms_list.specs.Alarm.{Alarm, alarm_bytes, InRange}
use Rattle.unit_alarms_list.specs.OpenAlarms.{gravest, told, alarms_from, list_bytes, sealed, packed}
use Rattle.unit_alarms_list.specs.Guarantees.{AllInRange}
use Rattle.unit_alarms_list.proofs.ByteLaws.{length-alarm, part-add, at-range, read-alarm, alarm-below, alarm-above, alarm-same}
use Rattle.unit_alarms_list.proofs.WalkLaws.{length_from}

-- ---- lists joined

pub list-append : (xs ys : List Alarm) → list_bytes (xs ++ ys) ≡ list_bytes xs ++ list_bytes ys
unfolding list_bytes
list-append [] ys = refl
list-append (a ∷ xs) ys = rw (list-append xs ys, append_assoc)

pub list-one : (a : Alarm) → list_bytes (a ∷ []) ≡ alarm_bytes a
unfolding list_bytes
list-one a = append-nil (alarm_bytes a)

pub length-list : (xs : List Alarm) → length (list_bytes xs) ≡ 7 * length xs
unfolding list_bytes
length-list [] = refl
length-list (a ∷ xs) = omega (arith, length-append (alarm_bytes a) (list_bytes xs), length-alarm a, length-list xs)

-- ---- ranges

pub range-from : (s : List ℕ) → ((i : ℕ) → get_or s i 0 < 256) → (n at : ℕ) → AllInRange (alarms_from s n at)
unfolding alarms_from
range-from s b zero at a m = absurd (Memᴰ.not-nil m)
range-from s b (suc n) at a (Memᴰ.head e) = rw e (at-range s at b)
range-from s b (suc n) at a (Memᴰ.tail m) = range-from s b n (at + 7) a m

pub range-append : (xs ys : List Alarm) → AllInRange xs → AllInRange ys → AllInRange (xs ++ ys)
range-append xs ys h k a m = ⊎_elim (λ l. h a l) (λ r. k a r) (Memᴰ.append_cases xs m)

pub range-one : (a : Alarm) → InRange a → AllInRange (a ∷ [])
range-one a r b m = rw (Memᴰ.eq_of_singleton m) r

-- ---- read back

pub read-list : (d : List ℕ) (at : ℕ) (xs : List Alarm) → AllInRange xs → at + 7 * length xs ≤ length d → alarms_from (puts d at (list_bytes xs)) (length xs) at ≡ xs
unfolding alarms_from list_bytes
read-list d at [] r h = refl
read-list d at (a ∷ xs) r h =
    let e : puts d at (alarm_bytes a ++ list_bytes xs) ≡ puts (puts d at (alarm_bytes a)) (at + 7) (list_bytes xs) = rw (puts-append, length-alarm a) in
    let f = alarm-below (puts d at (alarm_bytes a)) (at + 7) (list_bytes xs) at (omega arith) in
    let g = alarm-same d at a (r a (Memᴰ.head refl)) (omega arith) in
    let k = read-list (puts d at (alarm_bytes a)) (at + 7) xs (λ b m. r b (Memᴰ.tail m)) (omega (arith, length-puts d at (alarm_bytes a))) in
    let m : alarms_from (puts d at (alarm_bytes a ++ list_bytes xs)) (length xs) (at + 7) ≡ xs = ap (λ z. alarms_from z (length xs) (at + 7)) e ∙ k in
    rw (m, e, f, g)

pub from-above : (d : List ℕ) (i : ℕ) (t : List ℕ) (n at : ℕ) → i + length t ≤ at → alarms_from (puts d i t) n at ≡ alarms_from d n at
unfolding alarms_from
from-above d i t zero at h = refl
from-above d i t (suc n) at h = rw (alarm-above d i t at h, from-above d i t n (at + 7) (omega arith))

-- the bytes of a list that was read
pub list-bytes : (s : List ℕ) → ((i : ℕ) → get_or s i 0 < 256) → (n at : ℕ) → at + 7 * n ≤ length s → list_bytes (alarms_from s n at) ≡ part s at (7 * n)
unfolding alarms_from list_bytes part
list-bytes s b zero at h = refl
list-bytes s b (suc n) at h =
    let e : 7 * suc n ≡ 7 + 7 * n = omega arith in
    rw (read-alarm s at b (omega arith), list-bytes s b n (at + 7) (omega arith), e, part-add s at 7 (7 * n))

-- ---- a new list's bytes

-- two runs of alarms, one behind the other
pub put-lists : (d : List ℕ) (xs ys : List Alarm) (n : ℕ) → length xs ≡ n → puts (puts d 8 (list_bytes xs)) (8 + 7 * n) (list_bytes ys) ≡ puts d 8 (list_bytes (xs ++ ys))
put-lists d xs ys n h =
    let e : 8 + 7 * n ≡ 8 + length (list_bytes xs) = omega (arith, length-list xs) in
    rw (e, list-append xs ys, puts-append)

pub cleared : (d : List ℕ) → length d ≡ 384 → puts d 0 (zeros 384) ≡ zeros 384
cleared d h = puts_whole d (zeros 384) (h ∙ sym (length-zeros 384))

-- number and gravest in front of a list
pub seal-packed : (ys : List Alarm) (n : ℕ) {o : List ℕ} → o ≡ puts (zeros 384) 8 (list_bytes ys) → length ys ≡ n → AllInRange ys → n ≤ 48
    → sealed o n (told (gravest (alarms_from o n 8))) ≡ packed ys
unfolding packed
seal-packed ys n e f r h =
    let k = read-list (zeros 384) 8 ys r (omega (arith, length-zeros 384)) in
    rw (e, ← f, k)

module _ (s : List ℕ) (b : (i : ℕ) → get_or s i 0 < 256) (size : length s ≡ 384) {o1 o2 o3 o4 : List ℕ} (e1 : o1 ≡ zeros 384) where
  -- the alarms of `s` and one more
  pub packed-with : (n : ℕ) (a : Alarm) → n < 48 → InRange a → o2 ≡ puts o1 8 (part s 8 (7 * n)) → o3 ≡ puts o2 (8 + 7 * n) (alarm_bytes a)
      → o4 ≡ sealed o3 (n + 1) (told (gravest (alarms_from o3 (n + 1) 8))) → o4 ≡ packed (alarms_from s n 8 ++ (a ∷ []))
  packed-with n a h r e2 e3 e4 =
      let xs = alarms_from s n 8 in
      let l : length xs ≡ n = length_from s n 8 in
      let p : part s 8 (7 * n) ≡ list_bytes xs = sym (list-bytes s b n 8 (omega arith)) in
      let f : o3 ≡ puts (zeros 384) 8 (list_bytes (xs ++ (a ∷ []))) = rw (e3, e2, e1, p, ← list-one a) (put-lists (zeros 384) xs (a ∷ []) n l) in
      e4 ∙ seal-packed (xs ++ (a ∷ [])) (n + 1) f (length-append xs (a ∷ []) ∙ omega (arith, l)) (range-append xs (a ∷ []) (range-from s b n 8) (range-one a r)) (omega arith)

  -- the alarms of `s` but one
  pub packed-without : (n i : ℕ) → n ≤ 48 → i < n → o2 ≡ puts o1 8 (part s 8 (7 * i)) → o3 ≡ puts o2 (8 + 7 * i) (part s (15 + 7 * i) (7 * (n - 1 - i)))
      → o4 ≡ sealed o3 (n - 1) (told (gravest (alarms_from o3 (n - 1) 8))) → o4 ≡ packed (alarms_from s i 8 ++ alarms_from s (n - 1 - i) (15 + 7 * i))
  packed-without n i h k e2 e3 e4 =
      let xs = alarms_from s i 8 in
      let ys = alarms_from s (n - 1 - i) (15 + 7 * i) in
      let l : length xs ≡ i = length_from s i 8 in
      let m : length ys ≡ n - 1 - i = length_from s (n - 1 - i) (15 + 7 * i) in
      let p : part s 8 (7 * i) ≡ list_bytes xs = sym (list-bytes s b i 8 (omega arith)) in
      let q : part s (15 + 7 * i) (7 * (n - 1 - i)) ≡ list_bytes ys = sym (list-bytes s b (n - 1 - i) (15 + 7 * i) (omega arith)) in
      let f : o3 ≡ puts (zeros 384) 8 (list_bytes (xs ++ ys)) = rw (e3, e2, e1, p, q) (put-lists (zeros 384) xs ys i l) in
      e4 ∙ seal-packed (xs ++ ys) (n - 1) f (length-append xs ys ∙ omega (arith, l, m)) (range-append xs ys (range-from s b i 8) (range-from s b (n - 1 - i) (15 + 7 * i))) (omega arith)
