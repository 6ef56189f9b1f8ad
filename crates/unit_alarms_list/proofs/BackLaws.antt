-- List and gravest are read back from a list's bytes. Assumes nothing.
use mathlib.Core.Path.{◌≡◌, refl, ap, ◌∙◌}
use mathlib.Core.Bool.{Bool, true, false, cond}
use mathlib.Core.List.{List, []}
use Prim.Native.Nat.{ℕ, ◌≤◌, ◌<◌}
use native.Mathlib.Omega.{arith}
use borrow.Author.Tests.{le-leb, leb-true}
use lib.Dec.{leb}
use lib.ListN.{length, get_or}
use Rattle.model.specs.Bytes.{part, puts, zeros, bytes, value, number, put_number}
use Rattle.model_laws.proofs.bytes.ByteLaws.{length-puts, length-zeros, length-bytes, length-put_number, number-below, number_same, number-part}
use Rattle.unit_alarms_list.specs.Alarm.{Alarm, alarm, alarm_at, alarm_bytes, InRange}
use Rattle.unit_alarms_list.specs.OpenAlarms.{gravest, told, alarms_from, limited, number_open, alarms_of, gravest_kept, list_bytes, sealed, packed}
use Rattle.unit_alarms_list.specs.Guarantees.{AllInRange}
use Rattle.unit_alarms_list.proofs.ByteLaws.{length-alarm, alarm-same}
use Rattle.unit_alarms_list.proofs.WalkLaws.{length_from}
use Rattle.unit_alarms_list.proofs.PackLaws.{read-list, from-above, range-from}
use Rattle.unit_alarms_list.proofs.GravestLaws.{told-cases}

told-range : (xs : List Alarm) → AllInRange xs → InRange (told (gravest xs))
told-range xs r = told-cases InRange xs (record { identity = omega arith; class = omega arith; second = omega arith }) r

limited-few : (n : ℕ) → n ≤ 48 → limited n ≡ n
unfolding limited
limited-few n h = rw (le-leb n 48 h)

limited-most : (n : ℕ) → limited n ≤ 48
unfolding limited
limited-most n = go (leb n 48) refl
  where
    go : (b : Bool) → leb n 48 ≡ b → cond b n 48 ≤ 48
    go true e = leb-true n 48 e
    go false e = omega arith

module _ (xs : List Alarm) where
  body : List ℕ
  body = puts (zeros 384) 8 (list_bytes xs)

  body-size : length body ≡ 384
  unfolding body
  body-size = length-puts (zeros 384) 8 (list_bytes xs) ∙ length-zeros 384

  counted : List ℕ
  counted = put_number 1 body 0 (length xs)

  counted-size : length counted ≡ 384
  unfolding counted
  counted-size = length-put_number 1 body 0 (length xs) ∙ body-size

  packed-is : packed xs ≡ puts counted 1 (alarm_bytes (told (gravest xs)))
  unfolding packed sealed body counted
  packed-is = refl

  pub length-packed : length (packed xs) ≡ 384
  length-packed = ap length packed-is ∙ length-puts counted 1 (alarm_bytes (told (gravest xs))) ∙ counted-size

  module _ (r : AllInRange xs) where
    pub kept_back : gravest_kept (packed xs) ≡ told (gravest xs)
    unfolding gravest_kept
    kept_back = rw packed-is (alarm-same counted 1 (told (gravest xs)) (told-range xs r) (omega (arith, counted-size)))

    pub list_back : length xs ≤ 48 → alarms_of (packed xs) ≡ xs
    unfolding alarms_of number_open counted put_number body
    list_back h =
        let g = alarm_bytes (told (gravest xs)) in
        let c : number 1 (puts counted 1 g) 0 ≡ length xs =
        number-below 1 counted 1 g 0 (omega arith) ∙ number_same 1 body 0 (length xs) (omega (arith, body-size)) (omega arith) in
        let u = from-above counted 1 g (length xs) 8 (omega (arith, length-alarm (told (gravest xs)))) in
        let v = from-above body 0 (bytes 1 (length xs)) (length xs) 8 (omega (arith, length-bytes 1 (length xs))) in
        let w = read-list (zeros 384) 8 xs r (omega (arith, length-zeros 384)) in
        rw (packed-is, c, limited-few (length xs) h) (u ∙ v ∙ w)

-- the first block has the gravest
pub kept_block : (bs : List ℕ) → gravest_kept (part bs 0 64) ≡ gravest_kept bs
unfolding gravest_kept alarm_at
kept_block bs = rw (number-part 2 bs 0 64 1 (omega arith), number-part 1 bs 0 64 3 (omega arith), number-part 4 bs 0 64 4 (omega arith))

pub few-read : (bs : List ℕ) → length (alarms_of bs) ≤ 48
unfolding alarms_of number_open
few-read bs = omega (arith, length_from bs (limited (number 1 bs 0)) 8, limited-most (number 1 bs 0))

pub range-read : (bs : List ℕ) → ((i : ℕ) → get_or bs i 0 < 256) → AllInRange (alarms_of bs)
unfolding alarms_of
range-read bs b = range-from bs b (number_open bs) 8

-- format's zeros are an empty list
pub list-zeros : alarms_of (zeros 384) ≡ []
unfolding alarms_of number_open limited alarms_from zeros number value
list-zeros = refl

pub kept-zeros : gravest_kept (zeros 384) ≡ alarm 0 0 0
unfolding gravest_kept alarm_at zeros number value
kept-zeros = refl
