-- The open alarms in 384 bytes, six home blocks: the number open, the gravest, and the alarms in the order of their arrival.
use Rattle.std.specs.Prelude.{ℕ, zero, suc, ◌+◌, Bool, false, ◌||◌, cond, List, [], ◌∷◌, ◌++◌, eqb, leb, length}
use Rattle.std.proofs.Math.Option.{Option, none, some}
use Rattle.model.specs.Bytes.{puts, zeros, number, put_number}
use Rattle.unit_alarms_list.specs.Alarm.{Alarm, alarm, alarm_at, alarm_bytes, graver}

-- ---- lists

-- whether an identity is open
unfoldable pub among : ℕ → List Alarm → Bool
among i [] = false
among i (a ∷ xs) = eqb a.identity i || among i xs

-- a list without the first alarm of that identity; the others keep their order
unfoldable pub without : ℕ → List Alarm → List Alarm
without i [] = []
without i (a ∷ xs) = cond (eqb a.identity i) xs (a ∷ without i xs)

-- the place of that alarm, or the list's length if there is none
unfoldable pub place : ℕ → List Alarm → ℕ
place i [] = 0
place i (a ∷ xs) = cond (eqb a.identity i) 0 (1 + place i xs)

unfoldable pub gravest_from : Alarm → List Alarm → Alarm
gravest_from a [] = a
gravest_from a (b ∷ xs) = gravest_from (graver a b) xs

-- "With none open the gravest is none, told as three zeros." [S-69]
unfoldable pub gravest : List Alarm → Option Alarm
gravest [] = none
gravest (a ∷ xs) = some (gravest_from a xs)

unfoldable pub told : Option Alarm → Alarm
told none = alarm 0 0 0
told (some a) = a

-- ---- bytes

-- the n alarms from index `at` on
unfoldable pub alarms_from : List ℕ → ℕ → ℕ → List Alarm
alarms_from bs zero at = []
alarms_from bs (suc n) at = alarm_at bs at ∷ alarms_from bs n (at + 7)

-- "Up to 48 are open at a time": all bytes read as a list, and a number above 48 reads as 48
unfoldable pub limited : ℕ → ℕ
limited n = cond (leb n 48) n 48

unfoldable pub number_open : List ℕ → ℕ
number_open bs = limited (number 1 bs 0)

unfoldable pub alarms_of : List ℕ → List Alarm
alarms_of bs = alarms_from bs (number_open bs) 8

-- the gravest as it is kept: the first block has it
unfoldable pub gravest_kept : List ℕ → Alarm
gravest_kept bs = alarm_at bs 1

unfoldable pub list_bytes : List Alarm → List ℕ
list_bytes [] = []
list_bytes (a ∷ xs) = alarm_bytes a ++ list_bytes xs

-- number and gravest put in front of n alarms
unfoldable pub sealed : List ℕ → ℕ → Alarm → List ℕ
sealed bs n a = puts (put_number 1 bs 0 n) 1 (alarm_bytes a)

-- "The gravest is kept, stored in the same transaction as the list": the bytes of a list, zeros behind
unfoldable pub packed : List Alarm → List ℕ
packed xs = sealed (puts (zeros 384) 8 (list_bytes xs)) (length xs) (told (gravest xs))
