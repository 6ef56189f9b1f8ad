-- What an arrival and a clearing answer, and what they make of the list and its bytes.
use Rattle.std.specs.Prelude.{ℕ, cond, List, [], ◌∷◌, ◌++◌, eqb, ltb, length}
use Rattle.unit_alarms_list.specs.Alarm.{Alarm, class_known}
use Rattle.unit_alarms_list.specs.OpenAlarms.{among, without, alarms_of, packed}

pub data Event : Type 0 where
  arrival : Alarm → Event
  clearing : ℕ → Event

-- "24 class out of range, an arrival already open or a clearing not open; 25 48 open already, at an arrival" [S-70]
unfoldable pub answer : List Alarm → Event → ℕ
answer xs (arrival a) = cond (class_known a.class) (cond (among a.identity xs) 24 (cond (ltb (length xs) 48) 0 25)) 24
answer xs (clearing i) = cond (among i xs) 0 24

unfoldable pub after : List Alarm → Event → List Alarm
after xs (arrival a) = xs ++ (a ∷ [])
after xs (clearing i) = without i xs

-- the answer, and what the output holds then; a refusal leaves it as it was
pub record Outcome : Type 0 where
  pub code : ℕ
  pub output : List ℕ

abbrev pub leaves : ℕ → List ℕ → Outcome
leaves code output = record { code = code; output = output }

unfoldable pub settled : ℕ → List ℕ → List Alarm → Outcome
settled code output xs = leaves code (cond (eqb code 0) (packed xs) output)

-- an event over the list's bytes
unfoldable pub applied : List ℕ → List ℕ → Event → Outcome
applied bs output e = settled (answer (alarms_of bs) e) output (after (alarms_of bs) e)
