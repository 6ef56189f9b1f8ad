-- One alarm, its seven bytes, and which of two is the graver.
use Rattle.std.specs.Prelude.{ℕ, ◌+◌, ◌^◌, ◌<◌, Bool, ◌&&◌, ◌||◌, cond, List, ◌++◌, eqb, leb, ltb}
use Rattle.model.specs.Bytes.{bytes, number}
pub use Rattle.unit_alarms_list.specs.declared.Alarm.{Alarm}

abbrev pub alarm : ℕ → ℕ → ℕ → Alarm
alarm identity class second = record { identity = identity; class = class; second = second }

-- "with identity (16 bits), class 1 to 9 and arrival second (32 bits)": in this order, the class as one byte
unfoldable pub alarm_at : List ℕ → ℕ → Alarm
alarm_at bs at = alarm (number 2 bs at) (number 1 bs (at + 2)) (number 4 bs (at + 3))

unfoldable pub alarm_bytes : Alarm → List ℕ
alarm_bytes a = bytes 2 a.identity ++ (bytes 1 a.class ++ bytes 4 a.second)

-- the fields fit their bytes
pub record InRange (a : Alarm) : Type 0 where
  pub identity : a.identity < 256 ^ 2
  pub class : a.class < 256 ^ 1
  pub second : a.second < 256 ^ 4

unfoldable pub class_known : ℕ → Bool
class_known class = leb 1 class && leb class 9

-- "Gravest is the lowest class, then the earliest second, then the lowest identity."
unfoldable pub goes_before : Alarm → Alarm → Bool
goes_before a b =
    ltb a.class b.class
    || (eqb a.class b.class && (ltb a.second b.second || (eqb a.second b.second && ltb a.identity b.identity)))

unfoldable pub graver : Alarm → Alarm → Alarm
graver a b = cond (goes_before b a) b a
