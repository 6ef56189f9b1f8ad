-- A pump's home in the histories of the store. "hours give the number of starts of p in L and the sum of stop − start over its finished runs in L; 15 and
-- 16 are those of the events of p in L"
use Rattle.std.specs.Prelude.{ℕ, List}
use Rattle.unit_events.specs.Homes.{pump_home}
use Rattle.unit_events.specs.Folded.{AlwaysRecorded}
use Rattle.unit_hours_book.specs.Events.{Event, applied}
use Rattle.unit_hours_book.specs.Guarantees.{answer_by, held_with, Represents, Timed}

-- what a block answers to an event
unfoldable pub judged : List ℕ → Event → ℕ
judged block e = (applied block e).code

-- other pumps' events, and all else, are acts of the history that spare this home
abbrev pub HoursRecorded : Type 0
HoursRecorded = (pump : ℕ) → AlwaysRecorded (pump_home pump) 1 judged held_with Timed answer_by Represents
