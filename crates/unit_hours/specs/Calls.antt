-- The calls of the pump hours book: "For pumps 0 to 7 it takes start and stop with a second count (32 bits), and keeps, and gives, starts and total run
-- seconds .. in one home block each."
use Rattle.std.specs.Prelude.{ℕ, Bool, cond, List, eqb, leb}
use Rattle.model.specs.Calls.{Outcome}
use Rattle.unit_events.specs.Homes.{pump_home}
use Rattle.unit_shared.specs.Unit.{Lent, UnitOutcome, untouched, Judged, as_judged, fetched, event}
use Rattle.unit_hours_book.specs.Pump.{pump_of}
use Rattle.unit_hours_book.specs.declared.Pump.{Pump}
use Rattle.unit_hours_book.specs.Events.{Event, applied}
use Rattle.unit_hours_book.specs.Services.{due}
use Rattle.unit_hours_book.specs.declared.Due.{Due}
pub use Rattle.unit_hours.specs.declared.Hours.{Hours}
pub use Rattle.unit_hours.specs.declared.Services.{Services}

-- [S-68]
unfoldable pub known : ℕ → Bool
known pump = leb pump 7

-- "15 start while running or stop while idle; 16 a second before the pump's last event, or a total or start count past 32 bits"
unfoldable pub judge : Event → List ℕ → Judged
judge e block = as_judged (applied block e).code (applied block e).block

-- "14 comes before the store's questions, 15 and 16 after its 1, 2, 4 and 5 and before the rest"
unfoldable pub event_call : Lent → ℕ → ℕ → Event → UnitOutcome
event_call l writer pump e = cond (known pump) (event l writer (pump_home pump) 1 (judge e)) (untouched l 14 0)

-- what the calls that only read tell: the answer and two figures, zeros if it is refused
abbrev pub hours_told : ℕ → ℕ → ℕ → Hours
hours_told code starts seconds = record { code = code; starts = starts; seconds = seconds }

abbrev pub services_told : ℕ → ℕ → ℕ → Services
services_told code due left = record { code = code; due = due; left = left }

-- starts and total
unfoldable pub pump_tells : Pump → Hours
pump_tells p = hours_told 0 p.starts p.total

unfoldable pub hours_in : Outcome → Hours
hours_in o = cond (eqb o.code 0) (pump_tells (pump_of o.block)) (hours_told o.code 0 0)

unfoldable pub hours_call : Lent → ℕ → ℕ → Hours
hours_call l writer pump = cond (known pump) (hours_in (fetched l writer (pump_home pump) 1)) (hours_told 14 0 0)

-- "For a given service interval it gives whole services due and seconds left over"; "14 pump above 7 or interval 0"
unfoldable pub due_tells : Due → Services
due_tells d = services_told 0 d.services d.left

unfoldable pub services_of : ℕ → Hours → Services
services_of interval h = cond (eqb h.code 0) (due_tells (due h.seconds interval)) (services_told h.code 0 0)

unfoldable pub services_call : Lent → ℕ → ℕ → ℕ → Services
services_call l writer pump interval = cond (leb 1 interval) (services_of interval (hours_call l writer pump)) (services_told 14 0 0)
