-- What the request promises at a moment of a history whose commits are, among others, the events `es` of a pump: what the calls answer is theirs. That
-- the pump's home then holds what they say, for every history with crashes, follows from `Recording` (events' EventsRecorded).
use Rattle.std.specs.Prelude.{ℕ, ◌≤◌, ◌<◌, ◌≡◌, List, [], ◌∷◌, ◌++◌, ◌≢◌, length}
use Rattle.model.specs.Bytes.{zeros}
use Rattle.unit_events.specs.Homes.{pump_home}
use Rattle.unit_shared.specs.Unit.{Lent, untouched, fetched, revised, transacted}
use Rattle.unit_shared.specs.Shown.{Shown}
use Rattle.unit_hours_book.specs.Events.{Event}
use Rattle.unit_hours_book.specs.Services.{due}
use Rattle.unit_hours_book.specs.Guarantees.{starts, total, answer_by, Timed, Represents}
use Rattle.unit_hours.specs.Calls.{judge, event_call, hours_told, due_tells, hours_call, services_call}

-- a home of zeros says that there was no event; a block that says what some events do answers the next as they do, and says it too once it is done
pub record Recording : Type 0 where
  pub none : Represents [] (zeros 64)
  pub answers : (es : List Event) (block : List ℕ) (e : Event) → Represents es block → Timed e → (judge e block).code ≡ answer_by es e
  pub grows :
      (es : List Event) (block : List ℕ) (e : Event) → Represents es block → Timed e → (judge e block).code ≡ 0 → Represents (es ++ (e ∷ [])) (judge e block).blocks
  pub size : (block : List ℕ) (e : Event) → (judge e block).code ≡ 0 → length (judge e block).blocks ≡ 64

pub record Claim (l : Lent) (writer pump : ℕ) (es : List Event) (block : List ℕ) : Type 0 where
  -- "After a cut, hours and starts are those of the events in demand 3's run."
  pub hours : (fetched l writer (pump_home pump) 1).code ≡ 0 → hours_call l writer pump ≡ hours_told 0 (starts es) (total es)
  pub services :
      (interval : ℕ) → 0 < interval → (fetched l writer (pump_home pump) 1).code ≡ 0 → services_call l writer pump interval ≡ due_tells (due (total es) interval)
  -- 15 and 16 are those of the events
  pub refused :
      (e : Event) → Timed e → (revised l writer (pump_home pump) 1).code ≡ 0 → answer_by es e ≢ 0 → event_call l writer pump e ≡ untouched l (answer_by es e) 0
  pub stored :
      (e : Event) →
      Timed e →
      (revised l writer (pump_home pump) 1).code ≡ 0 →
      answer_by es e ≡ 0 →
      event_call l writer pump e ≡ transacted l writer (pump_home pump) (judge e block).blocks

abbrev pub Claimed : Type 0
Claimed =
    (l : Lent) (writer pump : ℕ) → pump ≤ 7 → (es : List Event) (block : List ℕ) → Represents es block → Shown l writer (pump_home pump) 1 block →
    Claim l writer pump es block
