-- What the request promises at a moment of a history whose commits are, among others, the events `es` of alarms: what the calls answer is theirs. That
-- the six homes then hold what they say, for every history with crashes, follows from `Recording` (events' EventsRecorded).
use Rattle.std.specs.Prelude.{ℕ, ◌≡◌, List, [], ◌∷◌, ◌++◌, ◌≢◌, length}
use Rattle.model.specs.Bytes.{part, zeros}
use Rattle.unit_events.specs.Homes.{alarm_home, alarm_homes}
use Rattle.unit_shared.specs.Unit.{Lent, UnitOutcome, untouched, fetched, revised, transacted}
use Rattle.unit_shared.specs.Shown.{Shown}
use Rattle.unit_alarms_list.specs.OpenAlarms.{gravest, told}
use Rattle.unit_alarms_list.specs.Events.{Event, arrival, clearing}
use Rattle.unit_alarms_list.specs.Guarantees.{Says, open_by, answer_by, Typed, Represents}
use Rattle.unit_alarms.specs.Calls.{judge, arrive_call, clear_call, alarm_tells, gravest_call}

-- homes of zeros say that there was no event; blocks that say what some events do answer the next as they do, and say it too once it is done
pub record Recording : Type 0 where
  pub none : Represents [] (zeros 384)
  pub answers : (es : List Event) (blocks : List ℕ) (e : Event) → Represents es blocks → Typed e → (judge e blocks).code ≡ answer_by es e
  pub grows :
      (es : List Event) (blocks : List ℕ) (e : Event) → Represents es blocks → Typed e → (judge e blocks).code ≡ 0 → Represents (es ++ (e ∷ [])) (judge e blocks).blocks
  pub size : (blocks : List ℕ) (e : Event) → (judge e blocks).code ≡ 0 → length (judge e blocks).blocks ≡ 384

-- the call of an event
unfoldable pub event_call : Lent → ℕ → Event → UnitOutcome
event_call l writer (arrival a) = arrive_call l writer a
event_call l writer (clearing identity) = clear_call l writer identity

pub record Claim (l : Lent) (writer : ℕ) (es : List Event) (blocks : List ℕ) : Type 0 where
  -- "The gravest is kept, .. and after every arrival, clearing or cut is what demand 3's run at the last cut, if any, and all events since say."
  pub tells : (fetched l writer alarm_home 1).code ≡ 0 → gravest_call l writer ≡ alarm_tells (told (gravest (open_by es)))
  -- 24 and 25 are answered by the arrivals not cleared after
  pub says : (e : Event) → Says (open_by es) e (answer_by es e)
  pub refused :
      (e : Event) → Typed e → (revised l writer alarm_home alarm_homes).code ≡ 0 → answer_by es e ≢ 0 → event_call l writer e ≡ untouched l (answer_by es e) 0
  pub stored :
      (e : Event) →
      Typed e →
      (revised l writer alarm_home alarm_homes).code ≡ 0 →
      answer_by es e ≡ 0 →
      event_call l writer e ≡ transacted l writer alarm_home (judge e blocks).blocks

-- the gravest is read from the first home alone
abbrev pub FirstShown : Lent → ℕ → List ℕ → Type 0
FirstShown l writer blocks = (fetched l writer alarm_home 1).code ≡ 0 → (fetched l writer alarm_home 1).block ≡ part blocks 0 64

abbrev pub Claimed : Type 0
Claimed =
    (l : Lent) (writer : ℕ) (es : List Event) (blocks : List ℕ) → Represents es blocks → Shown l writer alarm_home alarm_homes blocks → FirstShown l writer blocks →
    Claim l writer es blocks
