-- Alarms in every history of the store, crashes included: "The gravest is kept, .. and after every arrival, clearing or cut is what demand 3's run at the
-- last cut, if any, and all events since say."
use Rattle.std.specs.Prelude.{ℕ, ◌+◌, ◌≤◌, ◌≡◌, Bool, true, List}
use Rattle.model.specs.History.{World, Formatting, after_format}
use Rattle.unit_events.specs.Homes.{alarm_home, alarm_homes}
use Rattle.unit_events.specs.Folded.{Step, offers, noted, ran, notes, stepped, AllStepsAllowed, SparedBySteps}
use Rattle.unit_shared.specs.Moments.{lent_in, Leaves}
use Rattle.unit_alarms_list.specs.Alarm.{class_known}
use Rattle.unit_alarms_list.specs.Events.{Event, arrival, clearing}
use Rattle.unit_alarms_list.specs.Guarantees.{held_with, Typed}
use Rattle.unit_alarms_list.specs.Stored.{judged}
use Rattle.unit_alarms.specs.Claims.{event_call, Claim}

-- the class is asked before the store's questions: an arrival of another class is no step of the history
unfoldable pub in_range : Event → Bool
in_range (arrival a) = class_known a.class
in_range (clearing identity) = true

-- At a moment whose book's list has, among other commits, the events `es`: the homes hold what they say, the gravest told and 24 and 25 are theirs
-- (`Claim`), and an event's call leaves what its step leaves.
pub record AlarmsAt (w : World) (es : List Event) : Type 0 where
  pub blocks : List ℕ
  pub claim : (writer : ℕ) (batch : List ℕ) → Claim (lent_in w batch) writer es blocks
  pub stands :
      (writer : ℕ) (e : Event) (batch : List ℕ) →
      in_range e ≡ true →
      Leaves w (stepped alarm_home alarm_homes judged held_with w (offers writer e batch)) (event_call (lent_in w batch) writer e)

-- At the end of every history that begins with a done format, and so at every moment of it after a done opening: its steps are alarms' events, done or
-- refused, and any acts of the store that do not store to the six homes; a crash cuts the book's list to the run. [S-69]
abbrev pub AlarmsKept : Type 0
AlarmsKept =
    (groups homes : ℕ) → alarm_home + alarm_homes ≤ homes → (f : Formatting groups homes) (ss : List (Step Event)) →
    AllStepsAllowed alarm_home alarm_homes judged held_with (after_format f) ss → SparedBySteps alarm_home alarm_homes judged held_with Typed (after_format f) ss →
    (ran alarm_home alarm_homes judged held_with (after_format f) ss).ready ≡ true →
    AlarmsAt (ran alarm_home alarm_homes judged held_with (after_format f) ss) (noted (notes alarm_home alarm_homes judged held_with (after_format f) ss))
