-- The pump hours book in every history of the store, crashes included: "After a cut, hours and starts are those of the events in demand 3's run."
use Rattle.std.specs.Prelude.{ℕ, ◌+◌, ◌≤◌, ◌≡◌, true, List}
use Rattle.model.specs.History.{World, Formatting, after_format}
use Rattle.unit_events.specs.Homes.{pump_home}
use Rattle.unit_events.specs.Folded.{Step, offers, noted, ran, notes, stepped, AllStepsAllowed, SparedBySteps}
use Rattle.unit_shared.specs.Moments.{lent_in, Leaves}
use Rattle.unit_hours_book.specs.Events.{Event}
use Rattle.unit_hours_book.specs.Guarantees.{held_with, Timed}
use Rattle.unit_hours_book.specs.Stored.{judged}
use Rattle.unit_hours.specs.Calls.{event_call}
use Rattle.unit_hours.specs.Claims.{Claim}

-- At a moment whose book's list has, among other commits, the events `es` of a pump: the pump's block holds what they say, every call on the pump
-- tells and answers by them (`Claim`), and an event's call leaves what its step leaves.
pub record BookAt (pump : ℕ) (w : World) (es : List Event) : Type 0 where
  pub block : List ℕ
  pub claim : (writer : ℕ) (batch : List ℕ) → Claim (lent_in w batch) writer pump es block
  pub stands :
      (writer : ℕ) (e : Event) (batch : List ℕ) →
      Leaves w (stepped (pump_home pump) 1 judged held_with w (offers writer e batch)) (event_call (lent_in w batch) writer pump e)

-- At the end of every history that begins with a done format, and so at every moment of it after a done opening. Its steps are this pump's events, done
-- or refused, and any acts of the store, other pumps' events among them, that do not store to the pump's home; a crash cuts the book's list to the run.
-- [S-67]
abbrev pub BookKept : Type 0
BookKept =
    (pump : ℕ) → pump ≤ 7 → (groups homes : ℕ) → pump_home pump + 1 ≤ homes → (f : Formatting groups homes) (ss : List (Step Event)) →
    AllStepsAllowed (pump_home pump) 1 judged held_with (after_format f) ss → SparedBySteps (pump_home pump) 1 judged held_with Timed (after_format f) ss →
    (ran (pump_home pump) 1 judged held_with (after_format f) ss).ready ≡ true →
    BookAt pump (ran (pump_home pump) 1 judged held_with (after_format f) ss) (noted (notes (pump_home pump) 1 judged held_with (after_format f) ss))
