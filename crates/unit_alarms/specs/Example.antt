-- A history that meets the premises of `AlarmsKept`, so that they have a witness (G 4, D 30).
use Rattle.std.specs.Prelude.{false, List, [], ◌∷◌}
use Rattle.model.specs.Bytes.{zeros}
use Rattle.model.specs.Effects.{Given}
use Rattle.model.specs.Crash.{Memory}
use Rattle.model.specs.History.{opening, flush, call, crash}
use Rattle.model.specs.examples.Trials.{room}
use Rattle.acts.specs.Units.{plain}
use Rattle.unit_events.specs.Folded.{Step, acts, offers}
use Rattle.unit_alarms_list.specs.Alarm.{alarm}
use Rattle.unit_alarms_list.specs.Events.{Event, arrival, clearing}

-- a format over areas of zeros
unfoldable pub blank : Memory
blank = record { log = zeros 2112; area = zeros 1920 }

unfoldable pub blank_copies : Given
blank_copies = record { state = []; newest = []; log = blank.log; area = blank.area; block = []; batch = zeros 4242; writer = 0; home = 0 }

unfoldable pub opens : Step Event
opens = acts (plain (call (opening (zeros 1024) (zeros 240) (zeros 4176))))

-- Two arrivals are flushed; the third, graver than both, is not, and the crash takes it: its clearing is refused.
unfoldable pub history : List (Step Event)
history =
    opens ∷ offers 0 (arrival (alarm 5 3 100)) room ∷ offers 0 (arrival (alarm 7 1 200)) room ∷ acts (plain (call (flush room)))
    ∷ offers 0 (arrival (alarm 9 1 150)) room ∷ acts (plain (crash 4 (λ i. false))) ∷ opens ∷ offers 1 (clearing 9) room ∷ []

-- the events of the book's list at its end
unfoldable pub kept : List Event
kept = arrival (alarm 5 3 100) ∷ arrival (alarm 7 1 200) ∷ []
