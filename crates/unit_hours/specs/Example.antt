-- A history that meets the premises of `BookKept`, so that they have a witness (G 4, D 17).
use Rattle.std.specs.Prelude.{false, List, [], ◌∷◌}
use Rattle.model.specs.Bytes.{zeros}
use Rattle.model.specs.Effects.{Given}
use Rattle.model.specs.Crash.{Memory}
use Rattle.model.specs.History.{opening, flush, call, crash}
use Rattle.model.specs.examples.Trials.{room}
use Rattle.acts.specs.Units.{plain}
use Rattle.unit_events.specs.Folded.{Step, acts, offers}
use Rattle.unit_hours_book.specs.Events.{Event, start_at, stop_at}

-- a format over areas of zeros
unfoldable pub blank : Memory
blank = record { log = zeros 2112; area = zeros 1088 }

unfoldable pub blank_copies : Given
blank_copies = record { state = []; newest = []; log = blank.log; area = blank.area; block = []; batch = zeros 3358; writer = 0; home = 0 }

unfoldable pub opens : Step Event
opens = acts (plain (call (opening (zeros 1024) (zeros 136) (zeros 3292))))

-- Pump 0: a run of 50 seconds is flushed; the start after it is not, and the crash takes it. So a stop is then refused, and a run of 20 seconds is done.
unfoldable pub history : List (Step Event)
history =
    opens ∷ offers 0 (start_at 10) room ∷ offers 0 (stop_at 60) room ∷ acts (plain (call (flush room))) ∷ offers 0 (start_at 70) room
    ∷ acts (plain (crash 4 (λ i. false))) ∷ opens ∷ offers 1 (stop_at 99) room ∷ offers 1 (start_at 80) room ∷ offers 1 (stop_at 100) room ∷ []

-- the events of the book's list at its end
unfoldable pub kept : List Event
kept = start_at 10 ∷ stop_at 60 ∷ start_at 80 ∷ stop_at 100 ∷ []
