-- A history that meets the premises of `TableKept`, so that they have a witness (G 4, D 15).
use Rattle.std.specs.Prelude.{ℕ, false, List, [], ◌∷◌}
use Rattle.model.specs.Bytes.{zeros}
use Rattle.model.specs.Effects.{Given}
use Rattle.model.specs.Crash.{Memory}
use Rattle.model.specs.History.{opening, flush, call, crash}
use Rattle.model.specs.examples.Trials.{room}
use Rattle.acts.specs.Units.{plain}
use Rattle.unit_events.specs.Folded.{Step, acts, sets}

-- one band of all depths with 2 pumps, and two bands that meet at 5,000 mm with 1 and 4
unfoldable pub one_band : List ℕ
one_band = 0 ∷ 0 ∷ 15 ∷ 39 ∷ 2 ∷ []

unfoldable pub two_bands : List ℕ
two_bands = 0 ∷ 0 ∷ 135 ∷ 19 ∷ 1 ∷ 136 ∷ 19 ∷ 15 ∷ 39 ∷ 4 ∷ []

-- a format over areas of zeros
unfoldable pub blank : Memory
blank = record { log = zeros 2112; area = zeros 960 }

unfoldable pub blank_copies : Given
blank_copies = record { state = []; newest = []; log = blank.log; area = blank.area; block = []; batch = zeros 3222; writer = 0; home = 0 }

unfoldable pub opens : Step (List ℕ)
opens = acts (plain (call (opening (zeros 1024) (zeros 120) (zeros 3156))))

-- The first table is flushed; the second is not, and the crash takes it.
unfoldable pub history : List (Step (List ℕ))
history =
    opens ∷ sets 0 one_band room ∷ acts (plain (call (flush room))) ∷ sets 0 two_bands room ∷ acts (plain (crash 4 (λ i. false))) ∷ opens ∷ []
