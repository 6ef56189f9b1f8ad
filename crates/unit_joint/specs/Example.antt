-- A history with all units that meets the premises of `JointKept`, of `DoneIsLast` and of `ConfirmedStays`, so that they have a witness (G 4, D 30).
use Rattle.std.specs.Prelude.{ℕ, false, List, [], ◌∷◌, ◌++◌}
use Rattle.std.proofs.Math.Option.{Option, none, some}
use Rattle.model.specs.Bytes.{zeros, bytes}
use Rattle.model.specs.Effects.{Given}
use Rattle.model.specs.Crash.{Memory}
use Rattle.model.specs.History.{opening, reserve, flush, begin_round, step_round, call, crash}
use Rattle.model.specs.examples.Trials.{room}
use Rattle.acts.specs.Units.{plain, transacts}
use Rattle.unit_hours_book.specs.Events.{start_at, stop_at}
use Rattle.unit_alarms_list.specs.Alarm.{alarm}
use Rattle.unit_alarms_list.specs.Events.{arrival, clearing}
use Rattle.unit_joint.specs.Joint.{Step, acts, sets_table, pump_event, alarm_event, Done, table_set, pump_done, alarm_done, confirms}

-- a format over areas of zeros
unfoldable pub blank : Memory
blank = record { log = zeros 2112; area = zeros 1920 }

unfoldable pub blank_copies : Given
blank_copies = record { state = []; newest = []; log = blank.log; area = blank.area; block = []; batch = zeros 4242; writer = 0; home = 0 }

unfoldable pub opens : Step
opens = acts (plain (call (opening (zeros 1024) (zeros 240) (zeros 4176))))

-- one band of all depths with 2 pumps
unfoldable pub one_band : List ℕ
one_band = 0 ∷ 0 ∷ 15 ∷ 39 ∷ 2 ∷ []

-- a list that lets writers 0 to 3 store to and read every home
unfoldable pub all_homes : List ℕ
all_homes = bytes 2 0 ++ (bytes 2 30 ++ zeros 12)

unfoldable pub two_writers : List ℕ
two_writers = all_homes ++ (all_homes ++ (all_homes ++ all_homes))

-- Writer 5 is promised two places; a table is set, an alarm comes, the list is committed, and pumps 5 and 6 start.
unfoldable pub before : List Step
before =
    opens ∷ acts (plain (call (reserve 5 2))) ∷ sets_table 0 one_band room ∷ alarm_event 2 (arrival (alarm 7 1 200)) room
    ∷ acts (transacts 0 8 (two_writers ++ two_writers) room) ∷ pump_event 3 5 (start_at 4) room ∷ pump_event 3 6 (start_at 6) room ∷ []

-- Pump 0 starts. Its commit takes a group's seventh place, so that its ticket is the figure of the confirm after the next flush.
unfoldable pub starts : Step
starts = pump_event 1 0 (start_at 10) room

-- a start of a running pump is refused; all is flushed
unfoldable pub between : List Step
between = pump_event 1 0 (start_at 12) room ∷ acts (plain (call (flush room))) ∷ []

-- After the confirm a round is begun and moved on by two homes; the pump stops and pump 3 starts, which the cut takes. After it the pump stops again, and an alarm
-- that is not open does not clear.
unfoldable pub busy : List Step
busy =
    acts (plain (call begin_round)) ∷ acts (plain (call (step_round 2 room))) ∷ pump_event 1 0 (stop_at 60) room ∷ pump_event 3 3 (start_at 70) room ∷ []

unfoldable pub cuts : Step
cuts = acts (plain (crash 4 (λ i. false)))

unfoldable pub afterwards : List Step
afterwards = opens ∷ pump_event 1 0 (stop_at 99) room ∷ alarm_event 2 (clearing 9) room ∷ []

abbrev pub later : List Step
later = busy ++ (cuts ∷ afterwards)

abbrev pub history : List Step
history = before ++ (starts ∷ (between ++ (confirms ∷ later)))

-- the list at its end; the third is the list of rights
unfoldable pub kept : List (Option Done)
kept =
    some (table_set one_band) ∷ some (alarm_done (arrival (alarm 7 1 200))) ∷ none ∷ some (pump_done 5 (start_at 4)) ∷ some (pump_done 6 (start_at 6))
    ∷ some (pump_done 0 (start_at 10)) ∷ some (pump_done 0 (stop_at 99)) ∷ []

-- the ticket of pump 0's start
abbrev pub ticket : ℕ
ticket = 42
