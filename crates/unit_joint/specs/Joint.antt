-- One history with the calls of all units: accepted tables, events of all pumps, alarms' events; among them any other calls of the store, of other writers, with
-- promises, rounds and lists of rights, and cuts.
use Rattle.std.specs.Prelude.{ℕ, suc, ◌≤◌, ◌≡◌, true, cond, List, [], ◌∷◌, ◌++◌, eqb, length, take}
use Rattle.std.proofs.Math.Option.{Option, none, some}
use Rattle.model.specs.History.{confirm, call, crash, World, Formatting, after_format, ends}
use Rattle.acts.specs.Units.{Act, plain, transacts, fetches, revises, acted, ActAllowed, relabel}
use Rattle.abstract_store.specs.Store.{Reply}
use Rattle.theorems.specs.IsolatedActs.{answer_of}
use Rattle.unit_events.specs.Homes.{table_home, table_homes, pump_home, alarm_home, alarm_homes}
use Rattle.unit_events.specs.Folded as unit
use Rattle.unit_events.specs.Folded.{offers, sets, SparedByAct}
use Rattle.unit_shared.specs.Moments.{lent_in}
use Rattle.unit_shared.specs.Replies.{told_by}
use Rattle.unit_bands_table.specs.Stored as table
use Rattle.unit_bands.specs.Calls.{set_call}
use Rattle.unit_hours_book.specs.Events.{Event as PumpEvent}
use Rattle.unit_hours_book.specs.Guarantees as hours
use Rattle.unit_hours_book.specs.Stored as pumps
use Rattle.unit_hours.specs.Calls.{event_call as pump_call}
use Rattle.unit_alarms_list.specs.Events.{Event as AlarmEvent}
use Rattle.unit_alarms_list.specs.Guarantees as alarms
use Rattle.unit_alarms_list.specs.Stored as panel
use Rattle.unit_alarms.specs.Claims.{event_call as alarm_call}

-- A step: any act of the store, a cut among them; a call that sets an accepted table; an event of a pump; an event of the alarms
pub data Step : Type 0 where
  acts : Act → Step
  sets_table : (writer : ℕ) (rows batch : List ℕ) → Step
  pump_event : (writer pump : ℕ) (event : PumpEvent) (batch : List ℕ) → Step
  alarm_event : (writer : ℕ) (event : AlarmEvent) (batch : List ℕ) → Step

-- the acts that it stands for, by its unit
unfoldable pub acts_of : World → Step → List Act
acts_of w (acts a) = a ∷ []
acts_of w (sets_table writer rows batch) = unit.acts_of table_home table_homes table.judged table.stored w (sets writer rows batch)
acts_of w (pump_event writer pump e batch) = unit.acts_of (pump_home pump) 1 pumps.judged hours.held_with w (offers writer e batch)
acts_of w (alarm_event writer e batch) = unit.acts_of alarm_home alarm_homes panel.judged alarms.held_with w (offers writer e batch)

unfoldable pub stepped : World → Step → World
stepped w s = acted w (acts_of w s)

unfoldable pub ran : World → List Step → World
ran w [] = w
ran w (s ∷ ss) = ran (stepped w s) ss

-- the acts that the history stands for
unfoldable pub acts_all : World → List Step → List Act
acts_all w [] = []
acts_all w (s ∷ ss) = acts_of w s ++ acts_all (stepped w s) ss

-- What a commit was, where a unit's call made it: "its commit carries the event as a label". Beside the book's list of commits stands a list of these.
pub data Done : Type 0 where
  table_set : (rows : List ℕ) → Done
  pump_done : (pump : ℕ) (event : PumpEvent) → Done
  alarm_done : (event : AlarmEvent) → Done

unfoldable pub note_of : Step → Option Done
note_of (acts a) = none
note_of (sets_table writer rows batch) = some (table_set rows)
note_of (pump_event writer pump e batch) = some (pump_done pump e)
note_of (alarm_event writer e batch) = some (alarm_done e)

unfoldable pub notes_from : World → List (Option Done) → List Step → List (Option Done)
notes_from w ns [] = ns
notes_from w ns (s ∷ ss) = notes_from (stepped w s) (relabel (stepped w s) ns (note_of s)) ss

-- [S-87]
unfoldable pub notes : World → List Step → List (Option Done)
notes w ss = notes_from w [] ss

-- what each unit has of that list: the tables, the events of a pump, the alarms' events, the oldest first
unfoldable pub of_table : Option Done → Option (List ℕ)
of_table none = none
of_table (some (table_set rows)) = some rows
of_table (some (pump_done pump e)) = none
of_table (some (alarm_done e)) = none

unfoldable pub of_pump : ℕ → Option Done → Option PumpEvent
of_pump pump none = none
of_pump pump (some (table_set rows)) = none
of_pump pump (some (pump_done p e)) = cond (eqb p pump) (some e) none
of_pump pump (some (alarm_done e)) = none

unfoldable pub of_alarms : Option Done → Option AlarmEvent
of_alarms none = none
of_alarms (some (table_set rows)) = none
of_alarms (some (pump_done pump e)) = none
of_alarms (some (alarm_done e)) = some e

-- The premises: demand 3's; a pump is one of the eight, a table is accepted, an event meets what its C type says; "nobody else stores there": a done store or
-- transact that is no unit's call lies apart from all units' homes.
abbrev pub StepAllowed : World → Step → Type 0
StepAllowed w (acts a) = ActAllowed w a
StepAllowed w (sets_table writer rows batch) = w.ready ≡ true
StepAllowed w (pump_event writer pump e batch) = w.ready ≡ true
StepAllowed w (alarm_event writer e batch) = w.ready ≡ true

abbrev pub JointAllowed : World → List Step → Type 0
JointAllowed w [] = Unit {0}
JointAllowed w (s ∷ ss) = StepAllowed w s × JointAllowed (stepped w s) ss

pub record SparesUnits (w : World) (a : Act) : Type 0 where
  pub from_table : SparedByAct table_home table_homes table.judged table.stored w a
  pub from_pumps : (pump : ℕ) → pump ≤ 7 → SparedByAct (pump_home pump) 1 pumps.judged hours.held_with w a
  pub from_alarms : SparedByAct alarm_home alarm_homes panel.judged alarms.held_with w a

abbrev pub StepFits : World → Step → Type 0
StepFits w (acts a) = SparesUnits w a
StepFits w (sets_table writer rows batch) = table.Accepted rows
StepFits w (pump_event writer pump e batch) = (pump ≤ 7) × hours.Timed e
StepFits w (alarm_event writer e batch) = alarms.Typed e

abbrev pub JointFits : World → List Step → Type 0
JointFits w [] = Unit {0}
JointFits w (s ∷ ss) = StepFits w s × JointFits (stepped w s) ss

-- What a step's call tells at a moment, as C gets it: number, figure and bytes of records. A unit's call is the exported one of its request.
unfoldable pub told_in : World → Step → Reply
told_in w (acts a) = answer_of w a
told_in w (sets_table writer rows batch) = told_by (set_call (lent_in w batch) writer rows)
told_in w (pump_event writer pump e batch) = told_by (pump_call (lent_in w batch) writer pump e)
told_in w (alarm_event writer e batch) = told_by (alarm_call (lent_in w batch) writer e)

-- a done call, and its ticket [S-87]
abbrev pub IsDone : World → Step → Type 0
IsDone w s = (told_in w s).code ≡ 0

abbrev pub ticket_of : World → Step → ℕ
ticket_of w s = (told_in w s).figure

-- A done event is the last of its list. [S-87]
abbrev pub DoneIsLast : Type 0
DoneIsLast =
    (groups homes : ℕ) (f : Formatting groups homes) (before : List Step) (s : Step) (d : Done) → JointAllowed (after_format f) (before ++ (s ∷ [])) →
    note_of s ≡ some d → IsDone (ran (after_format f) before) s →
    notes (after_format f) (before ++ (s ∷ [])) ≡ notes (after_format f) before ++ (some d ∷ [])

-- Once its ticket is confirmed no cut takes it: however the history goes on, the list's front up to it stays.
abbrev pub NoCut : Step → Type 0
NoCut (acts (plain (call c))) = Unit {0}
NoCut (acts (plain (crash passed chosen))) = ⊥
NoCut (acts (transacts writer home blocks batch)) = Unit {0}
NoCut (acts (fetches writer home blocks)) = Unit {0}
NoCut (acts (revises writer home blocks)) = Unit {0}
NoCut (sets_table writer rows batch) = Unit {0}
NoCut (pump_event writer pump e batch) = Unit {0}
NoCut (alarm_event writer e batch) = Unit {0}

abbrev pub NoCuts : List Step → Type 0
NoCuts [] = Unit {0}
NoCuts (s ∷ ss) = NoCut s × NoCuts ss

abbrev pub confirms : Step
confirms = acts (plain (call confirm))

-- [S-87]
abbrev pub ConfirmedStays : Type 0
ConfirmedStays =
    (groups homes : ℕ) (f : Formatting groups homes) (before : List Step) (s : Step) (between later : List Step) (d : Done) →
    JointAllowed (after_format f) (before ++ (s ∷ (between ++ (confirms ∷ later)))) → note_of s ≡ some d →
    let w : World = ran (after_format f) before in
    let v : World = ran (stepped w s) between in
    IsDone w s → NoCuts between → (ends v confirm).code ≡ 0 → ticket_of w s ≤ (ends v confirm).figure →
    take (suc (length (notes (after_format f) before))) (notes (after_format f) (before ++ (s ∷ (between ++ (confirms ∷ later)))))
    ≡ notes (after_format f) before ++ (some d ∷ [])
