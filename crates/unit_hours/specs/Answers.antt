-- What the calls on pumps answer in every history, number and figures, in terms of the calls before them: of the abstract store `s` and of the pump's
-- events `es` in the book's list.
-- start, stop: 14, 4, 5, 19, 20, 15 or 16, 6, 8, 9, then the ticket. hours: 14, 4, 5, 20, then starts and total. services: 14 for interval 0, then as
-- hours, then services due and seconds left over. 1 and 2 refuse none at a moment of a history.
use Rattle.std.specs.Prelude.{ℕ, zero, suc, ◌+◌, ◌≤◌, ◌<◌, ◌≡◌, true, cond, List, leb}
use Rattle.model.specs.Questions.{ask}
use Rattle.model.specs.History.{World, Formatting, after_format}
use Rattle.abstract_store.specs.Store.{Store, Reply, told}
use Rattle.unit_events.specs.Homes.{pump_home}
use Rattle.unit_events.specs.Folded.{Step, noted, ran, notes, AllStepsAllowed, SparedBySteps}
use Rattle.unit_shared.specs.Moments.{lent_in}
use Rattle.unit_shared.specs.Replies.{ask_read, reply_event, told_by, Answered, store_next_to}
use Rattle.unit_hours_book.specs.Events.{Event}
use Rattle.unit_hours_book.specs.Services.{due}
use Rattle.unit_hours_book.specs.Guarantees.{starts, total, answer_by, held_with, Timed}
use Rattle.unit_hours_book.specs.Stored.{judged}
use Rattle.unit_hours.specs.Calls.{Hours, Services, event_call, hours_told, services_told, due_tells, hours_call, services_call}

unfoldable pub event_reply : Store → List Event → ℕ → ℕ → Event → List ℕ → Reply
event_reply s es writer pump e batch = cond (leb pump 7) (reply_event s writer (pump_home pump) 1 (answer_by es e) batch) (told 14 0 0)

-- a number of 0 tells the figures, any other no figure
unfoldable pub hours_answered : ℕ → List Event → Hours
hours_answered zero es = hours_told 0 (starts es) (total es)
hours_answered (suc k) es = hours_told (suc k) 0 0

unfoldable pub hours_reply : Store → List Event → ℕ → ℕ → Hours
hours_reply s es writer pump = hours_answered (ask (leb pump 7) 14 (ask_read s writer (pump_home pump) 1)) es

unfoldable pub services_answered : ℕ → List Event → ℕ → Services
services_answered zero es interval = due_tells (due (total es) interval)
services_answered (suc k) es interval = services_told (suc k) 0 0

unfoldable pub services_reply : Store → List Event → ℕ → ℕ → ℕ → Services
services_reply s es writer pump interval =
    services_answered (ask (leb 1 interval) 14 (ask (leb pump 7) 14 (ask_read s writer (pump_home pump) 1))) es interval

-- every call on a pump at a moment
pub record PumpAnswers (w : World) (s : Store) (es : List Event) (pump : ℕ) : Type 0 where
  pub events : (writer : ℕ) (e : Event) (batch : List ℕ) → Timed e → told_by (event_call (lent_in w batch) writer pump e) ≡ event_reply s es writer pump e batch
  pub hours : (writer : ℕ) (batch : List ℕ) → hours_call (lent_in w batch) writer pump ≡ hours_reply s es writer pump
  pub services :
      (writer interval : ℕ) (batch : List ℕ) → services_call (lent_in w batch) writer pump interval ≡ services_reply s es writer pump interval

-- At the end of every history of `BookKept`, and so at every moment of it after a done opening. With too few homes for the pump, at every moment at which
-- fetch, revise and transact answer by the store (`ActsAnswer`): 4 or 5, whatever the events are. For a pump above 7, at any moment and with any store.
-- [S-50]
pub record HoursAnswer : Type 0 where
  pub known :
      (pump : ℕ) → pump ≤ 7 → (groups homes : ℕ) → pump_home pump + 1 ≤ homes → (f : Formatting groups homes) (ss : List (Step Event)) →
      AllStepsAllowed (pump_home pump) 1 judged held_with (after_format f) ss → SparedBySteps (pump_home pump) 1 judged held_with Timed (after_format f) ss →
      (ran (pump_home pump) 1 judged held_with (after_format f) ss).ready ≡ true →
      PumpAnswers (ran (pump_home pump) 1 judged held_with (after_format f) ss) (store_next_to (pump_home pump) 1 judged held_with f ss)
      (noted (notes (pump_home pump) 1 judged held_with (after_format f) ss)) pump
  pub few :
      (pump : ℕ) → pump ≤ 7 → (w : World) (s : Store) → Answered w s → s.homes < pump_home pump + 1 → (es : List Event) → PumpAnswers w s es pump
  pub unknown : (pump : ℕ) → 7 < pump → (w : World) (s : Store) (es : List Event) → PumpAnswers w s es pump
