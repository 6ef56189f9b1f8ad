-- What the calls on alarms answer in every history, number and figures, in terms of the calls before them: of the abstract store `s` and of the events
-- `es` in the book's list.
-- arrive: 24 for its class, 4, 5, 19, 20, 24 if it is open, 25, 6, 8, 9, then the ticket. clear: 4, 5, 19, 20, 24 if it is not open, 6, 8, 9, then the
-- ticket. gravest: 4, 5, 20, then the gravest open alarm or three zeros. 1 and 2 refuse none at a moment of a history.
use Rattle.std.specs.Prelude.{ℕ, zero, suc, ◌+◌, ◌≤◌, ◌<◌, ◌≡◌, true, cond, ◌&&◌, List, [], leb}
use Rattle.model.specs.History.{World, Formatting, after_format}
use Rattle.abstract_store.specs.Store.{Store, Reply, told}
use Rattle.unit_events.specs.Homes.{alarm_home, alarm_homes}
use Rattle.unit_events.specs.Folded.{Step, noted, ran, notes, AllStepsAllowed, SparedBySteps}
use Rattle.unit_shared.specs.Moments.{lent_in}
use Rattle.unit_shared.specs.Replies.{ask_read, reply_event, told_by, Answered, store_next_to}
use Rattle.unit_alarms_list.specs.declared.Alarm.{Alarm}
use Rattle.unit_alarms_list.specs.OpenAlarms.{gravest, told as shown}
use Rattle.unit_alarms_list.specs.Events.{Event, arrival, clearing}
use Rattle.unit_alarms_list.specs.Guarantees.{open_by, answer_by, held_with, Typed}
use Rattle.unit_alarms_list.specs.Stored.{judged}
use Rattle.unit_alarms.specs.Calls.{GravestReply, arrive_call, clear_call, alarm_tells, tells, gravest_call}

unfoldable pub arrive_reply : Store → List Event → ℕ → Alarm → List ℕ → Reply
arrive_reply s es writer a batch =
    cond (leb 1 a.class && leb a.class 9) (reply_event s writer alarm_home alarm_homes (answer_by es (arrival a)) batch) (told 24 0 0)

unfoldable pub clear_reply : Store → List Event → ℕ → ℕ → List ℕ → Reply
clear_reply s es writer identity batch = reply_event s writer alarm_home alarm_homes (answer_by es (clearing identity)) batch

-- it is read from the first home alone
unfoldable pub gravest_answered : ℕ → List Event → GravestReply
gravest_answered zero es = alarm_tells (shown (gravest (open_by es)))
gravest_answered (suc k) es = tells (suc k) 0 0 0

unfoldable pub gravest_reply : Store → List Event → ℕ → GravestReply
gravest_reply s es writer = gravest_answered (ask_read s writer alarm_home 1) es

-- every event at a moment, and the gravest
pub record EventAnswers (w : World) (s : Store) (es : List Event) : Type 0 where
  pub arrivals : (writer : ℕ) (a : Alarm) (batch : List ℕ) → Typed (arrival a) → told_by (arrive_call (lent_in w batch) writer a) ≡ arrive_reply s es writer a batch
  pub clearings :
      (writer identity : ℕ) (batch : List ℕ) → Typed (clearing identity) → told_by (clear_call (lent_in w batch) writer identity) ≡ clear_reply s es writer identity batch

abbrev pub GravestAnswers : World → Store → List Event → Type 0
GravestAnswers w s es = (writer : ℕ) (batch : List ℕ) → gravest_call (lent_in w batch) writer ≡ gravest_reply s es writer

pub record AlarmAnswers (w : World) (s : Store) (es : List Event) : Type 0 where
  pub events : EventAnswers w s es
  pub gravests : GravestAnswers w s es

-- At the end of every history of `AlarmsKept`, and so at every moment of it after a done opening. With too few homes for alarms, at every moment at which
-- fetch, revise and transact answer by the store (`ActsAnswer`): events 4 or 5 after the class, whatever came before, and the gravest too if its own home is
-- none of them. If that home is there and one of the others is not (D 25 to 29), no event is ever done, and the gravest is none. [S-50]
pub record AlarmsAnswer : Type 0 where
  pub kept :
      (groups homes : ℕ) → alarm_home + alarm_homes ≤ homes → (f : Formatting groups homes) (ss : List (Step Event)) →
      AllStepsAllowed alarm_home alarm_homes judged held_with (after_format f) ss → SparedBySteps alarm_home alarm_homes judged held_with Typed (after_format f) ss →
      (ran alarm_home alarm_homes judged held_with (after_format f) ss).ready ≡ true →
      AlarmAnswers (ran alarm_home alarm_homes judged held_with (after_format f) ss) (store_next_to alarm_home alarm_homes judged held_with f ss)
      (noted (notes alarm_home alarm_homes judged held_with (after_format f) ss))
  pub few : (w : World) (s : Store) → Answered w s → s.homes < alarm_home + alarm_homes → (es : List Event) → EventAnswers w s es
  pub first :
      (groups homes : ℕ) → alarm_home + 1 ≤ homes → homes < alarm_home + alarm_homes → (f : Formatting groups homes) (ss : List (Step Event)) →
      AllStepsAllowed alarm_home alarm_homes judged held_with (after_format f) ss → SparedBySteps alarm_home alarm_homes judged held_with Typed (after_format f) ss →
      (ran alarm_home alarm_homes judged held_with (after_format f) ss).ready ≡ true →
      GravestAnswers (ran alarm_home alarm_homes judged held_with (after_format f) ss) (store_next_to alarm_home alarm_homes judged held_with f ss) []
  pub none : (w : World) (s : Store) → Answered w s → s.homes < alarm_home + 1 → (es : List Event) → GravestAnswers w s es
