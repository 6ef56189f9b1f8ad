-- What the calls on alarms answer in every history. Assumes nothing.
use Prim.Native.Nat.{ℕ, zero, suc, ◌+◌, ◌*◌, ◌≤◌, ◌<◌}
use mathlib.Core.Path.{◌≡◌, refl, ap, ◌∙◌}
use mathlib.Core.Bool.{Bool, true, false, ◌&&◌}
use mathlib.Core.Logic.{inl, inr, ◌≢◌}
use mathlib.Core.List.{List, []}
use native.Mathlib.Decide.{dec_lt}
use native.Mathlib.Omega.{arith}
use borrow.Author.Tests.{le-leb, lt-leb}
use lib.Dec.{leb}
use lib.ListN.{length}
use Rattle.model.specs.Bytes.{zeros}
use Rattle.model.proofs.examples.Computing.{all-definitions}
use Rattle.model.specs.History.{World, Formatting, after_format}
use Rattle.abstract_store.specs.Store.{Store}
use Rattle.unit_events.specs.Homes.{alarm_home, alarm_homes}
use Rattle.unit_events.specs.Offered.{held_after}
use Rattle.unit_events.specs.Folded.{Step, noted, ran, notes, AllStepsAllowed, SparedBySteps}
use Rattle.unit_events.proofs.FoldedHolds.{events-folded}
use Rattle.unit_shared.specs.Unit.{Lent, untouched, fetched, revised, transacted}
use Rattle.unit_shared.specs.Moments.{lent_in}
use Rattle.unit_shared.specs.Replies.{ask_read, told_by, Answered, store_next_to}
use Rattle.unit_shared.proofs.MomentShown.{shown-there, first-there, kept_there}
use Rattle.unit_shared.proofs.RepliesHold.{EventEnds, fetched-code, event-told, told-refused, few-unread, few-unfetched, answered-there}
use Rattle.unit_alarms_list.specs.declared.Alarm.{Alarm}
use Rattle.unit_alarms_list.specs.Alarm.{alarm_at}
use Rattle.unit_alarms_list.specs.OpenAlarms.{gravest, told as shown, gravest_kept}
use Rattle.unit_alarms_list.specs.Events.{Event, arrival, clearing}
use Rattle.unit_alarms_list.specs.Guarantees.{open_by, answer_by, held_with, Represents, Typed}
use Rattle.unit_alarms_list.specs.Stored.{judged}
use Rattle.unit_alarms_list.proofs.StoredHolds.{filling, alarms-recorded}
use Rattle.unit_alarms.specs.Calls.{judge, arrive_call, clear_call, alarm_tells, tells, gravest_in, gravest_call}
use Rattle.unit_alarms.specs.Claims.{event_call, Claim}
use Rattle.unit_alarms.specs.Answers.{arrive_reply, clear_reply, gravest_answered, gravest_reply, EventAnswers, GravestAnswers, AlarmAnswers, AlarmsAnswer}
use Rattle.unit_alarms.proofs.FewHomes.{zeros-there}
use Rattle.unit_alarms.proofs.RefusalsHold.{refusals-on-alarms}
use Rattle.unit_alarms.proofs.Claimed.{recording, claimed}

-- ---- events

-- blocks that fill the homes, and the call that stores them
abbrev Stores : World → ℕ → List ℕ → Event → Type 0
Stores w writer batch e =
    (blocks : List ℕ) × ((length blocks ≡ 64 * alarm_homes) × (event_call (lent_in w batch) writer e ≡ transacted (lent_in w batch) writer alarm_home blocks))

module _ (w : World) (s : Store) (m : Answered w s) (es : List Event)
    (refused : (writer : ℕ) (batch : List ℕ) (e : Event) → Typed e → (revised (lent_in w batch) writer alarm_home alarm_homes).code ≡ 0 → answer_by es e ≢ 0
    → event_call (lent_in w batch) writer e ≡ untouched (lent_in w batch) (answer_by es e) 0)
    (stored : (writer : ℕ) (batch : List ℕ) (e : Event) → Typed e → (revised (lent_in w batch) writer alarm_home alarm_homes).code ≡ 0 → answer_by es e ≡ 0
    → Stores w writer batch e) where
  arrival-ends : (writer : ℕ) (a : Alarm) (batch : List ℕ) → Typed (arrival a) → 1 ≤ a.class → a.class ≤ 9
      → EventEnds w batch writer alarm_home alarm_homes (answer_by es (arrival a)) (arrive_call (lent_in w batch) writer a)
  unfolding event_call
  arrival-ends writer a batch t low high =
      let r = refusals-on-alarms (lent_in w batch) writer in
      record {
        unread = r.arrival_unread a low high;
        refusal = r.arrival a;
        refused = refused writer batch (arrival a) t;
        stored = stored writer batch (arrival a) t;
      }

  arrive-known : (writer : ℕ) (a : Alarm) (batch : List ℕ) → Typed (arrival a) → 1 ≤ a.class → a.class ≤ 9
      → told_by (arrive_call (lent_in w batch) writer a) ≡ arrive_reply s es writer a batch
  unfolding arrive_reply
  arrive-known writer a batch t low high =
      rw (le-leb 1 a.class low, le-leb a.class 9 high)
      (event-told w s m writer alarm_home alarm_homes (omega arith) (omega arith) batch (answer_by es (arrival a)) _ (arrival-ends writer a batch t low high))

  never : (b : Bool) → b && false ≡ false
  never true = refl
  never false = refl

  arrive-reply : (writer : ℕ) (a : Alarm) (batch : List ℕ) → Typed (arrival a) → told_by (arrive_call (lent_in w batch) writer a) ≡ arrive_reply s es writer a batch
  unfolding arrive_reply
  arrive-reply writer a batch t = go (dec_lt a.class 1) (dec_lt 9 a.class)
    where
      go : Dec (a.class < 1) → Dec (9 < a.class) → told_by (arrive_call (lent_in w batch) writer a) ≡ arrive_reply s es writer a batch
      go (yes l) h =
          let r = refusals-on-alarms (lent_in w batch) writer in
          rw (lt-leb 1 a.class l) (told-refused w batch _ 23 0 0 (r.no_class a (inl l)) (r.arrival a))
      go (no l) (yes h) =
          let r = refusals-on-alarms (lent_in w batch) writer in
          rw (lt-leb a.class 9 h, never (leb 1 a.class)) (told-refused w batch _ 23 0 0 (r.no_class a (inr h)) (r.arrival a))
      go (no l) (no h) = arrive-known writer a batch t (omega arith) (omega arith)

  clearing-ends : (writer identity : ℕ) (batch : List ℕ) → Typed (clearing identity)
      → EventEnds w batch writer alarm_home alarm_homes (answer_by es (clearing identity)) (clear_call (lent_in w batch) writer identity)
  unfolding event_call
  clearing-ends writer identity batch t =
      let r = refusals-on-alarms (lent_in w batch) writer in
      record {
        unread = r.clearing_unread identity;
        refusal = r.clearing identity;
        refused = refused writer batch (clearing identity) t;
        stored = stored writer batch (clearing identity) t;
      }

  clear-reply : (writer identity : ℕ) (batch : List ℕ) → Typed (clearing identity)
      → told_by (clear_call (lent_in w batch) writer identity) ≡ clear_reply s es writer identity batch
  unfolding clear_reply
  clear-reply writer identity batch t =
      event-told w s m writer alarm_home alarm_homes (omega arith) (omega arith) batch (answer_by es (clearing identity)) _ (clearing-ends writer identity batch t)

  event-answers : EventAnswers w s es
  event-answers = record { arrivals = arrive-reply; clearings = clear-reply }

-- ---- the gravest

gravest-reply : (w : World) (s : Store) → Answered w s → (es : List Event)
    → ((writer : ℕ) (batch : List ℕ) → (fetched (lent_in w batch) writer alarm_home 1).code ≡ 0 → gravest_call (lent_in w batch) writer ≡ alarm_tells (shown (gravest (open_by es))))
    → GravestAnswers w s es
unfolding gravest_reply gravest_answered
gravest-reply w s m es tells_by writer batch = go (ask_read s writer alarm_home 1) (fetched-code w s m writer alarm_home 1 (omega arith) (omega arith) batch)
  where
    go : (n : ℕ) → (fetched (lent_in w batch) writer alarm_home 1).code ≡ n → gravest_call (lent_in w batch) writer ≡ gravest_answered n es
    go zero e = tells_by writer batch e
    go (suc n) e =
        (refusals-on-alarms (lent_in w batch) writer).gravest_unread (λ z. absurd (omega (arith, e, z))) ∙ ap (λ (x : ℕ). tells x 0 0 0) e

-- a home of zeros says that none is open
zeros-none : gravest_kept (zeros 64) ≡ shown (gravest (open_by []))
unfolding all-definitions gravest_kept alarm_at shown gravest open_by
zeros-none = refl

none_open : (l : Lent) (writer : ℕ) → (fetched l writer alarm_home 1).code ≡ 0 → (fetched l writer alarm_home 1).block ≡ zeros 64
    → gravest_call l writer ≡ alarm_tells (shown (gravest (open_by [])))
unfolding gravest_call gravest_in
none_open l writer z b = rw (z, b, zeros-none)

-- ---- in the histories of alarms, with any store by which the moment is answered

pub kept-with : (groups homes : ℕ) → alarm_home + alarm_homes ≤ homes → (f : Formatting groups homes) (ss : List (Step Event))
    → AllStepsAllowed alarm_home alarm_homes judged held_with (after_format f) ss → SparedBySteps alarm_home alarm_homes judged held_with Typed (after_format f) ss
    → (ran alarm_home alarm_homes judged held_with (after_format f) ss).ready ≡ true → (s : Store)
    → Answered (ran alarm_home alarm_homes judged held_with (after_format f) ss) s
    → AlarmAnswers (ran alarm_home alarm_homes judged held_with (after_format f) ss) s (noted (notes alarm_home alarm_homes judged held_with (after_format f) ss))
kept-with groups homes d f ss ok spared ready s m =
    let w : World = ran alarm_home 6 judged held_with (after_format f) ss in
    let ns = notes alarm_home 6 judged held_with (after_format f) ss in
    let g = events-folded alarm_home 6 judged held_with Typed (omega arith) filling groups homes (omega arith) f ss ok spared in
    let r = alarms-recorded groups homes (omega arith) f ss ok spared in
    let blocks : List ℕ = held_after held_with (zeros (64 * 6)) (noted ns) in
    let k : Represents (noted ns) blocks = kept_there alarm_home 6 judged held_with Typed w ns g answer_by Represents r in
    let c : (writer : ℕ) (batch : List ℕ) → Claim (lent_in w batch) writer (noted ns) blocks =
    λ writer batch. claimed (lent_in w batch) writer (noted ns) blocks k (shown-there alarm_home 6 judged held_with Typed w ns g ready writer batch)
    (first-there alarm_home 6 judged held_with Typed w ns g ready writer 1 batch (omega arith)) in
    record {
      events = event-answers w s m (noted ns) (λ writer batch e t z h. (c writer batch).refused e t z h)
          (λ writer batch e t z h. ((judge e blocks).blocks, (recording.size blocks e (recording.answers (noted ns) blocks e k t ∙ h), (c writer batch).stored e t z h)));
      gravests = gravest-reply w s m (noted ns) (λ writer batch z. (c writer batch).tells z);
    }

-- ---- with a store that has too few homes for them

few-answers : (w : World) (s : Store) → Answered w s → s.homes < alarm_home + alarm_homes → (es : List Event) → EventAnswers w s es
few-answers w s m l es =
    let unread : (writer : ℕ) (batch : List ℕ) → (revised (lent_in w batch) writer alarm_home alarm_homes).code ≢ 0 =
    λ writer batch. few-unread w s m writer alarm_home alarm_homes (omega arith) (omega arith) l batch in
    event-answers w s m es (λ writer batch e t z h. absurd (unread writer batch z)) (λ writer batch e t z h. absurd (unread writer batch z))

none_answers : (w : World) (s : Store) → Answered w s → s.homes < alarm_home + 1 → (es : List Event) → GravestAnswers w s es
none_answers w s m l es =
    gravest-reply w s m es (λ writer batch z. absurd (few-unfetched w s m writer alarm_home 1 (omega arith) (omega arith) l batch z))

-- with a home for the gravest and too few for events
first-answers : (groups homes : ℕ) → alarm_home + 1 ≤ homes → homes < alarm_home + alarm_homes → (f : Formatting groups homes) (ss : List (Step Event))
    → AllStepsAllowed alarm_home alarm_homes judged held_with (after_format f) ss → SparedBySteps alarm_home alarm_homes judged held_with Typed (after_format f) ss
    → (ran alarm_home alarm_homes judged held_with (after_format f) ss).ready ≡ true
    → GravestAnswers (ran alarm_home alarm_homes judged held_with (after_format f) ss) (store_next_to alarm_home alarm_homes judged held_with f ss) []
first-answers groups homes one few f ss ok spared ready =
    let w : World = ran alarm_home alarm_homes judged held_with (after_format f) ss in
    let s : Store = store_next_to alarm_home alarm_homes judged held_with f ss in
    gravest-reply w s (answered-there alarm_home alarm_homes judged held_with f ss ok ready) []
    (λ writer batch z. none_open (lent_in w batch) writer z (zeros-there f few one ss ok spared ready writer batch z))

pub alarms-answer : AlarmsAnswer
alarms-answer =
    record {
      kept = λ groups homes d f ss ok spared ready.
          kept-with groups homes d f ss ok spared ready (store_next_to alarm_home 6 judged held_with f ss) (answered-there alarm_home 6 judged held_with f ss ok ready);
      few = few-answers;
      first = first-answers;
      none = none_answers;
    }
