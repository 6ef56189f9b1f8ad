-- What the calls on pumps answer in every history. Assumes nothing.
use Prim.Native.Nat.{ℕ, zero, suc, ◌+◌, ◌*◌, ◌≤◌, ◌<◌}
use mathlib.Core.Path.{◌≡◌, ap, ◌∙◌}
use mathlib.Core.Bool.{true}
use mathlib.Core.Logic.{◌≢◌}
use mathlib.Core.List.{List, []}
use native.Mathlib.Omega.{arith}
use borrow.Author.Tests.{le-leb, lt-leb}
use lib.ListN.{length}
use Rattle.model.specs.Questions.{ask}
use Rattle.model.specs.Bytes.{zeros}
use Rattle.model.specs.History.{World, Formatting, after_format}
use Rattle.abstract_store.specs.Store.{Store}
use Rattle.unit_events.specs.Homes.{pump_home}
use Rattle.unit_events.specs.Offered.{held_after}
use Rattle.unit_events.specs.Folded.{Step, noted, ran, notes, AllStepsAllowed, SparedBySteps}
use Rattle.unit_events.proofs.FoldedHolds.{events-folded}
use Rattle.unit_shared.specs.Unit.{fetched, revised}
use Rattle.unit_shared.specs.Moments.{lent_in}
use Rattle.unit_shared.specs.Replies.{ask_read, told_by, Answered, store_next_to}
use Rattle.unit_shared.proofs.MomentShown.{shown-there, kept_there}
use Rattle.unit_shared.proofs.RepliesHold.{EventEnds, fetched-code, event-told, told-refused, few-unread, few-unfetched, answered-there}
use Rattle.unit_hours_book.specs.Events.{Event}
use Rattle.unit_hours_book.specs.Guarantees.{answer_by, held_with, Represents, Timed}
use Rattle.unit_hours_book.specs.Stored.{judged}
use Rattle.unit_hours_book.proofs.StoredHolds.{filling, hours-recorded}
use Rattle.unit_hours.specs.Calls.{judge, event_call, hours_told, services_told, hours_call, services_call}
use Rattle.unit_hours.specs.Claims.{Claim}
use Rattle.unit_hours.specs.Answers.{event_reply, hours_answered, hours_reply, services_answered, services_reply, PumpAnswers, HoursAnswer}
use Rattle.unit_hours.proofs.RefusalsHold.{refusals-on-pumps}
use Rattle.unit_hours.proofs.Claimed.{recording, claimed}

-- ---- a pump that there is

module _ (w : World) (s : Store) (m : Answered w s) (es : List Event) (pump : ℕ) (p : pump ≤ 7) (block : List ℕ)
    (claim : (writer : ℕ) (batch : List ℕ) → Claim (lent_in w batch) writer pump es block)
    (sized : (writer : ℕ) (batch : List ℕ) → (revised (lent_in w batch) writer (pump_home pump) 1).code ≡ 0 → (e : Event) → Timed e → answer_by es e ≡ 0
    → length (judge e block).blocks ≡ 64) where
  event-ends : (writer : ℕ) (e : Event) (batch : List ℕ) → Timed e
      → EventEnds w batch writer (pump_home pump) 1 (answer_by es e) (event_call (lent_in w batch) writer pump e)
  event-ends writer e batch t =
      let r = refusals-on-pumps (lent_in w batch) writer pump in
      let c = claim writer batch in
      record {
        unread = r.unread p e;
        refusal = r.refusal e;
        refused = c.refused e t;
        stored = λ z h. ((judge e block).blocks, (sized writer batch z e t h, c.stored e t z h));
      }

  event-reply : (writer : ℕ) (e : Event) (batch : List ℕ) → Timed e → told_by (event_call (lent_in w batch) writer pump e) ≡ event_reply s es writer pump e batch
  unfolding event_reply
  event-reply writer e batch t =
      rw (le-leb pump 7 p) (event-told w s m writer (pump_home pump) 1 (omega arith) (omega arith) batch (answer_by es e) _ (event-ends writer e batch t))

  read-code : (writer : ℕ) (batch : List ℕ) → (fetched (lent_in w batch) writer (pump_home pump) 1).code ≡ ask_read s writer (pump_home pump) 1
  read-code writer batch = fetched-code w s m writer (pump_home pump) 1 (omega arith) (omega arith) batch

  hours-reply : (writer : ℕ) (batch : List ℕ) → hours_call (lent_in w batch) writer pump ≡ hours_reply s es writer pump
  unfolding hours_reply hours_answered
  hours-reply writer batch = rw (le-leb pump 7 p) (unfold ask in go (ask_read s writer (pump_home pump) 1) (read-code writer batch))
    where
      go : (k : ℕ) → (fetched (lent_in w batch) writer (pump_home pump) 1).code ≡ k → hours_call (lent_in w batch) writer pump ≡ hours_answered k es
      go zero e = (claim writer batch).hours e
      go (suc k) e =
          (refusals-on-pumps (lent_in w batch) writer pump).hours_unread p (λ z. absurd (omega (arith, e, z))) ∙ ap (λ (x : ℕ). hours_told x 0 0) e

  services-reply : (writer interval : ℕ) (batch : List ℕ) → services_call (lent_in w batch) writer pump interval ≡ services_reply s es writer pump interval
  unfolding services_reply services_answered
  services-reply writer zero batch = unfold ask services_answered in (refusals-on-pumps (lent_in w batch) writer pump).no_interval
  services-reply writer (suc i) batch =
      rw (le-leb 1 (suc i) (omega arith), le-leb pump 7 p) (unfold ask in go (ask_read s writer (pump_home pump) 1) (read-code writer batch))
    where
      go : (k : ℕ) → (fetched (lent_in w batch) writer (pump_home pump) 1).code ≡ k
          → services_call (lent_in w batch) writer pump (suc i) ≡ services_answered k es (suc i)
      go zero e = (claim writer batch).services (suc i) (omega arith) e
      go (suc k) e =
          (refusals-on-pumps (lent_in w batch) writer pump).services_unread p (suc i) (omega arith) (λ z. absurd (omega (arith, e, z)))
          ∙ ap (λ (x : ℕ). services_told x 0 0) e

  pump-answers : PumpAnswers w s es pump
  pump-answers = record { events = event-reply; hours = hours-reply; services = services-reply }

-- ---- a store with too few homes for it

few-answers : (pump : ℕ) → pump ≤ 7 → (w : World) (s : Store) → Answered w s → s.homes < pump_home pump + 1 → (es : List Event) → PumpAnswers w s es pump
few-answers pump p w s m l es =
    let unread : (writer : ℕ) (batch : List ℕ) → (revised (lent_in w batch) writer (pump_home pump) 1).code ≢ 0 =
    λ writer batch. few-unread w s m writer (pump_home pump) 1 (omega arith) (omega arith) l batch in
    let unfetched : (writer : ℕ) (batch : List ℕ) → (fetched (lent_in w batch) writer (pump_home pump) 1).code ≢ 0 =
    λ writer batch. few-unfetched w s m writer (pump_home pump) 1 (omega arith) (omega arith) l batch in
    pump-answers w s m es pump p []
    (λ writer batch. record {
      hours = λ z. absurd (unfetched writer batch z);
      services = λ interval i z. absurd (unfetched writer batch z);
      refused = λ e t z h. absurd (unread writer batch z);
      stored = λ e t z h. absurd (unread writer batch z);
    })
    (λ writer batch z e t h. absurd (unread writer batch z))

-- ---- one that there is not

module _ (pump : ℕ) (p : 7 < pump) (w : World) (s : Store) (es : List Event) where
  no-event : (writer : ℕ) (e : Event) (batch : List ℕ) → Timed e → told_by (event_call (lent_in w batch) writer pump e) ≡ event_reply s es writer pump e batch
  unfolding event_reply
  no-event writer e batch t =
      let r = refusals-on-pumps (lent_in w batch) writer pump in
      rw (lt-leb pump 7 p) (told-refused w batch _ 13 0 0 (r.no_pump p e) (r.refusal e))

  no-hours : (writer : ℕ) (batch : List ℕ) → hours_call (lent_in w batch) writer pump ≡ hours_reply s es writer pump
  unfolding hours_reply
  no-hours writer batch = rw (lt-leb pump 7 p) (unfold ask hours_answered in (refusals-on-pumps (lent_in w batch) writer pump).no_pump_hours p)

  no-services : (writer interval : ℕ) (batch : List ℕ) → services_call (lent_in w batch) writer pump interval ≡ services_reply s es writer pump interval
  unfolding services_reply
  no-services writer zero batch = unfold ask services_answered in (refusals-on-pumps (lent_in w batch) writer pump).no_interval
  no-services writer (suc i) batch =
      rw (le-leb 1 (suc i) (omega arith), lt-leb pump 7 p) (unfold ask services_answered in (refusals-on-pumps (lent_in w batch) writer pump).no_pump_services p (suc i))

-- ---- in the histories of a pump, with any store by which the moment is answered

pub known-with : (pump : ℕ) → pump ≤ 7 → (groups homes : ℕ) → pump_home pump + 1 ≤ homes → (f : Formatting groups homes) (ss : List (Step Event))
    → AllStepsAllowed (pump_home pump) 1 judged held_with (after_format f) ss → SparedBySteps (pump_home pump) 1 judged held_with Timed (after_format f) ss
    → (ran (pump_home pump) 1 judged held_with (after_format f) ss).ready ≡ true → (s : Store) → Answered (ran (pump_home pump) 1 judged held_with (after_format f) ss) s
    → PumpAnswers (ran (pump_home pump) 1 judged held_with (after_format f) ss) s (noted (notes (pump_home pump) 1 judged held_with (after_format f) ss)) pump
known-with pump p groups homes d f ss ok spared ready s m =
    let w : World = ran (pump_home pump) 1 judged held_with (after_format f) ss in
    let ns = notes (pump_home pump) 1 judged held_with (after_format f) ss in
    let g = events-folded (pump_home pump) 1 judged held_with Timed (omega arith) (filling pump) groups homes (omega arith) f ss ok spared in
    let r = hours-recorded pump groups homes (omega arith) f ss ok spared in
    let block : List ℕ = held_after held_with (zeros (64 * 1)) (noted ns) in
    let k : Represents (noted ns) block = kept_there (pump_home pump) 1 judged held_with Timed w ns g answer_by Represents r in
    pump-answers w s m (noted ns) pump p block
    (λ writer batch. claimed (lent_in w batch) writer pump p (noted ns) block k (shown-there (pump_home pump) 1 judged held_with Timed w ns g ready writer batch))
    (λ writer batch z e t h. recording.size block e (recording.answers (noted ns) block e k t ∙ h))

pub hours-answer : HoursAnswer
hours-answer =
    record {
      known = λ pump p groups homes d f ss ok spared ready.
          known-with pump p groups homes d f ss ok spared ready (store_next_to (pump_home pump) 1 judged held_with f ss)
          (answered-there (pump_home pump) 1 judged held_with f ss ok ready);
      few = few-answers;
      unknown = λ pump p w s es. record { events = no-event pump p w s es; hours = no-hours pump p w s es; services = no-services pump p w s es };
    }
