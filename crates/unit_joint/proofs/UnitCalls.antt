-- What a unit's call comes to: what it asks before its transaction, the transact by which it stores, and what it tells. Assumes nothing.
use Prim.Native.Nat.{ℕ, zero, suc, ◌*◌}
use mathlib.Core.Path.{◌≡◌, refl, sym, ap, ◌∙◌}
use mathlib.Core.Bool.{Bool, true, false, cond}
use mathlib.Core.List.{List, []}
use mathlib.Core.Option.{some}
use native.Mathlib.Omega.{arith}
use lib.Dec.{eqb, leb}
use borrow.Author.Tests.{ne_eqb, leb-true}
use Rattle.model.specs.Bytes.{zeros}
use Rattle.model.specs.Calls.{Outcome}
use Rattle.model.specs.History.{World, lent}
use Rattle.acts.specs.Units.{transact_ends, revise_ends}
use Rattle.abstract_store.specs.Store.{Reply, reply_of}
use Rattle.unit_events.specs.Homes.{table_home, table_homes, pump_home, alarm_home, alarm_homes}
use Rattle.unit_events.specs.Folded.{first, read_for, event_answer}
use Rattle.unit_shared.specs.Unit.{UnitOutcome, Judged, as_judged, untouched, left_under, revised, transacted, stored, after_reading, event}
use Rattle.unit_shared.specs.Moments.{lent_in}
use Rattle.unit_shared.specs.Replies.{told_by}
use Rattle.unit_bands_table.specs.Judge.{judgement}
use Rattle.unit_bands_table.specs.Stored as table
use Rattle.unit_bands.specs.Calls.{accepted, set_call}
use Rattle.unit_hours_book.specs.Events.{Event as PumpEvent}
use Rattle.unit_hours_book.specs.Guarantees as hours
use Rattle.unit_hours_book.specs.Stored as pumps
use Rattle.unit_hours.specs.Calls.{known, event_call as pump_call}
use Rattle.unit_hours.proofs.BookHolds.{call-is}
use Rattle.unit_alarms_list.specs.Events.{Event as AlarmEvent, arrival, clearing}
use Rattle.unit_alarms_list.specs.Guarantees as alarms
use Rattle.unit_alarms_list.specs.Stored as panel
use Rattle.unit_alarms.specs.Calls.{arrive_call}
use Rattle.unit_alarms.specs.Claims.{event_call as alarm_call}
use Rattle.unit_alarms.specs.Histories.{in_range}
use Rattle.unit_alarms.proofs.AlarmsHold.{asked_is, judged-alike}
use Rattle.unit_joint.specs.Joint.{Step, acts, sets_table, pump_event, alarm_event, Done, note_of, told_in}

-- what a unit's call asks before its transaction
unfoldable pub asks : World → Step → ℕ
asks w (acts a) = 0
asks w (sets_table writer rows batch) = 0
asks w (pump_event writer pump e batch) = event_answer (pump_home pump) 1 pumps.judged hours.held_with w writer e
asks w (alarm_event writer e batch) = event_answer alarm_home alarm_homes panel.judged alarms.held_with w writer e

-- its writer, home and blocks
unfoldable pub writer_of : Step → ℕ
writer_of (acts a) = 0
writer_of (sets_table writer rows batch) = writer
writer_of (pump_event writer pump e batch) = writer
writer_of (alarm_event writer e batch) = writer

unfoldable pub home_of : Step → ℕ
home_of (acts a) = 0
home_of (sets_table writer rows batch) = table_home
home_of (pump_event writer pump e batch) = pump_home pump
home_of (alarm_event writer e batch) = alarm_home

unfoldable pub blocks_of : World → Step → List ℕ
blocks_of w (acts a) = []
blocks_of w (sets_table writer rows batch) = table.stored (zeros (64 * table_homes)) rows
blocks_of w (pump_event writer pump e batch) = hours.held_with (read_for (pump_home pump) 1 pumps.judged hours.held_with w writer).block e
blocks_of w (alarm_event writer e batch) = alarms.held_with (read_for alarm_home alarm_homes panel.judged alarms.held_with w writer).block e

unfoldable pub batch_of : Step → List ℕ
batch_of (acts a) = []
batch_of (sets_table writer rows batch) = batch
batch_of (pump_event writer pump e batch) = batch
batch_of (alarm_event writer e batch) = batch

abbrev pub storing_ends : World → Step → Outcome
storing_ends w s = transact_ends w (writer_of s) (home_of s) (blocks_of w s) (batch_of s)

-- ---- an event: refused by what it asks, or its transact

pub transact-told : (w : World) (writer home : ℕ) (blocks batch : List ℕ)
    → told_by (transacted (lent_in w batch) writer home blocks) ≡ reply_of (transact_ends w writer home blocks batch)
unfolding told_by transacted left_under transact_ends lent reply_of
transact-told w writer home blocks batch = refl

pub refusal-code : (w : World) (batch : List ℕ) (code figure : ℕ) → (told_by (untouched (lent_in w batch) code figure)).code ≡ code
unfolding told_by untouched
refusal-code w batch code figure = refl

module _ {E : Type 0} (home n : ℕ) (judge : List ℕ → E → ℕ) (apply : List ℕ → E → List ℕ) (w : World) (writer : ℕ) (e : E) (batch : List ℕ) where
  abbrev o : Outcome
  o = read_for home n judge apply w writer

  abbrev pub rule : List ℕ → Judged
  rule blocks = as_judged (judge blocks e) (apply blocks e)

  abbrev pub call : UnitOutcome
  call = event (lent_in w batch) writer home n rule

  read_first : call ≡ after_reading (lent_in w batch) writer home rule o
  unfolding event revised read_for revise_ends lent
  read_first = refl

  abbrev ending : ℕ → UnitOutcome
  ending k = cond (eqb k 0) (transacted (lent_in w batch) writer home (apply o.block e)) (untouched (lent_in w batch) k 0)

  ending-refused : (k : ℕ) → ending (suc k) ≡ untouched (lent_in w batch) (suc k) 0
  ending-refused k = rw (ne_eqb (suc k) 0 (λ z. omega arith))

  pub event-ends : call ≡ ending (event_answer home n judge apply w writer e)
  event-ends = read_first ∙ go o.code (judge o.block e) refl refl
    where
      go : (c k : ℕ) → o.code ≡ c → judge o.block e ≡ k → after_reading (lent_in w batch) writer home rule o ≡ ending (event_answer home n judge apply w writer e)
      go zero zero h j = unfold after_reading stored event_answer first in rw (h, j)
      go zero (suc k) h j = unfold after_reading stored event_answer first in rw (h, j, ne_eqb (suc k) 0 (λ z. omega arith))
      go (suc c) k h j =
          let v : event_answer home n judge apply w writer e ≡ suc c = (unfold event_answer first in rw (h, ne_eqb (suc c) 0 (λ z. omega arith))) in
          let x : after_reading (lent_in w batch) writer home rule o ≡ untouched (lent_in w batch) (suc c) 0 =
          (unfold after_reading in rw (h, ne_eqb (suc c) 0 (λ z. omega arith))) in
          x ∙ sym (ap ending v ∙ ending-refused c)

  -- a done one
  pub event-done : (told_by call).code ≡ 0
      → (event_answer home n judge apply w writer e ≡ 0) × (told_by call ≡ reply_of (transact_ends w writer home (apply o.block e) batch))
  event-done z = go (event_answer home n judge apply w writer e) refl
    where
      go : (k : ℕ) → event_answer home n judge apply w writer e ≡ k
          → (event_answer home n judge apply w writer e ≡ 0) × (told_by call ≡ reply_of (transact_ends w writer home (apply o.block e) batch))
      go zero h = (h, ap told_by (event-ends ∙ ap ending h) ∙ transact-told w writer home (apply o.block e) batch)
      go (suc k) h =
          let c : told_by call ≡ told_by (untouched (lent_in w batch) (suc k) 0) = ap told_by (event-ends ∙ ap ending h ∙ ending-refused k) in
          absurd (omega (arith, z, ap (λ (x : Reply). x.code) c, refusal-code w batch (suc k) 0))

-- two that are asked the same and transact the same tell the same
pub event-same : {E : Type 0} (home n : ℕ) (judge : List ℕ → E → ℕ) (apply : List ℕ → E → List ℕ) (w v : World) (writer : ℕ) (e : E) (batch : List ℕ)
    → event_answer home n judge apply w writer e ≡ event_answer home n judge apply v writer e
    → reply_of (transact_ends w writer home (apply (read_for home n judge apply w writer).block e) batch)
    ≡ reply_of (transact_ends v writer home (apply (read_for home n judge apply v writer).block e) batch)
    → told_by (call home n judge apply w writer e batch) ≡ told_by (call home n judge apply v writer e batch)
event-same home n judge apply w v writer e batch a t = go (event_answer home n judge apply v writer e) a refl
  where
    refusals : (k : ℕ) → told_by (untouched (lent_in w batch) k 0) ≡ told_by (untouched (lent_in v batch) k 0)
    refusals k = unfold told_by untouched in refl

    go : (k : ℕ) → event_answer home n judge apply w writer e ≡ k → event_answer home n judge apply v writer e ≡ k
        → told_by (call home n judge apply w writer e batch) ≡ told_by (call home n judge apply v writer e batch)
    go zero h j =
        ap told_by (event-ends home n judge apply w writer e batch ∙ ap (ending home n judge apply w writer e batch) h)
        ∙ transact-told w writer home (apply (read_for home n judge apply w writer).block e) batch ∙ t
        ∙ sym (transact-told v writer home (apply (read_for home n judge apply v writer).block e) batch)
        ∙ sym (ap told_by (event-ends home n judge apply v writer e batch ∙ ap (ending home n judge apply v writer e batch) j))
    go (suc k) h j =
        ap told_by (event-ends home n judge apply w writer e batch ∙ ap (ending home n judge apply w writer e batch) h ∙ ending-refused home n judge apply w writer e batch k)
        ∙ refusals (suc k)
        ∙ sym (ap told_by (event-ends home n judge apply v writer e batch ∙ ap (ending home n judge apply v writer e batch) j ∙ ending-refused home n judge apply v writer e batch k))

-- ---- the exported calls

-- of a pump's event: 14, or the event
pub pump-known : (w : World) (writer pump : ℕ) (e : PumpEvent) (batch : List ℕ) → leb pump 7 ≡ true
    → pump_call (lent_in w batch) writer pump e ≡ call (pump_home pump) 1 pumps.judged hours.held_with w writer e batch
pump-known w writer pump e batch l = sym (call-is w pump writer e batch (leb-true pump 7 l))

pub pump-unknown : (w : World) (writer pump : ℕ) (e : PumpEvent) (batch : List ℕ) → leb pump 7 ≡ false
    → pump_call (lent_in w batch) writer pump e ≡ untouched (lent_in w batch) 14 0
unfolding pump_call known
pump-unknown w writer pump e batch l = rw l

-- of an alarm's: 24 for its class, or the event
pub alarm-known : (w : World) (writer : ℕ) (e : AlarmEvent) (batch : List ℕ) → in_range e ≡ true
    → alarm_call (lent_in w batch) writer e ≡ call alarm_home alarm_homes panel.judged alarms.held_with w writer e batch
alarm-known w writer e batch i = sym (judged-alike w writer e batch ∙ asked_is w writer e batch i)

pub alarm-unknown : (w : World) (writer : ℕ) (e : AlarmEvent) (batch : List ℕ) → in_range e ≡ false
    → alarm_call (lent_in w batch) writer e ≡ untouched (lent_in w batch) 24 0
unfolding in_range alarm_call arrive_call
alarm-unknown w writer (arrival a) batch i = rw i
alarm-unknown w writer (clearing identity) batch i = absurd (let z : ◌≡◌ {A = ℕ} 0 1 = cc in omega arith)

-- of a table: by its rows, or its transaction
pub table-known : (w : World) (writer : ℕ) (rows batch : List ℕ) → (judgement rows).code ≡ 0
    → set_call (lent_in w batch) writer rows ≡ transacted (lent_in w batch) writer table_home (table.stored (zeros (64 * table_homes)) rows)
unfolding set_call accepted table.stored
table-known w writer rows batch z = rw z

pub table-unknown : (w : World) (writer : ℕ) (rows batch : List ℕ) (k : ℕ) → (judgement rows).code ≡ suc k
    → set_call (lent_in w batch) writer rows ≡ untouched (lent_in w batch) (suc k) (judgement rows).millimetre
unfolding set_call accepted
table-unknown w writer rows batch k z = rw (z, ne_eqb (suc k) 0 (λ y. omega arith))

-- a refusal is not done
not_done : (w : World) (batch : List ℕ) (l : UnitOutcome) (k figure : ℕ) → l ≡ untouched (lent_in w batch) (suc k) figure → (told_by l).code ≡ 0 → ⊥
not_done w batch l k figure e z = omega (arith, z, ap (λ (x : UnitOutcome). (told_by x).code) e, refusal-code w batch (suc k) figure)

pub record DoneBy (w : World) (s : Step) : Type 0 where
  pub asked : asks w s ≡ 0
  pub told : told_in w s ≡ reply_of (storing_ends w s)

-- a done call of a unit is asked nothing that refuses it, and tells what its transact does
pub done-by : (w : World) (s : Step) (d : Done) → note_of s ≡ some d → (told_in w s).code ≡ 0 → DoneBy w s
unfolding note_of told_in asks writer_of home_of blocks_of batch_of
done-by w (acts a) d q z = absurd (let y : ◌≡◌ {A = ℕ} 0 1 = cc in omega arith)
done-by w (sets_table v rows batch) d q z = go (judgement rows).code refl
  where
    go : (k : ℕ) → (judgement rows).code ≡ k → DoneBy w (sets_table v rows batch)
    go zero h = record { asked = refl; told = ap told_by (table-known w v rows batch h) ∙ transact-told w v table_home (table.stored (zeros (64 * table_homes)) rows) batch }
    go (suc k) h = absurd (not_done w batch (set_call (lent_in w batch) v rows) k (judgement rows).millimetre (table-unknown w v rows batch k h) z)
done-by w (pump_event v pump e batch) d q z = go (leb pump 7) refl
  where
    go : (b : Bool) → leb pump 7 ≡ b → DoneBy w (pump_event v pump e batch)
    go true l =
        let c = ap told_by (pump-known w v pump e batch l) in
        let k = event-done (pump_home pump) 1 pumps.judged hours.held_with w v e batch (sym (ap (λ (x : Reply). x.code) c) ∙ z) in
        record { asked = k.0; told = c ∙ k.1 }
    go false l = absurd (not_done w batch (pump_call (lent_in w batch) v pump e) 13 0 (pump-unknown w v pump e batch l) z)
done-by w (alarm_event v e batch) d q z = go (in_range e) refl
  where
    go : (b : Bool) → in_range e ≡ b → DoneBy w (alarm_event v e batch)
    go true l =
        let c = ap told_by (alarm-known w v e batch l) in
        let k = event-done alarm_home alarm_homes panel.judged alarms.held_with w v e batch (sym (ap (λ (x : Reply). x.code) c) ∙ z) in
        record { asked = k.0; told = c ∙ k.1 }
    go false l = absurd (not_done w batch (alarm_call (lent_in w batch) v e) 23 0 (alarm-unknown w v e batch l) z)
