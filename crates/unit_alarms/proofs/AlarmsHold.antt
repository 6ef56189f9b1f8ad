-- Alarms in every history. Assumes nothing.
use Prim.Native.Nat.{ℕ, ◌*◌}
use mathlib.Core.Path.{◌≡◌, refl, ◌∙◌, subst}
use mathlib.Core.Bool.{true}
use mathlib.Core.List.{List}
use mathlib.Core.Option.{Option}
use native.Mathlib.Omega.{arith}
use Rattle.model.specs.Bytes.{zeros}
use Rattle.model.specs.History.{World, after_format}
use Rattle.unit_events.specs.Homes.{alarm_home}
use Rattle.unit_events.specs.Offered.{held_after}
use Rattle.unit_events.specs.Folded.{noted, offers, ran, notes, stepped, Folded, Recorded}
use Rattle.unit_events.proofs.FoldedHolds.{events-folded}
use Rattle.unit_shared.specs.Unit.{as_judged as judges, event}
use Rattle.unit_shared.specs.Moments.{lent_in, Leaves}
use Rattle.unit_shared.proofs.MomentLaws.{event-stands}
use Rattle.unit_shared.proofs.MomentShown.{shown-there, first-there, kept_there, event-alike}
use Rattle.unit_alarms_list.specs.Events.{Event, arrival, clearing, settled, applied}
use Rattle.unit_alarms_list.specs.Guarantees.{answer_by, held_with, Represents, Typed}
use Rattle.unit_alarms_list.specs.Stored.{judged}
use Rattle.unit_alarms_list.proofs.StoredHolds.{filling, alarms-recorded}
use Rattle.unit_alarms.specs.Calls.{judge, arrive_call, clear_call}
use Rattle.unit_alarms.specs.Claims.{event_call}
use Rattle.unit_alarms.specs.Histories.{in_range, AlarmsAt, AlarmsKept}
use Rattle.unit_alarms.proofs.Claimed.{claimed}

-- the call of an event of a known class is an event of the unit
pub asked_is : (w : World) (writer : ℕ) (e : Event) (batch : List ℕ) → in_range e ≡ true
    → event (lent_in w batch) writer alarm_home 6 (judge e) ≡ event_call (lent_in w batch) writer e
unfolding in_range event_call arrive_call clear_call
asked_is w writer (arrival a) batch i = rw i
asked_is w writer (clearing identity) batch i = refl

pub judged-alike : (w : World) (writer : ℕ) (e : Event) (batch : List ℕ)
    → event (lent_in w batch) writer alarm_home 6 (λ b. judges (judged b e) (held_with b e)) ≡ event (lent_in w batch) writer alarm_home 6 (judge e)
unfolding judge judged held_with applied settled
judged-alike w writer e batch =
    event-alike (lent_in w batch) writer alarm_home 6 (λ b. judges (judged b e) (held_with b e)) (judge e) (λ b. refl) (λ b z. rw z)

module _ (w : World) (ns : List (Option Event)) (ready : w.ready ≡ true)
    (f : Folded alarm_home 6 judged held_with Typed w ns) (r : Recorded alarm_home 6 judged held_with Typed answer_by Represents w ns) where
  abbrev held : List ℕ
  held = held_after held_with (zeros (64 * 6)) (noted ns)

  pub alarms-at : AlarmsAt w (noted ns)
  alarms-at =
      record {
        blocks = held;
        claim = λ writer batch. claimed (lent_in w batch) writer (noted ns) held
            (kept_there alarm_home 6 judged held_with Typed w ns f answer_by Represents r) (shown-there alarm_home 6 judged held_with Typed w ns f ready writer batch)
            (first-there alarm_home 6 judged held_with Typed w ns f ready writer 1 batch (omega arith));
        stands = λ writer e batch i. subst (Leaves w (stepped alarm_home 6 judged held_with w (offers writer e batch)))
            (judged-alike w writer e batch ∙ asked_is w writer e batch i)
            (event-stands alarm_home 6 judged held_with w writer e batch).leaves;
      }

pub alarms-kept : AlarmsKept
alarms-kept groups homes d f ss ok s ready =
    alarms-at (ran alarm_home 6 judged held_with (after_format f) ss) (notes alarm_home 6 judged held_with (after_format f) ss) ready
    (events-folded alarm_home 6 judged held_with Typed (omega arith) filling groups homes (omega arith) f ss ok s)
    (alarms-recorded groups homes (omega arith) f ss ok s)
