-- What the calls on alarms answer for every input. Assumes nothing.
use Prim.Native.Nat.{ℕ, ◌≤◌, ◌<◌}
use mathlib.Core.Path.{◌≡◌, refl}
use mathlib.Core.Bool.{Bool, true, false, cond, ◌&&◌}
use mathlib.Core.Logic.{◌≢◌, ◌⊎◌, inl, inr}
use lib.Dec.{leb}
use borrow.Author.Tests.{ne_eqb, le-leb, lt-leb}
use Rattle.unit_events.specs.Homes.{alarm_home, alarm_homes}
use Rattle.unit_shared.specs.Unit.{Lent, untouched, fetched, revised, after_reading, event}
use Rattle.unit_shared.specs.Refusals.{Refusal}
use Rattle.unit_shared.proofs.RefusalsHold.{untouched-refuses, unit-refusals}
use Rattle.unit_alarms_list.specs.Alarm.{class_known}
use Rattle.unit_alarms_list.specs.declared.Alarm.{Alarm}
use Rattle.unit_alarms_list.specs.Events.{arrival, clearing}
use Rattle.unit_alarms.specs.Calls.{judge, arrive_call, clear_call, tells, gravest_in, gravest_call}
use Rattle.unit_alarms.specs.Refusals.{RefusalsOnAlarms}

never : (b : Bool) → b && false ≡ false
never true = refl
never false = refl

unknown : (class : ℕ) → (class < 1) ⊎ (9 < class) → class_known class ≡ false
unfolding class_known
unknown class (inl low) = rw (lt-leb 1 class low)
unknown class (inr high) = rw (lt-leb class 9 high) (never (leb 1 class))

module _ (l : Lent) (writer : ℕ) where
  no-class : (a : Alarm) → (a.class < 1) ⊎ (9 < a.class) → (arrive_call l writer a).code ≡ 24
  unfolding arrive_call untouched
  no-class a h = rw (unknown a.class h)

  arrival-unread : (a : Alarm) → 1 ≤ a.class → a.class ≤ 9 → (revised l writer alarm_home alarm_homes).code ≢ 0
      → (arrive_call l writer a).code ≡ (revised l writer alarm_home alarm_homes).code
  unfolding arrive_call class_known event after_reading untouched
  arrival-unread a low high n =
      rw (le-leb 1 a.class low, le-leb a.class 9 high, ne_eqb (revised l writer alarm_home alarm_homes).code 0 n)

  clearing-unread : (identity : ℕ) → (revised l writer alarm_home alarm_homes).code ≢ 0
      → (clear_call l writer identity).code ≡ (revised l writer alarm_home alarm_homes).code
  unfolding clear_call event after_reading untouched
  clearing-unread identity n = rw (ne_eqb (revised l writer alarm_home alarm_homes).code 0 n)

  gravest-unread : (fetched l writer alarm_home 1).code ≢ 0 → gravest_call l writer ≡ tells (fetched l writer alarm_home 1).code 0 0 0
  unfolding gravest_call gravest_in
  gravest-unread n = rw (ne_eqb (fetched l writer alarm_home 1).code 0 n)

  arrival-refused : (a : Alarm) → (arrive_call l writer a).code ≢ 0 → Refusal l 0 (arrive_call l writer a)
  unfolding arrive_call
  arrival-refused a n = go (class_known a.class) n
    where
      go : (b : Bool) → (cond b (event l writer alarm_home alarm_homes (judge (arrival a))) (untouched l 24 0)).code ≢ 0
          → Refusal l 0 (cond b (event l writer alarm_home alarm_homes (judge (arrival a))) (untouched l 24 0))
      go true m = (unit-refusals l writer alarm_home).events alarm_homes (judge (arrival a)) m
      go false m = untouched-refuses l 24 0

  clearing-refused : (identity : ℕ) → (clear_call l writer identity).code ≢ 0 → Refusal l 0 (clear_call l writer identity)
  unfolding clear_call
  clearing-refused identity n = (unit-refusals l writer alarm_home).events alarm_homes (judge (clearing identity)) n

pub refusals-on-alarms : RefusalsOnAlarms
refusals-on-alarms l writer =
    record {
      no_class = no-class l writer;
      arrival_unread = arrival-unread l writer;
      clearing_unread = clearing-unread l writer;
      gravest_unread = gravest-unread l writer;
      arrival = arrival-refused l writer;
      clearing = clearing-refused l writer;
    }
