-- What the calls on pumps answer for every input. Assumes nothing.
use Prim.Native.Nat.{ℕ, zero, suc, ◌≤◌, ◌<◌}
use mathlib.Core.Path.{◌≡◌, refl}
use mathlib.Core.Bool.{Bool, true, false, cond}
use mathlib.Core.Logic.{◌≢◌}
use native.Mathlib.Omega.{arith}
use borrow.Author.Tests.{ne_eqb, le-leb, lt-leb}
use Rattle.unit_events.specs.Homes.{pump_home}
use Rattle.unit_shared.specs.Unit.{Lent, untouched, fetched, revised, after_reading, event}
use Rattle.unit_shared.specs.Refusals.{Refusal}
use Rattle.unit_shared.proofs.RefusalsHold.{untouched-refuses, unit-refusals}
use Rattle.unit_hours_book.specs.Events.{Event}
use Rattle.unit_hours.specs.Calls.{known, judge, event_call, hours_told, hours_in, hours_call, services_told, services_of, services_call}
use Rattle.unit_hours.specs.Refusals.{RefusalsOnPumps}

module _ (l : Lent) (writer pump : ℕ) where
  no-pump : 7 < pump → (e : Event) → (event_call l writer pump e).code ≡ 14
  unfolding event_call known untouched
  no-pump h e = rw (lt-leb pump 7 h)

  no-hours : 7 < pump → hours_call l writer pump ≡ hours_told 14 0 0
  unfolding hours_call known
  no-hours h = rw (lt-leb pump 7 h)

  no-interval : services_call l writer pump 0 ≡ services_told 14 0 0
  unfolding services_call
  no-interval = refl

  no-services : 7 < pump → (interval : ℕ) → services_call l writer pump interval ≡ services_told 14 0 0
  unfolding services_call services_of
  no-services h zero = refl
  no-services h (suc i) = rw (le-leb 1 (suc i) (omega arith), no-hours h)

  unread : pump ≤ 7 → (e : Event) → (revised l writer (pump_home pump) 1).code ≢ 0 → (event_call l writer pump e).code ≡ (revised l writer (pump_home pump) 1).code
  unfolding event_call known event after_reading untouched
  unread h e n = rw (le-leb pump 7 h, ne_eqb (revised l writer (pump_home pump) 1).code 0 n)

  hours-unread : pump ≤ 7 → (fetched l writer (pump_home pump) 1).code ≢ 0 → hours_call l writer pump ≡ hours_told (fetched l writer (pump_home pump) 1).code 0 0
  unfolding hours_call known hours_in
  hours-unread h n = rw (le-leb pump 7 h, ne_eqb (fetched l writer (pump_home pump) 1).code 0 n)

  services-unread : pump ≤ 7 → (interval : ℕ) → 0 < interval → (fetched l writer (pump_home pump) 1).code ≢ 0
      → services_call l writer pump interval ≡ services_told (fetched l writer (pump_home pump) 1).code 0 0
  unfolding services_call services_of
  services-unread h interval i n =
      rw (le-leb 1 interval (omega arith), hours-unread h n, ne_eqb (fetched l writer (pump_home pump) 1).code 0 n)

  refusal : (e : Event) → (event_call l writer pump e).code ≢ 0 → Refusal l 0 (event_call l writer pump e)
  unfolding event_call
  refusal e n = go (known pump) n
    where
      go : (b : Bool) → (cond b (event l writer (pump_home pump) 1 (judge e)) (untouched l 14 0)).code ≢ 0
          → Refusal l 0 (cond b (event l writer (pump_home pump) 1 (judge e)) (untouched l 14 0))
      go true m = (unit-refusals l writer (pump_home pump)).events 1 (judge e) m
      go false m = untouched-refuses l 14 0

pub refusals-on-pumps : RefusalsOnPumps
refusals-on-pumps l writer pump =
    record {
      no_pump = no-pump l writer pump;
      no_pump_hours = no-hours l writer pump;
      no_pump_services = no-services l writer pump;
      no_interval = no-interval l writer pump;
      unread = unread l writer pump;
      hours_unread = hours-unread l writer pump;
      services_unread = services-unread l writer pump;
      refusal = refusal l writer pump;
    }
