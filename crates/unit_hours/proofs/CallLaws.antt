-- The calls on pumps, question by question. Assumes nothing.
use mathlib.Core.Path.{◌≡◌, ap}
use mathlib.Core.List.{List, []}
use mathlib.Core.Logic.{◌≢◌}
use Prim.Native.Nat.{ℕ, ◌*◌, ◌≤◌, ◌<◌}
use borrow.Author.Tests.{ne_eqb, le-leb, lt-leb}
use Rattle.model.specs.Bytes.{zeros}
use Rattle.call_ask.specs.Lent.{lent_all}
use Rattle.acts.specs.Many.{fetch_call}
use Rattle.unit_events.specs.Homes.{pump_home}
use Rattle.unit_shared.specs.Unit.{Lent, UnitOutcome, leaves, as_judged, fetched, event}
use Rattle.unit_shared.proofs.UnitLaws.{refusal, read_as, fetching}
use Rattle.unit_hours_book.specs.Pump.{pump_of}
use Rattle.unit_hours_book.specs.declared.Pump.{Pump}
use Rattle.unit_hours_book.specs.Events.{Event, applied, leaves as block_left}
use Rattle.unit_hours_book.specs.Services.{due}
use Rattle.unit_hours_book.specs.declared.Due.{Due}
use Rattle.unit_hours.specs.Calls.{known, judge, event_call, Hours, hours_told, pump_tells, hours_in, hours_call, Services, services_told, due_tells, services_of, services_call}

-- what the pump's block answers an event and holds then
pub judging : (e : Event) (block : List ℕ) {answer : ℕ} {next : List ℕ} → block_left answer next ≡ applied block e → as_judged answer next ≡ judge e block
unfolding judge
judging e block q = ap (λ o. as_judged o.code o.block) q

module _ (l : Lent) (writer pump : ℕ) where
  -- ---- events

  pub event-unknown : (e : Event) → 7 < pump → {c f s : ℕ} → c ≡ 14 → f ≡ 0 → s ≡ 0
      → leaves c f s l.log l.area l.state l.newest l.batch ≡ event_call l writer pump e
  unfolding event_call known
  event-unknown e h ec ef es = rw (lt-leb pump 7 h) (refusal l 14 0 ec ef es)

  pub event-known : (e : Event) → pump ≤ 7 → {x : UnitOutcome} → x ≡ event l writer (pump_home pump) 1 (judge e) → x ≡ event_call l writer pump e
  unfolding event_call known
  event-known e h q = rw (le-leb pump 7 h) q

  -- ---- hours and services

  pub hours-unknown : 7 < pump → {t : Hours} → t ≡ hours_told 14 0 0 → t ≡ hours_call l writer pump
  unfolding hours_call known
  hours-unknown h q = rw (lt-leb pump 7 h) q

  -- from what the fetch gives
  module _
      (h : pump ≤ 7)
      (code figure size : ℕ)
      (given blocks : List ℕ)
      (z : given ≡ zeros (64 * 1))
      (e : read_as l code figure size blocks ≡ fetch_call (lent_all l.log l.area l.state l.newest given [] writer (pump_home pump)))
    where
      fetch : read_as l code figure size blocks ≡ fetched l writer (pump_home pump) 1
      fetch = fetching l writer (pump_home pump) 1 code figure size given blocks z e

      pub hours-unread : code ≢ 0 → {t : Hours} → t ≡ hours_told code 0 0 → t ≡ hours_call l writer pump
      unfolding hours_call hours_in known
      hours-unread n q = rw (le-leb pump 7 h, ← fetch, ne_eqb code 0 n) q

      pub hours-read : code ≡ 0 → {p : Pump} → p ≡ pump_of blocks → hours_told 0 p.starts p.total ≡ hours_call l writer pump
      unfolding hours_call hours_in known pump_tells
      hours-read n q = rw (le-leb pump 7 h, ← fetch, n, q)

  -- services, from the hours

  pub services-none : (interval : ℕ) → interval ≡ 0 → {t : Services} → t ≡ services_told 14 0 0 → t ≡ services_call l writer pump interval
  unfolding services_call
  services-none interval z q = rw z q

  module _ (interval : ℕ) (i : 1 ≤ interval) (h : Hours) (e : h ≡ hours_call l writer pump) where
    pub services-unread : h.code ≢ 0 → {t : Services} → t ≡ services_told h.code 0 0 → t ≡ services_call l writer pump interval
    unfolding services_call services_of
    services-unread n q = rw (le-leb 1 interval i, ← e, ne_eqb h.code 0 n) q

    pub services-read : h.code ≡ 0 → {d : Due} → d ≡ due h.seconds interval → services_told 0 d.services d.left ≡ services_call l writer pump interval
    unfolding services_call services_of due_tells
    services-read n w = rw (le-leb 1 interval i, ← e, n, w)
