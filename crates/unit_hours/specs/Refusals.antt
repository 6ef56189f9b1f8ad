-- What the calls on pumps answer for every input, whatever is lent: "14 pump above 7 or interval 0"; "14 comes before the store's questions, 15 and 16
-- after its 1, 2, 4 and 5 and before the rest"; and a refusal of the store is told as it is.
use Rattle.std.specs.Prelude.{ℕ, ◌≤◌, ◌<◌, ◌≡◌, ◌≢◌}
use Rattle.unit_events.specs.Homes.{pump_home}
use Rattle.unit_shared.specs.Unit.{Lent, fetched, revised}
use Rattle.unit_shared.specs.Refusals.{Refusal}
use Rattle.unit_hours_book.specs.Events.{Event}
use Rattle.unit_hours.specs.Calls.{event_call, hours_told, hours_call, services_told, services_call}

pub record Refusals (l : Lent) (writer pump : ℕ) : Type 0 where
  -- 14, and nothing of the store is asked
  pub no_pump : 7 < pump → (e : Event) → (event_call l writer pump e).code ≡ 14
  pub no_pump_hours : 7 < pump → hours_call l writer pump ≡ hours_told 14 0 0
  pub no_pump_services : 7 < pump → (interval : ℕ) → services_call l writer pump interval ≡ services_told 14 0 0
  pub no_interval : services_call l writer pump 0 ≡ services_told 14 0 0
  -- the store's number, and no figures
  pub unread : pump ≤ 7 → (e : Event) → (revised l writer (pump_home pump) 1).code ≢ 0 → (event_call l writer pump e).code ≡ (revised l writer (pump_home pump) 1).code
  pub hours_unread : pump ≤ 7 → (fetched l writer (pump_home pump) 1).code ≢ 0 → hours_call l writer pump ≡ hours_told (fetched l writer (pump_home pump) 1).code 0 0
  pub services_unread :
      pump ≤ 7 →
      (interval : ℕ) →
      0 < interval →
      (fetched l writer (pump_home pump) 1).code ≢ 0 →
      services_call l writer pump interval ≡ services_told (fetched l writer (pump_home pump) 1).code 0 0
  -- a refused event, whatever its number
  pub refusal : (e : Event) → (event_call l writer pump e).code ≢ 0 → Refusal l 0 (event_call l writer pump e)

-- [S-68]
abbrev pub RefusalsOnPumps : Type 0
RefusalsOnPumps = (l : Lent) (writer pump : ℕ) → Refusals l writer pump
