-- What the calls on alarms answer for every input, whatever is lent: "24 class out of range .. the class is asked before the store's questions", and a
-- refusal of the store is told as it is.
use Rattle.std.specs.Prelude.{ℕ, ◌≤◌, ◌<◌, ◌≡◌, ◌≢◌, ◌⊎◌}
use Rattle.unit_events.specs.Homes.{alarm_home, alarm_homes}
use Rattle.unit_shared.specs.Unit.{Lent, fetched, revised}
use Rattle.unit_shared.specs.Refusals.{Refusal}
use Rattle.unit_alarms_list.specs.declared.Alarm.{Alarm}
use Rattle.unit_alarms.specs.Calls.{arrive_call, clear_call, tells, gravest_call}

pub record Refusals (l : Lent) (writer : ℕ) : Type 0 where
  -- 24, and nothing of the store is asked
  pub no_class : (a : Alarm) → (a.class < 1) ⊎ (9 < a.class) → (arrive_call l writer a).code ≡ 24
  -- the store's number, and no alarm
  pub arrival_unread :
      (a : Alarm) → 1 ≤ a.class → a.class ≤ 9 → (revised l writer alarm_home alarm_homes).code ≢ 0 →
      (arrive_call l writer a).code ≡ (revised l writer alarm_home alarm_homes).code
  pub clearing_unread :
      (identity : ℕ) → (revised l writer alarm_home alarm_homes).code ≢ 0 → (clear_call l writer identity).code ≡ (revised l writer alarm_home alarm_homes).code
  pub gravest_unread : (fetched l writer alarm_home 1).code ≢ 0 → gravest_call l writer ≡ tells (fetched l writer alarm_home 1).code 0 0 0
  -- a refused event, whatever its number
  pub arrival : (a : Alarm) → (arrive_call l writer a).code ≢ 0 → Refusal l 0 (arrive_call l writer a)
  pub clearing : (identity : ℕ) → (clear_call l writer identity).code ≢ 0 → Refusal l 0 (clear_call l writer identity)

-- [S-70]
abbrev pub RefusalsOnAlarms : Type 0
RefusalsOnAlarms = (l : Lent) (writer : ℕ) → Refusals l writer
