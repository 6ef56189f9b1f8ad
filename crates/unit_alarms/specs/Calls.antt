-- The calls on alarms: "Up to 48 are open at a time, with identity (16 bits), class 1 to 9 and arrival second (32 bits)."
use Rattle.std.specs.Prelude.{ℕ, cond, List, eqb}
use Rattle.model.specs.Bytes.{zeros}
use Rattle.model.specs.Calls.{Outcome}
use Rattle.unit_events.specs.Homes.{alarm_home, alarm_homes}
use Rattle.unit_shared.specs.Unit.{Lent, UnitOutcome, untouched, Judged, as_judged, fetched, event}
use Rattle.unit_alarms_list.specs.Alarm.{class_known}
use Rattle.unit_alarms_list.specs.declared.Alarm.{Alarm}
use Rattle.unit_alarms_list.specs.OpenAlarms.{gravest_kept}
use Rattle.unit_alarms_list.specs.Events.{Event, arrival, clearing, applied}

-- "24 .. an arrival already open or a clearing not open; 25 48 open already, at an arrival": "in this order after its 1, 2, 4 and 5 and before the rest"
unfoldable pub judge : Event → List ℕ → Judged
judge e blocks = as_judged (applied blocks (zeros 384) e).code (applied blocks (zeros 384) e).output

-- "24 class out of range": "the class is asked before the store's questions"
unfoldable pub arrive_call : Lent → ℕ → Alarm → UnitOutcome
arrive_call l writer a = cond (class_known a.class) (event l writer alarm_home alarm_homes (judge (arrival a))) (untouched l 24 0)

unfoldable pub clear_call : Lent → ℕ → ℕ → UnitOutcome
clear_call l writer identity = event l writer alarm_home alarm_homes (judge (clearing identity))

-- "The panel shows the gravest open alarm"; "With none open the gravest is none, told as three zeros." It is kept in the first home.
pub record GravestReply : Type 0 where
  pub code : ℕ
  pub identity : ℕ
  pub class : ℕ
  pub second : ℕ

abbrev pub tells : ℕ → ℕ → ℕ → ℕ → GravestReply
tells code identity class second = record { code = code; identity = identity; class = class; second = second }

unfoldable pub alarm_tells : Alarm → GravestReply
alarm_tells a = tells 0 a.identity a.class a.second

unfoldable pub gravest_in : Outcome → GravestReply
gravest_in o = cond (eqb o.code 0) (alarm_tells (gravest_kept o.block)) (tells o.code 0 0 0)

unfoldable pub gravest_call : Lent → ℕ → GravestReply
gravest_call l writer = gravest_in (fetched l writer alarm_home 1)
