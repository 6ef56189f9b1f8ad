-- The alarms' homes in the histories of the store. "the list is the arrivals in L not cleared after; kept = told = its gravest; 24 and 25 are answered by
-- it"
use Rattle.std.specs.Prelude.{ℕ, ◌≡◌, true, List, length}
use Rattle.std.proofs.Math.Option.{Option}
use Rattle.model.specs.History.{World}
use Rattle.acts.specs.Units.{fetch_ends}
use Rattle.unit_events.specs.Homes.{alarm_home, alarm_homes}
use Rattle.unit_events.specs.Folded.{noted, Recorded, AlwaysRecorded}
use Rattle.unit_alarms_list.specs.OpenAlarms.{gravest, told, gravest_kept}
use Rattle.unit_alarms_list.specs.Events.{Event, applied}
use Rattle.unit_alarms_list.specs.Guarantees.{open_by, answer_by, held_with, Represents, Typed}

-- what the blocks answer to an event
unfoldable pub judged : List ℕ → Event → ℕ
judged bs e = (applied bs bs e).code

abbrev pub AlarmsRecorded : Type 0
AlarmsRecorded = AlwaysRecorded alarm_home alarm_homes judged held_with Typed answer_by Represents

-- "Gravest reads home 24 alone": a done fetch of it tells the gravest of the open alarms
abbrev pub GravestReply : Type 0
GravestReply =
    (w : World) (ns : List (Option Event)) → Recorded alarm_home alarm_homes judged held_with Typed answer_by Represents w ns → (writer : ℕ) (block : List ℕ) →
    w.ready ≡ true → length block ≡ 64 → (fetch_ends w writer alarm_home block).code ≡ 0 →
    gravest_kept (fetch_ends w writer alarm_home block).block ≡ told (gravest (open_by (noted ns)))
