-- Stores with too few homes (G 4): 14, none of them the table's last; 16, none a pump's; 25, with a home for the gravest and too few for alarms' events. So what the
-- units' calls answer there has witnesses.
use Rattle.std.specs.Prelude.{ℕ, ◌+◌, ◌*◌, Bool, ◌&&◌, List, [], ◌∷◌}
use Rattle.model.specs.Bytes.{zeros, same}
use Rattle.model.specs.Effects.{Given}
use Rattle.model.specs.History.{opening, call, World, empty_store}
use Rattle.model.specs.examples.Trials.{room}
use Rattle.acts.specs.Units.{Act, plain, acted}
use Rattle.theorems.specs.HiddenTogether.{numbers}
use Rattle.unit_shared.specs.Moments.{lent_in}
use Rattle.unit_bands_table.specs.Packed.{Lookup}
use Rattle.unit_bands.specs.Calls.{look_up_call}
use Rattle.unit_hours_book.specs.Events.{start_at}
use Rattle.unit_hours.specs.Calls.{hours_call}
use Rattle.unit_alarms_list.specs.Alarm.{alarm}
use Rattle.unit_alarms_list.specs.Events.{arrival}
use Rattle.unit_alarms.specs.Calls.{GravestReply, gravest_call}
use Rattle.unit_joint.specs.Joint.{sets_table, pump_event, alarm_event, told_in}
use Rattle.unit_joint.specs.Example.{one_band}
use Rattle.unit_joint.specs.HiddenUnits.{hours_of}

-- what a format of so many homes is lent, and the opening after it
unfoldable pub copies_for : ℕ → Given
copies_for homes =
    record { state = []; newest = []; log = zeros 2112; area = zeros (64 * homes); block = []; batch = zeros (2202 + 68 * homes); writer = 0; home = 0 }

abbrev pub opens_with : ℕ → Act
opens_with homes = plain (call (opening (zeros 1024) (zeros (8 * homes)) (zeros (2136 + 68 * homes))))

unfoldable pub opened_with : ℕ → World
opened_with homes = acted (empty_store 4 homes) (opens_with homes ∷ [])

unfoldable pub row_numbers : Lookup → List ℕ
row_numbers l = l.code ∷ l.row.from ∷ l.row.to ∷ l.row.pumps ∷ []

unfoldable pub gravest_numbers : GravestReply → List ℕ
gravest_numbers g = g.code ∷ g.identity ∷ g.class ∷ g.second ∷ []

-- 5, but for the gravest of 25 homes, which is none
unfoldable pub few_told : Bool
few_told =
    same (numbers (told_in (opened_with 14) (sets_table 0 one_band room))) (5 ∷ 0 ∷ 0 ∷ [])
    && same (row_numbers (look_up_call (lent_in (opened_with 14) []) 0 7)) (5 ∷ 0 ∷ 0 ∷ 0 ∷ [])
    && same (numbers (told_in (opened_with 16) (pump_event 0 0 (start_at 10) room))) (5 ∷ 0 ∷ 0 ∷ [])
    && same (hours_of (hours_call (lent_in (opened_with 16) []) 0 0)) (5 ∷ 0 ∷ 0 ∷ [])
    && same (numbers (told_in (opened_with 25) (alarm_event 0 (arrival (alarm 7 1 200)) room))) (5 ∷ 0 ∷ 0 ∷ [])
    && same (gravest_numbers (gravest_call (lent_in (opened_with 25) []) 0)) (0 ∷ 0 ∷ 0 ∷ 0 ∷ [])
