-- What rights hide where units' calls are made: two histories (G 4, D 18) from the format on, under one committed list. Before it is committed pump 1 was started,
-- at second a; after it writer 2 stops the pump, and starts it again at second b. The histories differ only in a and b, which home 17 holds. Writer 1 may not
-- read it: all that it is told is the same in both. Writer 2 may: the hours that it is told differ.
use Rattle.std.specs.Prelude.{ℕ, Bool, ◌&&◌, List, [], ◌∷◌, ◌++◌, eqb}
use Rattle.model.specs.Bytes.{zeros, same}
use Rattle.model.specs.Effects.{Given}
use Rattle.model.specs.History.{opening, flush, call, World, empty_store}
use Rattle.model.specs.examples.Trials.{room}
use Rattle.acts.specs.Units.{Act, plain, transacts, acted}
use Rattle.theorems.specs.Hidden.{range_of}
use Rattle.theorems.specs.HiddenTogether.{numbers}
use Rattle.unit_shared.specs.Moments.{lent_in}
use Rattle.unit_hours_book.specs.Events.{start_at, stop_at}
use Rattle.unit_hours_book.specs.Guarantees.{held_with}
use Rattle.unit_hours.specs.declared.Hours.{Hours}
use Rattle.unit_hours.specs.Calls.{hours_call}
use Rattle.unit_joint.specs.Joint.{Step, acts, sets_table, pump_event, stepped, ran, told_in}
use Rattle.unit_joint.specs.Example.{one_band}

unfoldable pub smaller : Given
smaller = record { state = []; newest = []; log = zeros 2112; area = zeros 1152; block = []; batch = zeros 3426; writer = 0; home = 0 }

-- writer 0 may store to and read every home; writer 1 those of the table and of pump 0; writer 2 may store to that of pump 1 and read both pumps'
unfoldable pub unit_rights : List ℕ
unit_rights =
    range_of 0 18 ++ (range_of 0 18 ++ (range_of 12 5 ++ (range_of 12 5 ++ (range_of 17 1 ++ (range_of 16 2 ++ zeros 32)))))

unfoldable pub started_before : ℕ → List Act
started_before a =
    plain (call (opening (zeros 1024) (zeros 144) (zeros 3360))) ∷ transacts 0 17 (held_with (zeros 64) (start_at a)) room ∷ transacts 0 8 unit_rights room ∷ []

-- writer 1 starts pump 0 and sets a table; what it asks of pump 1 is refused
unfoldable pub started_again : ℕ → List Step
started_again b =
    pump_event 1 0 (start_at 5) room ∷ pump_event 2 1 (stop_at 60) room ∷ sets_table 1 one_band room ∷ pump_event 1 1 (stop_at 61) room ∷ pump_event 2 1 (start_at b) room
    ∷ acts (plain (call (flush room))) ∷ pump_event 1 0 (stop_at 65) room ∷ []

-- the home that is hidden from writer 1
unfoldable pub of_pump_one : ℕ → Bool
of_pump_one home = eqb home 17

unfoldable pub started_world : ℕ → World
started_world a = acted (empty_store 4 18) (started_before a)

-- what every step is told: number, figure and bytes of records
unfoldable pub told_steps : World → List Step → List ℕ
told_steps w [] = []
told_steps w (s ∷ ss) = numbers (told_in w s) ++ told_steps (stepped w s) ss

unfoldable pub told_started : List ℕ
told_started =
    (0 ∷ 32 ∷ 0 ∷ []) ++ ((0 ∷ 33 ∷ 0 ∷ []) ++ ((0 ∷ 36 ∷ 516 ∷ []) ++ ((19 ∷ 0 ∷ 0 ∷ []) ++ ((0 ∷ 37 ∷ 0 ∷ []) ++ ((0 ∷ 0 ∷ 518 ∷ []) ++ (0 ∷ 43 ∷ 0 ∷ []))))))

-- the hours of a pump that a writer is told at the end
unfoldable pub hours_of : Hours → List ℕ
hours_of h = h.code ∷ h.starts ∷ h.seconds ∷ []

unfoldable pub hours_after : ℕ → ℕ → ℕ → ℕ → List ℕ
hours_after writer pump a b = hours_of (hours_call (lent_in (ran (started_world a) (started_again b)) []) writer pump)

unfoldable pub units_hidden : Bool
units_hidden =
    same (told_steps (started_world 10) (started_again 70)) told_started && same (told_steps (started_world 20) (started_again 80)) told_started
    && same (hours_after 1 0 10 70) (0 ∷ 1 ∷ 60 ∷ []) && same (hours_after 1 0 20 80) (0 ∷ 1 ∷ 60 ∷ [])
    && same (hours_after 1 1 10 70) (20 ∷ 0 ∷ 0 ∷ []) && same (hours_after 1 1 20 80) (20 ∷ 0 ∷ 0 ∷ [])

unfoldable pub units_shown : Bool
units_shown = same (hours_after 2 1 10 70) (0 ∷ 2 ∷ 50 ∷ []) && same (hours_after 2 1 20 80) (0 ∷ 2 ∷ 40 ∷ [])
