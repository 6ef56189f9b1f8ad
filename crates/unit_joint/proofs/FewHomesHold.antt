-- The stores of specs/FewHomes are told so, by computation; and they meet the premises of what the units' calls answer with too few homes. Assumes nothing.
use Prim.Native.Nat.{ℕ, ◌*◌}
use mathlib.Core.Path.{◌≡◌, refl, ◌∙◌}
use mathlib.Core.Bool.{Bool, true}
use mathlib.Core.List.{List, [], ◌∷◌}
use native.Mathlib.Omega.{arith}
use Rattle.model.specs.Bytes.{zeros}
use Rattle.model.specs.Calls.{format_call}
use Rattle.model.specs.History.{World, Formatting, unopened, after_format, empty_store, is_opening}
use Rattle.model.specs.examples.Trials.{room}
use Rattle.model_laws.proofs.bytes.ByteLaws.{length-zeros}
use Rattle.abstract_store.specs.Store.{Store, new_store}
use Rattle.acts.specs.Units.{acted, AllActsAllowed}
use Rattle.theorems.specs.ActsAnswer.{store_after}
use Rattle.theorems.specs.HiddenTogether.{numbers}
use Rattle.theorems.proofs.steps.FormatRuns.{after-format}
use Rattle.theorems.proofs.many.ActsAnswerHolds.{acts-answer}
use Rattle.theorems.proofs.store.Reached.{begins, same-homes}
use Rattle.theorems.proofs.isolation.IsolatedActsHold.{reached-acts}
use Rattle.unit_events.specs.Homes.{alarm_home, alarm_homes}
use Rattle.unit_events.specs.Folded as unit
use Rattle.unit_events.specs.Folded.{offers, AllStepsAllowed, SparedBySteps}
use Rattle.unit_shared.specs.Replies.{Answered, store_next_to}
use Rattle.unit_bands.specs.Answers.{TableAnswers}
use Rattle.unit_bands.specs.Calls as bands-calls
use Rattle.unit_bands.proofs.AnswersHold.{bands-answer}
use Rattle.unit_hours.specs.Answers.{PumpAnswers}
use Rattle.unit_hours.proofs.AnswersHold.{hours-answer}
use Rattle.unit_alarms_list.specs.Alarm.{alarm}
use Rattle.unit_alarms_list.specs.Events.{Event, arrival}
use Rattle.unit_alarms_list.specs.Guarantees.{held_with, Typed}
use Rattle.unit_alarms_list.specs.Stored.{judged}
use Rattle.unit_alarms.specs.Calls as alarm-calls
use Rattle.unit_alarms.specs.Answers.{GravestAnswers}
use Rattle.unit_alarms.proofs.FewHomes.{acted-homes}
use Rattle.unit_alarms.proofs.AnswersHold.{alarms-answer}
use Rattle.unit_joint.specs.Example.{one_band}
use Rattle.unit_joint.specs.HiddenUnits.{hours_of}
use Rattle.unit_joint.specs.FewHomes.{copies_for, opens_with, opened_with, row_numbers, gravest_numbers, few_told}
use Rattle.unit_joint.proofs.UnitsComputing.{unit-definitions}

-- a name that unfolds every definition below
unfoldable computed : Bool
unfolding unit-definitions numbers one_band hours_of bands-calls.found_within bands-calls.look_up_call alarm-calls.alarm_tells alarm-calls.gravest_in alarm-calls.gravest_call copies_for opened_with row_numbers gravest_numbers few_told unit.ran unit.stepped
computed = true

pub few-told : few_told ≡ true
unfolding computed
few-told = refl

-- ---- the premises

format-of : (homes : ℕ) → (format_call (copies_for homes)).code ≡ 0 → Formatting 4 homes
unfolding copies_for
format-of homes done =
    record {
      memory = record { log = zeros 2112; area = zeros (64 * homes) };
      given = copies_for homes;
      log_size = length-zeros 2112;
      area_size = length-zeros (64 * homes);
      log_copy = length-zeros 2112;
      area_copy = length-zeros (64 * homes);
      done = done;
    }

module _ (homes : ℕ) (f : Formatting 4 homes) (ready : (opened_with homes).ready ≡ true) where
  abbrev world : World
  world = acted (after_format f) (opens_with homes ∷ [])

  abbrev beside : Store
  beside = store_after f (opens_with homes ∷ [])

  met : AllActsAllowed (after_format f) (opens_with homes ∷ [])
  unfolding is_opening after_format unopened
  met = (refl, tt)

  answered : Answered world beside
  answered = (acts-answer 4 homes f (opens_with homes ∷ []) met).many (rw (after-format f) (unfold opened_with in ready))

  homes-are : beside.homes ≡ homes
  unfolding store_after
  homes-are =
      same-homes _ _ (reached-acts (opens_with homes ∷ []) (after_format f) (new_store 4 homes) (begins f) met) ∙ acted-homes (opens_with homes ∷ []) (after_format f)
      ∙ (unfold after_format unopened in refl)

-- ---- so the calls answer by the abstract store

pub fourteen : Formatting 4 14
fourteen = format-of 14 done
  where
    done : (format_call (copies_for 14)).code ≡ 0
    done = unfold computed in refl

pub fourteen-ready : (opened_with 14).ready ≡ true
unfolding computed
fourteen-ready = refl

pub table-few : TableAnswers (world 14 fourteen fourteen-ready) (beside 14 fourteen fourteen-ready) []
table-few =
    bands-answer.few (world 14 fourteen fourteen-ready) (beside 14 fourteen fourteen-ready) (answered 14 fourteen fourteen-ready)
    (omega (arith, homes-are 14 fourteen fourteen-ready)) []

pub sixteen : Formatting 4 16
sixteen = format-of 16 done
  where
    done : (format_call (copies_for 16)).code ≡ 0
    done = unfold computed in refl

pub sixteen-ready : (opened_with 16).ready ≡ true
unfolding computed
sixteen-ready = refl

pub pump-few : PumpAnswers (world 16 sixteen sixteen-ready) (beside 16 sixteen sixteen-ready) [] 0
pump-few =
    hours-answer.few 0 (omega arith) (world 16 sixteen sixteen-ready) (beside 16 sixteen sixteen-ready) (answered 16 sixteen sixteen-ready)
    (omega (arith, homes-are 16 sixteen sixteen-ready)) []

-- an arrival is refused, and the gravest is none
pub twenty-five : Formatting 4 25
twenty-five = format-of 25 done
  where
    done : (format_call (copies_for 25)).code ≡ 0
    done = unfold computed in refl

abbrev arrives : List (unit.Step Event)
arrives = unit.acts (opens_with 25) ∷ offers 0 (arrival (alarm 7 1 200)) room ∷ []

arrives-met : AllStepsAllowed alarm_home alarm_homes judged held_with (empty_store 4 25) arrives
unfolding computed
arrives-met = (refl, (refl, tt))

arrives-ready : (unit.ran alarm_home alarm_homes judged held_with (empty_store 4 25) arrives).ready ≡ true
unfolding computed
arrives-ready = refl

arrives-spared : SparedBySteps alarm_home alarm_homes judged held_with Typed (after_format twenty-five) arrives
unfolding Typed
arrives-spared = (λ z. tt, ((omega arith, omega arith), tt))

pub gravest-few : GravestAnswers (unit.ran alarm_home alarm_homes judged held_with (after_format twenty-five) arrives)
    (store_next_to alarm_home alarm_homes judged held_with twenty-five arrives) []
gravest-few =
    alarms-answer.first 4 25 (omega arith) (omega arith) twenty-five arrives (rw (after-format twenty-five) arrives-met) arrives-spared
    (rw (after-format twenty-five) arrives-ready)
