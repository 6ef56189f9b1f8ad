-- The history of specs/Example meets the premises of `AlarmsKept`, which therefore says something of it; and what is told at its end, by computation.
use Prim.Native.Nat.{ℕ}
use mathlib.Core.Path.{◌≡◌, refl}
use mathlib.Core.Bool.{Bool, true}
use mathlib.Core.List.{List, []}
use native.Mathlib.Omega.{arith}
use lib.ListN.{length-replicate}
use borrow.Author.Tests.{leb-true}
use Rattle.model.specs.Calls.{format_call}
use Rattle.model.specs.History.{World, Formatting, after_format, empty_store}
use Rattle.model.proofs.examples.Computing.{all-definitions}
use Rattle.acts.specs.Many.{blocks_lent, lent_on, and_then, stored_first, transact_effect, blocks_read, fetch_effect, blocks_right, homes_known, all_of, may_store_all, may_read_all, room_for_all, ask_homes, fetch_answer, revise_answer, transact_answer, fetch_call, revise_call, transact_call}
use Rattle.acts.specs.Units.{transact_ends, fetch_ends, revise_ends, feed_stores, feed_transact, left_under, act, acted, relabel}
use Rattle.theorems.proofs.steps.FormatRuns.{after-format}
use Rattle.unit_events.specs.Homes.{alarm_home, alarm_homes}
use Rattle.unit_events.specs.Folded.{first, noted, note_of, read_for, event_answer, storing, acts_of, stepped, ran, notes_from, notes, AllStepsAllowed, SparedBySteps}
use Rattle.unit_shared.specs.Unit.{fetched}
use Rattle.unit_shared.specs.Moments.{lent_in}
use Rattle.unit_alarms_list.specs.Alarm.{alarm_at, alarm_bytes, class_known, goes_before, graver}
use Rattle.unit_alarms_list.specs.OpenAlarms.{among, without, gravest_from, gravest, told, alarms_from, limited, number_open, alarms_of, gravest_kept, list_bytes, sealed, packed}
use Rattle.unit_alarms_list.specs.Events.{Event, answer, after, settled, applied}
use Rattle.unit_alarms_list.specs.Guarantees.{held_with, Typed}
use Rattle.unit_alarms_list.specs.Stored.{judged}
use Rattle.unit_alarms.specs.Calls.{tells, alarm_tells, gravest_in, gravest_call}
use Rattle.unit_alarms.specs.Histories.{AlarmsAt}
use Rattle.unit_alarms.specs.Example.{blank, blank_copies, opens, history, kept}
use Rattle.unit_alarms.proofs.AlarmsHold.{alarms-kept}

-- a name that unfolds every definition below
unfoldable computed : Bool
unfolding all-definitions blocks_lent lent_on and_then stored_first transact_effect blocks_read fetch_effect blocks_right homes_known all_of may_store_all may_read_all room_for_all ask_homes fetch_answer revise_answer transact_answer fetch_call revise_call transact_call transact_ends fetch_ends revise_ends feed_stores feed_transact left_under act acted relabel first noted note_of read_for event_answer storing acts_of stepped ran notes_from notes alarm_at alarm_bytes class_known goes_before graver among without gravest_from gravest told alarms_from limited number_open alarms_of gravest_kept list_bytes sealed packed answer after settled applied held_with judged alarm_tells gravest_in gravest_call fetched kept blank blank_copies opens history
computed = true

format-done : (format_call blank_copies).code ≡ 0
unfolding computed
format-done = refl

pub format : Formatting 4 30
unfolding blank blank_copies all-definitions
format =
    record {
      memory = blank;
      given = blank_copies;
      log_size = length-replicate {A = ℕ} 2112 0;
      area_size = length-replicate {A = ℕ} 1920 0;
      log_copy = length-replicate {A = ℕ} 2112 0;
      area_copy = length-replicate {A = ℕ} 1920 0;
      done = format-done;
    }

abbrev end_of : World → World
end_of w = ran alarm_home alarm_homes judged held_with w history

abbrev noted_in : World → List Event
noted_in w = noted (notes alarm_home alarm_homes judged held_with w history)

-- the premises
met : AllStepsAllowed alarm_home alarm_homes judged held_with (empty_store 4 30) history
unfolding computed
met = (refl, (refl, (refl, (refl, (refl, ((leb-true _ _ refl, leb-true _ _ refl), (refl, (refl, tt))))))))

spared : SparedBySteps alarm_home alarm_homes judged held_with Typed (after_format format) history
unfolding Typed opens history
spared = (λ z. tt, ((omega arith, omega arith), ((omega arith, omega arith), (λ z. tt, ((omega arith, omega arith), (λ z. tt, (λ z. tt, (omega arith, tt))))))))

ready-there : (end_of (empty_store 4 30)).ready ≡ true
unfolding computed
ready-there = refl

-- the theorem says this of it
pub alarms-there : AlarmsAt (end_of (after_format format)) (noted_in (after_format format))
alarms-there = alarms-kept 4 30 (omega arith) format history (rw (after-format format) met) spared (rw (after-format format) ready-there)

-- the events of its list, and the gravest told
pub kept_there : noted_in (empty_store 4 30) ≡ kept
unfolding computed
kept_there = refl

pub gravest-there : gravest_call (lent_in (end_of (empty_store 4 30)) []) 1 ≡ tells 0 7 1 200
unfolding computed
gravest-there = refl
