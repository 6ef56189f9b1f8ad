-- The history of specs/Example meets the premises of `BookKept`, which therefore says something of it; and what is told at its end, by computation.
use Prim.Native.Nat.{ℕ}
use mathlib.Core.Path.{◌≡◌, refl}
use mathlib.Core.Bool.{Bool, true}
use mathlib.Core.List.{List, []}
use native.Mathlib.Omega.{arith}
use lib.ListN.{length-replicate}
use borrow.Author.Tests.{leb-true}
use Rattle.model.specs.Calls.{format_call}
use Rattle.model.specs.History.{World, Formatting, after_format, empty_store}
use Rattle.model.proofs.examples.Computing.{all-definitions}
use Rattle.acts.specs.Many.{blocks_lent, lent_on, and_then, stored_first, transact_effect, blocks_read, fetch_effect, blocks_right, homes_known, all_of, may_store_all, may_read_all, room_for_all, ask_homes, fetch_answer, revise_answer, transact_answer, fetch_call, revise_call, transact_call}
use Rattle.acts.specs.Units.{transact_ends, fetch_ends, revise_ends, feed_stores, feed_transact, left_under, act, acted, relabel}
use Rattle.theorems.proofs.steps.FormatRuns.{after-format}
use Rattle.unit_events.specs.Homes.{pump_home}
use Rattle.unit_events.specs.Folded.{first, noted, note_of, read_for, event_answer, storing, acts_of, stepped, ran, notes_from, notes, AllStepsAllowed, SparedBySteps}
use Rattle.unit_shared.specs.Unit.{fetched}
use Rattle.unit_shared.specs.Moments.{lent_in}
use Rattle.unit_hours_book.specs.Pump.{pump_of, flag, block_of}
use Rattle.unit_hours_book.specs.Events.{Event, late, total_at, answer, after, settled, applied}
use Rattle.unit_hours_book.specs.Services.{due}
use Rattle.unit_hours_book.specs.Guarantees.{second_of, held_with, Timed}
use Rattle.unit_hours_book.specs.Stored.{judged}
use Rattle.unit_hours.specs.Calls.{known, hours_told, pump_tells, hours_in, hours_call, services_told, due_tells, services_of, services_call}
use Rattle.unit_hours.specs.Histories.{BookAt}
use Rattle.unit_hours.specs.Example.{blank, blank_copies, opens, history, kept}
use Rattle.unit_hours.proofs.BookHolds.{book-kept}

-- a name that unfolds every definition below
unfoldable computed : Bool
unfolding all-definitions blocks_lent lent_on and_then stored_first transact_effect blocks_read fetch_effect blocks_right homes_known all_of may_store_all may_read_all room_for_all ask_homes fetch_answer revise_answer transact_answer fetch_call revise_call transact_call transact_ends fetch_ends revise_ends feed_stores feed_transact left_under act acted relabel first noted note_of read_for event_answer storing acts_of stepped ran notes_from notes pump_of flag block_of late total_at answer after settled applied held_with judged known pump_tells hours_in hours_call fetched due due_tells services_of services_call kept blank blank_copies opens history
computed = true

format-done : (format_call blank_copies).code ≡ 0
unfolding computed
format-done = refl

pub format : Formatting 4 17
unfolding blank blank_copies all-definitions
format =
    record {
      memory = blank;
      given = blank_copies;
      log_size = length-replicate {A = ℕ} 2112 0;
      area_size = length-replicate {A = ℕ} 1088 0;
      log_copy = length-replicate {A = ℕ} 2112 0;
      area_copy = length-replicate {A = ℕ} 1088 0;
      done = format-done;
    }

abbrev end_of : World → World
end_of w = ran (pump_home 0) 1 judged held_with w history

abbrev noted_in : World → List Event
noted_in w = noted (notes (pump_home 0) 1 judged held_with w history)

-- the premises
met : AllStepsAllowed (pump_home 0) 1 judged held_with (empty_store 4 17) history
unfolding computed
met = (refl, (refl, (refl, (refl, (refl, ((leb-true _ _ refl, leb-true _ _ refl), (refl, (refl, (refl, (refl, tt))))))))))

spared : SparedBySteps (pump_home 0) 1 judged held_with Timed (after_format format) history
unfolding second_of opens history
spared = (λ z. tt, (omega arith, (omega arith, (λ z. tt, (omega arith, (λ z. tt, (λ z. tt, (omega arith, (omega arith, (omega arith, tt))))))))))

ready-there : (end_of (empty_store 4 17)).ready ≡ true
unfolding computed
ready-there = refl

-- the theorem says this of it
pub book-there : BookAt 0 (end_of (after_format format)) (noted_in (after_format format))
book-there =
    book-kept 0 (omega arith) 4 17 (omega arith) format history (rw (after-format format) met) spared (rw (after-format format) ready-there)

-- the events of its list, and what the calls tell
pub kept_there : noted_in (empty_store 4 17) ≡ kept
unfolding computed
kept_there = refl

pub hours-there : hours_call (lent_in (end_of (empty_store 4 17)) []) 1 0 ≡ hours_told 0 2 70
unfolding computed
hours-there = refl

pub services-there : services_call (lent_in (end_of (empty_store 4 17)) []) 1 0 30 ≡ services_told 0 2 10
unfolding computed
services-there = refl
