-- The history of specs/Example meets the premises of `TableKept`, which therefore says something of it; and what is told at its end, by computation.
use Prim.Native.Nat.{ℕ}
use mathlib.Core.Path.{◌≡◌, refl}
use mathlib.Core.Bool.{Bool, true}
use mathlib.Core.List.{List, [], ◌∷◌}
use native.Mathlib.Omega.{arith}
use lib.ListN.{length-replicate}
use borrow.Author.Tests.{leb-true}
use Rattle.model.specs.Calls.{format_call}
use Rattle.model.specs.History.{World, Formatting, after_format, empty_store}
use Rattle.model.proofs.examples.Computing.{all-definitions}
use Rattle.acts.specs.Many.{blocks_lent, lent_on, and_then, stored_first, transact_effect, blocks_read, fetch_effect, blocks_right, homes_known, all_of, may_store_all, may_read_all, room_for_all, ask_homes, fetch_answer, revise_answer, transact_answer, fetch_call, revise_call, transact_call}
use Rattle.acts.specs.Units.{transact_ends, fetch_ends, revise_ends, feed_stores, feed_transact, left_under, act, acted, relabel}
use Rattle.theorems.proofs.steps.FormatRuns.{after-format}
use Rattle.unit_events.specs.Homes.{table_home, table_homes}
use Rattle.unit_events.specs.Folded.{first, noted, note_of, read_for, event_answer, storing, acts_of, stepped, ran, notes_from, notes, AllStepsAllowed, SparedBySteps}
use Rattle.unit_shared.specs.Unit.{fetched}
use Rattle.unit_shared.specs.Moments.{lent_in}
use Rattle.unit_bands_table.specs.Rows.{row, rows, holds, count, place, lookup}
use Rattle.unit_bands_table.specs.Judge.{depths, fit, all_fit, sound, lowest, uncovered, doubled, overlaps, coverage, judgement}
use Rattle.unit_bands_table.specs.Packed.{pack, held, acceptable, table_rows, unpack, answered, found, look_up}
use Rattle.unit_bands_table.specs.Stored.{judged, stored, Accepted}
use Rattle.unit_bands.specs.Calls.{found_within, look_up_call}
use Rattle.unit_bands.specs.Histories.{TableAt}
use Rattle.unit_bands.specs.Example.{one_band, two_bands, blank, blank_copies, opens, history}
use Rattle.unit_bands.proofs.TableHolds.{table_kept}

-- a name that unfolds every definition below
unfoldable computed : Bool
unfolding all-definitions blocks_lent lent_on and_then stored_first transact_effect blocks_read fetch_effect blocks_right homes_known all_of may_store_all may_read_all room_for_all ask_homes fetch_answer revise_answer transact_answer fetch_call revise_call transact_call transact_ends fetch_ends revise_ends feed_stores feed_transact left_under act acted relabel first noted note_of read_for event_answer storing acts_of stepped ran notes_from notes row rows holds count place lookup depths fit all_fit sound lowest uncovered doubled overlaps coverage judgement pack held acceptable table_rows unpack found look_up judged stored found_within look_up_call fetched one_band two_bands blank blank_copies opens history
computed = true

format-done : (format_call blank_copies).code ≡ 0
unfolding computed
format-done = refl

pub format : Formatting 4 15
unfolding blank blank_copies all-definitions
format =
    record {
      memory = blank;
      given = blank_copies;
      log_size = length-replicate {A = ℕ} 2112 0;
      area_size = length-replicate {A = ℕ} 960 0;
      log_copy = length-replicate {A = ℕ} 2112 0;
      area_copy = length-replicate {A = ℕ} 960 0;
      done = format-done;
    }

abbrev end_of : World → World
end_of w = ran table_home table_homes judged stored w history

abbrev noted_in : World → List (List ℕ)
noted_in w = noted (notes table_home table_homes judged stored w history)

-- the premises
met : AllStepsAllowed table_home table_homes judged stored (empty_store 4 15) history
unfolding computed
met = (refl, (refl, (refl, (refl, ((leb-true _ _ refl, leb-true _ _ refl), (refl, tt))))))

spared : SparedBySteps table_home table_homes judged stored Accepted (after_format format) history
unfolding computed
spared = (λ z. tt, ((refl, λ b. (refl, refl)), (λ z. tt, ((refl, λ b. (refl, refl)), (λ z. tt, (λ z. tt, tt))))))

ready-there : (end_of (empty_store 4 15)).ready ≡ true
unfolding computed
ready-there = refl

-- the theorem says this of it
pub table-there : TableAt (end_of (after_format format)) (noted_in (after_format format))
table-there = table_kept 4 15 (omega arith) format history (rw (after-format format) met) spared (rw (after-format format) ready-there)

-- the tables of its list, and what a lookup tells
pub kept_there : noted_in (empty_store 4 15) ≡ one_band ∷ []
unfolding computed
kept_there = refl

pub row-there : look_up_call (lent_in (end_of (empty_store 4 15)) []) 1 7000 ≡ answered 0 0 9999 2
unfolding computed
row-there = refl
