-- What the calls on the table of depth bands answer in every history, number and figures, in terms of the calls before them: of the abstract store `s` and
-- of the tables `ts` in the book's list.
-- set: 11, 12 or 13 by its rows, the last two with their millimetre, then 4, 5, 19, 6, 8, 9, then the ticket. look_up: 11 above 9,999 mm, then 4, 5, 20, 11
-- if there is no table, then the row of the last one. 1 and 2 refuse none at a moment of a history.
use Rattle.std.specs.Prelude.{ℕ, zero, suc, ◌+◌, ◌≤◌, ◌<◌, ◌≡◌, true, cond, List, eqb, leb}
use Rattle.model.specs.Questions.{ask}
use Rattle.model.specs.History.{World, Formatting, after_format}
use Rattle.abstract_store.specs.Store.{Store, Reply}
use Rattle.unit_events.specs.Homes.{table_home, table_homes}
use Rattle.unit_events.specs.Folded.{Step, noted, ran, notes, AllStepsAllowed, SparedBySteps}
use Rattle.unit_shared.specs.Moments.{lent_in}
use Rattle.unit_shared.specs.Replies.{ask_read, reply_stored, told_by, Answered, store_next_to}
use Rattle.unit_bands_table.specs.Judge.{Verdict, judgement}
use Rattle.unit_bands_table.specs.Packed.{Lookup, answered, found}
use Rattle.unit_bands_table.specs.Stored.{judged, stored, Accepted, last_of}
use Rattle.unit_bands.specs.Calls.{set_call, look_up_call}

unfoldable pub rows_refused : Verdict → Reply
rows_refused v = record { code = v.code; figure = v.millimetre; size = 0 }

unfoldable pub set_reply : Store → ℕ → List ℕ → List ℕ → Reply
set_reply s writer bytes batch =
    cond (eqb (judgement bytes).code 0) (reply_stored s writer table_home table_homes batch) (rows_refused (judgement bytes))

unfoldable pub lookup_answered : ℕ → List (List ℕ) → ℕ → Lookup
lookup_answered zero ts mm = found mm (last_of ts)
lookup_answered (suc k) ts mm = answered (suc k) 0 0 0

unfoldable pub lookup_reply : Store → List (List ℕ) → ℕ → ℕ → Lookup
lookup_reply s ts writer mm = lookup_answered (ask (leb mm 9999) 11 (ask_read s writer table_home table_homes)) ts mm

-- every call on the table at a moment
pub record TableAnswers (w : World) (s : Store) (ts : List (List ℕ)) : Type 0 where
  pub sets : (writer : ℕ) (bytes batch : List ℕ) → told_by (set_call (lent_in w batch) writer bytes) ≡ set_reply s writer bytes batch
  pub lookups : (writer mm : ℕ) (batch : List ℕ) → look_up_call (lent_in w batch) writer mm ≡ lookup_reply s ts writer mm

-- At the end of every history of `TableKept`, and so at every moment of it after a done opening. With too few homes for the table, at every moment at which
-- fetch, revise and transact answer by the store (`ActsAnswer`): 4 or 5 after the rows' own, whatever the tables are. [S-50]
pub record BandsAnswer : Type 0 where
  pub kept :
      (groups homes : ℕ) → table_home + table_homes ≤ homes → (f : Formatting groups homes) (ss : List (Step (List ℕ))) →
      AllStepsAllowed table_home table_homes judged stored (after_format f) ss → SparedBySteps table_home table_homes judged stored Accepted (after_format f) ss →
      (ran table_home table_homes judged stored (after_format f) ss).ready ≡ true →
      TableAnswers (ran table_home table_homes judged stored (after_format f) ss) (store_next_to table_home table_homes judged stored f ss)
      (noted (notes table_home table_homes judged stored (after_format f) ss))
  pub few : (w : World) (s : Store) → Answered w s → s.homes < table_home + table_homes → (ts : List (List ℕ)) → TableAnswers w s ts
