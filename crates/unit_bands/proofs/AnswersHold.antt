-- What the calls on the table answer in every history. Assumes nothing.
use Prim.Native.Nat.{ℕ, zero, suc, ◌+◌, ◌≤◌, ◌<◌}
use mathlib.Core.Path.{◌≡◌, refl, ap, ◌∙◌}
use mathlib.Core.Bool.{Bool, true, false, cond}
use mathlib.Core.List.{List, []}
use native.Mathlib.Decide.{dec_lt}
use native.Mathlib.Omega.{arith}
use borrow.Author.Tests.{eqb-true, eqb-false, le-leb, lt-leb}
use lib.Dec.{eqb, leb}
use Rattle.model.specs.Questions.{ask}
use Rattle.model.specs.Bytes.{zeros}
use Rattle.model.specs.History.{World, Formatting, after_format}
use Rattle.abstract_store.specs.Store.{Store}
use Rattle.unit_events.specs.Homes.{table_home, table_homes}
use Rattle.unit_events.specs.Folded.{Step, noted, ran, notes, AllStepsAllowed, SparedBySteps}
use Rattle.unit_shared.specs.Unit.{untouched, fetched}
use Rattle.unit_shared.specs.Moments.{lent_in}
use Rattle.unit_shared.specs.Replies.{ask_read, reply_stored, told_by, Answered, store_next_to}
use Rattle.unit_shared.proofs.RepliesHold.{fetched-code, transacted-told, few-unread, few-unfetched, answered-there}
use Rattle.unit_bands_table.specs.Judge.{judgement}
use Rattle.unit_bands_table.specs.Packed.{answered, pack, found}
use Rattle.unit_bands_table.specs.Stored.{judged, stored, Accepted, last_of}
use Rattle.unit_bands.specs.Calls.{set_call, look_up_call}
use Rattle.unit_bands.specs.Claims.{Claim}
use Rattle.unit_bands.specs.Answers.{rows_refused, set_reply, lookup_answered, lookup_reply, TableAnswers, BandsAnswer}
use Rattle.unit_bands.proofs.RefusalsHold.{refusals-on-tables}
use Rattle.unit_bands.proofs.Claimed.{recording, claimed}
use Rattle.unit_bands.proofs.TableHolds.{table_kept}

module _ (w : World) (s : Store) (m : Answered w s) (cs ts : List (List ℕ)) (claim : (writer : ℕ) (batch : List ℕ) → Claim (lent_in w batch) writer cs)
    (looks : (writer : ℕ) (batch : List ℕ) (mm : ℕ) → mm ≤ 9999 → (fetched (lent_in w batch) writer table_home table_homes).code ≡ 0
    → look_up_call (lent_in w batch) writer mm ≡ found mm (last_of ts)) where
  set-reply : (writer : ℕ) (bytes batch : List ℕ) → told_by (set_call (lent_in w batch) writer bytes) ≡ set_reply s writer bytes batch
  unfolding set_reply
  set-reply writer bytes batch = go (eqb (judgement bytes).code 0) refl
    where
      go : (d : Bool) → eqb (judgement bytes).code 0 ≡ d
          → told_by (set_call (lent_in w batch) writer bytes) ≡ cond d (reply_stored s writer table_home table_homes batch) (rows_refused (judgement bytes))
      go true e =
          let z : (judgement bytes).code ≡ 0 = eqb-true (judgement bytes).code 0 e in
          ap told_by ((claim writer batch).stored bytes z)
          ∙ transacted-told w s m writer table_home table_homes (omega arith) (omega arith) (pack bytes) batch (recording.size bytes z)
      go false e =
          ap told_by ((claim writer batch).refused bytes (eqb-false (judgement bytes).code 0 e)) ∙ (unfold told_by untouched rows_refused in refl)

  lookup-reply : (writer mm : ℕ) (batch : List ℕ) → look_up_call (lent_in w batch) writer mm ≡ lookup_reply s ts writer mm
  unfolding lookup_reply lookup_answered
  lookup-reply writer mm batch = go (dec_lt 9999 mm)
    where
      read : (k : ℕ) → mm ≤ 9999 → (fetched (lent_in w batch) writer table_home table_homes).code ≡ k
          → look_up_call (lent_in w batch) writer mm ≡ lookup_answered k ts mm
      read zero l e = looks writer batch mm l e
      read (suc k) l e =
          (refusals-on-tables (lent_in w batch) writer).unread mm l (λ z. absurd (omega (arith, e, z))) ∙ ap (λ (x : ℕ). answered x 0 0 0) e

      go : Dec (9999 < mm) → look_up_call (lent_in w batch) writer mm ≡ lookup_answered (ask (leb mm 9999) 11 (ask_read s writer table_home table_homes)) ts mm
      go (yes l) = rw (lt-leb mm 9999 l) (unfold ask lookup_answered in (refusals-on-tables (lent_in w batch) writer).deep mm l)
      go (no l) =
          rw (le-leb mm 9999 (omega arith))
          (unfold ask in read (ask_read s writer table_home table_homes) (omega arith) (fetched-code w s m writer table_home table_homes (omega arith) (omega arith) batch))

  table-answers : TableAnswers w s ts
  table-answers = record { sets = set-reply; lookups = lookup-reply }

-- in the histories of the table, with any store by which the moment is answered
pub kept-with : (groups homes : ℕ) → table_home + table_homes ≤ homes → (f : Formatting groups homes) (ss : List (Step (List ℕ)))
    → AllStepsAllowed table_home table_homes judged stored (after_format f) ss → SparedBySteps table_home table_homes judged stored Accepted (after_format f) ss
    → (ran table_home table_homes judged stored (after_format f) ss).ready ≡ true → (s : Store)
    → Answered (ran table_home table_homes judged stored (after_format f) ss) s
    → TableAnswers (ran table_home table_homes judged stored (after_format f) ss) s (noted (notes table_home table_homes judged stored (after_format f) ss))
kept-with groups homes d f ss ok spared ready s m =
    let ts : List (List ℕ) = noted (notes table_home table_homes judged stored (after_format f) ss) in
    let t = table_kept groups homes d f ss ok spared ready in
    table-answers (ran table_home table_homes judged stored (after_format f) ss) s m ts ts t.claim (λ writer batch mm l z. (t.claim writer batch).lookup mm l z)

-- with a store that has too few homes for it
few-answers : (w : World) (s : Store) → Answered w s → s.homes < table_home + table_homes → (ts : List (List ℕ)) → TableAnswers w s ts
few-answers w s m l ts =
    table-answers w s m [] ts
    (λ writer batch. claimed (lent_in w batch) writer [] (zeros 192) recording.none
    (record {
      fetched = λ z. absurd (few-unfetched w s m writer table_home table_homes (omega arith) (omega arith) l batch z);
      revised = λ z. absurd (few-unread w s m writer table_home table_homes (omega arith) (omega arith) l batch z);
    }))
    (λ writer batch mm k z. absurd (few-unfetched w s m writer table_home table_homes (omega arith) (omega arith) l batch z))

pub bands-answer : BandsAnswer
bands-answer =
    record {
      kept = λ groups homes d f ss ok spared ready.
          kept-with groups homes d f ss ok spared ready (store_next_to table_home table_homes judged stored f ss)
          (answered-there table_home table_homes judged stored f ss ok ready);
      few = few-answers;
    }
