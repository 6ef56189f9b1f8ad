-- The pump hours book in every history. Assumes nothing.
use Prim.Native.Nat.{ℕ, ◌*◌, ◌≤◌}
use mathlib.Core.Path.{◌≡◌, subst}
use mathlib.Core.Bool.{true}
use mathlib.Core.List.{List}
use mathlib.Core.Option.{Option}
use native.Mathlib.Omega.{arith}
use borrow.Author.Tests.{le-leb}
use Rattle.model.specs.Bytes.{zeros}
use Rattle.model.specs.History.{World, after_format}
use Rattle.unit_events.specs.Homes.{pump_home}
use Rattle.unit_events.specs.Offered.{held_after}
use Rattle.unit_events.specs.Folded.{noted, offers, ran, notes, stepped, Folded, Recorded}
use Rattle.unit_events.proofs.FoldedHolds.{events-folded}
use Rattle.unit_shared.specs.Unit.{as_judged as judges, event}
use Rattle.unit_shared.specs.Moments.{lent_in, Leaves}
use Rattle.unit_shared.proofs.MomentLaws.{event-stands}
use Rattle.unit_shared.proofs.MomentShown.{shown-there, kept_there}
use Rattle.unit_hours_book.specs.Events.{Event}
use Rattle.unit_hours_book.specs.Guarantees.{answer_by, held_with, Represents, Timed}
use Rattle.unit_hours_book.specs.Stored.{judged}
use Rattle.unit_hours_book.proofs.StoredHolds.{filling, hours-recorded}
use Rattle.unit_hours.specs.Calls.{known, judge, event_call}
use Rattle.unit_hours.specs.Histories.{BookAt, BookKept}
use Rattle.unit_hours.proofs.Claimed.{claimed}

-- a known pump's call is an event of the unit
pub call-is : (w : World) (pump writer : ℕ) (e : Event) (batch : List ℕ) → pump ≤ 7
    → event (lent_in w batch) writer (pump_home pump) 1 (λ b. judges (judged b e) (held_with b e)) ≡ event_call (lent_in w batch) writer pump e
unfolding event_call known judge judged held_with
call-is w pump writer e batch p = rw (le-leb pump 7 p)

module _ (pump : ℕ) (p : pump ≤ 7) (w : World) (ns : List (Option Event)) (ready : w.ready ≡ true)
    (f : Folded (pump_home pump) 1 judged held_with Timed w ns) (r : Recorded (pump_home pump) 1 judged held_with Timed answer_by Represents w ns) where
  abbrev held : List ℕ
  held = held_after held_with (zeros (64 * 1)) (noted ns)

  pub book-at : BookAt pump w (noted ns)
  book-at =
      record {
        block = held;
        claim = λ writer batch. claimed (lent_in w batch) writer pump p (noted ns) held
            (kept_there (pump_home pump) 1 judged held_with Timed w ns f answer_by Represents r) (shown-there (pump_home pump) 1 judged held_with Timed w ns f ready writer batch);
        stands = λ writer e batch. subst (Leaves w (stepped (pump_home pump) 1 judged held_with w (offers writer e batch))) (call-is w pump writer e batch p)
            (event-stands (pump_home pump) 1 judged held_with w writer e batch).leaves;
      }

pub book-kept : BookKept
book-kept pump p groups homes d f ss ok s ready =
    book-at pump p (ran (pump_home pump) 1 judged held_with (after_format f) ss) (notes (pump_home pump) 1 judged held_with (after_format f) ss) ready
    (events-folded (pump_home pump) 1 judged held_with Timed (omega arith) (filling pump) groups homes (omega arith) f ss ok s)
    (hours-recorded pump groups homes (omega arith) f ss ok s)
