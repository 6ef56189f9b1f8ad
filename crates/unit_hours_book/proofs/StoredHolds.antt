-- A pump's home holds what its events in the book's list say, in every history. Assumes nothing.
use Prim.Native.Nat.{ℕ}
use mathlib.Core.Path.{◌≡◌, sym, ◌∙◌, subst}
use mathlib.Core.List.{List, [], ◌∷◌, ◌++◌}
use native.Mathlib.Omega.{arith}
use borrow.Author.Tests.{eq-eqb}
use Rattle.unit_events.specs.Offered.{joined}
use Rattle.unit_events.specs.Homes.{pump_home}
use Rattle.unit_events.specs.Folded.{Filling, Growing}
use Rattle.unit_events.proofs.FoldedHolds.{events-recorded}
use Rattle.unit_hours_book.specs.Pump.{pump_of}
use Rattle.unit_hours_book.specs.Events.{Event, answer, after, settled, applied}
use Rattle.unit_hours_book.specs.Guarantees.{answer_by, held_with, Represents, Timed}
use Rattle.unit_hours_book.specs.Stored.{judged, HoursRecorded}
use Rattle.unit_hours_book.proofs.BlockLaws.{length-block}
use Rattle.unit_hours_book.proofs.Guaranteed.{grown, kept-none}

pub filling : (pump : ℕ) → Filling (pump_home pump) 1 judged held_with
unfolding judged held_with applied settled
filling pump block e z = rw (eq-eqb (answer (pump_of block) e) 0 z) (length-block (after (pump_of block) e))

joined-done : (ds : List Event) (e : Event) → answer_by ds e ≡ 0 → joined answer_by ds e ≡ ds ++ (e ∷ [])
unfolding joined
joined-done ds e z = rw (eq-eqb (answer_by ds e) 0 z)

growing : (pump : ℕ) → Growing (pump_home pump) 1 judged held_with Timed answer_by Represents
unfolding judged
growing pump ds block e k t =
    let g = grown k e t in
    (g.code, λ z. subst (λ (es : List Event). Represents es (held_with block e)) (joined-done ds e (sym g.code ∙ z)) g.kept)

pub hours-recorded : HoursRecorded
hours-recorded pump = events-recorded (pump_home pump) 1 judged held_with Timed answer_by Represents (omega arith) (filling pump) kept-none (growing pump)
