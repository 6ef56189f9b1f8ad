-- A call on a unit as a step of a history: what it is lent at a moment, and that it leaves what the step leaves.
use Rattle.std.specs.Prelude.{ℕ, ◌*◌, ◌≡◌, List, ◌++◌, take}
use Rattle.model.specs.Bytes.{zeros}
use Rattle.model.specs.Batch.{read_batch}
use Rattle.model.specs.History.{World}
use Rattle.unit_events.specs.Folded.{offers, sets, answered, stepped}
use Rattle.unit_shared.specs.Unit.{Lent, lent_to, UnitOutcome, as_judged, transacted, event}

-- strip, newest positions and copies as the program has them, and a batch buffer
abbrev pub lent_in : World → List ℕ → Lent
lent_in w batch = lent_to w.log w.area w.state w.newest batch

-- the next moment has what the call left; the driver reads the records off its batch
pub record Leaves (w next : World) (l : UnitOutcome) : Type 0 where
  pub log : next.log ≡ l.log
  pub area : next.area ≡ l.area
  pub state : next.state ≡ l.state
  pub newest : next.newest ≡ l.newest
  pub pending : next.pending ≡ w.pending ++ read_batch (take l.size l.batch)

-- an event's call is its step, and answers what the step is answered
pub record EventStands {E : Type 0} (home n : ℕ) (judge : List ℕ → E → ℕ) (apply : List ℕ → E → List ℕ) (w : World) (writer : ℕ) (e : E) (batch : List ℕ) : Type 0 where
  pub leaves :
      Leaves w (stepped home n judge apply w (offers writer e batch))
      (event (lent_in w batch) writer home n (λ blocks. as_judged (judge blocks e) (apply blocks e)))
  pub code :
      (event (lent_in w batch) writer home n (λ blocks. as_judged (judge blocks e) (apply blocks e))).code ≡ answered home n judge apply w writer e batch

-- a call that stores without reading is its step
abbrev pub SetStands : {E : Type 0} → ℕ → ℕ → (List ℕ → E → ℕ) → (List ℕ → E → List ℕ) → World → ℕ → E → List ℕ → Type 0
SetStands home n judge apply w writer e batch =
    Leaves w (stepped home n judge apply w (sets writer e batch)) (transacted (lent_in w batch) writer home (apply (zeros (64 * n)) e))
