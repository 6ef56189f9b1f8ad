-- "A refusal returns its number, no other figure but zero, no train bytes, and all lent memory untouched": for calls on units, whoever refuses them.
use Rattle.std.specs.Prelude.{ℕ, ◌≡◌, List, ◌≢◌}
use Rattle.unit_shared.specs.Unit.{Lent, UnitOutcome, Judged, transacted, event}

-- what a refused call gives beside its number, with a figure where the request gives it one, and leaves
pub record Refusal (l : Lent) (told : ℕ) (x : UnitOutcome) : Type 0 where
  pub figure : x.figure ≡ told
  pub size : x.size ≡ 0
  pub log : x.log ≡ l.log
  pub area : x.area ≡ l.area
  pub state : x.state ≡ l.state
  pub newest : x.newest ≡ l.newest
  pub batch : x.batch ≡ l.batch

-- a refused transaction, and a refused event, of any unit and by whatever it is judged
pub record UnitRefusals (l : Lent) (writer home : ℕ) : Type 0 where
  pub transactions : (blocks : List ℕ) → (transacted l writer home blocks).code ≢ 0 → Refusal l 0 (transacted l writer home blocks)
  pub events : (n : ℕ) (judge : List ℕ → Judged) → (event l writer home n judge).code ≢ 0 → Refusal l 0 (event l writer home n judge)
