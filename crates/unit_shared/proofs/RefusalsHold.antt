-- What refused calls on units leave. Assumes nothing.
use Prim.Native.Nat.{ℕ, zero, suc}
use mathlib.Core.Path.{refl}
use mathlib.Core.Bool.{Bool, true, false, cond}
use mathlib.Core.List.{List}
use mathlib.Core.Logic.{◌≢◌}
use lib.Dec.{eqb}
use Rattle.model.specs.Effects.{Given, Effect}
use Rattle.model.specs.Calls.{Outcome, refused, done, outcome, size_of}
use Rattle.acts.specs.Many.{transact_effect, transact_answer, transact_call}
use Rattle.call_ask.specs.Lent.{lent_all}
use Rattle.unit_shared.specs.Unit.{Lent, Judged, untouched, left_under, revised, transacted, stored, after_reading, event}
use Rattle.unit_shared.specs.Refusals.{Refusal, UnitRefusals}

pub untouched-refuses : (l : Lent) (code figure : ℕ) → Refusal l figure (untouched l code figure)
unfolding untouched
untouched-refuses l code figure = record { figure = refl; size = refl; log = refl; area = refl; state = refl; newest = refl; batch = refl }

module _ (l : Lent) (writer home : ℕ) where
  by_answer : (blocks : List ℕ) (a : ℕ) (e : Effect)
      → (left_under (outcome (lent_all l.log l.area l.state l.newest blocks l.batch writer home) a e)).code ≢ 0
      → Refusal l 0 (left_under (outcome (lent_all l.log l.area l.state l.newest blocks l.batch writer home) a e))
  unfolding outcome done refused left_under
  by_answer blocks zero e n = absurd (n refl)
  by_answer blocks (suc k) e n = record { figure = refl; size = refl; log = refl; area = refl; state = refl; newest = refl; batch = refl }

  transaction-refused : (blocks : List ℕ) → (transacted l writer home blocks).code ≢ 0 → Refusal l 0 (transacted l writer home blocks)
  unfolding transacted transact_call
  transaction-refused blocks n =
      let g : Given = lent_all l.log l.area l.state l.newest blocks l.batch writer home in
      by_answer blocks (transact_answer g (size_of (transact_effect g))) (transact_effect g) n

  stored_refused : (j : Judged) → (stored l writer home j).code ≢ 0 → Refusal l 0 (stored l writer home j)
  unfolding stored
  stored_refused j n = go (eqb j.code 0) n
    where
      go : (d : Bool) → (cond d (transacted l writer home j.blocks) (untouched l j.code 0)).code ≢ 0
          → Refusal l 0 (cond d (transacted l writer home j.blocks) (untouched l j.code 0))
      go true m = transaction-refused j.blocks m
      go false m = untouched-refuses l j.code 0

  read-refused : (judge : List ℕ → Judged) (o : Outcome) → (after_reading l writer home judge o).code ≢ 0 → Refusal l 0 (after_reading l writer home judge o)
  unfolding after_reading
  read-refused judge o n = go (eqb o.code 0) n
    where
      go : (d : Bool) → (cond d (stored l writer home (judge o.block)) (untouched l o.code 0)).code ≢ 0
          → Refusal l 0 (cond d (stored l writer home (judge o.block)) (untouched l o.code 0))
      go true m = stored_refused (judge o.block) m
      go false m = untouched-refuses l o.code 0

  pub unit-refusals : UnitRefusals l writer home
  unfolding event
  unit-refusals = record { transactions = transaction-refused; events = λ n judge m. read-refused judge (revised l writer home n) m }
