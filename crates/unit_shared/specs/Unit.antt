-- A unit: homes in a row that are read and stored together. What the calls on units (requests a, c and m) share; they stand on the store's fetch,
-- revise and transact alone.
use Rattle.std.specs.Prelude.{ℕ, ◌*◌, cond, List, [], eqb}
use Rattle.model.specs.Bytes.{zeros}
use Rattle.model.specs.Calls.{Outcome}
use Rattle.acts.specs.Many.{fetch_call, revise_call, transact_call}
use Rattle.call_ask.specs.Lent.{lent_all}

-- what a call is lent beside its own numbers; one that only reads is lent no batch
pub record Lent : Type 0 where
  pub log : List ℕ
  pub area : List ℕ
  pub state : List ℕ
  pub newest : List ℕ
  pub batch : List ℕ

abbrev pub lent_to : List ℕ → List ℕ → List ℕ → List ℕ → List ℕ → Lent
lent_to log area state newest batch = record { log = log; area = area; state = state; newest = newest; batch = batch }

-- all that it gives and leaves
pub record UnitOutcome : Type 0 where
  pub code : ℕ
  pub figure : ℕ
  pub size : ℕ
  pub log : List ℕ
  pub area : List ℕ
  pub state : List ℕ
  pub newest : List ℕ
  pub batch : List ℕ

abbrev pub leaves : ℕ → ℕ → ℕ → List ℕ → List ℕ → List ℕ → List ℕ → List ℕ → UnitOutcome
leaves code figure size log area state newest batch =
    record { code = code; figure = figure; size = size; log = log; area = area; state = state; newest = newest; batch = batch }

-- a refusal, with a figure where the request gives it one
unfoldable pub untouched : Lent → ℕ → ℕ → UnitOutcome
untouched l code figure = leaves code figure 0 l.log l.area l.state l.newest l.batch

unfoldable pub left_under : Outcome → UnitOutcome
left_under o = leaves o.code o.figure o.size o.log o.area o.state o.newest o.batch

-- n homes read, and read by a call that is going to store them; "a call on them names a writer, for whom it reads"
unfoldable pub fetched : Lent → ℕ → ℕ → ℕ → Outcome
fetched l writer home n = fetch_call (lent_all l.log l.area l.state l.newest (zeros (64 * n)) [] writer home)

unfoldable pub revised : Lent → ℕ → ℕ → ℕ → Outcome
revised l writer home n = revise_call (lent_all l.log l.area l.state l.newest (zeros (64 * n)) [] writer home)

-- "or begins, stores and commits": blocks stored as one transaction
unfoldable pub transacted : Lent → ℕ → ℕ → List ℕ → UnitOutcome
transacted l writer home blocks =
    left_under (transact_call (lent_all l.log l.area l.state l.newest blocks l.batch writer home))

-- Events: a unit's blocks are read, judged, and stored as the event leaves them.

-- what an event makes of the blocks: its answer, and the new blocks if that is 0
pub record Judged : Type 0 where
  pub code : ℕ
  pub blocks : List ℕ

abbrev pub as_judged : ℕ → List ℕ → Judged
as_judged code blocks = record { code = code; blocks = blocks }

unfoldable pub stored : Lent → ℕ → ℕ → Judged → UnitOutcome
stored l writer home j = cond (eqb j.code 0) (transacted l writer home j.blocks) (untouched l j.code 0)

-- the store's questions up to 20 come with the reading, then the event's own, then the rest with the transaction
unfoldable pub after_reading : Lent → ℕ → ℕ → (List ℕ → Judged) → Outcome → UnitOutcome
after_reading l writer home judge o = cond (eqb o.code 0) (stored l writer home (judge o.block)) (untouched l o.code 0)

unfoldable pub event : Lent → ℕ → ℕ → ℕ → (List ℕ → Judged) → UnitOutcome
event l writer home n judge = after_reading l writer home judge (revised l writer home n)
