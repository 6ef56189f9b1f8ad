-- What calls on a unit of n homes answer, in terms of the calls before them: of the abstract store and of what the unit's own events answer. The order is
-- the store's 4, 5, 19 and 20, then the unit's own, then 6, 8 and 9; 1 and 2 refuse none at a moment of a history.
use Rattle.std.specs.Prelude.{ℕ, ◌+◌, List, [], ◌∷◌, ◌++◌}
use Rattle.model.specs.Questions.{ask}
use Rattle.model.specs.History.{World, Formatting, after_format}
use Rattle.abstract_store.specs.Store.{Store, next_of, Reply, told}
use Rattle.acts.specs.Units.{Act}
use Rattle.acts.specs.Replies.{may_store_each, may_read_each, ask_named, transact_bytes, ask_entries, ManyAnswer}
use Rattle.theorems.specs.ActsAnswer.{store_after}
use Rattle.unit_events.specs.Folded.{Step, first, acts_of, stepped}
use Rattle.unit_shared.specs.Unit.{UnitOutcome}

-- the number of a call that reads the n homes from `home` on, before the unit's own
unfoldable pub ask_read : Store → ℕ → ℕ → ℕ → ℕ
ask_read s writer home n = ask_named s writer home n (ask (may_read_each s writer home n) 20 0)

-- a call that stores n blocks and reads none
unfoldable pub reply_stored : Store → ℕ → ℕ → ℕ → List ℕ → Reply
reply_stored s writer home n batch =
    told (ask_named s writer home n (ask (may_store_each s writer home n) 19 (ask_entries s writer n batch))) (next_of s + n) (transact_bytes s n)

-- an event that its unit answers `own`: "a pump's or alarm's event needs both rights"
unfoldable pub reply_event : Store → ℕ → ℕ → ℕ → ℕ → List ℕ → Reply
reply_event s writer home n own batch =
    told
    (ask_named s writer home n
    (ask (may_store_each s writer home n) 19 (ask (may_read_each s writer home n) 20 (first own (ask_entries s writer n batch)))))
    (next_of s + n)
    (transact_bytes s n)

-- what a call told
unfoldable pub told_by : UnitOutcome → Reply
told_by l = record { code = l.code; figure = l.figure; size = l.size }

-- a moment at which fetch, revise and transact answer what the abstract store says
abbrev pub Answered : World → Store → Type 0
Answered w s = (writer home : ℕ) (blocks batch : List ℕ) → ManyAnswer w s writer home blocks batch

module _ {E : Type 0} (home n : ℕ) (judge : List ℕ → E → ℕ) (apply : List ℕ → E → List ℕ) where
  -- the acts that the steps of a history stand for, and the abstract store beside them
  unfoldable pub all_acts : World → List (Step E) → List Act
  all_acts w [] = []
  all_acts w (s ∷ ss) = acts_of home n judge apply w s ++ all_acts (stepped home n judge apply w s) ss

  unfoldable pub store_next_to : {groups homes : ℕ} → Formatting groups homes → List (Step E) → Store
  store_next_to f ss = store_after f (all_acts (after_format f) ss)
