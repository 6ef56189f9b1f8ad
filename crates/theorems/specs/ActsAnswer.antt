-- What every call answers in histories with calls on several homes: at every moment after a done opening number, figure and bytes of records of fetch,
-- revise and transact are those of the abstract store (acts' specs/Replies), and of every event that may come next those of its Store.antt. The abstract store is fed
-- the calls that the acts stand for: a done transact's begin, stores and commit.
use Rattle.std.specs.Prelude.{ℕ, ◌≡◌, true, List}
use Rattle.model.specs.History.{Event, World, Formatting, after_format, Allowed}
use Rattle.abstract_store.specs.Store.{Store, new_store, AnswersAt}
use Rattle.acts.specs.Units.{Act, acted, AllActsAllowed, expand_all}
use Rattle.acts.specs.Replies.{ManyAnswer}
use Rattle.theorems.specs.Isolation.{followed}

unfoldable pub store_after : {groups homes : ℕ} → Formatting groups homes → List Act → Store
store_after {groups} {homes} f acts = followed (new_store groups homes) (after_format f) (expand_all (after_format f) acts)

pub record Answering (w : World) (s : Store) : Type 0 where
  pub events : (e : Event) → Allowed w e → AnswersAt w s e
  pub many : w.ready ≡ true → (writer home : ℕ) (blocks batch : List ℕ) → ManyAnswer w s writer home blocks batch

-- at the end of every history from a done format on, and so at every moment of it [S-50]
abbrev pub ActsAnswer : Type 0
ActsAnswer =
    (groups homes : ℕ) (f : Formatting groups homes) (acts : List Act) → AllActsAllowed (after_format f) acts →
    Answering (acted (after_format f) acts) (store_after f acts)
