-- What events need of the store, beside `UnitsKept`: promises for every history of acts from a done format on. The proofs on events use nothing else of it.
use Rattle.std.specs.Prelude.{ℕ, ◌+◌, ◌*◌, ◌/◌, ◌≤◌, ◌<◌, ◌≡◌, true, List, length}
use Rattle.model.specs.Bytes.{part}
use Rattle.model.specs.State.{list_home}
use Rattle.model.specs.Rights.{may_store}
use Rattle.model.specs.Book.{homes_after}
use Rattle.model.specs.History.{store, call, World, Formatting, after_format, ends}
use Rattle.acts.specs.Units.{Act, plain, transacts, fetches, revises, transact_ends, act, acted, AllActsAllowed}

-- a refused store or transact leaves everything as it was, and so does a call that reads; a done transact has homes
pub record Stays (w : World) : Type 0 where
  pub stores :
      (writer home : ℕ) (block batch : List ℕ) → ((ends w (store writer home block batch)).code ≡ 0 → ⊥) → act w (plain (call (store writer home block batch))) ≡ w
  pub transactions :
      (writer home : ℕ) (blocks batch : List ℕ) → ((transact_ends w writer home blocks batch).code ≡ 0 → ⊥) → act w (transacts writer home blocks batch) ≡ w
  pub fetching : (writer home : ℕ) (blocks : List ℕ) → act w (fetches writer home blocks) ≡ w
  pub revising : (writer home : ℕ) (blocks : List ℕ) → act w (revises writer home blocks) ≡ w
  pub some : (writer home : ℕ) (blocks batch : List ℕ) → (transact_ends w writer home blocks batch).code ≡ 0 → 1 ≤ length blocks / 64

abbrev pub RefusalsStay : Type 0
RefusalsStay = (w : World) → Stays w

-- the list of rights that counts at a moment: the committed one
unfoldable pub list_in : World → List ℕ
list_in w = part (homes_after w.homes w.book.commits) (64 * list_home) 256

-- what is stored, by a done store or transact, the list that counts gives to its writer
pub record RightsHad (w : World) : Type 0 where
  pub stores :
      (writer home : ℕ) (block batch : List ℕ) →
      w.ready ≡ true →
      (ends w (store writer home block batch)).code ≡ 0 →
      may_store w.homes (list_in w) writer home ≡ true
  pub transactions :
      (writer home : ℕ) (blocks batch : List ℕ) →
      w.ready ≡ true →
      (transact_ends w writer home blocks batch).code ≡ 0 →
      (k : ℕ) →
      k < length blocks / 64 →
      may_store w.homes (list_in w) writer (home + k) ≡ true

abbrev pub RightsAlwaysHad : Type 0
RightsAlwaysHad =
    (groups homes : ℕ) (f : Formatting groups homes) (acts : List Act) → AllActsAllowed (after_format f) acts → RightsHad (acted (after_format f) acts)
