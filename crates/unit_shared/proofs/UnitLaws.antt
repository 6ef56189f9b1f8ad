-- How the calls on units end, from what the store's calls give them. Assumes nothing.
use mathlib.Core.Path.{◌≡◌, ap, ◌∙◌}
use mathlib.Core.List.{List, []}
use mathlib.Core.Logic.{◌≢◌}
use Prim.Native.Nat.{ℕ, ◌*◌}
use borrow.Author.Tests.{ne_eqb}
use Rattle.model.specs.Bytes.{zeros}
use Rattle.model.specs.Calls.{Outcome}
use Rattle.call_ask.specs.Lent.{lent_all, leaves_everything}
use Rattle.acts.specs.Many.{fetch_call, revise_call, transact_call}
use Rattle.unit_shared.specs.Unit.{Lent, UnitOutcome, leaves, untouched, left_under, fetched, revised, transacted, Judged, as_judged, stored, after_reading, event}

-- what a call that reads is given: its answer and the blocks, all else as it was
abbrev pub read_as : Lent → ℕ → ℕ → ℕ → List ℕ → Outcome
read_as l code figure size blocks = leaves_everything code figure size l.log l.area l.state l.newest blocks []

module _ (l : Lent) where
  -- a refusal: its number and figure, and all lent memory as it was
  pub refusal : (a f : ℕ) {code figure size : ℕ} → code ≡ a → figure ≡ f → size ≡ 0
      → leaves code figure size l.log l.area l.state l.newest l.batch ≡ untouched l a f
  unfolding untouched
  refusal a f ec ef es = rw (ec, ef, es)

  module _ (writer home : ℕ) where
    -- a transaction of blocks
    pub transaction : (blocks : List ℕ) {code figure size : ℕ} {log state newest batch : List ℕ}
        → leaves_everything code figure size log l.area state newest blocks batch
        ≡ transact_call (lent_all l.log l.area l.state l.newest blocks l.batch writer home)
        → leaves code figure size log l.area state newest batch ≡ transacted l writer home blocks
    unfolding transacted left_under
    transaction blocks e = rw (← e)

    -- an event that is judged
    pub not-stored : (answer : ℕ) (next : List ℕ) {code figure size : ℕ} → answer ≢ 0 → code ≡ answer → figure ≡ 0 → size ≡ 0
        → leaves code figure size l.log l.area l.state l.newest l.batch ≡ stored l writer home (as_judged answer next)
    unfolding stored
    not-stored answer next h ec ef es = rw (ne_eqb answer 0 h) (refusal answer 0 ec ef es)

    pub is-stored : (answer : ℕ) (next : List ℕ) {code figure size : ℕ} {log state newest batch : List ℕ} → answer ≡ 0
        → leaves_everything code figure size log l.area state newest next batch
        ≡ transact_call (lent_all l.log l.area l.state l.newest next l.batch writer home)
        → leaves code figure size log l.area state newest batch ≡ stored l writer home (as_judged answer next)
    unfolding stored
    is-stored answer next h t = rw h (transaction next t)

    -- a reading of n homes into a buffer of zeros
    module _ (n code figure size : ℕ) (given blocks : List ℕ) (z : given ≡ zeros (64 * n)) where
      pub fetching : read_as l code figure size blocks ≡ fetch_call (lent_all l.log l.area l.state l.newest given [] writer home)
          → read_as l code figure size blocks ≡ fetched l writer home n
      unfolding fetched
      fetching e = e ∙ ap (λ b. fetch_call (lent_all l.log l.area l.state l.newest b [] writer home)) z

      -- an event, from what its reading gives
      module _
          (judge : List ℕ → Judged)
          (e : read_as l code figure size blocks ≡ revise_call (lent_all l.log l.area l.state l.newest given [] writer home))
        where
          reading : read_as l code figure size blocks ≡ revised l writer home n
          unfolding revised
          reading = e ∙ ap (λ b. revise_call (lent_all l.log l.area l.state l.newest b [] writer home)) z

          -- the reading is refused
          pub event-unread : code ≢ 0 → {c f s : ℕ} → c ≡ code → f ≡ 0 → s ≡ 0
              → leaves c f s l.log l.area l.state l.newest l.batch ≡ event l writer home n judge
          unfolding event after_reading
          event-unread h ec ef es = rw (← reading, ne_eqb code 0 h) (refusal code 0 ec ef es)

          -- it is read, and ends by its own answer
          pub event-read : code ≡ 0 → (answer : ℕ) (next : List ℕ) → as_judged answer next ≡ judge blocks → {x : UnitOutcome}
              → x ≡ stored l writer home (as_judged answer next) → x ≡ event l writer home n judge
          unfolding event after_reading
          event-read done answer next j q = rw (← reading, done, ← j) q
