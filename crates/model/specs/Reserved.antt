-- Places promised beforehand: the request's guarantee, and its two answers, as statements over all histories.
use Rattle.std.specs.Prelude.{ℕ, zero, suc, ◌+◌, ◌-◌, ◌*◌, ◌≤◌, ◌<◌, ◌≡◌, ◌⊎◌, ◌↔◌, ◌≢◌, true, cond, List, [], ◌∷◌, eqb, length}
use Rattle.model.specs.State.{state_of, promise_of, promised, places, free_places}
use Rattle.model.specs.Book.{Task, idle, opened}
use Rattle.model.specs.History.{Change, begins, reserves, aborts, stores, commits, flushes, Call, opening, confirm, change, service, begin, reserve, store, commit, flush, Event, call, crash, World, ends, step, Always}
use Rattle.model.specs.examples.Trials.{room, fill, goes, fresh}

-- What each writer's open transaction was granted, by the calls and their answers alone: n by a reserve, nothing by a begin. "Commit and abort give
-- unused ones back." "Opening forgets them all."

unfoldable pub none : ℕ → ℕ
none writer = 0

unfoldable pub grant_to : (ℕ → ℕ) → ℕ → ℕ → ℕ → ℕ
grant_to granted writer n x = cond (eqb writer x) n (granted x)

unfoldable pub grant_change : (ℕ → ℕ) → Change → ℕ → ℕ
grant_change granted (begins writer) = grant_to granted writer 0
grant_change granted (reserves writer n) = grant_to granted writer n
grant_change granted (aborts writer) = grant_to granted writer 0
grant_change granted (stores writer home block batch) = granted
grant_change granted (commits writer batch) = grant_to granted writer 0
grant_change granted (flushes batch) = granted

unfoldable pub grant_done : (ℕ → ℕ) → Call → ℕ → ℕ
grant_done granted (opening state newest batch) = none
grant_done granted confirm = granted
grant_done granted (change c) = grant_change granted c
grant_done granted (service c) = granted

-- a refused call changes nothing in it
unfoldable pub grant_call : (ℕ → ℕ) → Call → ℕ → ℕ → ℕ
grant_call granted c zero = grant_done granted c
grant_call granted c (suc code) = granted

unfoldable pub grant : (ℕ → ℕ) → World → Event → ℕ → ℕ
grant granted w (call c) = grant_call granted c (ends w c).code
grant granted w (crash passed chosen) = none

-- the entries that a writer's open transaction has logged, by the book: all of them since the reserve or begin that opened it
unfoldable pub entries_of : Task → ℕ
entries_of idle = 0
entries_of (opened logged held) = length logged

-- at every moment
pub record Promised (w : World) (granted : ℕ → ℕ) : Type 0 where
  -- "together they are at most the places from the next position on"
  pub within : promised w.state 8 ≤ places (state_of w.state)
  -- what the strip has for a writer is what it was granted less its entries since, "each using one up"
  pub left : (writer : ℕ) → writer < 8 → promise_of w.state writer ≡ granted writer - entries_of (w.book.tasks writer)
  -- "its first n entries .. never meet answer 8", whatever the others have done since
  pub storing : (writer home : ℕ) (block batch : List ℕ) → writer < 8 → entries_of (w.book.tasks writer) < granted writer
      → (ends w (store writer home block batch)).code ≢ 8
  pub committing : (writer : ℕ) (batch : List ℕ) → writer < 8 → entries_of (w.book.tasks writer) < granted writer
      → (ends w (commit writer batch)).code ≢ 8
  -- "17 n is 0 or more than the free places"
  pub granting : (writer n : ℕ) → writer < 8 → w.book.tasks writer ≡ idle
      → ((ends w (reserve writer n)).code ≡ 17) ↔ ((n ≡ 0) ⊎ (free_places w.state < n))
  -- "A flush that would leave fewer places than are promised is refused": one of a part-filled group
  pub flushing : (batch : List ℕ) → ((ends w (flush batch)).code ≡ 18)
      ↔ ((1 ≤ (state_of w.state).filled)
      × (7 * ((state_of w.state).start + (state_of w.state).groups) - 7 * ((state_of w.state).next + 1) < promised w.state 8))

abbrev pub PromisedThroughout : World → (ℕ → ℕ) → List Event → Type 0
PromisedThroughout w granted [] = w.ready ≡ true → Promised w granted
PromisedThroughout w granted (e ∷ es) = (w.ready ≡ true → Promised w granted) × PromisedThroughout (step w e) (grant granted w e) es

-- [S-43, S-44]
abbrev pub ReservedKept : Type 0
ReservedKept = Always (λ w es. PromisedThroughout w none es)

-- A log of 28 places of which writer 0 reserves 25; writer 1 stores until it has logged three entries. Then writer 1's next store and its commit
-- answer 8, a flush of the part-filled group 18 and another reserve 17; but writer 0 stores two homes and commits.

unfoldable pub filling : List Call
filling = store 1 0 (fill 1) room ∷ store 1 1 (fill 2) room ∷ store 1 0 (fill 1) room ∷ store 1 1 (fill 2) room ∷ []

unfoldable pub busy_log : List ℕ
busy_log =
    let w : World = goes fresh (reserve 0 25 ∷ begin 1 ∷ filling) in
    let v : World = step w (call (store 0 5 (fill 5) room)) in
    (ends w (store 1 0 (fill 1) room)).code ∷ (ends w (commit 1 room)).code ∷ (ends w (flush room)).code ∷ (ends w (reserve 2 1)).code
    ∷ (ends v (store 0 6 (fill 6) room)).code ∷ (ends (step v (call (store 0 6 (fill 6) room))) (commit 0 room)).code ∷ []
