-- The newest positions are true at every moment after a done opening. "Under 3's premises that keeps it true, and a read, which uses it, gives what it
-- gave."
use Rattle.std.specs.Prelude.{ℕ, ◌+◌, ◌*◌, ◌<◌, ◌≤◌, ◌≡◌, true, List, [], ◌∷◌, length}
use Rattle.model.specs.Bytes.{part}
use Rattle.model.specs.Layout.{home_at}
use Rattle.model.specs.State.{list_home, listed_of, list_sign}
use Rattle.model.specs.Newest.{kept_as, kept_for}
use Rattle.model.specs.Effects.{newest_committed, own_else, shown, visible}
use Rattle.model.specs.Rights.{Faithful}
use Rattle.model.specs.Book.{homes_after}
use Rattle.model.specs.History.{World, Event, lent, step, Always}

pub record NewestTrue (w : World) : Type 0 where
  pub size : length w.newest ≡ 8 * w.homes
  -- "for each home the position of its newest committed entry, or none": as the commit rule finds it in the log copy
  pub positions : (home : ℕ) → home < w.homes → kept_for w.newest home ≡ kept_as (newest_committed (lent w [] [] 0 home))
  -- the block there, and where none is kept the data copy's, is the newest committed one by the book
  pub blocks : (home : ℕ) → home < w.homes → shown (lent w [] [] 0 home) ≡ home_at (homes_after w.homes w.book.commits) home
  -- the state strip has the same positions for the list's four homes
  pub listed : list_home + 4 ≤ w.homes → (i : ℕ) → i < 4 → listed_of w.state i ≡ kept_for w.newest (list_home + i)
  -- its sign says nothing false of the list as the book has it
  pub sign : list_home + 4 ≤ w.homes → Faithful (list_sign w.state) (part (homes_after w.homes w.book.commits) (64 * list_home) 256)
  -- what a read shows is what it showed while it searched the log
  pub same : (writer home : ℕ) → home < w.homes → own_else (lent w [] [] writer home) (shown (lent w [] [] writer home)) ≡ visible (lent w [] [] writer home)

abbrev pub NewestThroughout : World → List Event → Type 0
NewestThroughout w [] = w.ready ≡ true → NewestTrue w
NewestThroughout w (e ∷ es) = (w.ready ≡ true → NewestTrue w) × NewestThroughout (step w e) es

-- [S-36]
abbrev pub NewestKept : Type 0
NewestKept = Always NewestThroughout
