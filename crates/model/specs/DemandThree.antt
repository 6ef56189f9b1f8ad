-- Demand 3 as a statement over all histories: what an opening gives after a cut, and which commits a cut never takes. It reads with Crash (which writes
-- persist), Book (the commits) and History (calls, crashes and the premises) alone; the calls are black boxes: a record of what a call left, by number.
use Rattle.std.specs.Prelude.{ℕ, ◌≡◌, ◌⊎◌, Bool, false, List, [], ◌∷◌, length, drop}
use Rattle.model.specs.Calls.{Outcome}
use Rattle.model.specs.Book.{Commit, run, homes_after}
use Rattle.model.specs.History.{Call, opening, confirm, change, service, Event, call, crash, World, ends, row_fates, step, Always}

-- "every opening that does not answer 1, 9 or 10 is done, and leaves a data copy equal byte for byte to the homes after the longest run of commits,
-- from the first on, whose entries had all landed, by 01's book." At a crash the book's list is cut to that run. [S-54]
pub record Opened (w : World) (o : Outcome) : Type 0 where
  pub answer : (o.code ≡ 0) ⊎ ((o.code ≡ 1) ⊎ ((o.code ≡ 9) ⊎ (o.code ≡ 10)))
  pub restored : o.code ≡ 0 → o.area ≡ homes_after w.homes w.book.commits

-- the commits that a crash takes off the list
unfoldable pub lost : List (ℕ → Bool) → List Commit → List Commit
lost fs cs = drop (length (run fs cs)) cs

abbrev pub NoneOwed : List Commit → Type 0
NoneOwed [] = Unit {0}
NoneOwed (c ∷ cs) = (c.owed ≡ false) × NoneOwed cs

-- "In that run is every commit confirmed durable before, and all that an earlier opening brought back" [S-53, S-55]
abbrev pub Crashed : World → ℕ → (ℕ → Bool) → Type 0
Crashed w passed chosen = NoneOwed (lost (row_fates w passed chosen) w.book.commits)

-- what is claimed at each event: of an opening, how it ends; of a crash, what it takes off the list; of other calls, nothing
abbrev pub CallHolds : World → Call → Outcome → Type 0
CallHolds w (opening state newest batch) o = Opened w o
CallHolds w confirm o = Unit {0}
CallHolds w (change c) o = Unit {0}
CallHolds w (service c) o = Unit {0}

abbrev pub Holds : World → Event → Type 0
Holds w (call c) = CallHolds w c (ends w c)
Holds w (crash passed chosen) = Crashed w passed chosen

abbrev pub AllHold : World → List Event → Type 0
AllHold w [] = Unit {0}
AllHold w (e ∷ es) = Holds w e × AllHold (step w e) es

-- Demand 3, for every G and D, every done format and every list of events after it under the premises [S-4, S-52, S-54, S-55]
abbrev pub Demand3 : Type 0
Demand3 = Always AllHold
