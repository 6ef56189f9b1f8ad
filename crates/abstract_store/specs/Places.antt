-- Places accounted for. "Define from the calls since the last done opening, not from stored sums, which of the 7 × G places are live (of open
-- transactions, or committed and not trimmed), dead (aborted, or passed over by flush, not trimmed) or free (from the next position to the end of
-- group start + G − 1, promised ones included)."
use Rattle.std.specs.Prelude.{ℕ, zero, suc, ◌+◌, ◌-◌, ◌*◌, ◌≤◌, ◌<◌, ◌≡◌, Bool, true, false, cond, ◌||◌, List, [], ◌∷◌, ◌++◌, eqb, leb, length, replicate}
use Rattle.model.specs.Layout.{max_start}
use Rattle.model.specs.Book as book
use Rattle.model.specs.Book.{Landing, row, persisted, Entry, Commit, Task, idle, opened, Book}
use Rattle.model.specs.History.{Change, begins, reserves, aborts, stores, commits, flushes, Call, opening, confirm, change, service, flush, settle, trim, Event, call, crash, World, Formatting, after_format, ends, step, AllAllowed}
use Rattle.abstract_store.specs.Store.{Store, new_store, group_of_first, next_of, places_left, next_start, flush_bytes, settle_bytes, trim_bytes, store_must_log, commit_must_log, follow}

-- What has become of a place that the log has used: an entry of a writer's open transaction, of a committed one, of an aborted one; or a flush
-- passed it over.
pub data Fate : Type 0 where
  held : (writer : ℕ) → Fate
  kept : Fate
  aborted : Fate
  passed : Fate

-- The ledger has the fates of all places used since the last done opening, the newest first. The oldest is that of the era's first group.

-- the places that a writer's transaction holds get another fate
unfoldable pub settle_one : ℕ → Fate → Fate → Fate
settle_one writer to (held w) = cond (eqb w writer) to (held w)
settle_one writer to kept = kept
settle_one writer to aborted = aborted
settle_one writer to passed = passed

unfoldable pub settle_all : ℕ → Fate → List Fate → List Fate
settle_all writer to [] = []
settle_all writer to (f ∷ fs) = settle_one writer to f ∷ settle_all writer to fs

-- what a done call enters, by what the book has of its writer
unfoldable pub enter : Store → Change → List Fate → List Fate
enter s (begins writer) fs = fs
enter s (reserves writer places) fs = fs
enter s (aborts writer) fs = settle_all writer aborted fs
enter s (stores writer home block batch) fs = cond (store_must_log (s.book.tasks writer) home) (held writer ∷ fs) fs
enter s (commits writer batch) fs = cond (commit_must_log (s.book.tasks writer)) (kept ∷ settle_all writer kept fs) fs
enter s (flushes batch) fs = cond (eqb s.book.filled 0) fs (replicate (7 - s.book.filled) passed ++ fs)

unfoldable pub enter_call : Store → Call → List Fate → List Fate
enter_call s (opening state newest batch) fs = []
enter_call s confirm fs = fs
enter_call s (change c) fs = enter s c fs
enter_call s (service c) fs = fs

unfoldable pub enter_event : Store → World → Event → List Fate → List Fate
enter_event s w (call c) fs = cond (eqb (ends w c).code 0) (enter_call s c fs) fs
enter_event s w (crash p chosen) fs = []

-- The three classes of a place, by the ledger
pub data Class : Type 0 where
  live : Class
  dead : Class
  free : Class

unfoldable pub class_of : Fate → Class
class_of (held w) = live
class_of kept = live
class_of aborted = dead
class_of passed = dead

-- the fate of a place; the oldest in the ledger stands at position `base`
unfoldable pub fate_on : ℕ → List Fate → ℕ → Fate
fate_on base [] p = passed
fate_on base (f ∷ fs) p = cond (eqb p (base + length fs)) f (fate_on base fs p)

-- the class of a position from 7 × start to below 7 × (start + G) [S-45]
unfoldable pub class_at : Store → List Fate → ℕ → Class
class_at s fs p = cond (leb (next_of s) p) free (class_of (fate_on (7 * group_of_first s) fs p))

-- how many of n places from a position on have a class
unfoldable pub same_class : Class → Class → Bool
same_class live live = true
same_class live dead = false
same_class live free = false
same_class dead live = false
same_class dead dead = true
same_class dead free = false
same_class free live = false
same_class free dead = false
same_class free free = true

unfoldable pub many : Store → List Fate → Class → ℕ → ℕ → ℕ
many s fs c from zero = 0
many s fs c from (suc n) = many s fs c from n + cond (same_class c (class_at s fs (from + n))) 1 0

-- By the book: whether an entry lies at a position, one of a task's transaction, one of a commit's
unfoldable pub lies_at : ℕ → ℕ → Landing → Bool
lies_at first position (row r k) = eqb (7 * (first + r) + k) position
lies_at first position persisted = false

unfoldable pub any_at : ℕ → ℕ → List Entry → Bool
any_at first position [] = false
any_at first position (e ∷ es) = lies_at first position e.landing || any_at first position es

unfoldable pub task_at : ℕ → ℕ → Task → Bool
task_at first position idle = false
task_at first position (opened es h) = any_at first position es

unfoldable pub commit_at : ℕ → ℕ → List Commit → Bool
commit_at first position [] = false
commit_at first position (c ∷ cs) = any_at first position c.entries || commit_at first position cs

-- which fate a place has
unfoldable pub is_held : ℕ → Fate → Bool
is_held writer (held w) = eqb w writer
is_held writer kept = false
is_held writer aborted = false
is_held writer passed = false

unfoldable pub is_kept : Fate → Bool
is_kept (held w) = false
is_kept kept = true
is_kept aborted = false
is_kept passed = false

-- At every moment after a done opening: every used place is in the ledger once and no other is; the ledger says that a place is held by a writer, or
-- committed, just where the book has such an entry, so the rest are aborted or passed over; the three classes add up to the 7 × G places, and the
-- free ones are those that question 8 and a reserve count.
pub record Accounted (s : Store) (fs : List Fate) : Type 0 where
  pub used : next_of s ≡ 7 * group_of_first s + length fs
  pub holds : (writer p : ℕ) → writer < 8 →
      is_held writer (fate_on (7 * group_of_first s) fs p) ≡ task_at (group_of_first s) p (s.book.tasks writer)
  pub keeps : (p : ℕ) → is_kept (fate_on (7 * group_of_first s) fs p) ≡ commit_at (group_of_first s) p s.book.commits
  pub whole :
      many s fs live (7 * s.start) (7 * s.groups) + many s fs dead (7 * s.start) (7 * s.groups) + many s fs free (7 * s.start) (7 * s.groups)
      ≡ 7 * s.groups
  pub free_are : many s fs free (7 * s.start) (7 * s.groups) ≡ places_left s

-- "with no transaction open, and no round under way, flush, settle and trim leave all free, given trains long enough and a next group after the flush of at most 2^47"
abbrev pub AllIdle : Store → Type 0
AllIdle s = (v : ℕ) → v < 8 → s.book.tasks v ≡ idle

-- the store after the three calls [S-46]
unfoldable pub drained : World → Store → List ℕ → List ℕ → List ℕ → Store
drained w s first second third =
    let flushed : World = step w (call (flush first)) in
    let settled : World = step flushed (call (settle second)) in
    follow (follow (follow s w (call (flush first))) flushed (call (settle second))) settled (call (trim third))

-- the three calls are done, and the log then starts at its next position
pub record Drained (w : World) (s : Store) (first second third : List ℕ) : Type 0 where
  pub flushes : (ends w (flush first)).code ≡ 0
  pub settles : (ends (step w (call (flush first))) (settle second)).code ≡ 0
  pub trims : (ends (step (step w (call (flush first))) (call (settle second))) (trim third)).code ≡ 0
  pub empty : next_of (drained w s first second third) ≡ 7 * (drained w s first second third).start
  pub all : places_left (drained w s first second third) ≡ 7 * s.groups

-- "trains long enough": each batch has at least the bytes that its call, by the abstract store, writes at that moment; no more is asked of it
pub record LongEnough (w : World) (s : Store) (first second third : List ℕ) : Type 0 where
  pub for_flush : flush_bytes s ≤ length first
  pub for_settle : settle_bytes (follow s w (call (flush first))) ≤ length second
  pub for_trim :
      trim_bytes (follow (follow s w (call (flush first))) (step w (call (flush first))) (call (settle second))) ≤ length third

-- [S-46]
abbrev pub Drains : World → Store → Type 0
Drains w s =
    AllIdle s → s.round ≡ 0 → (first second third : List ℕ) → LongEnough w s first second third → group_of_first s + (book.flush s.book).rows ≤ max_start →
    Drained w s first second third

-- When a log does not drain: an open transaction holds it. What a writer has logged lies at or above every start that a trim can reach.
abbrev pub HeldBack : Store → Type 0
HeldBack s = (writer p : ℕ) → writer < 8 → task_at (group_of_first s) p (s.book.tasks writer) ≡ true → 7 * next_start s ≤ p

pub record PlacesTold (w : World) (s : Store) (fs : List Fate) : Type 0 where
  pub accounted : Accounted s fs
  pub drains : Drains w s
  pub held_back_by : HeldBack s

abbrev pub AccountedThroughout : World → Store → List Fate → List Event → Type 0
AccountedThroughout w s fs [] = w.ready ≡ true → PlacesTold w s fs
AccountedThroughout w s fs (e ∷ es) =
    (w.ready ≡ true → PlacesTold w s fs) × AccountedThroughout (step w e) (follow s w e) (enter_event s w e fs) es

-- [S-45, S-46]
abbrev pub PlacesAccounted : Type 0
PlacesAccounted =
    (groups homes : ℕ) (f : Formatting groups homes) (es : List Event) → AllAllowed (after_format f) es →
    AccountedThroughout (after_format f) (new_store groups homes) [] es
