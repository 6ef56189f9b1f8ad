-- Demand 2, and what each done call yields in the book's terms, as statements over all histories.
use Rattle.std.specs.Prelude.{ℕ, zero, suc, ◌+◌, ◌-◌, ◌*◌, ◌≤◌, ◌<◌, ◌≡◌, Bool, true, false, cond, not, ◌&&◌, ◌||◌, List, [], ◌∷◌, ◌++◌, leb, ltb, length}
use Rattle.model.specs.Tag.{home_of}
use Rattle.model.specs.Layout.{group_count, header_start, block_at, home_at}
use Rattle.model.specs.Commit.{transactions}
use Rattle.model.specs.Batch.{Record, GW, HW, KW, FN}
use Rattle.model.specs.State.{State, state_of, next_position, under_way, fixed_in, is_in_order}
use Rattle.model.specs.Effects.{Given, groups, live_tags, live_base}
use Rattle.model.specs.declared.Tag.{Tag}
use Rattle.model.specs.Calls.{Outcome}
use Rattle.model.specs.Crash.{fences}
use Rattle.model.specs.Book.{Landing, row, persisted, Entry, Commit, Held, Task, idle, opened, homes_after, read_by, owed_by}
use Rattle.model.specs.History.{Service, settles, trims, reads, Call, opening, confirm, change, service, read, Event, call, crash, World, lent, ends, step, Always, round_begins, round_steps}

-- the entries at some positions of a log, newest first, as homes and blocks, oldest first
unfoldable pub contents : (ℕ → Tag) → List ℕ → ℕ → List ℕ → List Held
contents tags log groups [] = []
contents tags log groups (p ∷ ps) =
    contents tags log groups ps ++ (record { home = home_of (tags p); block = block_at log groups p } ∷ [])

unfoldable pub each_contents : (ℕ → Tag) → List ℕ → ℕ → List (List ℕ) → List (List Held)
each_contents tags log groups [] = []
each_contents tags log groups (t ∷ ts) = contents tags log groups t ∷ each_contents tags log groups ts

-- what the commit rule finds in the log copy [S-56]
unfoldable pub found_within : Given → List (List Held)
found_within g =
    each_contents (live_tags g) g.log (groups g)
    (transactions (live_tags g) (live_base g) (next_position (state_of g.state) - live_base g))

-- the book's commits that are not trimmed: their closing entry lies at or above the start's position
unfoldable pub held_entries : List Entry → List Held
held_entries [] = []
held_entries (e ∷ es) = record { home = e.home; block = e.block } ∷ held_entries es

unfoldable pub untrimmed : ℕ → List Commit → List (List Held)
untrimmed base [] = []
untrimmed base (c ∷ cs) = cond (ltb base c.ticket) (held_entries c.entries ∷ untrimmed base cs) (untrimmed base cs)

-- "what the calls write reads back as the committed, untrimmed transactions and nothing else, in commit order"; "A read gives the writer's own
-- newest block, else the newest committed one." [S-17, S-18, S-19, S-51, S-56]
pub record Live (w : World) : Type 0 where
  pub state_fits : is_in_order w.state (group_count (length w.log)) w.homes ≡ true
  pub read_again : found_within (lent w [] [] 0 0) ≡ untrimmed (7 * (state_of w.state).start) w.book.commits
  pub readable :
      (writer home : ℕ) (block : List ℕ) →
      (ends w (read writer home block)).code ≡ 0 →
      (ends w (read writer home block)).block ≡ read_by w.homes w.book writer home

-- "settle: homes of the commits below F and no other"
unfoldable pub closed_below : ℕ → List Commit → List Commit
closed_below bound [] = []
closed_below bound (c ∷ cs) = cond (leb c.ticket bound) (c ∷ closed_below bound cs) (closed_below bound cs)

-- confirm: the group writes before the last fence, and the commits whose entries are all there or persisted earlier
unfoldable pub group_writes : List Record → ℕ
group_writes [] = 0
group_writes (GW slot group ∷ rs) = suc (group_writes rs)
group_writes (HW home block ∷ rs) = group_writes rs
group_writes (KW header ∷ rs) = group_writes rs
group_writes (FN ∷ rs) = group_writes rs

unfoldable pub fenced_rows : List Record → ℕ
fenced_rows [] = 0
fenced_rows (r ∷ rs) = cond (leb 1 (fences (r ∷ rs))) (group_writes (r ∷ []) + fenced_rows rs) 0

-- those of the book's rows: the opening's first G are none
unfoldable pub rows_fenced : World → ℕ
rows_fenced w = fenced_rows w.pending - group_count (length w.memory.log)

unfoldable pub lands_below : ℕ → Landing → Bool
lands_below rows (row number index) = ltb number rows
lands_below rows persisted = true

unfoldable pub all_below : ℕ → List Entry → Bool
all_below rows [] = true
all_below rows (e ∷ es) = lands_below rows e.landing && all_below rows es

unfoldable pub owed_rows : ℕ → List Commit → List Commit
owed_rows rows [] = []
owed_rows rows (c ∷ cs) =
    record { entries = c.entries; ticket = c.ticket; owed = c.owed || all_below rows c.entries } ∷ owed_rows rows cs

-- trim: the positions of a transaction's entries, by the rows they are in; row 0 is the group at which the last opening let the log start
unfoldable pub first_row_group : World → ℕ
first_row_group w = header_start w.memory.log + group_count (length w.log)

unfoldable pub lands_before : ℕ → ℕ → Landing → Bool
lands_before first position (row number index) = ltb (7 * (first + number) + index) position
lands_before first position persisted = true

unfoldable pub some_before : ℕ → ℕ → List Entry → Bool
some_before first position [] = false
some_before first position (e ∷ es) = lands_before first position e.landing || some_before first position es

unfoldable pub across : ℕ → ℕ → Commit → Bool
across first position c = leb position (c.ticket - 1) && leb 1 c.ticket && some_before first position c.entries

unfoldable pub any_across : ℕ → ℕ → List Commit → Bool
any_across first position [] = false
any_across first position (c ∷ cs) = across first position c || any_across first position cs

unfoldable pub open_before : ℕ → ℕ → Task → Bool
open_before first position idle = false
open_before first position (opened es held) = some_before first position es

unfoldable pub any_open_before : ℕ → ℕ → (ℕ → Task) → ℕ → Bool
any_open_before first position tasks zero = false
any_open_before first position tasks (suc n) = open_before first position (tasks n) || any_open_before first position tasks n

-- the log may start at a group: no open or committed transaction lies on both sides of it
unfoldable pub may_start_at : World → ℕ → Bool
may_start_at w start =
    not (any_across (first_row_group w) (7 * start) w.book.commits) && not (any_open_before (first_row_group w) (7 * start) w.book.tasks 8)

-- the start that a trim leaves is the largest at most the settled position at which the log may start [S-39]
pub record Trimmed (w : World) (start : ℕ) : Type 0 where
  pub reached : may_start_at w start ≡ true
  pub settled : 7 * start ≤ (state_of w.state).settled
  pub furthest : (s : ℕ) → 7 * s ≤ (state_of w.state).settled → may_start_at w s ≡ true → s ≤ start

-- Rounds: a home of the data copy holds what the commits below a position wrote: the F that the round under way has fixed where the home is below
-- its cursor, else the settled position
unfoldable pub settled_for : State → ℕ → ℕ
settled_for st home = cond (under_way st && ltb home st.cursor) (fixed_in st) st.settled

-- [S-38, S-40]
abbrev pub SettledHomes : ℕ → List ℕ → State → List Commit → Type 0
SettledHomes homes area st commits = (h : ℕ) → h < homes → home_at area h ≡ home_at (homes_after homes (closed_below (settled_for st h) commits)) h

-- what a done call yields, in the book's terms
abbrev pub ServiceYields : World → Service → Outcome → Type 0
ServiceYields w (settles batch) o = o.area ≡ homes_after w.homes (closed_below (state_of w.state).fenced w.book.commits)
ServiceYields w round_begins o = fixed_in (state_of o.state) ≡ (state_of w.state).fenced
ServiceYields w (round_steps homes batch) o = SettledHomes w.homes o.area (state_of o.state) w.book.commits
ServiceYields w (trims batch) o = Trimmed w (state_of o.state).start
ServiceYields w (reads writer home block) o = o.block ≡ read_by w.homes w.book writer home

-- [S-35]
abbrev pub Yields : World → Call → Outcome → Type 0
Yields w (opening state newest batch) o = Unit {0}
Yields w confirm o = owed_by o.figure w.book.commits ≡ owed_rows (rows_fenced w) w.book.commits
Yields w (change c) o = Unit {0}
Yields w (service c) o = ServiceYields w c o

abbrev pub YieldsAt : World → Event → Type 0
YieldsAt w (call c) = (ends w c).code ≡ 0 → Yields w c (ends w c)
YieldsAt w (crash passed chosen) = Unit {0}

abbrev pub LiveThroughout : World → List Event → Type 0
LiveThroughout w [] = w.ready ≡ true → Live w
LiveThroughout w (e ∷ es) = (w.ready ≡ true → Live w) × YieldsAt w e × LiveThroughout (step w e) es

-- Demand 2, for the same histories [S-35, S-38, S-39, S-40, S-56]
abbrev pub Demand2 : Type 0
Demand2 = Always LiveThroughout
