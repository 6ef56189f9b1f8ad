-- The book of commits: the store's abstract model. "The book is fed each call's arguments and answer and which writes landed at each cut, nothing
-- from strip or copies. It has a list of commits, a row of entries and, per writer, idle or open, with logged entries and at most one held home
-- and block. It starts empty, all idle. Refused calls, open, settle, trim, read and confirm change nothing."
use Rattle.std.specs.Prelude.{ℕ, zero, suc, ◌+◌, ◌*◌, Bool, true, false, cond, ◌&&◌, ◌||◌, List, [], ◌∷◌, ◌++◌, eqb, leb}
use Rattle.std.proofs.Math.Option.{Option, none, some}
use Rattle.model.specs.Bytes.{zeros}
use Rattle.model.specs.Layout.{put_home, home_at}

-- where an entry is kept: in a row that was or will be submitted since the last crash, by the row's number and the entry's place in it, or
-- persisted at an earlier crash
pub data Landing : Type 0 where
  row : (number index : ℕ) → Landing
  persisted : Landing

pub record Entry : Type 0 where
  pub home : ℕ
  pub block : List ℕ
  pub landing : Landing

-- a commit: its entries, oldest first; its ticket, 0 once a crash has ended it; whether it is owed: confirmed durable, or brought back by an opening
pub record Commit : Type 0 where
  pub entries : List Entry
  pub ticket : ℕ
  pub owed : Bool

pub record Held : Type 0 where
  pub home : ℕ
  pub block : List ℕ

-- a writer: idle, or open with its logged entries, oldest first, and what it holds
pub data Task : Type 0 where
  idle : Task
  opened : (logged : List Entry) (held : Option Held) → Task

-- The row in hand has a number, the rows submitted since the last crash being 0 to `rows` - 1, and some entries.
pub record Book : Type 0 where
  pub commits : List Commit
  pub rows : ℕ
  pub filled : ℕ
  pub tasks : ℕ → Task

unfoldable pub empty : Book
empty = record { commits = []; rows = 0; filled = 0; tasks = λ w. idle }

unfoldable pub set_task : (ℕ → Task) → ℕ → Task → ℕ → Task
set_task tasks w t x = cond (eqb w x) t (tasks x)

unfoldable pub with_task : Book → ℕ → Task → Book
with_task b w t = record { commits = b.commits; rows = b.rows; filled = b.filled; tasks = set_task b.tasks w t }

-- "Begin: open, nothing logged or held. Abort: idle; the row stays."
unfoldable pub begin : Book → ℕ → Book
begin b w = with_task b w (opened [] none)

unfoldable pub abort : Book → ℕ → Book
abort b w = with_task b w idle

-- "Logging: the held home and block become the last entry of the writer's transaction and of the row. A row's seventh entry, or a flush of a row
-- not empty, hands it on: its entries land with that call's GW, and the row empties."
unfoldable pub entry_of : Book → Held → Entry
entry_of b h = record { home = h.home; block = h.block; landing = row b.rows b.filled }

unfoldable pub submit : Book → Book
submit b = record { commits = b.commits; rows = b.rows + 1; filled = 0; tasks = b.tasks }

unfoldable pub grown : Book → Book
grown b = record { commits = b.commits; rows = b.rows; filled = b.filled + 1; tasks = b.tasks }

unfoldable pub filled_up : Book → Book
filled_up b = cond (eqb b.filled 6) (submit b) (grown b)

-- "Store: another held home is logged first; then this home and block are held."
unfoldable pub hold : ℕ → List ℕ → Option Held
hold home block = some (record { home = home; block = block })

unfoldable pub store_task : Book → ℕ → ℕ → List ℕ → Task → Book
store_task b w home block idle = b
store_task b w home block (opened es none) = with_task b w (opened es (hold home block))
store_task b w home block (opened es (some h)) =
    cond (eqb h.home home) (with_task b w (opened es (hold home block)))
    (with_task (filled_up b) w (opened (es ++ (entry_of b h ∷ [])) (hold home block)))

unfoldable pub store : Book → ℕ → ℕ → List ℕ → Book
store b w home block = store_task b w home block (b.tasks w)

-- "Commit: what is held is logged, and the transaction goes last in the list. Holding nothing adds nothing. Then idle."
unfoldable pub add_commit : Book → Commit → Book
add_commit b c = record { commits = b.commits ++ (c ∷ []); rows = b.rows; filled = b.filled; tasks = b.tasks }

unfoldable pub commit_task : Book → ℕ → ℕ → Task → Book
commit_task b w ticket idle = b
commit_task b w ticket (opened es none) = with_task b w idle
commit_task b w ticket (opened es (some h)) =
    with_task (add_commit (filled_up b) (record { entries = es ++ (entry_of b h ∷ []); ticket = ticket; owed = false })) w idle

unfoldable pub commit : Book → ℕ → ℕ → Book
commit b w ticket = commit_task b w ticket (b.tasks w)

unfoldable pub flush : Book → Book
flush b = cond (eqb b.filled 0) b (submit b)

-- "A commit is confirmed durable if a confirm done before the next cut returned its ticket or more."
-- A ticket of 0 is one that a crash has ended. [S-55]
unfoldable pub owed_by : ℕ → List Commit → List Commit
owed_by mark [] = []
owed_by mark (c ∷ cs) =
    record { entries = c.entries; ticket = c.ticket; owed = c.owed || (leb 1 c.ticket && leb c.ticket mark) } ∷ owed_by mark cs

-- what an opening brings back [S-55]
unfoldable pub all_owed : List Commit → List Commit
all_owed [] = []
all_owed (c ∷ cs) = record { entries = c.entries; ticket = c.ticket; owed = true } ∷ all_owed cs

unfoldable pub with_commits : Book → List Commit → Book
with_commits b cs = record { commits = cs; rows = b.rows; filled = b.filled; tasks = b.tasks }

-- "Cut: the list stops before the first commit with an entry that landed neither now nor at an earlier cut (a landed one stays so, though trimmed
-- or written over since); what stays is the run. The row empties, all idle."
-- `fates` says of each row submitted since the last crash which of its entries persisted.
unfoldable pub fate_at : List (ℕ → Bool) → ℕ → ℕ → Bool
fate_at [] r k = false
fate_at (f ∷ fs) zero k = f k
fate_at (f ∷ fs) (suc r) k = fate_at fs r k

-- [S-53]
unfoldable pub survives : List (ℕ → Bool) → Landing → Bool
survives fs (row r k) = fate_at fs r k
survives fs persisted = true

unfoldable pub all_survive : List (ℕ → Bool) → List Entry → Bool
all_survive fs [] = true
all_survive fs (e ∷ es) = survives fs e.landing && all_survive fs es

-- the run: the surviving prefix of the commits [S-53]
unfoldable pub run : List (ℕ → Bool) → List Commit → List Commit
run fs [] = []
run fs (c ∷ cs) = let more : List Commit = c ∷ run fs cs in cond (all_survive fs c.entries) more []

-- its entries have persisted, and its tickets have ended
unfoldable pub persisted_entries : List Entry → List Entry
persisted_entries [] = []
persisted_entries (e ∷ es) = record { home = e.home; block = e.block; landing = persisted } ∷ persisted_entries es

unfoldable pub ended : List Commit → List Commit
ended [] = []
ended (c ∷ cs) = record { entries = persisted_entries c.entries; ticket = 0; owed = c.owed } ∷ ended cs

-- [S-53]
unfoldable pub crash : Book → List (ℕ → Bool) → Book
crash b fs = record { commits = ended (run fs b.commits); rows = 0; filled = 0; tasks = λ w. idle }

-- "The homes after a run are D blocks of zeros with its commits' entries written in, in order."
unfoldable pub write_entries : List Entry → List ℕ → List ℕ
write_entries [] area = area
write_entries (e ∷ es) area = write_entries es (put_home area e.home e.block)

unfoldable pub write_commits : List Commit → List ℕ → List ℕ
write_commits [] area = area
write_commits (c ∷ cs) area = write_commits cs (write_entries c.entries area)

-- [S-54]
unfoldable pub homes_after : ℕ → List Commit → List ℕ
homes_after homes commits = write_commits commits (zeros (64 * homes))

-- the block that a writer reads for a home: its own newest, else the newest committed
unfoldable pub newest_entry : ℕ → List Entry → List ℕ → List ℕ
newest_entry home [] other = other
newest_entry home (e ∷ es) other = newest_entry home es (cond (eqb e.home home) e.block other)

unfoldable pub held_or : ℕ → Option Held → List ℕ → List ℕ
held_or home none other = other
held_or home (some h) other = cond (eqb h.home home) h.block other

unfoldable pub own_or : ℕ → Task → List ℕ → List ℕ
own_or home idle other = other
own_or home (opened es held) other = held_or home held (newest_entry home es other)

unfoldable pub read_by : ℕ → Book → ℕ → ℕ → List ℕ
read_by homes b w home = own_or home (b.tasks w) (home_at (homes_after homes b.commits) home)
