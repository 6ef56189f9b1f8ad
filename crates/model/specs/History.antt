-- Histories: lists of calls and crashes from a finished format on, with the premises of demand 3.
use Rattle.std.specs.Prelude.{ℕ, zero, suc, ◌+◌, ◌*◌, ◌≤◌, ◌≡◌, Bool, true, false, cond, not, List, [], ◌∷◌, ◌++◌, length, take, drop}
use Rattle.model.specs.Bytes.{zeros}
use Rattle.model.specs.Layout.{group_count, empty_log}
use Rattle.model.specs.Batch.{Record, read_batch}
use Rattle.model.specs.Effects.{Given}
use Rattle.model.specs.Calls.{Outcome, format_call, open_call, begin_call, reserve_call, abort_call, store_call, commit_call, flush_call, confirm_call, settle_call, trim_call, read_call, begin_round_call, step_round_call}
use Rattle.model.specs.Crash.{Memory, fences, persist, fates}
use Rattle.model.specs.Book as book
use Rattle.model.specs.Book.{Book}

-- A call with what the caller chooses: its numbers, its block and its batch buffer, of any contents and length. Open is lent a strip and newest
-- positions of any contents and length; every other call those that the last call left. ("The mission's premise that strip and copies pass on untouched
-- takes this strip in.") The calls that are not lent the newest positions neither look at them nor change them (Facts.Aside).

-- the calls that change the book
pub data Change : Type 0 where
  begins : (writer : ℕ) → Change
  reserves : (writer places : ℕ) → Change
  aborts : (writer : ℕ) → Change
  stores : (writer home : ℕ) (block batch : List ℕ) → Change
  commits : (writer : ℕ) (batch : List ℕ) → Change
  flushes : (batch : List ℕ) → Change

-- those that change nothing in it
pub data Service : Type 0 where
  settles : (batch : List ℕ) → Service
  round_begins : Service
  round_steps : (homes : ℕ) (batch : List ℕ) → Service
  trims : (batch : List ℕ) → Service
  reads : (writer home : ℕ) (block : List ℕ) → Service

pub data Call : Type 0 where
  opening : (state newest batch : List ℕ) → Call
  confirm : Call
  change : Change → Call
  service : Service → Call

abbrev pub begin : ℕ → Call
begin writer = change (begins writer)

abbrev pub reserve : ℕ → ℕ → Call
reserve writer places = change (reserves writer places)

abbrev pub abort : ℕ → Call
abort writer = change (aborts writer)

abbrev pub store : ℕ → ℕ → List ℕ → List ℕ → Call
store writer home block batch = change (stores writer home block batch)

abbrev pub commit : ℕ → List ℕ → Call
commit writer batch = change (commits writer batch)

abbrev pub flush : List ℕ → Call
flush batch = change (flushes batch)

abbrev pub settle : List ℕ → Call
settle batch = service (settles batch)

abbrev pub begin_round : Call
begin_round = service round_begins

abbrev pub step_round : ℕ → List ℕ → Call
step_round homes batch = service (round_steps homes batch)

abbrev pub trim : List ℕ → Call
trim batch = service (trims batch)

abbrev pub read : ℕ → ℕ → List ℕ → Call
read writer home block = service (reads writer home block)

-- a crash: how many fences have passed, and which pieces of the stretch after the last of them persisted
pub data Event : Type 0 where
  call : Call → Event
  crash : (passed : ℕ) (chosen : ℕ → Bool) → Event

unfoldable pub calls : List Call → List Event
calls [] = []
calls (c ∷ cs) = call c ∷ calls cs

-- The strip, the newest positions and the copies as the program has them; the lasting memory as the last crash (or format) left it, and the records of all batches
-- since, in call order; how many of their fences a done confirm has declared passed; whether an opening is done since; the book.
pub record World : Type 0 where
  pub homes : ℕ
  pub state : List ℕ
  pub newest : List ℕ
  pub log : List ℕ
  pub area : List ℕ
  pub memory : Memory
  pub pending : List Record
  pub passed : ℕ
  pub ready : Bool
  pub book : Book

-- before an opening is done: a memory, with nothing pending and an empty book
unfoldable pub unopened : ℕ → Memory → World
unopened homes memory =
    record {
      homes = homes;
      state = [];
      newest = [];
      log = [];
      area = [];
      memory = memory;
      pending = [];
      passed = 0;
      ready = false;
      book = book.empty;
    }

-- A done format over a memory of any contents: what the call is lent, of any contents too. G and D are those of the memory and of the copies.
pub record Formatting (groups homes : ℕ) : Type 0 where
  pub memory : Memory
  pub given : Given
  pub log_size : length memory.log ≡ 64 + 512 * groups
  pub area_size : length memory.area ≡ 64 * homes
  pub log_copy : length given.log ≡ 64 + 512 * groups
  pub area_copy : length given.area ≡ 64 * homes
  pub done : (format_call given).code ≡ 0

-- the records that the driver reads off its batch's bytes
unfoldable pub format_records : {groups homes : ℕ} → Formatting groups homes → List Record
format_records f = let o : Outcome = format_call f.given in read_batch (take o.size o.batch)

-- "At its start format's train has all landed."
unfoldable pub landed : List Record → Memory → Memory
landed rs m = persist (fences rs) (λ i. true) rs m

unfoldable pub after_format : {groups homes : ℕ} → Formatting groups homes → World
after_format {homes = homes} f = unopened homes (landed (format_records f) f.memory)

-- the store that every format leaves
unfoldable pub empty_store : ℕ → ℕ → World
empty_store groups homes = unopened homes (record { log = empty_log 0 groups homes; area = zeros (64 * homes) })

-- what a call is lent. An opening gets copies of both areas, loaded afresh; no other call comes before one is done, so there is nothing pending.
unfoldable pub lent : World → List ℕ → List ℕ → ℕ → ℕ → Given
lent w block batch writer home =
    record {
      state = w.state;
      newest = w.newest;
      log = w.log;
      area = w.area;
      block = block;
      batch = batch;
      writer = writer;
      home = home;
    }

unfoldable pub loaded : World → List ℕ → List ℕ → List ℕ → Given
loaded w state newest batch =
    record {
      state = state;
      newest = newest;
      log = w.memory.log;
      area = w.memory.area;
      block = [];
      batch = batch;
      writer = 0;
      home = 0;
    }

-- how a call ends
unfoldable pub change_ends : World → Change → Outcome
change_ends w (begins writer) = begin_call (lent w [] [] writer 0)
change_ends w (reserves writer places) = reserve_call (lent w [] [] writer 0) places
change_ends w (aborts writer) = abort_call (lent w [] [] writer 0)
change_ends w (stores writer home block batch) = store_call (lent w block batch writer home)
change_ends w (commits writer batch) = commit_call (lent w [] batch writer 0)
change_ends w (flushes batch) = flush_call (lent w [] batch 0 0)

unfoldable pub service_ends : World → Service → Outcome
service_ends w (settles batch) = settle_call (lent w [] batch 0 0)
service_ends w round_begins = begin_round_call (lent w [] [] 0 0)
service_ends w (round_steps homes batch) = step_round_call (lent w [] batch 0 0) homes
service_ends w (trims batch) = trim_call (lent w [] batch 0 0)
service_ends w (reads writer home block) = read_call (lent w block [] writer home)

unfoldable pub ends : World → Call → Outcome
ends w (opening state newest batch) = open_call (loaded w state newest batch)
ends w confirm = confirm_call (lent w [] [] 0 0)
ends w (change c) = change_ends w c
ends w (service c) = service_ends w c

-- what the book is fed by a done call: its arguments and its figure
-- ("This call joins demand 3's list, as a begin in 01's book": reserve)
unfoldable pub feed_change : Book → Change → ℕ → Book
feed_change b (begins writer) figure = book.begin b writer
feed_change b (reserves writer places) figure = book.begin b writer
feed_change b (aborts writer) figure = book.abort b writer
feed_change b (stores writer home block batch) figure = book.store b writer home block
feed_change b (commits writer batch) figure = book.commit b writer figure
feed_change b (flushes batch) figure = book.flush b

unfoldable pub feed : Book → Call → ℕ → Book
feed b (opening state newest batch) figure = book.with_commits b (book.all_owed b.commits)
feed b confirm figure = book.with_commits b (book.owed_by figure b.commits)
feed b (change c) figure = feed_change b c figure
feed b (service c) figure = b

unfoldable pub is_opening : Call → Bool
is_opening (opening state newest batch) = true
is_opening confirm = false
is_opening (change c) = false
is_opening (service c) = false

unfoldable pub is_confirm : Call → Bool
is_confirm (opening state newest batch) = false
is_confirm confirm = true
is_confirm (change c) = false
is_confirm (service c) = false

-- the world after a done call. The driver reads the records off the batch's bytes; "a fence is confirmed only when passed". [S-4]
unfoldable pub after_done : World → Call → Outcome → World
after_done w c o =
    record {
      homes = w.homes;
      state = o.state;
      newest = o.newest;
      log = o.log;
      area = o.area;
      memory = w.memory;
      pending = w.pending ++ read_batch (take o.size o.batch);
      passed = cond (is_confirm c) (fences w.pending) w.passed;
      ready = true;
      book = feed w.book c o.figure;
    }

-- The world after a refused call is what the call left, and the book is not fed. Of a refused opening strip and copies are dropped: the next one
-- loads the areas afresh.
unfoldable pub after_refused : World → Call → Outcome → World
after_refused w c o =
    record {
      homes = w.homes;
      state = cond (is_opening c) w.state o.state;
      newest = cond (is_opening c) w.newest o.newest;
      log = cond (is_opening c) w.log o.log;
      area = cond (is_opening c) w.area o.area;
      memory = w.memory;
      pending = w.pending ++ read_batch (take o.size o.batch);
      passed = w.passed;
      ready = w.ready;
      book = w.book;
    }

unfoldable pub after_call : World → Call → Outcome → ℕ → World
after_call w c o zero = after_done w c o
after_call w c o (suc code) = after_refused w c o

-- the fates of the book's rows. The first G group writes since the last crash are those with which the opening blanks the log; they are no rows.
unfoldable pub row_fates : World → ℕ → (ℕ → Bool) → List (ℕ → Bool)
row_fates w passed chosen = drop (group_count (length w.memory.log)) (fates passed chosen w.pending)

unfoldable pub after_crash : World → ℕ → (ℕ → Bool) → World
after_crash w passed chosen =
    record {
      homes = w.homes;
      state = [];
      newest = [];
      log = [];
      area = [];
      memory = persist passed chosen w.pending w.memory;
      pending = [];
      passed = 0;
      ready = false;
      book = book.crash w.book (row_fates w passed chosen);
    }

unfoldable pub step : World → Event → World
step w (call c) = let o : Outcome = ends w c in after_call w c o o.code
step w (crash passed chosen) = after_crash w passed chosen

unfoldable pub after : World → List Event → World
after w [] = w
after w (e ∷ es) = after (step w e) es

-- The premises: "after the format or a cut, opening comes before any other call, until it is done"; "after a done one, none comes before the next
-- cut"; of the fences pending at a crash any number have passed, "at least all before a done confirm". [S-52]
abbrev pub Allowed : World → Event → Type 0
Allowed w (call c) = is_opening c ≡ not w.ready
Allowed w (crash passed chosen) = (w.passed ≤ passed) × (passed ≤ fences w.pending)

abbrev pub AllAllowed : World → List Event → Type 0
AllAllowed w [] = Unit {0}
AllAllowed w (e ∷ es) = Allowed w e × AllAllowed (step w e) es

-- a claim about every history that begins with a done format and meets the premises
abbrev pub Always : (World → List Event → Type 0) → Type 0
Always Claim = (groups homes : ℕ) (f : Formatting groups homes) (es : List Event) → AllAllowed (after_format f) es → Claim (after_format f) es
