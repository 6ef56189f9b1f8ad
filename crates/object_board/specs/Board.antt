-- Demand 4: the machine on a driver that may fail, on a medium that keeps words or blocks, with cuts at any time. A board is what a station has: the machine's
-- control block and lent memory, what the machine has asked of the driver last and told a task last, and the medium; and beside it the book of commits,
-- which is fed the store's calls that the machine makes, and cut at a loss.
use Rattle.std.specs.Prelude.{ℕ, suc, ◌+◌, ◌*◌, ◌≤◌, ◌≡◌, ◌⊎◌, Bool, true, false, cond, not, ◌&&◌, ◌||◌, List, [], ◌∷◌, eqb, leb, ltb, length, take, drop}
use Rattle.std.proofs.Math.Option.{Option, none, some}
use Rattle.model.specs.Bytes.{part}
use Rattle.model.specs.Layout.{home_count}
use Rattle.model.specs.State.{state_of}
use Rattle.model.specs.Effects.{Given}
use Rattle.model.specs.Calls.{Outcome, begin_call, abort_call, read_call}
use Rattle.model.specs.Crash.{Piece, to_log, to_area}
use Rattle.model.specs.Book as book
use Rattle.model.specs.Book.{Book, Commit, ended, homes_after, read_by}
use Rattle.model.specs.DemandThree.{NoneOwed}
use Rattle.model.specs.History.{Call, opening, confirm, begin, abort, reserve, store, commit, flush, settle, begin_round, step_round, trim, read, Formatting, after_format, feed}
use Rattle.call_ask.specs.Lent.{lent_all, lent}
use Rattle.object.specs.Medium.{Grain, Medium, writes, fences, loses}
use Rattle.object_runner.specs.Next.{log_area, from_batch}
use Rattle.object_runner.specs.Moves.{landing_of}
use Rattle.object_machine.specs.declared.Control.{Control}
use Rattle.object_machine.specs.declared.Turn.{Turn}
use Rattle.object_machine.specs.Control.{failed, fresh, with_ask}
use Rattle.object_machine.specs.Calls.{most_homes}
use Rattle.object_machine.specs.Moves.{done, pass, chosen as call_at}
use Rattle.object_machine.specs.Next.{Lent, lent_to, Gone, goes as goes_past, makes, given, shut, refusal, ask_answer, condition_for}

pub record Board : Type 0 where
  pub homes : ℕ
  pub control : Control
  pub memory : Lent
  -- what the driver is to do, and what a task was told last, with the block of a read
  pub turn : Turn
  pub told : Turn
  pub shown : List ℕ
  pub medium : Medium
  pub book : Book

pub data Happening : Type 0 where
  -- an operation is asked for by the stage that it begins with: 19 open, 2 reserve, 3 store, 4 commit, 5 sync, 13 and 16 maintain
  asks : (stage writer home number : ℕ) (block : List ℕ) → Happening
  -- operations that are done at once
  begins : (writer : ℕ) → Happening
  aborts : (writer : ℕ) → Happening
  reads : (writer home : ℕ) (block : List ℕ) → Happening
  -- The driver has carried the turn out. At a load of the log, of what was written since the last fence the chosen pieces have arrived; what has not
  -- never will, also where a fence or a write failed before.
  goes : (chosen : ℕ → Bool) → Happening
  -- The driver has failed: of a write anything may arrive up to the next load or cut; a fence may have waited for part of it.
  breaks : (error : ℕ) → Happening
  -- Power goes, and comes back: the chosen pieces have arrived. The program's memory holds anything.
  cuts : (chosen : ℕ → Bool) (memory : Board) → Happening

-- the batch in hand, and what a turn writes
unfoldable pub in_hand : Board → List ℕ
in_hand b = part b.memory.batch 0 b.control.size

unfoldable pub piece_of : Board → Turn → Piece
piece_of b t =
    let bytes : List ℕ = part (cond (eqb t.source from_batch) (in_hand b) b.memory.log) t.from t.size in
    cond (eqb t.area log_area) (to_log t.offset bytes) (to_area t.offset bytes)

-- The driver's part

unfoldable pub is_over : Turn → Bool
is_over t = eqb t.kind 0

unfoldable pub loads_log : Turn → Bool
loads_log t = eqb t.kind 3 && eqb t.area log_area

unfoldable pub loads_area : Turn → Bool
loads_area t = eqb t.kind 3 && not (eqb t.area log_area)

unfoldable pub carried : Grain → Board → (ℕ → Bool) → Medium
carried l b chosen =
    cond (loads_log b.turn) (loses l chosen b.medium)
    (cond (eqb b.turn.kind 1) (writes b.medium (piece_of b b.turn)) (cond (eqb b.turn.kind 2) (fences b.medium) b.medium))

-- a failed write may have arrived, wholly or in part
unfoldable pub attempted : Board → Medium
attempted b = cond (eqb b.turn.kind 1) (writes b.medium (piece_of b b.turn)) b.medium

-- what a load leaves in the copies
unfoldable pub copied : Board → Medium → Lent
copied b m =
    let l : Lent = b.memory in
    cond (loads_log b.turn) (lent_to m.lasting.log l.area l.state l.newest l.block l.batch)
    (cond (loads_area b.turn) (lent_to l.log m.lasting.area l.state l.newest l.block l.batch) l)

-- The book

-- the call of the store behind each number that a stage makes (the machine's specs/Calls.antt)
unfoldable pub call_of : ℕ → Given → ℕ → Option Call
call_of k g n =
    cond (eqb k 1) (some (opening g.state g.newest g.batch))
    (cond (eqb k 2) (some (reserve g.writer n))
    (cond (eqb k 3) (some (store g.writer g.home g.block g.batch))
    (cond (eqb k 4) (some (commit g.writer g.batch))
    (cond (eqb k 5) (some (flush g.batch))
    (cond (eqb k 6) (some confirm)
    (cond (eqb k 7) (some (settle g.batch))
    (cond (eqb k 8) (some begin_round)
    (cond (eqb k 9) (some (step_round most_homes g.batch))
    (cond (eqb k 10) (some (step_round n g.batch)) (cond (eqb k 11) (some (trim g.batch)) none))))))))))

unfoldable pub fed_by : Book → Option Call → ℕ → ℕ → Book
fed_by b none code figure = b
fed_by b (some c) code figure = cond (eqb code 0) (feed b c figure) b

-- a loss leaves the first n commits
unfoldable pub cut_to : ℕ → Book → Book
cut_to n b = record { commits = ended (take n b.commits); rows = 0; filled = 0; tasks = λ w. book.idle }

unfoldable pub is_loss : Board → Happening → Bool
is_loss b (asks stage writer home number block) = false
is_loss b (begins writer) = false
is_loss b (aborts writer) = false
is_loss b (reads writer home block) = false
is_loss b (goes chosen) = loads_log b.turn
is_loss b (breaks error) = false
is_loss b (cuts chosen memory) = true

unfoldable pub keeps : Bool → ℕ → Book → Book
keeps true n b = cut_to n b
keeps false n b = b

-- The board after a happening

-- an operation is asked for
unfoldable pub taken : Board → Control → List ℕ → Board
taken b c block =
    let l : Lent = b.memory in
    record {
      homes = b.homes;
      control = c;
      memory = lent_to l.log l.area l.state l.newest block l.batch;
      turn = pass;
      told = pass;
      shown = b.shown;
      medium = b.medium;
      book = b.book;
    }

unfoldable pub refused_to : Board → Turn → Board
refused_to b t =
    record {
      homes = b.homes;
      control = b.control;
      memory = b.memory;
      turn = b.turn;
      told = t;
      shown = b.shown;
      medium = b.medium;
      book = b.book;
    }

unfoldable pub ask_for : Board → ℕ → ℕ → ℕ → ℕ → List ℕ → Board
ask_for b stage writer home number block =
    cond (eqb (ask_answer b.control stage) 0) (taken b (with_ask b.control (condition_for stage) stage writer home number) block)
    (refused_to b (refusal b.control (ask_answer b.control stage)))

-- an operation that is done at once: begin, abort, read
unfoldable pub at_once : Board → Outcome → Call → Board
at_once b o c =
    let l : Lent = b.memory in
    record {
      homes = b.homes;
      control = b.control;
      memory = lent_to l.log l.area o.state l.newest l.block l.batch;
      turn = b.turn;
      told = done o.code o.figure;
      shown = o.block;
      medium = b.medium;
      book = fed_by b.book (some c) o.code o.figure;
    }

unfoldable pub once : Board → Outcome → Call → Board
once b o c = cond (eqb (shut b.control) 0) (at_once b o c) (refused_to b (refusal b.control (shut b.control)))

unfoldable pub begins_in : Board → ℕ → Outcome
begins_in b writer = let l : Lent = b.memory in begin_call (lent l.log l.area l.state [] [] writer 0)

unfoldable pub aborts_in : Board → ℕ → Outcome
aborts_in b writer = let l : Lent = b.memory in abort_call (lent l.log l.area l.state [] [] writer 0)

unfoldable pub reads_in : Board → ℕ → ℕ → List ℕ → Outcome
reads_in b writer home block = let l : Lent = b.memory in read_call (lent_all l.log l.area l.state l.newest block [] writer home)

-- the machine's next turn: with records left in its batch it hands out one, else it makes a call of the store and moves to the next stage
unfoldable pub handing : Board → Bool
handing b = ltb b.control.at b.control.size

unfoldable pub call_for : Board → ℕ
call_for b = call_at b.control (state_of b.memory.state) (home_count (length b.memory.area))

unfoldable pub made : Board → Outcome
made b = makes (call_for b) (given b.memory b.control) b.control.number

unfoldable pub made_call : Board → ℕ → Option Call
made_call b result =
    cond (eqb result 0 && not (handing b)) (call_of (call_for b) (given b.memory b.control) b.control.number) none

unfoldable pub left : Board → Gone → Board
left b r =
    record {
      homes = b.homes;
      control = r.moved.control;
      memory = lent_to r.log r.area r.state r.newest b.memory.block r.batch;
      turn = r.moved.turn;
      told = r.moved.turn;
      shown = b.shown;
      medium = b.medium;
      book = b.book;
    }

unfoldable pub with_book : Board → Book → Board
with_book b k =
    record {
      homes = b.homes;
      control = b.control;
      memory = b.memory;
      turn = b.turn;
      told = b.told;
      shown = b.shown;
      medium = b.medium;
      book = k;
    }

-- next, asked with the driver's result
unfoldable pub next : Board → ℕ → Board
next b result =
    left (with_book b (fed_by b.book (made_call b result) (made b).code (made b).figure)) (goes_past b.memory b.control result)

unfoldable pub with_medium : Board → Medium → Lent → Book → Board
with_medium b m l k =
    record {
      homes = b.homes;
      control = b.control;
      memory = l;
      turn = b.turn;
      told = b.told;
      shown = b.shown;
      medium = m;
      book = k;
    }

unfoldable pub goes_further : Grain → Board → (ℕ → Bool) → ℕ → Board
goes_further l b chosen n =
    let m : Medium = carried l b chosen in
    next (with_medium b m (copied b m) (keeps (loads_log b.turn) n b.book)) 0

-- [S-89]
unfoldable pub happens : Grain → Board → Happening → ℕ → Board
happens l b (asks stage writer home number block) n = ask_for b stage writer home number block
happens l b (begins writer) n = once b (begins_in b writer) (begin writer)
happens l b (aborts writer) n = once b (aborts_in b writer) (abort writer)
happens l b (reads writer home block) n = once b (reads_in b writer home block) (read writer home block)
happens l b (goes chosen) n = goes_further l b chosen n
happens l b (breaks error) n = next (with_medium b (attempted b) b.memory b.book) (suc error)
happens l b (cuts chosen memory) n =
    record {
      homes = b.homes;
      control = memory.control;
      memory = memory.memory;
      turn = done 0 0;
      told = done 0 0;
      shown = [];
      medium = loses l chosen b.medium;
      book = cut_to n b.book;
    }

-- Premises

-- the program's memory after a start: sizes as they are lent, the control block made new, any contents else
pub record Started (l : Grain) (groups homes : ℕ) (b : Board) : Type 0 where
  pub state_size : length b.memory.state ≡ 1024
  pub newest_size : length b.memory.newest ≡ 8 * homes
  pub log_size : length b.memory.log ≡ 64 + 512 * groups
  pub area_size : length b.memory.area ≡ 64 * homes
  pub batch_size : 72 + 516 * groups + 68 * homes ≤ length b.memory.batch
  pub room : ℕ
  pub lists : ℕ
  pub control : b.control ≡ fresh (landing_of l) room lists

-- operations are asked for by their own numbers, and an action is carried out, or fails, when there is one
unfoldable pub is_operation : ℕ → Bool
is_operation stage = eqb stage 19 || leb 2 stage && leb stage 5 || eqb stage 13 || eqb stage 16

abbrev pub Driven : Grain → ℕ → Board → Happening → Type 0
Driven l groups b (asks stage writer home number block) = is_operation stage ≡ true
Driven l groups b (begins writer) = Unit {0}
Driven l groups b (aborts writer) = Unit {0}
Driven l groups b (reads writer home block) = Unit {0}
Driven l groups b (goes chosen) = is_over b.turn ≡ false
Driven l groups b (breaks error) = is_over b.turn ≡ false
Driven l groups b (cuts chosen memory) = Started l groups b.homes memory

-- What is claimed

-- A loss leaves a front of the commits, with every one in it that a done sync has covered or an opening has brought back.
abbrev pub Leaves : Board → Bool → ℕ → Type 0
Leaves b true n = (n ≤ length b.book.commits) × NoneOwed (drop n b.book.commits)
Leaves b false n = Unit {0}

abbrev pub AllOwed : List Commit → Type 0
AllOwed [] = Unit {0}
AllOwed (c ∷ cs) = (c.owed ≡ true) × AllOwed cs

-- what a task is told when its operation is over
pub record Tells (b : Board) : Type 0 where
  -- a done opening has the homes after these commits
  pub opened : b.control.op ≡ 19 → b.told.code ≡ 0 → b.memory.area ≡ homes_after b.homes b.book.commits
  -- an opening that no failure has stopped is done, unless the log is worn out
  pub opening : b.control.op ≡ 19 → (b.told.code ≡ 0) ⊎ (b.told.code ≡ 10)
  -- a done sync covers every commit that was answered before
  pub synced : b.control.op ≡ 5 → b.told.code ≡ 0 → AllOwed b.book.commits

-- after a failure every operation but an opening is answered 65, with the driver's error
abbrev pub Shut : Board → Turn → Type 0
Shut b t = b.control.condition ≡ failed → t ≡ done 65 b.control.error

-- what a happening makes true, of the board before it and the board after it
abbrev pub Right : Board → Happening → Board → Type 0
Right b (asks stage writer home number block) b' = b.control.stage ≡ 0 → (stage ≡ 19 → ⊥) → Shut b b'.told
Right b (begins writer) b' = Shut b b'.told
Right b (aborts writer) b' = Shut b b'.told
-- a done read gives the writer's own newest block, else the newest committed one
Right b (reads writer home block) b' = Shut b b'.told × (b'.told.code ≡ 0 → b'.shown ≡ read_by b.homes b.book writer home)
Right b (goes chosen) b' = is_over b'.told ≡ true → Tells b'
Right b (breaks error) b' = (b'.told ≡ done 65 (suc error)) × (b'.control.condition ≡ failed)
Right b (cuts chosen memory) b' = Unit {0}

-- at each loss there is such a number of commits
abbrev pub AllRight : Grain → ℕ → Board → List Happening → Type 0
AllRight l groups b [] = Unit {0}
AllRight l groups b (h ∷ hs) =
    Driven l groups b h →
    (n : ℕ) × Leaves b (is_loss b h) n × Right b h (happens l b h n) × AllRight l groups (happens l b h n) hs

unfoldable pub board_of : {groups homes : ℕ} → Formatting groups homes → Board → Board
board_of {homes = homes} f b =
    record {
      homes = homes;
      control = b.control;
      memory = b.memory;
      turn = done 0 0;
      told = done 0 0;
      shown = [];
      medium = record { lasting = (after_format f).memory; written = [] };
      book = book.empty;
    }

-- Demand 4: for every kind of medium, every G and D, every done format, every start and every list of operations, results and cuts [S-89]
abbrev pub Demand4 : Type 0
Demand4 =
    (l : Grain) (groups homes : ℕ) (f : Formatting groups homes) (b : Board) → Started l groups homes b → (hs : List Happening) →
    AllRight l groups (board_of f b) hs
