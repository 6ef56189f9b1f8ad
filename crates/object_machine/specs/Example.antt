-- A short history of the machine on a driver that keeps words of 8 bytes and never fails (G 4, D 8): open, begin, store, commit, sync, a cut, open, read.
use Rattle.std.specs.Prelude.{ℕ, zero, suc, cond, List, [], ◌∷◌, eqb}
use Rattle.model.specs.Bytes.{part, puts, zeros}
use Rattle.model.specs.Crash.{Memory}
use Rattle.model.specs.History.{empty_store}
use Rattle.model.specs.examples.Trials.{lane, fill, positions}
use Rattle.object_machine.specs.Control.{Turn}
use Rattle.object_machine.specs.Next.{Lent, lent_to, Left, Asked, next_call, ask_call, init_call, begin_turn, read_turn}

-- the program's memory, the lasting one, and the turn that the driver is to carry out
pub record Board : Type 0 where
  pub control : List ℕ
  pub lent : Lent
  pub memory : Memory
  pub turn : Turn

unfoldable pub bytes_of : Turn → Lent → List ℕ
bytes_of t l = part (cond (eqb t.source 0) l.batch l.log) t.from t.size

-- the driver: a write is put where it belongs, a load fills the copy
unfoldable pub written : Turn → Lent → Memory → Memory
written t l m =
    cond (eqb t.area 0) (record { log = puts m.log t.offset (bytes_of t l); area = m.area })
    (record { log = m.log; area = puts m.area t.offset (bytes_of t l) })

unfoldable pub loaded : Turn → Lent → Memory → Lent
loaded t l m =
    cond (eqb t.area 0) (lent_to m.log l.area l.state l.newest l.block l.batch)
    (lent_to l.log m.area l.state l.newest l.block l.batch)

unfoldable pub after_next : Board → Left → Board
after_next b x =
    record {
      control = x.control;
      lent = lent_to x.log x.area x.state x.newest b.lent.block x.batch;
      memory = b.memory;
      turn = x.turn;
    }

unfoldable pub carried : Board → Board
carried b =
    let t : Turn = b.turn in
    cond (eqb t.kind 1) (record { control = b.control; lent = b.lent; memory = written t b.lent b.memory; turn = t })
    (cond (eqb t.kind 3) (record { control = b.control; lent = loaded t b.lent b.memory; memory = b.memory; turn = t }) b)

-- turn after turn, until the operation is over
unfoldable pub turn_by_turn : ℕ → Board → Board
turn_by_turn zero b = b
turn_by_turn (suc n) b = cond (eqb b.turn.kind 0) b (let d : Board = carried b in turn_by_turn n (after_next d (next_call d.control d.lent 0)))

-- the kinds of its turns and how much they write
unfoldable pub turns_of : ℕ → Board → List ℕ
turns_of zero b = []
turns_of (suc n) b =
    b.turn.kind ∷ b.turn.size
    ∷ cond (eqb b.turn.kind 0) [] (let d : Board = carried b in turns_of n (after_next d (next_call d.control d.lent 0)))

unfoldable pub asking : Board → Asked → Board
asking b x = record { control = x.kept; lent = b.lent; memory = b.memory; turn = x.turn }

unfoldable pub runs : Board → ℕ → ℕ → ℕ → Board
runs b stage writer home = turn_by_turn 40 (asking b (ask_call b.control stage writer home 0))

-- a program that has just started
unfoldable pub started : Memory → Board
started m =
    let x : Asked = init_call (zeros 256) 0 0 0 in
    record {
      control = x.kept;
      lent = lent_to (zeros 2112) (zeros 512) (zeros 1024) positions (fill 9) lane;
      memory = m;
      turn = x.turn;
    }

unfoldable pub begun : Board → Board
begun b =
    let l : Lent = b.lent in
    let x : Asked = begin_turn b.control l.log l.area l.state 0 in
    record {
      control = b.control;
      lent = lent_to l.log l.area x.kept l.newest l.block l.batch;
      memory = b.memory;
      turn = x.turn;
    }

unfoldable pub opened : Board
opened = runs (started (empty_store 4 8).memory) 19 0 0

unfoldable pub stored : Board
stored = runs (begun opened) 3 0 5

unfoldable pub committed : Board
committed = runs stored 4 0 0

unfoldable pub synced : Board
synced = runs committed 5 0 0

unfoldable pub reopened : Board
reopened = runs (started synced.memory) 19 0 0

unfoldable pub shown : List ℕ
shown =
    let l : Lent = reopened.lent in
    (read_turn reopened.control l.log l.area l.state l.newest (zeros 64) 0 5).kept

-- Room: one place of the 28 is used, so a reserve of 28 finds too few.
unfoldable pub reserving : Board → Board
reserving b = asking b (ask_call b.control 2 1 0 28)

-- A round under way: two homes committed and synced, of which a maintain of one home has settled the first.
unfoldable pub two_stored : Board
two_stored = runs stored 3 0 6

unfoldable pub two_synced : Board
two_synced = runs (runs two_stored 4 0 0) 5 0 0

unfoldable pub half_settled : Board
half_settled = turn_by_turn 40 (asking two_synced (ask_call two_synced.control 16 0 0 1))

-- A failure: the driver answers 5 to the first turn of the sync.
unfoldable pub failing : Board
failing =
    let b : Board = asking committed (ask_call committed.control 5 0 0 0) in
    after_next b (next_call b.control b.lent 5)
