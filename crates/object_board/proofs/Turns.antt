-- A turn of the machine: what it leaves of the board, by what is left of the batch in hand.
use Prim.Native.Nat.{ℕ, ◌≤◌, ◌<◌}
use mathlib.Core.Path.{◌≡◌, refl}
use mathlib.Core.Logic.{◌⊎◌, inl, inr}
use mathlib.Core.Bool.{true, false, ◌||◌}
use native.Mathlib.Omega.{arith}
use lib.Dec.{eqb, ltb}
use lib.ListN.{length}
use borrow.Author.Tests.{le-leb, lt-leb, lt-ltb, le-ltb, ne_eqb}
use Rattle.model.specs.Layout.{group_count, home_count}
use Rattle.model.specs.State.{state_of}
use Rattle.model.specs.declared.State.{State}
use Rattle.object_runner.specs.declared.Action.{Action}
use Rattle.object_runner.specs.Next.{next_action}
use Rattle.object_runner.specs.Moves as runner
use Rattle.object_machine.specs.declared.Control.{Control}
use Rattle.object_machine.specs.declared.Turn.{Turn}
use Rattle.object_machine.specs.declared.Moved.{Moved}
use Rattle.object_machine.specs.Control.{with_cursor, with_stage, with_batch, with_condition, with_room}
use Rattle.object_machine.specs.Moves.{moved, load, headed_at, uncalled}
use Rattle.object_machine.specs.Next.{goes as goes_past, stays, hands_out_now, handed, given, follows, holder_for, left_under, onward}
use Rattle.object_board.specs.Board.{Board, in_hand, piece_of, call_of, fed_by, handing, call_for, made, made_call, left, with_book, next}
use Rattle.object_board.proofs.Along.{cursor_of, SameCursor, NewBatch, Cursors}
use Rattle.object_board.proofs.MoveLaws.{CalledTo, called-to, UncalledTo, load-log, load-area, opens, ends, settles, again, gives_up, uncalled-to, gone}

-- the runner's action as a turn
unfoldable pub turn_of : Action → Turn
turn_of a =
    record { kind = a.kind; area = a.area; offset = a.offset; size = a.size; source = a.source; from = a.from; code = 0; figure = 0 }

-- the action that the runner answers for the batch in hand
unfoldable pub asks_for : Board → Action
asks_for b =
    next_action b.control.landing (group_count (length b.memory.log)) (home_count (length b.memory.area)) (state_of b.memory.state).next (in_hand b)
    (cursor_of b.control)

unfoldable pub handed_to : Board → Action → Board
handed_to b a =
    record {
      homes = b.homes;
      control = with_cursor b.control a.at a.headed a.stage;
      memory = b.memory;
      turn = turn_of a;
      told = turn_of a;
      shown = b.shown;
      medium = b.medium;
      book = b.book;
    }

either-kind : (k : ℕ) → (k ≡ 1) ⊎ (k ≡ 2) → (eqb k 1 || eqb k 2) ≡ true
either-kind k (inl e) = rw e
either-kind k (inr e) = rw e

pub handed-next : (b : Board) → b.control.at < b.control.size → b.control.size ≤ length b.memory.batch → ((asks_for b).kind ≡ 1) ⊎ ((asks_for b).kind ≡ 2)
    → next b 0 ≡ handed_to b (asks_for b)
unfolding next left with_book made_call fed_by handing goes_past stays hands_out_now handed handed_to turn_of asks_for in_hand moved
handed-next b l f k = rw (lt-ltb b.control.at b.control.size l, le-leb b.control.size (length b.memory.batch) f, either-kind _ k)

-- a write is the piece that the runner's action writes
pub piece_is : (b : Board) (a : Action) → piece_of (handed_to b a) (turn_of a) ≡ runner.piece_of (in_hand b) b.memory.log a
unfolding piece_of handed_to turn_of in_hand runner.piece_of runner.bytes_of with_cursor
piece_is b a = refl

pub hand-kept : (b : Board) (a : Action) → in_hand (handed_to b a) ≡ in_hand b
unfolding in_hand handed_to with_cursor
hand-kept b a = refl

-- ---- with nothing left in hand: one call, or none

abbrev pub moves_to : Board → Moved
moves_to b =
    follows b.control (made b).code (made b).figure (made b).size (group_count (length b.memory.log)) (length b.memory.log) (length b.memory.area)
    (state_of (made b).state) (holder_for b.control.stage (made b).code (made b).state)

pub record Calls (b b' : Board) : Type 0 where
  pub homes : b'.homes ≡ b.homes
  pub control : b'.control ≡ (moves_to b).control
  pub turn : b'.turn ≡ (moves_to b).turn
  pub told : b'.told ≡ (moves_to b).turn
  pub log : b'.memory.log ≡ (made b).log
  pub area : b'.memory.area ≡ (made b).area
  pub state : b'.memory.state ≡ (made b).state
  pub newest : b'.memory.newest ≡ (made b).newest
  pub batch : b'.memory.batch ≡ (made b).batch
  pub medium : b'.medium ≡ b.medium
  pub book : b'.book ≡ fed_by b.book (made_call b 0) (made b).code (made b).figure

pub calls-next : (b : Board) → b.control.size ≤ b.control.at → Calls b (next b 0)
unfolding next left with_book goes_past onward left_under made call_for
calls-next b l =
    let q : ltb b.control.at b.control.size ≡ false = le-ltb b.control.at b.control.size l in
    record {
      homes = refl;
      control = rw q;
      turn = rw q;
      told = rw q;
      log = rw q;
      area = rw q;
      state = rw q;
      newest = rw q;
      batch = rw q;
      medium = refl;
      book = refl;
    }

pub made-call : (b : Board) → b.control.size ≤ b.control.at
    → made_call b 0 ≡ call_of (call_for b) (given b.memory b.control) b.control.number
unfolding made_call handing
made-call b l = rw (le-ltb b.control.at b.control.size l)

-- ---- by stage

pub follows-called : (b : Board) → b.control.stage ≤ 18 → CalledTo b.control (made b).code (made b).figure (made b).size (state_of (made b).state) (moves_to b)
unfolding follows
follows-called b l =
    rw (le-leb b.control.stage 18 l)
    (called-to b.control (made b).code (made b).figure (made b).size (group_count (length b.memory.log)) (state_of (made b).state) (holder_for b.control.stage (made b).code (made b).state))

pub follows-uncalled : (b : Board) → 19 ≤ b.control.stage → UncalledTo b.control (length b.memory.log) (length b.memory.area) (moves_to b)
unfolding follows
follows-uncalled b l =
    rw (lt-leb b.control.stage 18 (omega arith))
    (uncalled-to b.control (length b.memory.log) (length b.memory.area) (state_of (made b).state) (holder_for b.control.stage (made b).code (made b).state))

-- ---- cursors, and what stays in the control block

pub record Stays (c c' : Control) : Type 0 where
  pub landing : c'.landing ≡ c.landing
  pub op : c'.op ≡ c.op

module _ (c : Control) (st : State) (n : c.stage ≡ 1 → ⊥) where
  headed-same : headed_at c st ≡ c.headed
  unfolding headed_at
  headed-same = rw (ne_eqb c.stage 1 n)

  pub over-same : (m : Moved) (t : Turn) → m ≡ moved (with_stage (gone c st) 0) t → SameCursor c m.control × Stays c m.control
  unfolding with_stage with_cursor moved
  over-same m t q = (record { size = rw q; at = rw q; headed = rw q headed-same; step = rw q }, record { landing = rw q; op = rw q })

  pub on-new : (m : Moved) (t : Turn) (n figure size : ℕ) → m ≡ moved (with_batch (gone c st) n figure size) t → NewBatch c m.control size × Stays c m.control
  unfolding with_batch with_cursor moved
  on-new m t n figure size q = (record { size = rw q; at = rw q; headed = rw q headed-same; step = rw q }, record { landing = rw q; op = rw q })

  pub room-same : (m : Moved) (t : Turn) (n from : ℕ) → m ≡ moved (with_room c n from) t → SameCursor c m.control × Stays c m.control
  unfolding with_room moved
  room-same m t n from q = (record { size = rw q; at = rw q; headed = rw q; step = rw q }, record { landing = rw q; op = rw q })

  pub stage-same : (m : Moved) (t : Turn) (n : ℕ) → m ≡ moved (with_stage c n) t → SameCursor c m.control × Stays c m.control
  unfolding with_stage moved
  stage-same m t n q = (record { size = rw q; at = rw q; headed = rw q; step = rw q }, record { landing = rw q; op = rw q })

pub uncalled-cursors : (c : Control) (a b : ℕ) (m : Moved) → UncalledTo c a b m → Cursors c m.control 0 0 × Stays c m.control
unfolding with_stage with_condition moved
uncalled-cursors c a b m (load-log e q) = (inl (record { size = rw q; at = rw q; headed = rw q; step = rw q }, refl), record { landing = rw q; op = rw q })
uncalled-cursors c a b m (load-area e q) = (inl (record { size = rw q; at = rw q; headed = rw q; step = rw q }, refl), record { landing = rw q; op = rw q })
uncalled-cursors c a b m (opens e q) = (inr (record { size = rw q; at = rw q; headed = rw q; step = rw q }, refl), record { landing = rw q; op = rw q })
uncalled-cursors c a b m (ends t e q) = (inl (record { size = rw q; at = rw q; headed = rw q; step = rw q }, refl), record { landing = rw q; op = rw q })
uncalled-cursors c a b m (settles e q) = (inl (record { size = rw q; at = rw q; headed = rw q; step = rw q }, refl), record { landing = rw q; op = rw q })
uncalled-cursors c a b m (again e q) = (inl (record { size = rw q; at = rw q; headed = rw q; step = rw q }, refl), record { landing = rw q; op = rw q })
uncalled-cursors c a b m (gives_up t e q) = (inl (record { size = rw q; at = rw q; headed = rw q; step = rw q }, refl), record { landing = rw q; op = rw q })

-- the loads of an opening
pub moves-log : (b : Board) → b.control.stage ≡ 19 → moves_to b ≡ moved (with_stage b.control 20) (load 0 (length b.memory.log))
unfolding follows uncalled
moves-log b e = rw e

pub moves-area : (b : Board) → b.control.stage ≡ 20 → moves_to b ≡ moved (with_stage b.control 1) (load 1 (length b.memory.area))
unfolding follows uncalled
moves-area b e = rw e
