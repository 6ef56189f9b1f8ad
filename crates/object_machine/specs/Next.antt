-- The machine's calls: an operation is asked for, and `next` with the driver's last result gives the next turn. A turn makes one call of the store, or
-- hands out one record of its batch.
use Rattle.std.specs.Prelude.{ℕ, ◌-◌, ◌^◌, Bool, cond, ◌&&◌, ◌||◌, List, [], eqb, leb, ltb, length}
use Rattle.model.specs.Bytes.{part}
use Rattle.model.specs.Layout.{log_length_right, data_length_right, group_count, home_count}
use Rattle.model.specs.State.{state_of}
use Rattle.model.specs.declared.State.{State}
use Rattle.model.specs.declared.Holder.{Holder}
use Rattle.model.specs.Effects.{Given}
use Rattle.model.specs.Calls.{Outcome, begin_call, abort_call, read_call}
use Rattle.abstract_store.specs.Usage.{no_holder, holder_of}
use Rattle.call_ask.specs.Lent.{lent_all, lent}
use Rattle.object_runner.specs.declared.Action.{Action}
use Rattle.object_runner.specs.Next.{cursor, next_action}
use Rattle.object_machine.specs.Control.{Control, Turn, Moved, closed, ready, failed, known, fresh, control_of, put_control, with_condition, with_cursor, with_ask}
use Rattle.object_machine.specs.Calls.{writers_call, room_call}
use Rattle.object_machine.specs.Moves.{done, pass, moved, chosen, called, uncalled}

-- what next is lent beside the control block
pub record Lent : Type 0 where
  pub log : List ℕ
  pub area : List ℕ
  pub state : List ℕ
  pub newest : List ℕ
  pub block : List ℕ
  pub batch : List ℕ

abbrev pub lent_to : List ℕ → List ℕ → List ℕ → List ℕ → List ℕ → List ℕ → Lent
lent_to log area state newest block batch =
    record { log = log; area = area; state = state; newest = newest; block = block; batch = batch }

-- what a turn leaves of it
pub record Gone : Type 0 where
  pub moved : Moved
  pub log : List ℕ
  pub area : List ℕ
  pub state : List ℕ
  pub newest : List ℕ
  pub batch : List ℕ

abbrev pub gone : Moved → List ℕ → List ℕ → List ℕ → List ℕ → List ℕ → Gone
gone m log area state newest batch = record { moved = m; log = log; area = area; state = state; newest = newest; batch = batch }

-- all as it was
unfoldable pub stays : Lent → Moved → Gone
stays l m = gone m l.log l.area l.state l.newest l.batch

-- The driver has failed: no more is asked of it, and every operation but an opening answers 65.
unfoldable pub fails : Control → ℕ → Moved
fails c error = moved (with_condition c failed error) (done 65 error)

-- the error of a batch that cannot be read, -1000 as the driver's errors are numbers
abbrev pub bad_batch : ℕ
bad_batch = 2 ^ 64 - 1000

-- a record of the batch: the runner's next action
unfoldable pub handed : Control → Action → Moved
handed c a =
    cond (eqb a.kind 1 || eqb a.kind 2)
    (moved (with_cursor c a.at a.headed a.stage)
    (record { kind = a.kind; area = a.area; offset = a.offset; size = a.size; source = a.source; from = a.from; code = 0; figure = 0 }))
    (fails c bad_batch)

-- the batch in hand, as long as it was
unfoldable pub hands_out_now : Lent → Control → Moved
hands_out_now l c =
    cond (leb c.size (length l.batch))
    (handed c
    (next_action c.landing (group_count (length l.log)) (home_count (length l.area)) (state_of l.state).next (part l.batch 0 c.size)
    (cursor c.at c.headed c.step)))
    (fails c bad_batch)

-- the holder, where it is asked for
unfoldable pub holder_for : ℕ → ℕ → List ℕ → Holder
holder_for stage code s = cond (eqb code 0 && leb stage 22) no_holder (holder_of s 8)

unfoldable pub given : Lent → Control → Given
given l c = lent_all l.log l.area l.state l.newest l.block l.batch c.writer c.home

-- the call that a stage makes: 1 to 6 and 12 are those of writers
unfoldable pub makes : ℕ → Given → ℕ → Outcome
makes k g n = cond (leb 1 k && leb k 6 || eqb k 12) (writers_call k g n) (room_call k g n)

unfoldable pub follows : Control → ℕ → ℕ → ℕ → ℕ → ℕ → ℕ → State → Holder → Moved
follows c code figure size groups log_size area_size st h =
    cond (leb c.stage 18) (called c code figure size groups st h) (uncalled c log_size area_size st h)

unfoldable pub left_under : Lent → Control → Outcome → Gone
left_under l c o =
    gone
    (follows c o.code o.figure o.size (group_count (length l.log)) (length l.log) (length l.area) (state_of o.state)
    (holder_for c.stage o.code o.state))
    o.log
    o.area
    o.state
    o.newest
    o.batch

-- the batch has been carried out: one call of the store, or none
unfoldable pub onward : Lent → Control → Gone
onward l c = left_under l c (makes (chosen c (state_of l.state) (home_count (length l.area))) (given l c) c.number)

unfoldable pub goes : Lent → Control → ℕ → Gone
goes l c result =
    cond (eqb result 0) (cond (ltb c.at c.size) (stays l (hands_out_now l c)) (onward l c)) (stays l (fails c result))

-- what next gives and leaves
pub record Left : Type 0 where
  pub turn : Turn
  pub control : List ℕ
  pub log : List ℕ
  pub area : List ℕ
  pub state : List ℕ
  pub newest : List ℕ
  pub batch : List ℕ

abbrev pub leaves : Turn → List ℕ → List ℕ → List ℕ → List ℕ → List ℕ → List ℕ → Left
leaves turn control log area state newest batch =
    record { turn = turn; control = control; log = log; area = area; state = state; newest = newest; batch = batch }

unfoldable pub refused : List ℕ → Lent → ℕ → Left
refused s l code = leaves (done code 0) s l.log l.area l.state l.newest l.batch

unfoldable pub keeps : List ℕ → Gone → Left
keeps s g = leaves g.moved.turn (put_control s g.moved.control) g.log g.area g.state g.newest g.batch

-- an operation is under way in a control block that a call has made
unfoldable pub under_way : Control → Bool
under_way c = known c && leb 1 c.stage

unfoldable pub lengths_right : Lent → Bool
lengths_right l = log_length_right (length l.log) && (data_length_right (length l.area) && eqb (length l.state) 1024)

-- The next turn. `result` is what the driver's function returned for the last one, 0 if it was done or if there was nothing for the driver. 67: nothing is under
-- way; 1: a length is wrong, and all is as it was. [S-88]
unfoldable pub next_call : List ℕ → Lent → ℕ → Left
next_call s l result =
    cond (eqb (length s) 256)
    (cond (under_way (control_of s)) (cond (lengths_right l) (keeps s (goes l (control_of s) result)) (refused s l 1)) (refused s l 67)) (refused s l 67)

-- Operations asked for.

-- the answer of an operation that cannot begin: 64 closed, 65 failed, 0 for a store that is open
unfoldable pub shut : Control → ℕ
shut c = cond (eqb c.condition ready) 0 (cond (eqb c.condition closed) 64 65)

-- 65 tells the driver's error
unfoldable pub refusal : Control → ℕ → Turn
refusal c code = done code (cond (eqb code 65) c.error 0)

-- 67 for no control block, 66 while another operation is under way; stage 19 is an opening's, which needs no open store
unfoldable pub ask_answer : Control → ℕ → ℕ
ask_answer c stage = cond (known c) (cond (eqb c.stage 0) (cond (eqb stage 19) 0 (shut c)) 66) 67

unfoldable pub condition_for : ℕ → ℕ
condition_for stage = cond (eqb stage 19) closed ready

-- what a call that asks gives, and what it leaves of the one thing that it may change: control block, state or block
pub record Asked : Type 0 where
  pub turn : Turn
  pub kept : List ℕ

abbrev pub asked : Turn → List ℕ → Asked
asked turn kept = record { turn = turn; kept = kept }

unfoldable pub asks : List ℕ → Control → ℕ → ℕ → ℕ → ℕ → Asked
asks s c stage writer home n =
    cond (eqb (ask_answer c stage) 0) (asked pass (put_control s (with_ask c (condition_for stage) stage writer home n)))
    (asked (refusal c (ask_answer c stage)) s)

-- an operation that begins with a stage [S-88]
unfoldable pub ask_call : List ℕ → ℕ → ℕ → ℕ → ℕ → Asked
ask_call s stage writer home n = cond (eqb (length s) 256) (asks s (control_of s) stage writer home n) (asked (done 67 0) s)

-- maintain without a bound, and with one
unfoldable pub maintain_stage : ℕ → ℕ
maintain_stage most = cond (eqb most 0) 13 16

-- a control block made: 1 for a length that is wrong
unfoldable pub init_call : List ℕ → ℕ → ℕ → ℕ → Asked
init_call s landing room lists =
    cond (eqb (length s) 256) (asked (done 0 0) (put_control s (fresh landing room lists))) (asked (done 1 0) s)

-- Operations that are done at once: they make a call without a batch, leave the control block as it is, and may come while another operation is under way.

-- whether the store is open: 0, or the refusal
unfoldable pub ready_turn : List ℕ → Turn
ready_turn s =
    cond (eqb (length s) 256) (cond (known (control_of s)) (refusal (control_of s) (shut (control_of s))) (done 67 0)) (done 67 0)

unfoldable pub at_once : List ℕ → Outcome → List ℕ → List ℕ → Asked
at_once s o was is = cond (eqb (ready_turn s).code 0) (asked (done o.code o.figure) is) (asked (ready_turn s) was)

-- begin and abort leave a state, read a block
unfoldable pub begin_turn : List ℕ → List ℕ → List ℕ → List ℕ → ℕ → Asked
begin_turn s log area state writer =
    let o : Outcome = begin_call (lent log area state [] [] writer 0) in at_once s o state o.state

unfoldable pub abort_turn : List ℕ → List ℕ → List ℕ → List ℕ → ℕ → Asked
abort_turn s log area state writer =
    let o : Outcome = abort_call (lent log area state [] [] writer 0) in at_once s o state o.state

unfoldable pub read_turn : List ℕ → List ℕ → List ℕ → List ℕ → List ℕ → List ℕ → ℕ → ℕ → Asked
read_turn s log area state newest block writer home =
    let o : Outcome = read_call (lent_all log area state newest block [] writer home) in at_once s o block o.block
