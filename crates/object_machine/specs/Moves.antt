-- What the machine does at each stage: which call it makes, and what follows from the call's answer.
--
--      stage                        call                             when it is done
--   1  opens                        open                             21
--   2  reserves                     reserve                          22   answer 17: room
--   3  stores                       store                            22   answer 8: room
--   4  commits                      commit                           22   answer 8: room
--   5  syncs                        flush                            6    answer 18: room
--   6  confirms                     confirm                          22
--   7  room: fences the log         flush                            9    answer 18: 8, since a settle fences too
--   8  room: settles for its fence  the round's rest, or settle      9
--   9  room: settles                the round's rest, or settle      10
--  10  room: trims                  trim                             23
--  11  room: settles what is new    the round's rest, or settle      12
--  12  room: trims                  trim                             24
--  13  maintains all                the round's rest, if there is one  14
--  14  maintains all                the round's rest, or settle      15
--  15  maintains all                trim                             25
--  16  maintains some               begin a round, if there is none and something is to be settled  17
--  17  maintains some               a step of the round, if there is one  18
--  18  maintains some               trim, if there is no round       25
--
-- Stages without a call: 19 load the log, then 20 load the homes, then 1; 21 the store is ready; 22 the operation is done; 23 has the start moved? then the
-- operation again, else 11 if something is to be settled, else refused; 24 the same without 11; 25 maintain is done, and tells whether there is more to do.
-- A refusal that is not named here ends the operation. 0: nothing is under way.
use Rattle.std.specs.Prelude.{ℕ, ◌*◌, ◌/◌, Bool, cond, not, ◌&&◌, ◌||◌, List, [], ◌∷◌, eqb, leb, get_or}
use Rattle.model.specs.State.{under_way}
use Rattle.model.specs.declared.State.{State}
use Rattle.model.specs.declared.Holder.{Holder}
use Rattle.object_machine.specs.Control.{Control, Turn, Moved, ready, with_stage, with_condition, with_batch, with_cursor, with_room}

-- Turns: what goes to the driver.

abbrev pub kind_done : ℕ
kind_done = 0

abbrev pub kind_load : ℕ
kind_load = 3

abbrev pub kind_pass : ℕ
kind_pass = 4

unfoldable pub done : ℕ → ℕ → Turn
done code figure = record { kind = kind_done; area = 0; offset = 0; size = 0; source = 0; from = 0; code = code; figure = figure }

unfoldable pub load : ℕ → ℕ → Turn
load area size = record { kind = kind_load; area = area; offset = 0; size = size; source = 0; from = 0; code = 0; figure = 0 }

-- nothing for the driver: next goes on
unfoldable pub pass : Turn
pass = record { kind = kind_pass; area = 0; offset = 0; size = 0; source = 0; from = 0; code = 0; figure = 0 }

unfoldable pub moved : Control → Turn → Moved
moved c t = record { control = c; turn = t }

-- the operation is over
unfoldable pub answers : Control → ℕ → ℕ → Moved
answers c code figure = moved (with_stage c 0) (done code figure)

unfoldable pub passes : Control → Moved
passes c = moved c pass

-- Which call.

unfoldable pub call_at : List ℕ
call_at = 0 ∷ 1 ∷ 2 ∷ 3 ∷ 4 ∷ 5 ∷ 6 ∷ 5 ∷ 7 ∷ 7 ∷ 11 ∷ 7 ∷ 11 ∷ 0 ∷ 7 ∷ 11 ∷ 8 ∷ 0 ∷ 11 ∷ []

-- with a round under way
unfoldable pub call_in_round : List ℕ
call_in_round = 0 ∷ 1 ∷ 2 ∷ 3 ∷ 4 ∷ 5 ∷ 6 ∷ 5 ∷ 9 ∷ 9 ∷ 11 ∷ 9 ∷ 11 ∷ 9 ∷ 9 ∷ 11 ∷ 0 ∷ 10 ∷ 0 ∷ []

-- a store that would become a list of rights, or a part of one, unasked
unfoldable pub guarded : Control → ℕ → Bool
guarded c homes = eqb c.writer 0 && leb 8 c.home && leb c.home 11 && leb 12 homes && eqb c.lists 0

unfoldable pub settled : State → Bool
settled st = eqb st.settled st.fenced

unfoldable pub at_stage : ℕ → State → ℕ
at_stage stage st = cond (under_way st) (get_or call_in_round stage 0) (get_or call_at stage 0)

-- the call that a stage makes, 0 for none [S-88]
unfoldable pub chosen : Control → State → ℕ → ℕ
chosen c st homes =
    cond (leb c.stage 18)
    (cond (eqb c.stage 3 && guarded c homes) 12 (cond (eqb c.stage 16 && settled st) 0 (at_stage c.stage st))) 0

-- What follows.

unfoldable pub after : List ℕ
after = 0 ∷ 21 ∷ 22 ∷ 22 ∷ 22 ∷ 6 ∷ 22 ∷ 9 ∷ 9 ∷ 10 ∷ 23 ∷ 12 ∷ 24 ∷ 14 ∷ 15 ∷ 25 ∷ 17 ∷ 18 ∷ 25 ∷ []

-- a done call: its batch is carried out, and then comes the next stage. An operation that ends with a call without a batch is done at once.
unfoldable pub goes_further : Control → ℕ → ℕ → ℕ → Moved
goes_further c to figure size = cond (eqb to 22 && eqb size 0) (answers c 0 figure) (passes (with_batch c to figure size))

-- the answer with which an operation's own call says that room is missing
unfoldable pub full : ℕ → ℕ
full stage = cond (eqb stage 2) 17 (cond (eqb stage 5) 18 (cond (eqb stage 3 || eqb stage 4) 8 0))

-- the holder's transaction begins in the log's first group, so that no trim can free it
unfoldable pub held_back_by : State → Holder → Bool
held_back_by st h = not (eqb h.writer 8) && eqb (h.first / 7) st.start

-- a reserve of no places, or of more than a log has, is not helped by room
unfoldable pub possible : Control → ℕ → Bool
possible c groups = not (eqb c.stage 2) || leb 1 c.number && leb c.number (7 * groups)

unfoldable pub may_make_room : Control → ℕ → State → Holder → Bool
may_make_room c groups st h = eqb c.tried 0 && eqb c.room 0 && possible c groups && not (held_back_by st h)

unfoldable pub tells_holder : ℕ → Holder → ℕ
tells_holder code h = cond (eqb code 8 || eqb code 17) h.writer 0

unfoldable pub refuses : Control → ℕ → ℕ → State → Holder → Moved
refuses c code groups st h =
    cond (eqb code (full c.stage) && may_make_room c groups st h) (passes (with_room c 7 st.start))
    (cond (eqb c.stage 7 && eqb code 18) (passes (with_stage c 8)) (answers c code (tells_holder code h)))

-- the groups of an opening's log have no first words to wait for
unfoldable pub headed_at : Control → State → ℕ
headed_at c st = cond (eqb c.stage 1) st.next c.headed

-- a stage with a call, by what the call answered and left [S-88]
unfoldable pub called : Control → ℕ → ℕ → ℕ → ℕ → State → Holder → Moved
called c code figure size groups st h =
    cond (eqb code 0) (goes_further (with_cursor c c.at (headed_at c st) c.step) (get_or after c.stage 0) figure size) (refuses c code groups st h)

-- room was made for nothing
unfoldable pub gives_up_at : Control → Holder → Moved
gives_up_at c h = answers c (full c.op) (tells_holder (full c.op) h)

unfoldable pub looks : Control → State → Holder → Moved
looks c st h =
    cond (eqb st.start c.from)
    (cond (eqb c.stage 23 && not (settled st)) (passes (with_stage c 11)) (gives_up_at c h))
    (passes (with_stage c c.op))

unfoldable pub more : State → ℕ
more st = cond (under_way st || not (settled st)) 1 0

-- a stage without one [S-88]
unfoldable pub uncalled : Control → ℕ → ℕ → State → Holder → Moved
uncalled c log_size area_size st h =
    cond (eqb c.stage 19) (moved (with_stage c 20) (load 0 log_size))
    (cond (eqb c.stage 20) (moved (with_stage c 1) (load 1 area_size))
    (cond (eqb c.stage 21) (moved (with_condition c ready 0) (done 0 c.figure))
    (cond (eqb c.stage 22) (answers c 0 c.figure) (cond (eqb c.stage 25) (answers c 0 (more st)) (looks c st h)))))
