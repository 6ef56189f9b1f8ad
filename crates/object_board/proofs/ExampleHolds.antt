-- The history of specs/Example, computed, and demand 4 applied to its board.
use Prim.Native.Nat.{◌+◌, ◌*◌, ◌≤◌}
use mathlib.Core.Path.{◌≡◌, refl}
use mathlib.Core.Bool.{Bool, true, false}
use mathlib.Core.List.{List, [], ◌∷◌}
use native.Mathlib.Omega.{arith}
use lib.ListN.{length}
use Rattle.model.specs.Bytes.{same}
use Rattle.model.specs.Book.{homes_after}
use Rattle.model.specs.examples.Trials.{fill}
use Rattle.model.proofs.examples.Computing.{all-definitions}
use Rattle.abstract_store.specs.Usage.{no_holder, holds_lower, holder_of}
use Rattle.object.specs.Medium.{words, unit_of, chop_log, chop_area, chop, chop_all, writes, fences, loses}
use Rattle.object.proofs.ExampleHolds.{format}
use Rattle.object_runner.specs.Next.{bare, write, past, parts, group_action, home_action, wiping, whole_header, wipe_action, header_action, due, due_action, fence_action, record_action, asked as may_ask, next_action}
use Rattle.object_runner.specs.Moves.{landing_of}
use Rattle.object_machine.specs.Control.{known, fresh, with_stage, with_condition, with_batch, with_cursor, with_ask, with_room}
use Rattle.object_machine.specs.Calls.{beside_batch, beside_state, beside_all, opens, reserves, stores, commits, flushes, confirms, settles, round_begins, round_steps, trims, nothing, writers_call, room_call}
use Rattle.object_machine.specs.Moves.{done, load, pass, moved, answers, passes, call_at, call_in_round, guarded, settled, at_stage, chosen, after as after_stage, goes_further as goes_from, full, held_back_by, possible, may_make_room, tells_holder, refuses, headed_at, called, gives_up_at, looks, more, uncalled}
use Rattle.object_machine.specs.Next.{stays, fails, handed, hands_out_now, holder_for, given, makes, follows, left_under, onward, goes as goes_past, shut, refusal, ask_answer, condition_for}
use Rattle.object_board.specs.Board.{Happening, in_hand, piece_of, is_over, loads_log, loads_area, carried, attempted, copied, call_of, fed_by, cut_to, is_loss, keeps, taken, refused_to, ask_for, at_once, once, begins_in, aborts_in, reads_in, handing, call_for, made, made_call, left, with_book, next, with_medium, goes_further, happens, Started, AllRight, board_of}
use Rattle.object_board.specs.Board as board
use Rattle.object_board.specs.Example.{all, third, start, carries, runs, opened, synced, torn, reopened, failing, after, roomy, rounded}
use Rattle.object_board.proofs.BoardHolds.{demand4}

unfoldable computed : Bool
unfolding all-definitions no_holder holds_lower holder_of unit_of chop_log chop_area chop chop_all writes fences loses bare write past parts group_action home_action wiping whole_header wipe_action header_action due due_action fence_action record_action may_ask next_action known fresh with_stage with_condition with_batch with_cursor with_ask with_room beside_batch beside_state beside_all opens reserves stores commits flushes confirms settles round_begins round_steps trims nothing writers_call room_call done load pass moved answers passes call_at call_in_round guarded settled at_stage chosen after_stage goes_from full held_back_by possible may_make_room tells_holder refuses headed_at called gives_up_at looks more uncalled stays fails handed hands_out_now holder_for given makes follows left_under onward goes_past shut refusal ask_answer condition_for in_hand piece_of is_over loads_log loads_area carried attempted copied call_of fed_by cut_to is_loss keeps taken refused_to ask_for at_once once begins_in aborts_in reads_in handing call_for made made_call left with_book next with_medium goes_further happens all third start carries runs opened synced torn reopened failing after roomy rounded
computed = true

-- done; the commit is synced, and the opening after the cut that tore the next one's body brings it back
pub answers-are : (opened.told.code ∷ synced.told.code ∷ reopened.told.code ∷ reopened.told.figure ∷ length reopened.book.commits ∷ []) ≡ (0 ∷ 0 ∷ 0 ∷ 1 ∷ 1 ∷ [])
unfolding computed
answers-are = refl

-- words of the torn group have landed, and it is none
pub torn-apart : same torn.medium.lasting.log synced.medium.lasting.log ≡ false
unfolding computed
torn-apart = refl

-- the read behind it
pub reads-back : same (happens words reopened (board.reads 0 2 (fill 0)) 0).shown (fill 9) ≡ true
unfolding computed
reads-back = refl

-- the sync fails with the driver's error; so is the next operation answered; an opening is done, with what was synced
pub failure-is : (failing.told.code ∷ failing.told.figure ∷ (happens words failing (board.asks 5 0 0 0 []) 0).told.code ∷ after.told.code ∷ after.told.figure ∷ [])
    ≡ (65 ∷ 5 ∷ 65 ∷ 0 ∷ 0 ∷ [])
unfolding computed
failure-is = refl

pub homes-are : same after.memory.area (homes_after 4 after.book.commits) ≡ true
unfolding computed
homes-are = refl

-- room is made for all places, and a step of the round leaves nothing
pub room-is : (roomy.told.code ∷ rounded.told.code ∷ rounded.told.figure ∷ []) ≡ (0 ∷ 0 ∷ 0 ∷ [])
unfolding computed
room-is = refl

-- ---- the theorem, applied

started : Started words 4 4 start
unfolding computed landing_of
started =
    record {
      state_size = refl;
      newest_size = refl;
      log_size = refl;
      area_size = refl;
      batch_size = long;
      room = 0;
      lists = 0;
      control = refl;
    }
  where
    long : 72 + 516 * 4 + 68 * 4 ≤ length start.memory.batch
    long = omega arith

pub right : (hs : List Happening) → AllRight words 4 (board_of format start) hs
right hs = demand4 words 4 4 format start started hs
