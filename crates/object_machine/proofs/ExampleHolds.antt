-- The history of specs/Example, computed. Assumes nothing.
use mathlib.Core.Path.{◌≡◌, refl}
use mathlib.Core.Bool.{Bool, true}
use mathlib.Core.List.{[], ◌∷◌}
use Rattle.model.specs.Bytes.{same}
use Rattle.model.specs.examples.Trials.{fill}
use Rattle.model.proofs.examples.Computing.{all-definitions}
use Rattle.abstract_store.specs.Usage.{no_holder, holds_lower, holder_of}
use Rattle.object_runner.specs.Next.{bare, write, past, parts, group_action, home_action, wiping, whole_header, wipe_action, header_action, due, due_action, fence_action, record_action, asked as may_ask, next_action}
use Rattle.object_machine.specs.Control.{control_of, put_numbers, first_fields, middle_fields, last_fields, put_control, known, fresh, with_stage, with_condition, with_batch, with_cursor, with_ask, with_room}
use Rattle.object_machine.specs.Calls.{beside_batch, beside_state, beside_all, opens, reserves, stores, commits, flushes, confirms, settles, round_begins, round_steps, trims, nothing, writers_call, room_call}
use Rattle.object_machine.specs.Moves.{done, load, pass, moved, answers, passes, call_at, call_in_round, guarded, settled, at_stage, chosen, after, goes_further, full, held_back_by, possible, may_make_room, tells_holder, refuses, headed_at, called, gives_up_at, looks, more, uncalled}
use Rattle.object_machine.specs.Next.{stays, fails, handed, hands_out_now, holder_for, given, makes, follows, left_under, onward, goes, refused, keeps, under_way, lengths_right, next_call, shut, refusal, ask_answer, condition_for, asks, ask_call, init_call, ready_turn, at_once, begin_turn, read_turn}
use Rattle.object_machine.specs.Example.{bytes_of, written, loaded, after_next, carried, turn_by_turn, turns_of, asking, runs, started, begun, opened, stored, committed, synced, reopened, shown, reserving, two_stored, two_synced, half_settled, failing}

unfoldable computed : Bool
unfolding all-definitions no_holder holds_lower holder_of bare write past parts group_action home_action wiping whole_header wipe_action header_action due due_action fence_action record_action may_ask next_action control_of put_numbers first_fields middle_fields last_fields put_control known fresh with_stage with_condition with_batch with_cursor with_ask with_room beside_batch beside_state beside_all opens reserves stores commits flushes confirms settles round_begins round_steps trims nothing writers_call room_call done load pass moved answers passes call_at call_in_round guarded settled at_stage chosen after goes_further full held_back_by possible may_make_room tells_holder refuses headed_at called gives_up_at looks more uncalled stays fails handed hands_out_now holder_for given makes follows left_under onward goes refused keeps under_way lengths_right next_call shut refusal ask_answer condition_for asks ask_call init_call ready_turn at_once begin_turn read_turn bytes_of written loaded after_next carried turn_by_turn turns_of asking runs started begun opened stored committed synced reopened shown reserving two_stored two_synced half_settled failing
computed = true

-- done, with no commit brought back; then the commit's ticket, and the mark that reaches it
pub answers-are : (opened.turn.code ∷ opened.turn.figure ∷ stored.turn.code ∷ committed.turn.code ∷ committed.turn.figure ∷ synced.turn.code
    ∷ synced.turn.figure ∷ []) ≡ (0 ∷ 0 ∷ 0 ∷ 0 ∷ 29 ∷ 0 ∷ 35 ∷ [])
unfolding computed
answers-are = refl

-- the sync: two turns with nothing for the driver, the group without its first word, a fence, that word, a fence; then it is done
pub sync-is : turns_of 40 (asking committed (ask_call committed.control 5 0 0 0)) ≡ (4 ∷ 0 ∷ 4 ∷ 0 ∷ 1 ∷ 504 ∷ 2 ∷ 0 ∷ 1 ∷ 8 ∷ 2 ∷ 0 ∷ 0 ∷ 0 ∷ [])
unfolding computed
sync-is = refl

-- power goes behind it: the next opening brings the commit back
pub brought-back : (reopened.turn.code ∷ reopened.turn.figure ∷ []) ≡ (0 ∷ 1 ∷ [])
unfolding computed
brought-back = refl

pub reads-back : same shown (fill 9) ≡ true
unfolding computed
reads-back = refl

-- room made: the reserve, refused; flush with the group, a fence, its first word, a fence; settle with one home and a fence; trim with the header and a
-- fence; a look at the start; the reserve, done
pub room-is : turns_of 40 (reserving committed)
    ≡ (4 ∷ 0 ∷ 4 ∷ 0 ∷ 4 ∷ 0 ∷ 1 ∷ 504 ∷ 2 ∷ 0 ∷ 1 ∷ 8 ∷ 2 ∷ 0 ∷ 4 ∷ 0 ∷ 1 ∷ 64 ∷ 2 ∷ 0 ∷ 4 ∷ 0 ∷ 1 ∷ 64 ∷ 2 ∷ 0 ∷ 4 ∷ 0 ∷ 0 ∷ 0 ∷ [])
unfolding computed
room-is = refl

-- with a round under way: the flush has its fence alone, and the round's rest is the one home that is left
pub rest-is : (half_settled.turn.code ∷ half_settled.turn.figure ∷ turns_of 40 (reserving half_settled))
    ≡ (0 ∷ 1 ∷ 4 ∷ 0 ∷ 4 ∷ 0 ∷ 4 ∷ 0 ∷ 2 ∷ 0 ∷ 4 ∷ 0 ∷ 1 ∷ 64 ∷ 2 ∷ 0 ∷ 4 ∷ 0 ∷ 1 ∷ 64 ∷ 2 ∷ 0 ∷ 4 ∷ 0 ∷ 0 ∷ 0 ∷ [])
unfolding computed
rest-is = refl

-- after a failure: 65 with the driver's error, then and for the next operation; an opening is done, and what was not synced is gone
pub failure-is : (failing.turn.code ∷ failing.turn.figure ∷ (runs failing 4 0 0).turn.code ∷ (runs failing 4 0 0).turn.figure
    ∷ (runs failing 19 0 0).turn.code ∷ (runs failing 19 0 0).turn.figure ∷ []) ≡ (65 ∷ 5 ∷ 65 ∷ 5 ∷ 0 ∷ 0 ∷ [])
unfolding computed
failure-is = refl
