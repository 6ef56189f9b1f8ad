-- The ten questions of the paper, those of later requests, and which of them each call puts.
-- "Format puts 1 and 10; open 1, 3, 9 and 10; every other call 1 and 2, then 4 if it names a writer, 5 if a home, and what names it or its
-- train. 0 is done."
use Rattle.std.specs.Prelude.{ℕ, ◌+◌, ◌-◌, ◌*◌, Bool, true, false, not, ◌&&◌, ◌||◌, List, eqb, leb, ltb, length}
use Rattle.model.specs.Layout.{max_start, log_length_right, data_length_right, header_right, header_start}
use Rattle.model.specs.State.{State, state_of, state_bytes, under_way, is_in_order, promise_of, promised, places, free_places, list_sign, Writer, writer_of, is_open_now, holds}
use Rattle.model.specs.Effects.{Given, groups, homes}
use Rattle.model.specs.Rights.{right_to_store, right_to_read, store_list, read_list}

-- a question: if it is answered no, the call's answer is `number`; else the next question follows [S-47]
unfoldable pub ask : Bool → ℕ → ℕ → ℕ
ask true number next = next
ask false number next = number

-- 1. "Are all lent lengths right (areas as above, block 64, strip 1,024)? No: 1." [S-3]
unfoldable pub areas_right : Given → Bool
areas_right g = log_length_right (length g.log) && data_length_right (length g.area)

-- [S-3]
unfoldable pub state_right : Given → Bool
state_right g = eqb (length g.state) state_bytes

-- [S-3]
unfoldable pub block_right : Given → Bool
block_right g = eqb (length g.block) 64

-- "question 1 covers its length, eight bytes a home" [S-3]
unfoldable pub newest_right : Given → Bool
newest_right g = eqb (length g.newest) (8 * homes g)

-- 2. "Is the strip in order ..? No: 2."
unfoldable pub state_in_order : Given → Bool
state_in_order g = is_in_order g.state (groups g) (homes g)

-- 3. "Open: is the head's mark, G, D and zeros right, start ≤ 2^47? No: 3."
unfoldable pub header_fits : Given → Bool
header_fits g = header_right g.log (groups g) (homes g) && leb (header_start g.log) max_start

-- 4. "Is the writer 0 to 7? No: 4." [S-49]
unfoldable pub writer_known : Given → Bool
writer_known g = ltb g.writer 8

-- 5. "Is the home below D? No: 5." [S-49]
unfoldable pub is_home_known : Given → Bool
is_home_known g = ltb g.home (homes g)

-- "19 no right to store, 20 no right to read, both directly after 5, before any other" [S-60]
unfoldable pub store_allowed : Given → Bool
store_allowed g = right_to_store (list_sign g.state) (homes g) (store_list g) g.writer g.home

-- [S-60]
unfoldable pub read_allowed : Given → Bool
read_allowed g = right_to_read (list_sign g.state) (homes g) (read_list g) g.writer g.home

-- 6. "Begin: is the writer idle? No: 6." 7. "Store, commit, abort: is it open? No: 7."
unfoldable pub writer_open : Given → Bool
writer_open g = is_open_now (writer_of g.state g.writer)

-- 8. "If an entry must be logged, is its group number below start + G? No: 8." "its first n entries, each using one up, never meet answer 8";
-- "Other entries meet 8 when only promised places are left." Without promises a place is left just if the group number is below start + G. [S-32]
unfoldable pub room_for : List ℕ → ℕ → Bool
room_for s w = leb 1 (promise_of s w) || ltb (promised s 8) (places (state_of s))

unfoldable pub room : Given → Bool
room g = room_for g.state g.writer

-- a store logs if a block is held for another home, a commit if one is held
unfoldable pub store_logs : Given → Bool
store_logs g = let r : Writer = writer_of g.state g.writer in holds r && not (eqb r.home g.home)

unfoldable pub commit_logs : Given → Bool
commit_logs g = holds (writer_of g.state g.writer)

-- 9. "Trim, open: is the new start at most 2^47? No: 10."
unfoldable pub start_fits : ℕ → Bool
start_fits start = leb start max_start

-- 10. "Is the train as long as what this call writes? No: 9." [S-49]
unfoldable pub batch_fits : Given → ℕ → Bool
batch_fits g size = leb size (length g.batch)

-- 17. "n is 0 or more than the free places, after 6" [S-43]
unfoldable pub may_promise : List ℕ → ℕ → Bool
may_promise s n = leb 1 n && leb n (free_places s)

-- 18. "A flush that would leave fewer places than are promised is refused": one of a part-filled group, before 9 [S-44]
unfoldable pub keeps_promises : List ℕ → Bool
keeps_promises s =
    let st : State = state_of s in
    eqb st.filled 0 || leb (promised s 8) (7 * (st.start + st.groups) - 7 * (st.next + 1))

-- 21. "a step with no round or k 0, a second begin, or a plain settle during a round; after 2"
unfoldable pub in_round : Given → Bool
in_round g = under_way (state_of g.state)

-- The calls' questions in order. `size` is the number of bytes that the call writes.

-- [S-21]
unfoldable pub format_answer : Given → ℕ → ℕ
format_answer g size = ask (areas_right g) 1 (ask (batch_fits g size) 9 0)

-- [S-26]
unfoldable pub open_answer : Given → ℕ → ℕ → ℕ
open_answer g start size =
    ask (areas_right g && state_right g && newest_right g) 1 (ask (header_fits g) 3 (ask (start_fits start) 10 (ask (batch_fits g size) 9 0)))

-- what every other call asks first
unfoldable pub ask_state : Given → ℕ → ℕ
ask_state g next = ask (areas_right g && state_right g) 1 (ask (state_in_order g) 2 next)

-- the same for one that is lent a block, for one that is lent the newest positions, and for one that is lent both
unfoldable pub ask_block : Given → ℕ → ℕ
ask_block g next = ask (areas_right g && state_right g && block_right g) 1 (ask (state_in_order g) 2 next)

unfoldable pub ask_newest : Given → ℕ → ℕ
ask_newest g next = ask (areas_right g && state_right g && newest_right g) 1 (ask (state_in_order g) 2 next)

unfoldable pub ask_both : Given → ℕ → ℕ
ask_both g next = ask (areas_right g && state_right g && newest_right g && block_right g) 1 (ask (state_in_order g) 2 next)

unfoldable pub begin_answer : Given → ℕ
begin_answer g = ask_state g (ask (writer_known g) 4 (ask (not (writer_open g)) 6 0))

unfoldable pub reserve_answer : Given → ℕ → ℕ
reserve_answer g n = ask_state g (ask (writer_known g) 4 (ask (not (writer_open g)) 6 (ask (may_promise g.state n) 17 0)))

unfoldable pub abort_answer : Given → ℕ
abort_answer g = ask_state g (ask (writer_known g) 4 (ask (writer_open g) 7 0))

-- [S-47]
unfoldable pub store_answer : Given → ℕ → ℕ
store_answer g size =
    ask_block g
    (ask (writer_known g) 4
    (ask (is_home_known g) 5
    (ask (store_allowed g) 19 (ask (writer_open g) 7 (ask (not (store_logs g) || room g) 8 (ask (batch_fits g size) 9 0))))))

-- [S-47]
unfoldable pub commit_answer : Given → ℕ → ℕ
commit_answer g size =
    ask_newest g
    (ask (writer_known g) 4 (ask (writer_open g) 7 (ask (not (commit_logs g) || room g) 8 (ask (batch_fits g size) 9 0))))

unfoldable pub flush_answer : Given → ℕ → ℕ
flush_answer g size = ask_state g (ask (keeps_promises g.state) 18 (ask (batch_fits g size) 9 0))

unfoldable pub confirm_answer : Given → ℕ
confirm_answer g = ask_state g 0

-- [S-41]
unfoldable pub settle_answer : Given → ℕ → ℕ
settle_answer g size = ask_state g (ask (not (in_round g)) 21 (ask (batch_fits g size) 9 0))

-- [S-41]
unfoldable pub begin_round_answer : Given → ℕ
begin_round_answer g = ask_state g (ask (not (in_round g)) 21 0)

-- [S-41]
unfoldable pub step_round_answer : Given → ℕ → ℕ → ℕ
step_round_answer g k size = ask_state g (ask (in_round g && leb 1 k) 21 (ask (batch_fits g size) 9 0))

-- [S-47]
unfoldable pub trim_answer : Given → ℕ → ℕ → ℕ
trim_answer g start size = ask_newest g (ask (start_fits start) 10 (ask (batch_fits g size) 9 0))

-- [S-47]
unfoldable pub read_answer : Given → ℕ
read_answer g = ask_both g (ask (writer_known g) 4 (ask (is_home_known g) 5 (ask (read_allowed g) 20 0)))
