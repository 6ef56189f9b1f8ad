-- The paper's marked trials (G 4, D 8), as one table: what each yields, against the figures of the paper. Trials 1 to 9 begin just after opening a
-- new format and count positions and starts from that opening's.
use Rattle.std.specs.Prelude.{ℕ, zero, suc, ◌+◌, ◌-◌, ◌*◌, ◌^◌, Bool, true, not, ◌&&◌, List, [], ◌∷◌, ◌++◌, ltb, get_or, take, drop, replicate}
use Rattle.model.specs.Bytes.{puts, zeros, same}
use Rattle.model.specs.Tag.{closing_word}
use Rattle.model.specs.Layout.{header, empty_log, group_at, group_tag, slot_of, index_of, home_at, turn_of}
use Rattle.model.specs.State.{state_of, next_position}
use Rattle.model.specs.Effects.{Given}
use Rattle.model.specs.Calls.{Outcome, format_call, open_call}
use Rattle.model.specs.History.{Call, opening, begin, abort, store, commit, flush, settle, trim, read, call, crash, World, empty_store, ends, after_call, step}

-- a batch buffer that suffices, a longer one for openings, and a block of one byte
unfoldable pub room : List ℕ
room = zeros 600

unfoldable pub lane : List ℕ
lane = zeros 2700

unfoldable pub fill : ℕ → List ℕ
fill b = replicate 64 b

-- newest positions of eight homes
unfoldable pub positions : List ℕ
positions = zeros 64

-- the world after some calls; the number, figure and batch length that a call answers
unfoldable pub goes : World → List Call → World
goes w [] = w
goes w (c ∷ cs) = goes (step w (call c)) cs

unfoldable pub answer_of : Outcome → List ℕ
answer_of o = o.code ∷ o.figure ∷ o.size ∷ []

-- the answers of some calls, and after them something of the world that they leave
unfoldable pub answers_then : World → List Call → (World → List ℕ) → List ℕ
answers_then w [] last = last w
answers_then w (c ∷ cs) last = let o : Outcome = ends w c in answer_of o ++ answers_then (after_call w c o o.code) cs last

unfoldable pub answers : World → List Call → List ℕ
answers w cs = answers_then w cs (λ v. [])

-- just after opening a new format: start 4, position 28
unfoldable pub fresh : World
fresh = step (empty_store 4 8) (call (opening (zeros 1024) positions lane))

unfoldable pub base : ℕ
base = 28

-- the word of the tag at a position
unfoldable pub tag_at : World → ℕ → ℕ
tag_at w p = group_tag (group_at w.log (slot_of 4 p)) (index_of p)

-- the start and the number of the next position, counted from the opening's
unfoldable pub start_of : World → ℕ
start_of w = (state_of w.state).start - 4

unfoldable pub next_of : World → ℕ
next_of w = next_position (state_of w.state) - base

-- the first byte that a writer reads of a home, and the last
unfoldable pub read_of : World → ℕ → ℕ → ℕ
read_of w writer home = get_or (ends w (read writer home (zeros 64))).block 0 0

unfoldable pub last_read_of : World → ℕ → ℕ → ℕ
last_read_of w writer home = get_or (ends w (read writer home (zeros 64))).block 63 0

-- what an opening answers
unfoldable pub reopened : World → List ℕ
reopened w = answer_of (ends w (opening (zeros 1024) positions lane))

-- 1. "Writer 0 stores homes 1, 2, commits: tags 5 and 2199023271947; flush gives 518 bytes."
unfoldable pub trial1 : List ℕ
trial1 =
    let w : World = goes fresh (begin 0 ∷ store 0 1 (fill 1) room ∷ store 0 2 (fill 2) room ∷ commit 0 room ∷ []) in
    tag_at w base ∷ tag_at w (base + 1) ∷ (ends w (flush room)).size ∷ []

-- The same with blocks of byte 255: "the bit it displaces goes into tag bit 57". Of home 1 then the last byte that another writer reads, and of the data
-- copy after a flush and a settle.
unfoldable pub trial1_high : List ℕ
trial1_high =
    let w : World = goes fresh (begin 0 ∷ store 0 1 (fill 255) room ∷ store 0 2 (fill 255) room ∷ commit 0 room ∷ []) in
    let v : World = goes w (flush room ∷ settle room ∷ []) in
    tag_at w base ∷ tag_at w (base + 1) ∷ (ends w (flush room)).size ∷ last_read_of w 1 1 ∷ get_or (home_at v.area 1) 63 0 ∷ []

-- 2. "Tag closing, home 5, distance 2, link 0, count 3: 3298534916119."
unfoldable pub trial2 : List ℕ
trial2 = closing_word 5 2 0 3 ∷ []

-- 3. "A stores 3, 4; B stores 3, commits; A commits: home 3 reads A's." Read by a third writer, and in the data copy after a flush and a settle.
unfoldable pub trial3 : List ℕ
trial3 =
    let w : World =
    goes fresh
    (begin 0 ∷ begin 1 ∷ store 0 3 (fill 65) room ∷ store 0 4 (fill 65) room ∷ store 1 3 (fill 66) room ∷ commit 1 room ∷ commit 0 room ∷ []) in
    let v : World = goes w (flush room ∷ settle room ∷ []) in
    read_of w 2 3 ∷ get_or (home_at v.area 3) 0 0 ∷ []

-- writer 0 stores homes 0 to 7
unfoldable pub stores : List Call
stores =
    begin 0 ∷ store 0 0 (fill 7) room ∷ store 0 1 (fill 7) room ∷ store 0 2 (fill 7) room ∷ store 0 3 (fill 7) room ∷ store 0 4 (fill 7) room
    ∷ store 0 5 (fill 7) room ∷ store 0 6 (fill 7) room ∷ store 0 7 (fill 7) room ∷ []

unfoldable pub stored : World
stored = goes fresh stores

-- writer 1 commits home 5, and the log is flushed
unfoldable pub commits : List Call
commits = begin 1 ∷ store 1 5 (fill 9) room ∷ commit 1 room ∷ flush room ∷ []

-- the opening's three fences have passed; of the writes since, the first group's eight blocks are lost
unfoldable pub first_lost : World → World
first_lost w = step w (crash 3 (λ i. not (ltb i 8)))

-- 4. "Writer 0 stores homes 0 to 7, aborts; writer 1 commits home 5; flush; group 0 lost: one comes back."
unfoldable pub trial4 : List ℕ
trial4 = reopened (first_lost (goes stored (abort 0 ∷ commits)))

-- 5. "As 4, but writer 0 commits before writer 1: none comes back."
unfoldable pub trial5 : List ℕ
trial5 = reopened (first_lost (goes stored (commit 0 room ∷ commits)))

-- writer 0 stores homes 0 and 1 in turn, 2 × n times
unfoldable pub in_turn : ℕ → List Call
in_turn zero = []
in_turn (suc n) = store 0 0 (fill 3) room ∷ store 0 1 (fill 4) room ∷ in_turn n

-- after 28 stores: the 29th, which hands the last group on, the 30th, one for the held home, which is taken, and a commit; then the rest
unfoldable pub full_and_freed : List Call
full_and_freed =
    store 0 0 (fill 3) room ∷ store 0 1 (fill 4) room ∷ store 0 0 (fill 5) room ∷ commit 0 room ∷ abort 0 ∷ flush room ∷ settle room ∷ trim room ∷ []

-- 6. "Writer 0 stores homes 0 and 1 in turn: the 29th is taken, the 30th answers 8. Commit answers 8."
-- 7. "Then abort, flush (2 bytes), settle (2), trim (68): start 4, all places free." All are free where the next position is the start's.
unfoldable pub trial6and7 : List ℕ
trial6and7 =
    drop (3 * 29) (answers_then fresh (begin 0 ∷ in_turn 14 ++ full_and_freed) (λ w. start_of w ∷ (next_of w - 7 * start_of w) ∷ []))

-- 8. "Commit with no store: ticket 0, no entry."
unfoldable pub trial8 : List ℕ
trial8 =
    answers_then fresh (begin 0 ∷ commit 0 room ∷ []) (λ w. next_of w ∷ [])

-- 9. "Writer 0 stores homes 1, 2 and stays open; flush, settle, trim: start stays, trim gives 0 bytes."
unfoldable pub trial9 : List ℕ
trial9 =
    let w : World = goes fresh (begin 0 ∷ store 0 1 (fill 1) room ∷ store 0 2 (fill 2) room ∷ flush room ∷ settle room ∷ []) in
    answer_of (ends w (trim room)) ++ (start_of (step w (call (trim room))) ∷ [])

-- 10. "Opening a new format: 0 back, 70 train bytes. Format writes 2,746." "Trial 10's opening then writes 2,136 bytes." "still in 2,746 bytes"
unfoldable pub unformatted : Given
unformatted =
    record { state = []; newest = []; log = zeros (64 + 512 * 4); area = zeros (64 * 8); block = []; batch = zeros 2746; writer = 0; home = 0 }

unfoldable pub trial10 : List ℕ
trial10 = reopened (empty_store 4 8) ++ answer_of (format_call unformatted)

-- 13. "Open with start 2^47 − 4: done; 2^47 − 3: 10." It is not marked, but no history reaches such a start. Without a batch too it answers 10:
-- question 9 comes before question 10.
unfoldable pub starting_at : ℕ → List ℕ → Given
starting_at start batch =
    record {
      state = zeros 1024;
      newest = positions;
      log = puts (zeros (64 + 512 * 4)) 0 (header start 4 8);
      area = zeros (64 * 8);
      block = [];
      batch = batch;
      writer = 0;
      home = 0;
    }

unfoldable pub trial13 : List ℕ
trial13 =
    (open_call (starting_at (2 ^ 47 - 4) lane)).code ∷ (open_call (starting_at (2 ^ 47 - 3) lane)).code ∷ (open_call (starting_at (2 ^ 47 - 3) [])).code ∷ []

-- "The head mark is 50 54 hex; older heads answer 3." A new format opens; with the old mark 50 48 it does not.
unfoldable pub marked_with : List ℕ → Given
marked_with mark =
    record {
      state = zeros 1024;
      newest = positions;
      log = puts (empty_log 0 4 8) 0 mark;
      area = zeros (64 * 8);
      block = [];
      batch = lane;
      writer = 0;
      home = 0;
    }

unfoldable pub head_marks : List ℕ
head_marks = (open_call (marked_with (0x50 ∷ 0x54 ∷ []))).code ∷ (open_call (marked_with (0x50 ∷ 0x48 ∷ []))).code ∷ []

-- "a turn bit, equal to (group number ÷ G, rounded down) mod 2": the turns of groups 3, 4, 7 and 8 of four and of groups 9 and 10 of five. Of each of four
-- ring slots byte 127, the last of its group's first data block: 80 hex in a new format, where groups 0 to 3 would come next, 0 once it is opened and
-- groups 4 to 7 come next. Then bytes 127 and 511 of slot 0 with a block of byte 1 logged there in group 4, and so in group 8 after a trim.
unfoldable pub turn_bytes : List ℕ → ℕ → List ℕ
turn_bytes log zero = []
turn_bytes log (suc n) = turn_bytes log n ++ (get_or (group_at log n) 127 0 ∷ [])

unfoldable pub turns : List ℕ
turns = turn_of 4 3 ∷ turn_of 4 4 ∷ turn_of 4 7 ∷ turn_of 4 8 ∷ turn_of 5 9 ∷ turn_of 5 10 ∷ []

unfoldable pub slot0 : World → List ℕ
slot0 w = get_or (group_at w.log 0) 127 0 ∷ get_or (group_at w.log 0) 511 0 ∷ []

unfoldable pub logged_once : World → World
logged_once w = goes w (begin 0 ∷ store 0 1 (fill 1) room ∷ commit 0 room ∷ flush room ∷ [])

unfoldable pub turn_trial : List ℕ
turn_trial =
    let four : World = logged_once fresh in
    let seven : World = goes (logged_once (logged_once (logged_once four))) (settle room ∷ trim room ∷ []) in
    turn_bytes (format_call unformatted).log 4 ++ (turn_bytes fresh.log 4 ++ (slot0 four ++ slot0 (logged_once seven)))

-- the table: what a trial yields, and what the paper says. An answer is the number, the figure and the batch length.
pub record Trial : Type 0 where
  pub yields : List ℕ
  pub paper : List ℕ

unfoldable pub trials : List Trial
trials =
    record { yields = trial1; paper = 5 ∷ 2199023271947 ∷ 518 ∷ [] }
    ∷ record { yields = trial1_high; paper = (5 + 2 ^ 57) ∷ (2199023271947 + 2 ^ 57) ∷ 518 ∷ 255 ∷ 255 ∷ [] }
    ∷ record { yields = trial2; paper = 3298534916119 ∷ [] } ∷ record { yields = trial3; paper = 65 ∷ 65 ∷ [] }
    ∷ record { yields = trial4; paper = 0 ∷ 1 ∷ 2204 ∷ [] } ∷ record { yields = trial5; paper = 0 ∷ 0 ∷ 2136 ∷ [] }
    ∷ record {
      yields = trial6and7;
      paper =
          0 ∷ 0 ∷ 516 ∷ 8 ∷ 0 ∷ 0 ∷ 0 ∷ 0 ∷ 0 ∷ 8 ∷ 0 ∷ 0 ∷ 0 ∷ 0 ∷ 0 ∷ 0 ∷ 0 ∷ 2 ∷ 0 ∷ 0 ∷ 2 ∷ 0 ∷ 0 ∷ 68 ∷ 4 ∷ 0 ∷ [];
    }
    ∷ record { yields = trial8; paper = 0 ∷ 0 ∷ 0 ∷ 0 ∷ 0 ∷ 0 ∷ 0 ∷ [] } ∷ record { yields = trial9; paper = 0 ∷ 0 ∷ 0 ∷ 0 ∷ [] }
    ∷ record { yields = trial10; paper = 0 ∷ 0 ∷ 2136 ∷ 0 ∷ 0 ∷ 2746 ∷ [] } ∷ record { yields = trial13; paper = 0 ∷ 10 ∷ 10 ∷ [] }
    ∷ record { yields = head_marks; paper = 0 ∷ 3 ∷ [] } ∷ record { yields = turns; paper = 0 ∷ 1 ∷ 1 ∷ 0 ∷ 1 ∷ 0 ∷ [] }
    ∷ record { yields = turn_trial; paper = 0x80 ∷ 0x80 ∷ 0x80 ∷ 0x80 ∷ 0 ∷ 0 ∷ 0 ∷ 0 ∷ 0x81 ∷ 0x80 ∷ 1 ∷ 0 ∷ [] } ∷ []

unfoldable pub all_match : List Trial → Bool
all_match [] = true
all_match (t ∷ ts) = same t.yields t.paper && all_match ts

-- the rows with some numbers, counted from 0; a row that is not named is not computed
unfoldable pub rows_at : List ℕ → List Trial → List Trial
rows_at [] ts = []
rows_at (n ∷ ns) ts = take 1 (drop n ts) ++ rows_at ns ts
