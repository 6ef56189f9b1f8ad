-- The state strip of 1,024 bytes: numbers of eight bytes at fixed offsets, the writers' promises of two and their modes of one. Bytes that no field has are spare: no call but open changes them, and
-- none reads them. docs/FORMAT.md has the layout as a table.
use Rattle.std.specs.Prelude.{ℕ, zero, suc, ◌+◌, ◌-◌, ◌*◌, ◌%◌, ◌^◌, Bool, true, cond, ◌&&◌, ◌||◌, List, eqb, leb, ltb, replicate}
use Rattle.model.specs.Bytes.{part, puts, zeros, number, put_number}
use Rattle.model.specs.Layout.{max_start}
pub use Rattle.model.specs.declared.State.{State}
pub use Rattle.model.specs.declared.Writer.{Writer}

abbrev pub state_bytes : ℕ
state_bytes = 1024

-- The struct `State` of the crate's source: the numbers of the strip but those of the writers.

-- [S-51]
unfoldable pub state_of : List ℕ → State
state_of s =
    record {
      groups = number 8 s 0;
      homes = number 8 s 8;
      start = number 8 s 16;
      next = number 8 s 24;
      filled = number 8 s 32;
      settled = number 8 s 40;
      fenced = number 8 s 48;
      durable = number 8 s 56;
      last = number 8 s 64;
      round = number 8 s 88;
      cursor = number 8 s 96;
    }

unfoldable pub set_groups : List ℕ → ℕ → List ℕ
set_groups s v = put_number 8 s 0 v

unfoldable pub set_homes : List ℕ → ℕ → List ℕ
set_homes s v = put_number 8 s 8 v

unfoldable pub set_start : List ℕ → ℕ → List ℕ
set_start s v = put_number 8 s 16 v

unfoldable pub set_next : List ℕ → ℕ → List ℕ
set_next s v = put_number 8 s 24 v

unfoldable pub set_filled : List ℕ → ℕ → List ℕ
set_filled s v = put_number 8 s 32 v

unfoldable pub set_settled : List ℕ → ℕ → List ℕ
set_settled s v = put_number 8 s 40 v

unfoldable pub set_fenced : List ℕ → ℕ → List ℕ
set_fenced s v = put_number 8 s 48 v

unfoldable pub set_durable : List ℕ → ℕ → List ℕ
set_durable s v = put_number 8 s 56 v

unfoldable pub set_last : List ℕ → ℕ → List ℕ
set_last s v = put_number 8 s 64 v

unfoldable pub set_round : List ℕ → ℕ → List ℕ
set_round s v = put_number 8 s 88 v

unfoldable pub set_cursor : List ℕ → ℕ → List ℕ
set_cursor s v = put_number 8 s 96 v

-- "such a call looks only at positions below the next one (7 × next group + places filled)"
unfoldable pub next_position : State → ℕ
next_position s = 7 * s.next + s.filled

-- rounds: "Let a round be begun, fixing the F it covers"

unfoldable pub under_way : State → Bool
under_way st = leb 1 st.round

unfoldable pub fixed_in : State → ℕ
fixed_in st = st.round - 1

-- promises
-- "The state strip gains the promises": the places promised to each writer that no entry has used up yet.

unfoldable pub promise_offset : ℕ → ℕ
promise_offset w = 72 + 2 * w

unfoldable pub promise_of : List ℕ → ℕ → ℕ
promise_of s w = number 2 s (promise_offset w)

unfoldable pub set_promise : List ℕ → ℕ → ℕ → List ℕ
set_promise s w n = put_number 2 s (promise_offset w) n

-- those of the first n writers together
unfoldable pub promised : List ℕ → ℕ → ℕ
promised s zero = 0
promised s (suc n) = promised s n + promise_of s n

-- the places "from the next position to the end of group start + G − 1"
unfoldable pub places : State → ℕ
places st = 7 * (st.start + st.groups) - next_position st

-- "Free places are those from the next position to the end of group start + G − 1, less those promised."
unfoldable pub free_places : List ℕ → ℕ
free_places s = places (state_of s) - promised s 8

-- "its first n entries, each using one up": what one more entry leaves of a writer's promise
unfoldable pub promise_left : List ℕ → ℕ → ℕ
promise_left s w = promise_of s w - 1

-- the list of rights (Rights)
-- "A list lies in four homes of its own in a row, 8 or above": homes 8 to 11. "a call lent g's strip finds it by that"; store is not lent it, so this
-- strip has the newest committed positions of the four homes too, all ones for none.

abbrev pub list_home : ℕ
list_home = 8

unfoldable pub listed_of : List ℕ → ℕ → ℕ
listed_of s i = number 8 s (896 + 8 * i)

unfoldable pub set_listed : List ℕ → List ℕ → List ℕ
set_listed s positions = puts s 896 positions

-- The list's sign, which opening and commit set, so that no question need look at all four blocks: 1, the list as committed is all zeros; 2, it is not; any other
-- number says nothing.
unfoldable pub list_sign : List ℕ → ℕ
list_sign s = number 8 s 928

unfoldable pub set_list_sign : List ℕ → ℕ → List ℕ
set_list_sign s v = put_number 8 s 928 v

-- writers
-- The struct `Writer` of the crate's source: a writer's record but for the held block. The modes of all eight stand together, a byte each, so that one
-- word of the strip tells that no writer holds a block.

unfoldable pub mode_offset : ℕ → ℕ
mode_offset w = 104 + w

unfoldable pub writer_offset : ℕ → ℕ
writer_offset w = 128 + 24 * w

-- The count is kept less one, modulo 2 ^ 64: its field says how many entries are logged after the first one.
unfoldable pub less_one : ℕ → ℕ
less_one n = (n + (2 ^ 64 - 1)) % 2 ^ 64

unfoldable pub one_more_than : ℕ → ℕ
one_more_than n = (n + 1) % 2 ^ 64

unfoldable pub writer_of : List ℕ → ℕ → Writer
writer_of s w =
    record {
      mode = number 1 s (mode_offset w);
      home = number 8 s (writer_offset w);
      first = number 8 s (writer_offset w + 8);
      count = one_more_than (number 8 s (writer_offset w + 16));
    }

unfoldable pub set_writer : List ℕ → ℕ → Writer → List ℕ
set_writer s w r =
    put_number 8
    (put_number 8 (put_number 8 (put_number 1 s (mode_offset w) r.mode) (writer_offset w) r.home) (writer_offset w + 8) r.first)
    (writer_offset w + 16)
    (less_one r.count)

-- the held block
unfoldable pub held_offset : ℕ → ℕ
held_offset w = 320 + 64 * w

unfoldable pub held_of : List ℕ → ℕ → List ℕ
held_of s w = part s (held_offset w) 64

unfoldable pub set_held : List ℕ → ℕ → List ℕ → List ℕ
set_held s w block = puts s (held_offset w) block

-- a writer that has logged nothing: its record has zeros, which reads as a count of 1 that no call looks at
unfoldable pub idle : Writer
idle = record { mode = 0; home = 0; first = 0; count = 1 }

unfoldable pub begun : Writer
begun = record { mode = 1; home = 0; first = 0; count = 1 }

-- a block is held for a home, after so many logged entries from a first position on
unfoldable pub holding : ℕ → Writer
holding home = record { mode = 2; home = home; first = 0; count = 1 }

unfoldable pub logging : ℕ → ℕ → ℕ → Writer
logging home first count = record { mode = 3; home = home; first = first; count = count }

unfoldable pub is_open_now : Writer → Bool
is_open_now r = leb 1 r.mode

unfoldable pub holds : Writer → Bool
holds r = leb 2 r.mode

unfoldable pub has_logged : Writer → Bool
has_logged r = leb 3 r.mode

unfoldable pub holds_home : Writer → ℕ → Bool
holds_home r home = holds r && eqb r.home home

-- the first position and the number of logged entries of a transaction whose next entry goes to `position`
unfoldable pub first_for : Writer → ℕ → ℕ
first_for r position = cond (has_logged r) r.first position

unfoldable pub count_for : Writer → ℕ
count_for r = cond (has_logged r) r.count 0

-- the strip that an opening leaves: no position of the list's homes, the list's sign, all else zeros
unfoldable pub fresh_numbers : ℕ → ℕ → ℕ → List ℕ
fresh_numbers groups homes start =
    set_durable
    (set_fenced
    (set_settled (set_next (set_start (set_homes (set_groups (zeros state_bytes) groups) homes) start) start) (7 * start))
    (7 * start))
    (7 * start)

-- [S-25]
unfoldable pub fresh_state : ℕ → ℕ → ℕ → ℕ → List ℕ
fresh_state groups homes start sign = set_list_sign (set_listed (fresh_numbers groups homes start) (replicate 32 255)) sign

-- Question 2
-- "start ≤ 2^47; start ≤ next group ≤ start + G; 0 to 6 places filled, none at start + G; 7 × start ≤ settled ≤ F ≤ 7 × next group; mark ≤ F;
-- last closing none or from 7 × start to below the next position" (kept as position + 1, and up to 7 × start it is none); "question 2 also asks that
-- the fixed F lies from settled to F" [S-48]
unfoldable pub numbers_in_order : State → Bool
numbers_in_order s =
    leb s.start max_start && leb s.start s.next && leb s.next (s.start + s.groups) && leb s.filled 6
    && (ltb s.next (s.start + s.groups) || eqb s.filled 0) && leb (7 * s.start) s.settled && leb s.settled s.fenced
    && leb s.fenced (7 * s.next) && leb s.durable s.fenced
    && leb s.last (next_position s)
    && (eqb s.round 0 || ltb s.settled s.round && leb s.round (s.fenced + 1))

-- "an idle writer holds nothing; a held home < D; a logging writer holds a block, its first position is in that range and its count from 1 to
-- the positions since"
unfoldable pub writer_in_order : State → Writer → Bool
writer_in_order s r =
    leb r.mode 3 && (ltb r.mode 2 || ltb r.home s.homes)
    && (ltb r.mode 3
    || leb (7 * s.start) r.first && ltb r.first (next_position s) && leb 1 r.count && leb (r.first + r.count) (next_position s))

-- "question 2 also asks that together they are at most the places from the next position on, and none for an idle writer"
unfoldable pub promise_in_order : Writer → ℕ → Bool
promise_in_order r n = is_open_now r || eqb n 0

unfoldable pub writer_at_in_order : List ℕ → State → ℕ → Bool
writer_at_in_order s st w = writer_in_order st (writer_of s w) && promise_in_order (writer_of s w) (promise_of s w)

-- the first n writers [S-48]
unfoldable pub writers_in_order : List ℕ → State → ℕ → Bool
writers_in_order s st zero = true
writers_in_order s st (suc n) = writers_in_order s st n && writer_at_in_order s st n

-- "Is the strip in order: G and D agree; .." [S-48]
unfoldable pub is_in_order : List ℕ → ℕ → ℕ → Bool
is_in_order s groups homes =
    let st : State = state_of s in
    eqb st.groups groups && eqb st.homes homes && numbers_in_order st && leb (promised s 8) (places st) && writers_in_order s st 8
