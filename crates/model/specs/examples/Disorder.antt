-- Questions 2 and 3 clause by clause: strips and headers with one thing wrong, and those that lie just inside.
use Rattle.std.specs.Prelude.{ℕ, ◌+◌, ◌^◌, List, [], ◌∷◌}
use Rattle.model.specs.Bytes.{puts, zeros}
use Rattle.model.specs.Layout.{header, empty_log}
use Rattle.model.specs.State.{fresh_state, set_groups, set_homes, set_next, set_filled, set_settled, set_fenced, set_durable, set_last, set_round, set_promise, set_writer, begun, holding, logging, Writer}
use Rattle.model.specs.Calls.{begin_call, open_call}
use Rattle.model.specs.examples.Trials.{lane, positions, Trial}

-- G 4, D 8, start 4: group 5 has three places filled, F is 35, the mark 30, the last closing entry at position 35; all writers idle
unfoldable pub is_in_use : List ℕ
is_in_use = set_last (set_durable (set_fenced (set_filled (set_next (fresh_state 4 8 4 1) 5) 3) 35) 30) 36

-- what a begin of writer 6 answers with a strip
unfoldable pub begins : List ℕ → ℕ
begins s =
    (begin_call (record { state = s; newest = []; log = zeros 2112; area = zeros 512; block = []; batch = []; writer = 6; home = 0 })).code

unfoldable pub each : List (List ℕ) → List ℕ
each [] = []
each (s ∷ ss) = begins s ∷ each ss

unfoldable pub of_mode : ℕ → Writer
of_mode mode = record { mode = mode; home = 0; first = 0; count = 1 }

-- the numbers: G, D, start, next group from start to start + G, places filled, none at start + G, settled, F, mark, last closing, the fixed F
unfoldable pub wrong_numbers : List (List ℕ)
wrong_numbers =
    set_groups is_in_use 5 ∷ set_homes is_in_use 9 ∷ fresh_state 4 8 (2 ^ 47 + 1) 1 ∷ set_next is_in_use 3 ∷ set_filled (set_next is_in_use 9) 0 ∷ set_filled is_in_use 7 ∷ set_next is_in_use 8
    ∷ set_settled is_in_use 27 ∷ set_settled is_in_use 36 ∷ set_fenced is_in_use 36 ∷ set_durable is_in_use 36 ∷ set_last is_in_use 39 ∷ set_round is_in_use 28 ∷ set_round is_in_use 37 ∷ []

unfoldable pub right_numbers : List (List ℕ)
right_numbers =
    is_in_use ∷ fresh_state 4 8 (2 ^ 47) 1 ∷ set_filled (set_next is_in_use 8) 0 ∷ set_filled is_in_use 6 ∷ set_settled is_in_use 35 ∷ set_durable is_in_use 35 ∷ set_last is_in_use 38
    ∷ set_last is_in_use 0 ∷ set_round is_in_use 29 ∷ set_round is_in_use 36 ∷ []

-- promises: one of an idle writer; more than the 18 places, of one writer and of two together
unfoldable pub opened : List ℕ
opened = set_writer (set_writer is_in_use 5 begun) 7 begun

unfoldable pub wrong_promises : List (List ℕ)
wrong_promises = set_promise is_in_use 5 1 ∷ set_promise opened 5 19 ∷ set_promise (set_promise opened 5 9) 7 10 ∷ []

unfoldable pub right_promises : List (List ℕ)
right_promises = set_promise opened 5 18 ∷ set_promise (set_promise opened 5 9) 7 9 ∷ []

-- a writer: what it is, its home, and of one that has logged its home, its first position and its count
unfoldable pub wrong_writers : ℕ → List (List ℕ)
wrong_writers w =
    set_writer is_in_use w (of_mode 4) ∷ set_writer is_in_use w (holding 8) ∷ set_writer is_in_use w (logging 8 30 1) ∷ set_writer is_in_use w (logging 0 27 1)
    ∷ set_writer is_in_use w (logging 0 38 1) ∷ set_writer is_in_use w (logging 0 30 0) ∷ set_writer is_in_use w (logging 0 30 9) ∷ []

unfoldable pub right_writers : ℕ → List (List ℕ)
right_writers w = set_writer is_in_use w (holding 7) ∷ set_writer is_in_use w (logging 7 28 10) ∷ set_writer is_in_use w (logging 0 37 1) ∷ []

-- the header of a new format with one byte changed: both of the mark, of G and of D, the first and the last of the zeros; a start above 2^47
unfoldable pub opens_with : List ℕ → ℕ
opens_with log =
    (open_call (record { state = zeros 1024; newest = positions; log = log; area = zeros 512; block = []; batch = lane; writer = 0; home = 0 })).code

unfoldable pub changed : ℕ → ℕ → ℕ
changed at byte = opens_with (puts (empty_log 0 4 8) at (byte ∷ []))

unfoldable pub headers : List ℕ
headers =
    changed 0 0x51 ∷ changed 1 0x55 ∷ changed 8 5 ∷ changed 9 1 ∷ changed 10 9 ∷ changed 11 1 ∷ changed 12 1 ∷ changed 63 1
    ∷ opens_with (puts (zeros 2112) 0 (header (2 ^ 47 + 1) 4 8)) ∷ opens_with (puts (zeros 2112) 0 (header (2 ^ 47) 4 8)) ∷ changed 2 1 ∷ []

unfoldable pub rows : List Trial
rows =
    record { yields = each wrong_numbers; paper = 2 ∷ 2 ∷ 2 ∷ 2 ∷ 2 ∷ 2 ∷ 2 ∷ 2 ∷ 2 ∷ 2 ∷ 2 ∷ 2 ∷ 2 ∷ 2 ∷ [] }
    ∷ record { yields = each right_numbers; paper = zeros 10 } ∷ record { yields = each wrong_promises; paper = 2 ∷ 2 ∷ 2 ∷ [] }
    ∷ record { yields = each right_promises; paper = zeros 2 } ∷ record { yields = each (wrong_writers 0); paper = 2 ∷ 2 ∷ 2 ∷ 2 ∷ 2 ∷ 2 ∷ 2 ∷ [] }
    ∷ record { yields = each (wrong_writers 7); paper = 2 ∷ 2 ∷ 2 ∷ 2 ∷ 2 ∷ 2 ∷ 2 ∷ [] } ∷ record { yields = each (right_writers 0); paper = zeros 3 }
    ∷ record { yields = each (right_writers 7); paper = zeros 3 } ∷ record { yields = headers; paper = 3 ∷ 3 ∷ 3 ∷ 3 ∷ 3 ∷ 3 ∷ 3 ∷ 3 ∷ 3 ∷ 10 ∷ 0 ∷ [] } ∷ []
