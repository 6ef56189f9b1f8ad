-- Calls in which two questions fail at once: the one that stands first in its order answers. For every two neighbours of every call's order that can
-- both fail. (A writer that is not open holds nothing, so that 7 never meets 8 or 9.)
use Rattle.std.specs.Prelude.{ℕ, ◌+◌, ◌*◌, ◌^◌, List, [], ◌∷◌, replicate}
use Rattle.model.specs.Bytes.{puts, zeros}
use Rattle.model.specs.Layout.{header}
use Rattle.model.specs.State.{fresh_state, set_homes, set_next, set_filled, set_settled, set_fenced, set_round, set_promise, set_writer, begun, holding}
use Rattle.model.specs.Effects.{Given}
use Rattle.model.specs.Calls.{format_call, open_call, begin_call, reserve_call, abort_call, store_call, commit_call, flush_call, confirm_call, settle_call, begin_round_call, step_round_call, trim_call, read_call}
use Rattle.model.specs.examples.Trials.{room, lane, fill, positions, starting_at, Trial}
use Rattle.model.specs.examples.Guarded.{first_list}

-- what a call is lent (G 4, D 8): strip, newest positions, block, batch, writer and home; a block and no batch
unfoldable pub lend : List ℕ → List ℕ → List ℕ → List ℕ → ℕ → ℕ → Given
lend s p b t writer home =
    record { state = s; newest = p; log = zeros 2112; area = zeros 512; block = b; batch = t; writer = writer; home = home }

unfoldable pub few : List ℕ → ℕ → ℕ → Given
few s writer home = lend s positions (fill 1) [] writer home

-- new; out of order, its D being another; with the spare byte after the writers' modes set, so that "writer 8" is not idle
unfoldable pub new : List ℕ
new = fresh_state 4 8 4 1

unfoldable pub wrong : List ℕ → List ℕ
wrong s = set_homes s 9

unfoldable pub beyond : List ℕ
beyond = puts new 112 (1 ∷ [])

-- one place is left, which is promised to writer 0; writer 1 holds a block for home 1. With a round under way. With a start that a trim would move past 2^47.
unfoldable pub nearly_full : List ℕ
nearly_full = set_writer (set_promise (set_writer (set_filled (set_next new 7) 6) 0 begun) 0 1) 1 (holding 1)

unfoldable pub in_round : List ℕ
in_round = set_round new 29

unfoldable pub highest : List ℕ
highest =
    let start : ℕ = 2 ^ 47 in
    set_settled (set_fenced (set_next (fresh_state 4 8 start 1) (start + 2)) (7 * (start + 2))) (7 * (start + 1))

-- format: (1, 9); 0 groups, 3 groups and 0 homes; for 5 groups and 2 homes a batch of 138 + 516 × 5 + 68 × 2 bytes, and of one byte less
unfoldable pub formats : ℕ → ℕ → ℕ → ℕ
formats log area batch =
    (format_call (record { state = []; newest = []; log = zeros log; area = zeros area; block = []; batch = zeros batch; writer = 0; home = 0 })).code

unfoldable pub of_format : List ℕ
of_format = formats 2111 512 0 ∷ formats 64 64 3000 ∷ formats 1600 64 3000 ∷ formats 2112 0 3000 ∷ formats 2624 128 2854 ∷ formats 2624 128 2853 ∷ []

-- For every other call first (1, 2), the lengths before the strip; then as the comments say.

-- (1, 3), (3, 10), (10, 9)
unfoldable pub of_open : List ℕ
of_open =
    (open_call (few [] 0 0)).code
    ∷ (open_call (record { state = zeros 1024; newest = positions; log = puts (zeros 2112) 0 (header (2 ^ 47) 4 9); area = zeros 512; block = []; batch = lane; writer = 0; home = 0 })).code
    ∷ (open_call (starting_at (2 ^ 47) [])).code ∷ []

-- begin and reserve: (2, 4), (4, 6), (6, 17)
unfoldable pub of_begin : List ℕ
of_begin = (begin_call (few [] 0 0)).code ∷ (begin_call (few (wrong new) 8 0)).code ∷ (begin_call (few beyond 8 0)).code ∷ []

unfoldable pub of_reserve : List ℕ
of_reserve =
    (reserve_call (few [] 0 0) 1).code ∷ (reserve_call (few (wrong new) 8 0) 1).code ∷ (reserve_call (few beyond 8 0) 1).code ∷ (reserve_call (few nearly_full 0 0) 0).code
    ∷ (reserve_call (few nearly_full 0 0) 9).code ∷ []

-- abort: (2, 4), (4, 7)
unfoldable pub of_abort : List ℕ
of_abort = (abort_call (few [] 0 0)).code ∷ (abort_call (few (wrong new) 8 0)).code ∷ (abort_call (few new 8 0)).code ∷ []

-- store: its block's length and a strip out of order, (2, 4), (4, 5), (5, 19), (19, 7) with 13 homes, (8, 9); 9 alone where writer 0 has promised nothing
unfoldable pub of_store : List ℕ
of_store =
    (store_call (lend (wrong new) positions [] [] 0 0)).code ∷ (store_call (few (wrong new) 8 0)).code ∷ (store_call (few new 8 8)).code ∷ (store_call (few new 1 8)).code
    ∷ (store_call (record { state = fresh_state 4 13 4 1; newest = []; log = zeros 2112; area = zeros 832; block = fill 1; batch = []; writer = 1; home = 8 })).code
    ∷ (store_call (few nearly_full 1 2)).code ∷ (store_call (few (set_promise nearly_full 0 0) 1 2)).code ∷ []

-- commit: the length of the newest positions and a strip out of order, (2, 4), (4, 7), (8, 9); 9 alone
unfoldable pub of_commit : List ℕ
of_commit =
    (commit_call (lend (wrong new) [] [] [] 0 0)).code ∷ (commit_call (few (wrong new) 8 0)).code ∷ (commit_call (few new 8 0)).code ∷ (commit_call (few nearly_full 1 0)).code
    ∷ (commit_call (few (set_promise nearly_full 0 0) 1 0)).code ∷ []

-- flush: (2, 18), (18, 9); 9 alone. Confirm
unfoldable pub of_flush : List ℕ
of_flush =
    (flush_call (few [] 0 0)).code ∷ (flush_call (few (wrong nearly_full) 0 0)).code ∷ (flush_call (few nearly_full 0 0)).code ∷ (flush_call (few new 0 0)).code
    ∷ (confirm_call (few [] 0 0)).code ∷ (confirm_call (few (wrong new) 0 0)).code ∷ []

-- settle, and a round's beginning and step: (2, 21), (21, 9); 9 alone
unfoldable pub of_settle : List ℕ
of_settle =
    (settle_call (few [] 0 0)).code ∷ (settle_call (few (wrong in_round) 0 0)).code ∷ (settle_call (few in_round 0 0)).code ∷ (settle_call (few new 0 0)).code
    ∷ (begin_round_call (few [] 0 0)).code ∷ (begin_round_call (few (wrong in_round) 0 0)).code ∷ (begin_round_call (few in_round 0 0)).code ∷ []

unfoldable pub of_step : List ℕ
of_step =
    (step_round_call (few [] 0 0) 1).code ∷ (step_round_call (few (wrong new) 0 0) 1).code ∷ (step_round_call (few new 0 0) 1).code ∷ (step_round_call (few in_round 0 0) 0).code
    ∷ (step_round_call (few in_round 0 0) 1).code ∷ []

-- trim: (1, 2) by the newest positions, (2, 10), (10, 9)
unfoldable pub of_trim : List ℕ
of_trim = (trim_call (lend (wrong new) [] [] [] 0 0)).code ∷ (trim_call (few (wrong highest) 0 0)).code ∷ (trim_call (few highest 0 0)).code ∷ []

-- read: (1, 2) by the block and by the newest positions, (2, 4), (4, 5), (5, 20) with 13 homes under a list; 20 alone
unfoldable pub listed : ℕ → Given
listed home =
    record {
      state = fresh_state 4 13 4 2;
      newest = replicate 104 255;
      log = zeros 2112;
      area = puts (zeros 832) 512 first_list;
      block = fill 1;
      batch = [];
      writer = 2;
      home = home;
    }

unfoldable pub of_read : List ℕ
of_read =
    (read_call (lend (wrong new) positions [] [] 0 0)).code ∷ (read_call (lend (wrong new) [] (fill 1) [] 0 0)).code ∷ (read_call (few (wrong new) 8 0)).code
    ∷ (read_call (few new 8 8)).code ∷ (read_call (listed 13)).code ∷ (read_call (listed 3)).code ∷ []

-- "question 1 covers its length": the calls that are lent no newest positions are done without any
unfoldable pub without_newest : List ℕ
without_newest =
    (begin_call (lend new [] [] [] 0 0)).code ∷ (reserve_call (lend new [] [] [] 0 0) 28).code ∷ (abort_call (lend (set_writer new 0 begun) [] [] [] 0 0)).code
    ∷ (store_call (lend (set_writer new 0 begun) [] (fill 1) [] 0 7)).code ∷ (flush_call (lend new [] [] room 0 0)).code ∷ (confirm_call (lend new [] [] [] 0 0)).code
    ∷ (settle_call (lend new [] [] room 0 0)).code ∷ (begin_round_call (lend new [] [] [] 0 0)).code ∷ (step_round_call (lend in_round [] [] room 0 0) 1).code ∷ []

unfoldable pub rows : List Trial
rows =
    record { yields = of_format; paper = 1 ∷ 1 ∷ 1 ∷ 1 ∷ 0 ∷ 9 ∷ [] } ∷ record { yields = of_open; paper = 1 ∷ 3 ∷ 10 ∷ [] } ∷ record { yields = of_begin; paper = 1 ∷ 2 ∷ 4 ∷ [] }
    ∷ record { yields = of_reserve; paper = 1 ∷ 2 ∷ 4 ∷ 6 ∷ 6 ∷ [] } ∷ record { yields = of_abort; paper = 1 ∷ 2 ∷ 4 ∷ [] }
    ∷ record { yields = of_store; paper = 1 ∷ 2 ∷ 4 ∷ 5 ∷ 19 ∷ 8 ∷ 9 ∷ [] } ∷ record { yields = of_commit; paper = 1 ∷ 2 ∷ 4 ∷ 8 ∷ 9 ∷ [] }
    ∷ record { yields = of_flush; paper = 1 ∷ 2 ∷ 18 ∷ 9 ∷ 1 ∷ 2 ∷ [] } ∷ record { yields = of_settle; paper = 1 ∷ 2 ∷ 21 ∷ 9 ∷ 1 ∷ 2 ∷ 21 ∷ [] }
    ∷ record { yields = of_step; paper = 1 ∷ 2 ∷ 21 ∷ 21 ∷ 9 ∷ [] } ∷ record { yields = of_trim; paper = 1 ∷ 2 ∷ 10 ∷ [] }
    ∷ record { yields = of_read; paper = 1 ∷ 1 ∷ 2 ∷ 4 ∷ 5 ∷ 20 ∷ [] } ∷ record { yields = without_newest; paper = zeros 9 } ∷ []
