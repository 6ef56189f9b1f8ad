-- What calls on several homes answer where two neighbouring questions fail at once, where one fails alone, and with five groups.
use Rattle.std.specs.Prelude.{ℕ, List, [], ◌∷◌, ◌++◌, replicate}
use Rattle.model.specs.Bytes.{puts, zeros}
use Rattle.model.specs.Layout.{group_at, group_tag}
use Rattle.model.specs.State.{fresh_state, set_homes, set_next, set_filled, set_promise, set_writer, begun}
use Rattle.model.specs.Effects.{Given}
use Rattle.model.specs.examples.Trials.{fill, positions, Trial}
use Rattle.model.specs.examples.Guarded.{ranges}
use Rattle.acts.specs.Many.{fetch_call, revise_call, transact_call}

-- what a call is lent (G 4, D 8): strip, blocks, batch, writer and first home
unfoldable pub lend : List ℕ → List ℕ → List ℕ → ℕ → ℕ → Given
lend s b t writer home =
    record { state = s; newest = positions; log = zeros 2112; area = zeros 512; block = b; batch = t; writer = writer; home = home }

unfoldable pub new : List ℕ
new = fresh_state 4 8 4 1

unfoldable pub wrong : List ℕ → List ℕ
wrong s = set_homes s 9

-- one place is left, which is promised to writer 0
unfoldable pub nearly_full : List ℕ
nearly_full = set_promise (set_writer (set_filled (set_next new 7) 6) 0 begun) 0 1

-- D 13 under a list: writer 0 may store to homes 0 to 2 and read none, writer 1 store to homes 3 and read homes 3 and 6; writer 3's transaction is open
unfoldable pub listed : ℕ → ℕ → ℕ → Given
listed blocks writer home =
    record {
      state = set_writer (fresh_state 4 13 4 2) 3 begun;
      newest = replicate 104 255;
      log = zeros 2112;
      area = puts (zeros 832) 512 (ranges 0 3 0 0 ++ (ranges 0 0 0 0 ++ (ranges 3 1 0 0 ++ ranges 3 1 6 1)));
      block = zeros blocks;
      batch = [];
      writer = writer;
      home = home;
    }

-- five groups
unfoldable pub five : Given
five =
    record { state = fresh_state 5 8 5 1; newest = positions; log = zeros 2624; area = zeros 512; block = zeros 128; batch = []; writer = 0; home = 6 }

-- fetch: no block, a part of one and eight, (1, 2), (2, 4), (4, 5), 5 for the last home, (5, 20), 20 for the first home and for the second; done
unfoldable pub of_fetch : List ℕ
of_fetch =
    (fetch_call (lend new [] [] 0 0)).code ∷ (fetch_call (lend new (zeros 65) [] 0 0)).code ∷ (fetch_call (lend new (zeros 512) [] 0 0)).code
    ∷ (fetch_call (lend (wrong new) [] [] 0 0)).code ∷ (fetch_call (lend (wrong new) (fill 1) [] 8 0)).code ∷ (fetch_call (lend new (fill 1) [] 8 8)).code
    ∷ (fetch_call (lend new (zeros 128) [] 0 7)).code ∷ (fetch_call (listed 128 2 12)).code ∷ (fetch_call (listed 64 1 4)).code ∷ (fetch_call (listed 128 1 3)).code
    ∷ (fetch_call (listed 64 1 6)).code ∷ (fetch_call five).code ∷ []

-- revise: (1, 2), (2, 4), (4, 5), (5, 19), (19, 20), 19 alone, 20 alone; done
unfoldable pub of_revise : List ℕ
of_revise =
    (revise_call (lend (wrong new) [] [] 0 0)).code ∷ (revise_call (lend (wrong new) (fill 1) [] 8 0)).code ∷ (revise_call (lend new (fill 1) [] 8 8)).code
    ∷ (revise_call (listed 128 2 12)).code ∷ (revise_call (listed 64 2 4)).code ∷ (revise_call (listed 64 1 6)).code ∷ (revise_call (listed 64 0 1)).code
    ∷ (revise_call (listed 64 1 3)).code ∷ (revise_call five).code ∷ []

-- transact: (1, 2), (2, 4), (4, 5), (5, 19), (19, 6), (6, 8), (8, 9), 6, 8 and 9 alone; done, with no right to read and with five groups too. Seven blocks, 448
-- bytes, are done, eight are not. 19 for the second home alone.
unfoldable pub of_transact : List ℕ
of_transact =
    (transact_call (lend (wrong new) [] [] 0 0)).code ∷ (transact_call (lend (wrong new) (fill 1) [] 8 0)).code ∷ (transact_call (lend new (fill 1) [] 8 8)).code
    ∷ (transact_call (listed 128 2 12)).code ∷ (transact_call (listed 64 3 4)).code ∷ (transact_call (lend nearly_full (fill 1) [] 0 0)).code
    ∷ (transact_call (lend nearly_full (fill 1) [] 2 0)).code ∷ (transact_call (lend (set_writer new 2 begun) (fill 1) [] 2 0)).code
    ∷ (transact_call (lend nearly_full (fill 1) (zeros 516) 2 0)).code ∷ (transact_call (lend (set_promise nearly_full 0 0) (fill 1) (zeros 515) 2 0)).code
    ∷ (transact_call (lend (set_promise nearly_full 0 0) (fill 1) (zeros 516) 2 0)).code ∷ (transact_call (listed 128 0 1)).code ∷ (transact_call five).code
    ∷ (transact_call (lend new (zeros 448) (zeros 516) 0 1)).code ∷ (transact_call (lend new (zeros 512) (zeros 1032) 0 0)).code
    ∷ (transact_call (listed 128 1 3)).code ∷ []

-- "Writer 0 stores homes 1, 2, commits: tags 5 and 2199023271947" (trial 1): the same by a transact, one transaction
unfoldable pub tags_logged : List ℕ
tags_logged = let group : List ℕ = group_at (transact_call (lend new (zeros 128) [] 0 1)).log 0 in group_tag group 0 ∷ group_tag group 1 ∷ []

unfoldable pub verdicts : List Trial
verdicts =
    record { yields = of_fetch; paper = 1 ∷ 1 ∷ 1 ∷ 1 ∷ 2 ∷ 4 ∷ 5 ∷ 5 ∷ 20 ∷ 20 ∷ 0 ∷ 0 ∷ [] }
    ∷ record { yields = of_revise; paper = 1 ∷ 2 ∷ 4 ∷ 5 ∷ 19 ∷ 19 ∷ 20 ∷ 0 ∷ 0 ∷ [] }
    ∷ record { yields = of_transact; paper = 1 ∷ 2 ∷ 4 ∷ 5 ∷ 19 ∷ 6 ∷ 8 ∷ 6 ∷ 8 ∷ 9 ∷ 0 ∷ 0 ∷ 0 ∷ 0 ∷ 1 ∷ 19 ∷ [] }
    ∷ record { yields = tags_logged; paper = 5 ∷ 2199023271947 ∷ [] } ∷ []
