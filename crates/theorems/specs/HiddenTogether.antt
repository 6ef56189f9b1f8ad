-- What rights hide where homes are read and stored several at a time: two histories (G 4, D 12) from the format on, which differ only in the bytes stored in
-- home 4: together with home 3 before the list is committed, alone after it, and by a plain store. Writer 1 may not read home 4: all its answers and blocks
-- are the same in both. Writer 2 may: its blocks differ.
use Rattle.std.specs.Prelude.{ℕ, Bool, false, ◌&&◌, List, [], ◌∷◌, ◌++◌}
use Rattle.model.specs.Bytes.{zeros, same}
use Rattle.model.specs.History.{begin, store, commit, flush, call, crash, World, empty_store}
use Rattle.model.specs.examples.Trials.{room, fill}
use Rattle.abstract_store.specs.Store.{Reply}
use Rattle.acts.specs.Units.{Act, plain, transacts, fetches, revises, act, acted}
use Rattle.theorems.specs.IsolatedActs.{answer_of, blocks_of}
use Rattle.theorems.specs.Hidden.{first_writers, next_writers, first_opening}

-- After a cut and a second opening, writer 0 commits homes 3 and 4, where home 4 gets bytes a, and then the list of Hidden.
unfoldable pub shared_before : ℕ → List Act
shared_before a =
    plain (call first_opening) ∷ transacts 0 4 (fill 6) room ∷ plain (crash 3 (λ i. false)) ∷ plain (call first_opening)
    ∷ transacts 0 3 (fill 5 ++ fill a) room ∷ transacts 0 8 (first_writers ++ next_writers) room ∷ []

-- Writer 1 fetches home 3, and homes 3 and 4, which it may not; writer 2 fetches both, revises home 4 and commits bytes b there; writer 1, which tries that
-- too, revises and commits home 3; writer 2 stores bytes c in home 4, call by call; both fetch again.
unfoldable pub shared_after : ℕ → ℕ → List Act
shared_after b c =
    fetches 1 3 (fill 9) ∷ fetches 1 3 (zeros 128) ∷ fetches 2 3 (zeros 128) ∷ revises 2 4 (fill 9) ∷ transacts 2 4 (fill b) room ∷ revises 1 4 (fill 9)
    ∷ transacts 1 4 (fill 7) room ∷ revises 1 3 (fill 9) ∷ transacts 1 3 (fill 7) room ∷ plain (call (begin 2)) ∷ plain (call (store 2 4 (fill c) room))
    ∷ plain (call (commit 2 room)) ∷ plain (call (flush room)) ∷ fetches 1 3 (fill 9) ∷ fetches 2 4 (fill 9) ∷ []

unfoldable pub numbers : Reply → List ℕ
numbers r = r.code ∷ r.figure ∷ r.size ∷ []

unfoldable pub answers_in : World → List Act → List ℕ
answers_in w [] = []
answers_in w (a ∷ more) = numbers (answer_of w a) ++ answers_in (act w a) more

unfoldable pub blocks_in : ℕ → World → List Act → List ℕ
blocks_in writer w [] = []
blocks_in writer w (a ∷ more) = blocks_of writer w a ++ blocks_in writer (act w a) more

unfoldable pub shared_world : ℕ → World
shared_world a = acted (empty_store 4 12) (shared_before a)

-- the answers, and writer 1's blocks: home 3 as it was and as writer 1 commits it, and of home 4 what was lent, untouched
unfoldable pub answers_shared : List ℕ
answers_shared =
    (0 ∷ 0 ∷ 0 ∷ []) ++ ((20 ∷ 0 ∷ 0 ∷ []) ++ ((0 ∷ 0 ∷ 0 ∷ []) ++ ((0 ∷ 0 ∷ 0 ∷ []) ++ ((0 ∷ 61 ∷ 0 ∷ []) ++ ((19 ∷ 0 ∷ 0 ∷ [])
    ++ ((19 ∷ 0 ∷ 0 ∷ []) ++ ((0 ∷ 0 ∷ 0 ∷ []) ++ ((0 ∷ 62 ∷ 0 ∷ []) ++ ((0 ∷ 0 ∷ 0 ∷ []) ++ ((0 ∷ 0 ∷ 0 ∷ []) ++ ((0 ∷ 63 ∷ 516 ∷ [])
    ++ ((0 ∷ 0 ∷ 2 ∷ []) ++ ((0 ∷ 0 ∷ 0 ∷ []) ++ (0 ∷ 0 ∷ 0 ∷ []))))))))))))))

unfoldable pub blocks_of_one : List ℕ
blocks_of_one = fill 5 ++ (zeros 128 ++ (fill 9 ++ (fill 5 ++ fill 7)))

unfoldable pub together_hidden : Bool
together_hidden =
    same (answers_in (shared_world 1) (shared_after 2 3)) answers_shared && same (answers_in (shared_world 101) (shared_after 102 103)) answers_shared
    && same (blocks_in 1 (shared_world 1) (shared_after 2 3)) blocks_of_one && same (blocks_in 1 (shared_world 101) (shared_after 102 103)) blocks_of_one

-- writer 2's blocks: homes 3 and 4, home 4 by its revise, home 4 as writer 2 commits it last
unfoldable pub together_shown : Bool
together_shown =
    same (blocks_in 2 (shared_world 1) (shared_after 2 3)) (fill 5 ++ (fill 1 ++ (fill 1 ++ fill 3)))
    && same (blocks_in 2 (shared_world 101) (shared_after 102 103)) (fill 5 ++ (fill 101 ++ (fill 101 ++ fill 103)))
