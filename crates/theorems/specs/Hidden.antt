-- What rights hide, and what they do not: two histories (G 4, D 12) under one committed list, which differ only in the bytes stored in home 4, one block
-- before them and one in them. Writer 1 may not read home 4: all its answers and blocks are the same in both. Writer 2 may: its blocks differ.
use Rattle.std.specs.Prelude.{ℕ, ◌+◌, ◌*◌, Bool, ◌&&◌, List, [], ◌∷◌, ◌++◌, eqb}
use Rattle.model.specs.Bytes.{zeros, bytes, same}
use Rattle.model.specs.Effects.{Given}
use Rattle.model.specs.History.{Call, opening, begin, store, commit, read, call, World, empty_store, ends, step}
use Rattle.model.specs.examples.Trials.{room, lane, fill, goes, answers}
use Rattle.model.specs.examples.Witnesses.{plain}
use Rattle.theorems.specs.IsolatedActs.{block_of_read}

-- one range of homes, and three empty ones
unfoldable pub range_of : ℕ → ℕ → List ℕ
range_of first number = bytes 2 first ++ (bytes 2 number ++ zeros 12)

-- the list's first two blocks: writer 0 may store to and read every home, writer 1 only home 3; writer 2 may store to home 4 and read homes 3 and 4
unfoldable pub first_writers : List ℕ
first_writers = range_of 0 12 ++ (range_of 0 12 ++ (range_of 3 1 ++ range_of 3 1))

unfoldable pub next_writers : List ℕ
next_writers = range_of 4 1 ++ (range_of 3 2 ++ zeros 32)

-- a new format of that size, and its opening
unfoldable pub unformatted : Given
unformatted =
    record { state = []; newest = []; log = zeros (64 + 512 * 4); area = zeros (64 * 12); block = []; batch = zeros 3018; writer = 0; home = 0 }

unfoldable pub first_opening : Call
first_opening = opening (zeros 1024) (zeros 96) lane

-- writer 0 commits homes 3 and 4 and the list, and home 4 gets bytes a
unfoldable pub listing : ℕ → List Call
listing a =
    begin 0 ∷ store 0 3 (fill 5) room ∷ store 0 4 (fill a) room ∷ store 0 8 first_writers room ∷ store 0 9 next_writers room ∷ commit 0 room ∷ []

unfoldable pub listed_before : ℕ → List Call
listed_before a = first_opening ∷ listing a

-- then both writers read, writer 2 commits bytes b in home 4, and writer 1, which tries that too, commits home 3
unfoldable pub both_at_work : ℕ → List Call
both_at_work b =
    read 1 3 (fill 9) ∷ read 1 4 (fill 9) ∷ read 2 4 (fill 9) ∷ begin 2 ∷ store 2 4 (fill b) room ∷ commit 2 room ∷ begin 1 ∷ store 1 4 (fill 7) room
    ∷ store 1 3 (fill 7) room ∷ commit 1 room ∷ read 1 3 (fill 9) ∷ read 1 4 (fill 9) ∷ read 2 4 (fill 9) ∷ []

-- the home that is hidden from writer 1
unfoldable pub fourth : ℕ → Bool
fourth home = eqb home 4

unfoldable pub listed_world : ℕ → World
listed_world a = goes (empty_store 4 12) (listed_before a)

-- what every call answers: its number, its figure and its batch length
unfoldable pub answers_with : ℕ → ℕ → List ℕ
answers_with a b = answers (listed_world a) (both_at_work b)

unfoldable pub answers_listed : List ℕ
answers_listed =
    plain (0 ∷ 20 ∷ 0 ∷ 0 ∷ 0 ∷ []) ++ ((0 ∷ 33 ∷ 0 ∷ plain (0 ∷ 19 ∷ 0 ∷ [])) ++ (0 ∷ 34 ∷ 0 ∷ plain (0 ∷ 20 ∷ 0 ∷ [])))

-- the blocks that a writer's reads leave
unfoldable pub blocks_read : ℕ → World → List Call → List ℕ
blocks_read writer w [] = []
blocks_read writer w (c ∷ cs) = block_of_read writer c (ends w c) ++ blocks_read writer (step w (call c)) cs

unfoldable pub blocks_with : ℕ → ℕ → ℕ → List ℕ
blocks_with writer a b = blocks_read writer (listed_world a) (both_at_work b)

-- every call answers the same, and writer 1's reads give home 3 as it was and as it commits it, and of home 4 the block that was lent, untouched
unfoldable pub hidden_from_one : Bool
hidden_from_one =
    same (answers_with 1 2) answers_listed && same (answers_with 101 102) answers_listed
    && same (blocks_with 1 1 2) (fill 5 ++ (fill 9 ++ (fill 7 ++ fill 9))) && same (blocks_with 1 101 102) (blocks_with 1 1 2)

-- writer 2's give home 4 as it was stored before and in the history
unfoldable pub shown_to_two : Bool
shown_to_two = same (blocks_with 2 1 2) (fill 1 ++ fill 2) && same (blocks_with 2 101 102) (fill 101 ++ fill 102)
