-- Settling in small steps: a history with two rounds, and what its calls answer.
use Rattle.std.specs.Prelude.{Bool, true, List, [], ◌∷◌, ◌++◌, replicate}
use Rattle.model.specs.Bytes.{zeros}
use Rattle.model.specs.History.{opening, begin, store, commit, flush, settle, begin_round, step_round, trim, read, empty_store}
use Rattle.model.specs.examples.Lines.{Line, cut, does, gives, refuses, events_of, answers_of}
use Rattle.model.specs.examples.Trials.{room, lane, fill, positions}
use Rattle.model.specs.examples.Witnesses.{open_again, goes_so}

-- Two rounds of a store with four groups and eight homes. In the first a commit, a flush and a trim come between the steps; each of the four ways to
-- be refused with 21 is taken. The second is cut, and the opening, though lent a strip that says a round is under way, ends it.

unfoldable pub first_round : List Line
first_round =
    does (begin 0) ∷ does (store 0 1 (fill 11) room) ∷ does (store 0 3 (fill 13) room) ∷ does (store 0 4 (fill 14) room) ∷ gives (commit 0 room) 31 0
    ∷ refuses (step_round 1 room) 21 ∷ does begin_round ∷ gives (step_round 1 room) 0 2 ∷ gives (flush room) 0 518 ∷ does begin_round ∷ refuses begin_round 21
    ∷ refuses (settle room) 21 ∷ refuses (step_round 0 room) 21 ∷ refuses (step_round 2 []) 9 ∷ gives (step_round 2 room) 0 136 ∷ []

unfoldable pub between : List Line
between =
    does (begin 1) ∷ does (store 1 3 (fill 23) room) ∷ does (store 1 6 (fill 26) room) ∷ gives (commit 1 room) 37 0 ∷ gives (flush room) 0 518
    ∷ does (trim room) ∷ gives (step_round 2 room) 0 70 ∷ gives (trim room) 0 68 ∷ []

unfoldable pub second_round : List Line
second_round =
    does begin_round ∷ gives (step_round 1 room) 0 68 ∷ does (read 2 3 (zeros 64)) ∷ cut 8 (λ i. true) ∷ gives (opening (replicate 1024 1) positions lane) 1 2272
    ∷ refuses (step_round 1 room) 21 ∷ does begin_round ∷ gives (step_round 9 room) 0 2 ∷ does (trim room) ∷ []

unfoldable pub rounds : List Line
rounds = gives open_again 0 2136 ∷ (first_round ++ (between ++ second_round))

unfoldable pub rounds_go : Bool
rounds_go = goes_so (empty_store 4 8) (events_of rounds) (answers_of rounds) 2 (0 ∷ 11 ∷ 0 ∷ 23 ∷ 14 ∷ 0 ∷ 26 ∷ 0 ∷ [])
