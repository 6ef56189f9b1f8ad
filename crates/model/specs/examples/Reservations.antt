-- A history with promised places (request f), and tags of large stations (request d): what the calls answer. It meets answers 17 and 18.
use Rattle.std.specs.Prelude.{Bool, not, ◌&&◌, List, [], ◌∷◌, ◌++◌, eqb}
use Rattle.model.specs.Tag.{entry_word, closing_word, read_tag, present, home_of}
use Rattle.model.specs.History.{begin, reserve, abort, store, commit, flush, Event, empty_store}
use Rattle.model.specs.examples.Lines.{Line, does, gives, refuses, events_of, answers_of}
use Rattle.model.specs.examples.Trials.{room, fill}
use Rattle.model.specs.examples.Witnesses.{open_again, goes_so}

-- no place and more than all are not granted, 25 of 28 are; another writer's entries then get three places, and a flush may not pass four over
unfoldable pub promising : List Line
promising =
    gives open_again 0 2136 ∷ refuses (reserve 0 0) 17 ∷ refuses (reserve 0 29) 17 ∷ does (reserve 0 25) ∷ does (begin 1) ∷ does (store 1 0 (fill 1) room)
    ∷ does (store 1 1 (fill 1) room) ∷ does (store 1 2 (fill 1) room) ∷ does (store 1 3 (fill 1) room) ∷ refuses (store 1 4 (fill 1) room) 8
    ∷ refuses (flush room) 18 ∷ []

-- a held block and the same home again use no promise up, another home uses one; an abort gives the rest back
unfoldable pub giving_back : List Line
giving_back =
    does (store 0 0 (fill 2) room) ∷ does (store 0 0 (fill 3) room) ∷ does (store 0 1 (fill 3) room) ∷ refuses (reserve 2 1) 17 ∷ does (abort 0)
    ∷ refuses (reserve 2 25) 17 ∷ does (reserve 2 24) ∷ refuses (flush room) 18 ∷ does (abort 2) ∷ gives (flush room) 0 518 ∷ []

-- a commit gives the rest back
unfoldable pub closing : List Line
closing =
    does (reserve 3 21) ∷ does (store 3 5 (fill 30) room) ∷ gives (commit 3 room) 36 0 ∷ refuses (reserve 0 21) 17 ∷ does (reserve 0 20) ∷ []

unfoldable pub reserving_lines : List Line
reserving_lines = promising ++ (giving_back ++ closing)

unfoldable pub reserving : List Event
reserving = events_of reserving_lines

unfoldable pub reserves_so : Bool
reserves_so = goes_so (empty_store 4 8) reserving (answers_of reserving_lines) 1 (0 ∷ 0 ∷ 0 ∷ 0 ∷ 0 ∷ 0 ∷ 0 ∷ 0 ∷ [])

-- tags with homes above 4,095, plain and closing, and one whose first entry would lie before the start
unfoldable pub tags_so : Bool
tags_so =
    eqb (home_of (read_tag (entry_word 61234 3) 40 28 65535)) 61234 && eqb (home_of (read_tag (closing_word 4097 3 2 1) 40 28 65535)) 4097
    && not (present (read_tag (entry_word 1 13) 40 28 8))
