-- Histories with a list of rights: who may store and read what, before it is committed, under it, under the next one, after a trim and after an opening, and when it
-- is withdrawn.
use Rattle.std.specs.Prelude.{ℕ, false, List, [], ◌∷◌, ◌++◌}
use Rattle.model.specs.Bytes.{zeros, bytes}
use Rattle.model.specs.State.{list_home, listed_of, list_sign}
use Rattle.model.specs.Newest.{no_position, kept_for}
use Rattle.model.specs.Calls.{Outcome}
use Rattle.model.specs.History.{Call, opening, begin, store, commit, flush, settle, trim, read, Event, call, crash, World, empty_store, ends, after_call, step}
use Rattle.model.specs.examples.Trials.{room, lane, fill, goes, Trial}

-- numbers of 16 bits; two ranges of a writer's four, each first home and number of homes
unfoldable pub sixteens : List ℕ → List ℕ
sixteens [] = []
sixteens (n ∷ ns) = bytes 2 n ++ sixteens ns

unfoldable pub ranges : ℕ → ℕ → ℕ → ℕ → List ℕ
ranges a m b n = sixteens (a ∷ m ∷ b ∷ n ∷ 0 ∷ 0 ∷ 0 ∷ 0 ∷ [])

-- The first block of a list, for writers 0 and 1: to store, to read, and so again. Writer 0 may store to homes 0 to 2 and read them, writer 1 store to
-- home 3 and read homes 3 and 6; the ranges that begin below 65,536 and end beyond it hold none of the first homes.
unfoldable pub first_list : List ℕ
first_list = ranges 0 3 65530 10 ++ (ranges 0 3 0 0 ++ (ranges 3 1 65535 10 ++ ranges 3 1 6 1))

-- the next list gives home 4 to writer 1 in place of them
unfoldable pub next_list : List ℕ
next_list = ranges 0 3 0 0 ++ (ranges 0 3 0 0 ++ (ranges 4 1 0 0 ++ ranges 4 1 0 0))

-- a call beside the number that it answers: done, or refused
pub record Asked : Type 0 where
  pub asked : Call
  pub number : ℕ

unfoldable pub yes : Call → Asked
yes c = record { asked = c; number = 0 }

unfoldable pub no : Call → ℕ → Asked
no c n = record { asked = c; number = n }

unfoldable pub calls_of : List Asked → List Call
calls_of [] = []
calls_of (a ∷ more) = a.asked ∷ calls_of more

unfoldable pub numbers_of : List Asked → List ℕ
numbers_of [] = []
numbers_of (a ∷ more) = a.number ∷ numbers_of more

-- the numbers that calls answer, one after the other, and the world after them
pub record Run : Type 0 where
  pub numbers : List ℕ
  pub world : World

unfoldable pub runs : World → List Call → Run
runs w [] = record { numbers = []; world = w }
runs w (c ∷ cs) =
    let o : Outcome = ends w c in
    let r : Run = runs (after_call w c o o.code) cs in
    record { numbers = o.code ∷ r.numbers; world = r.world }

unfoldable pub asks_read : ℕ → ℕ → Call
asks_read writer home = read writer home (zeros 64)

unfoldable pub writes : ℕ → ℕ → Call
writes writer home = store writer home (fill 9) room

-- what the state strip and the newest positions have for the list's first home, the list's sign, and the numbers
unfoldable pub seen : World → List ℕ → List ℕ
seen w numbers = listed_of w.state 0 ∷ kept_for w.newest list_home ∷ list_sign w.state ∷ numbers

-- a new format (G 4, D 13) opened: positions from 28 on
unfoldable pub reopening : Event
reopening = call (opening (zeros 1024) (zeros 104) lane)

unfoldable pub unguarded : World
unguarded = step (empty_store 4 13) reopening

-- While no list is committed all is open but the list's own homes, which only writer 0 may store to; an open transaction is asked for after that. A
-- list that writer 0 holds, and one it has logged, does not count yet.
unfoldable pub before_list : List Asked
before_list =
    yes (begin 1) ∷ yes (writes 1 5) ∷ no (writes 1 8) 19 ∷ no (writes 2 11) 19 ∷ no (writes 2 3) 7 ∷ yes (asks_read 2 3) ∷ yes (begin 0)
    ∷ yes (store 0 8 first_list room) ∷ yes (asks_read 0 4) ∷ yes (store 0 9 (zeros 64) room) ∷ yes (asks_read 0 4) ∷ yes (writes 1 5) ∷ yes (commit 0 room)
    ∷ []

unfoldable pub begun : Run
begun = runs unguarded (calls_of before_list)

unfoldable pub guarded : World
guarded = begun.world

-- under the list: a block that writer 1 held before, its homes, homes that are not its own, and a writer that has none. Zeros that writer 0 holds for
-- the list do not count yet
unfoldable pub under_list : List Asked
under_list =
    no (asks_read 1 5) 20 ∷ yes (writes 1 3) ∷ no (writes 1 4) 19 ∷ no (writes 1 6) 19 ∷ no (writes 2 3) 19 ∷ yes (asks_read 1 3) ∷ no (asks_read 1 4) 20
    ∷ yes (asks_read 1 6) ∷ yes (asks_read 1 9) ∷ no (asks_read 2 3) 20 ∷ no (asks_read 0 4) 20 ∷ no (writes 0 3) 19 ∷ yes (begin 0) ∷ no (writes 0 3) 19
    ∷ yes (writes 0 2) ∷ yes (commit 1 room) ∷ yes (store 0 8 (zeros 64) room) ∷ yes (asks_read 0 2) ∷ []

unfoldable pub denying : Run
denying = runs guarded (calls_of under_list)

unfoldable pub replaced : World
replaced = goes denying.world (store 0 8 next_list room ∷ commit 0 room ∷ [])

-- under the next one; the transactions of both writers are closed, so that 7 is what a store meets that it has the right to
unfoldable pub below_next : List Asked
below_next =
    no (writes 1 4) 7 ∷ no (writes 1 3) 19 ∷ yes (asks_read 1 4) ∷ no (asks_read 1 3) 20 ∷ no (asks_read 1 6) 20 ∷ no (writes 1 11) 19 ∷ no (writes 0 11) 7 ∷ []

-- the log trimmed, with all of it in the data copy; another commit of the first list, a crash after it has persisted, and an opening
unfoldable pub trimmed : World → World
trimmed w = goes w (flush room ∷ settle room ∷ trim room ∷ [])

unfoldable pub opened_again : World → World
opened_again w = step (step (goes w (begin 0 ∷ store 0 8 first_list room ∷ commit 0 room ∷ flush room ∷ [])) (crash 7 (λ i. false))) reopening

unfoldable pub below_first : List Asked
below_first = no (writes 1 3) 7 ∷ no (writes 1 4) 19 ∷ yes (asks_read 1 3) ∷ no (asks_read 1 4) 20 ∷ yes (asks_read 1 6) ∷ []

unfoldable pub laid_down : World
laid_down = trimmed replaced

unfoldable pub reopened : World
reopened = opened_again laid_down

-- the first list withdrawn by zeros, so that all is open again, and committed once more: the sign goes along
unfoldable pub recommitted : World → List ℕ → World
recommitted w list = goes w (begin 0 ∷ store 0 8 list room ∷ commit 0 room ∷ [])

unfoldable pub withdrawn : World
withdrawn = recommitted guarded (zeros 64)

unfoldable pub again : World
again = recommitted withdrawn first_list

unfoldable pub open_to_all : List Asked
open_to_all = yes (asks_read 1 4) ∷ yes (writes 1 4) ∷ []

unfoldable pub closed_again : List Asked
closed_again = no (asks_read 1 4) 20 ∷ no (writes 1 4) 19 ∷ []

-- D 11 is too small for a list: homes 8 to 10 are writer 0's alone to store to, and all else is open
unfoldable pub too_small : List Asked
too_small =
    yes (begin 0) ∷ yes (store 0 8 first_list room) ∷ yes (commit 0 room) ∷ yes (begin 1) ∷ yes (writes 1 4) ∷ yes (writes 1 7) ∷ no (writes 1 8) 19
    ∷ no (writes 1 10) 19 ∷ no (writes 1 11) 5 ∷ yes (asks_read 2 3) ∷ yes (asks_read 1 10) ∷ []

unfoldable pub small_store : World
small_store = step (empty_store 4 11) (call (opening (zeros 1024) (zeros 88) lane))

-- what is kept of the list at a moment, and what the calls from there on answer
unfoldable pub moment : World → ℕ → ℕ → ℕ → List Asked → Trial
moment w listed kept sign calls =
    record { yields = seen w (runs w (calls_of calls)).numbers; paper = listed ∷ kept ∷ sign ∷ numbers_of calls }

unfoldable pub moments : List Trial
moments =
    record { yields = seen unguarded []; paper = no_position ∷ no_position ∷ 1 ∷ [] } ∷ record { yields = begun.numbers; paper = numbers_of before_list }
    ∷ record { yields = seen guarded denying.numbers; paper = 28 ∷ 28 ∷ 2 ∷ numbers_of under_list } ∷ moment replaced 33 33 2 below_next
    ∷ moment laid_down no_position no_position 2 below_next ∷ moment reopened no_position no_position 2 below_first ∷ moment withdrawn 30 30 1 open_to_all
    ∷ moment again 31 31 2 closed_again ∷ record { yields = (runs small_store (calls_of too_small)).numbers; paper = numbers_of too_small } ∷ []
