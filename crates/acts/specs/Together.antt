-- Histories with calls on several homes (G 4, D 8, positions from 28 on): what they answer and read, what a crash leaves of a unit of two homes, 3 and
-- 4, and of its labels; and what they answer under a list of rights.
use Rattle.std.specs.Prelude.{ℕ, true, false, List, [], ◌∷◌, ◌++◌, length, get_or}
use Rattle.model.specs.Bytes.{zeros}
use Rattle.model.specs.History.{opening, begin, reserve, abort, flush, Event, call, crash, World, ends}
use Rattle.model.specs.examples.Trials.{room, lane, fill, positions, fresh, Trial}
use Rattle.model.specs.examples.Guarded.{guarded}
use Rattle.acts.specs.Units.{Act, plain, transacts, fetches, revises, transact_ends, fetch_ends, revise_ends, act, acted, labels_from, last_unit}

unfoldable pub number_at : World → Event → ℕ
number_at w (call c) = (ends w c).code
number_at w (crash passed chosen) = 0

unfoldable pub number_of : World → Act → ℕ
number_of w (plain e) = number_at w e
number_of w (transacts writer home blocks batch) = (transact_ends w writer home blocks batch).code
number_of w (fetches writer home blocks) = (fetch_ends w writer home blocks).code
number_of w (revises writer home blocks) = (revise_ends w writer home blocks).code

-- the numbers that acts answer, one after the other
unfoldable pub answered_by : World → List Act → List ℕ
answered_by w [] = []
answered_by w (a ∷ more) = number_of w a ∷ answered_by (act w a) more

-- an act beside the number that it answers: done, or refused
pub record Asked : Type 0 where
  pub asked : Act
  pub number : ℕ

unfoldable pub yes : Act → Asked
yes a = record { asked = a; number = 0 }

unfoldable pub no : Act → ℕ → Asked
no a n = record { asked = a; number = n }

unfoldable pub acts_of : List Asked → List Act
acts_of [] = []
acts_of (a ∷ more) = a.asked ∷ acts_of more

unfoldable pub numbers_of : List Asked → List ℕ
numbers_of [] = []
numbers_of (a ∷ more) = a.number ∷ numbers_of more

unfoldable pub two : ℕ → ℕ → List ℕ
two a b = fill a ++ fill b

-- the first byte of each of two blocks
unfoldable pub firsts : List ℕ → List ℕ
firsts blocks = get_or blocks 0 0 ∷ get_or blocks 64 0 ∷ []

-- what a writer fetches of the unit, what the labels say of it, and their number
unfoldable pub seen : World → ℕ → List Act → List ℕ
seen w writer acts =
    firsts (fetch_ends (acted w acts) writer 3 (zeros 128)).block
    ++ (firsts (last_unit 3 (zeros 128) (labels_from w [] acts)) ++ (length (labels_from w [] acts) ∷ []))

-- every refusal in its turn: 5, 1 (a strip that ends inside a block, eight blocks), 4, 6, 8 with one place free, 9
unfoldable pub together : List Asked
together =
    yes (transacts 0 3 (two 1 2) room) ∷ no (transacts 1 7 (two 1 2) room) 5 ∷ yes (transacts 1 6 (fill 9) []) ∷ yes (plain (call (begin 2)))
    ∷ no (transacts 2 3 (two 5 6) room) 6 ∷ no (transacts 0 3 (zeros 100) room) 1 ∷ no (transacts 0 3 (zeros 512) room) 1
    ∷ no (transacts 9 3 (two 5 6) room) 4 ∷ yes (plain (call (reserve 3 24))) ∷ no (transacts 0 3 (two 5 6) room) 8 ∷ yes (transacts 0 6 (fill 7) room)
    ∷ yes (plain (call (abort 3))) ∷ yes (transacts 0 3 (two 5 6) room) ∷ no (transacts 0 0 (two 7 7) []) 9 ∷ []

-- reads: of another writer, of one with an open transaction, of too many homes, of too few bytes; a revise
unfoldable pub looks : List Asked
looks =
    yes (fetches 1 3 (zeros 128)) ∷ yes (fetches 2 3 (zeros 128)) ∷ no (fetches 1 7 (zeros 128)) 5 ∷ no (fetches 1 3 (zeros 65)) 1
    ∷ no (fetches 8 3 (zeros 128)) 4 ∷ yes (revises 2 3 (zeros 128)) ∷ []

unfoldable pub again : Act
again = plain (call (opening (zeros 1024) positions lane))

-- the first transact is flushed, the next is not: a crash loses it, and its label
unfoldable pub flushed_once : List Act
flushed_once = transacts 0 3 (two 1 2) room ∷ plain (call (flush room)) ∷ transacts 1 3 (two 5 6) room ∷ []

unfoldable pub cut : ℕ → List Act
cut passed = plain (crash passed (λ i. false)) ∷ again ∷ []

-- A transact over the end of a group: its first entry is the seventh of a group that persists, the other lies in one that does not. The crash leaves
-- both homes as the transact before left them.
unfoldable pub across_groups : List Act
across_groups =
    transacts 0 3 (two 1 2) room ∷ transacts 1 5 (zeros 192) room ∷ transacts 1 7 (fill 9) room ∷ transacts 0 3 (two 5 6) room
    ∷ plain (crash 3 (λ i. true)) ∷ again ∷ []

-- Under the list of specs/examples/Guarded: writer 1, whose transaction is open, may store to home 3 and read homes 3 and 6, writer 0 store to homes 0 to 2, and
-- writer 2 nothing. One home without the right refuses all.
unfoldable pub with_rights : List Asked
with_rights =
    yes (fetches 1 3 (zeros 64)) ∷ no (fetches 1 3 (zeros 128)) 20 ∷ yes (fetches 1 6 (zeros 64)) ∷ yes (revises 1 3 (zeros 64))
    ∷ no (revises 1 6 (zeros 64)) 19 ∷ no (revises 1 3 (zeros 128)) 19 ∷ no (transacts 1 3 (fill 1) room) 6 ∷ no (transacts 1 3 (two 1 2) room) 19
    ∷ no (transacts 2 3 (fill 1) room) 19 ∷ yes (transacts 0 1 (two 1 2) room) ∷ no (transacts 0 2 (two 1 2) room) 19 ∷ yes (fetches 2 8 (zeros 256))
    ∷ no (transacts 1 11 (fill 1) room) 19 ∷ []

-- what every act answers; what a crash leaves of a unit, with its last transact flushed, lost, and lost in part; what is answered under the list
unfoldable pub moments : List Trial
moments =
    record { yields = answered_by fresh (acts_of (together ++ looks)); paper = numbers_of (together ++ looks) }
    ∷ record { yields = seen fresh 1 (acts_of together); paper = 5 ∷ 6 ∷ 5 ∷ 6 ∷ 4 ∷ [] }
    ∷ record { yields = seen fresh 1 (flushed_once ++ cut 4); paper = 1 ∷ 2 ∷ 1 ∷ 2 ∷ 1 ∷ [] }
    ∷ record { yields = seen fresh 1 (flushed_once ++ cut 3); paper = 0 ∷ 0 ∷ 0 ∷ 0 ∷ 0 ∷ [] }
    ∷ record { yields = seen fresh 1 across_groups; paper = 1 ∷ 2 ∷ 1 ∷ 2 ∷ 3 ∷ [] }
    ∷ record { yields = answered_by guarded (acts_of with_rights); paper = numbers_of with_rights } ∷ []
