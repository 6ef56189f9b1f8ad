-- What is kept for homes, and what is read of them, along a history with two writers, a trim, a crash and an opening; over damage, and with a wrong length.
use Rattle.std.specs.Prelude.{ℕ, false, List, [], ◌∷◌, get_or}
use Rattle.model.specs.Bytes.{zeros}
use Rattle.model.specs.Newest.{no_position, kept_for, keep}
use Rattle.model.specs.Effects.{Given}
use Rattle.model.specs.Calls.{commit_call, trim_call, read_call}
use Rattle.model.specs.History.{begin, store, commit, flush, settle, trim, World, crash, step}
use Rattle.model.specs.examples.Trials.{room, fill, goes, fresh, read_of, Trial}
use Rattle.model.specs.examples.Witnesses.{reopen}

-- A history (G 4, D 8, positions from 28 on): what is kept for homes 3, 4, 6 and 7, and what a writer with nothing open reads of them.
unfoldable pub seen_of : World → List ℕ → List ℕ
seen_of w [] = []
seen_of w (h ∷ hs) = kept_for w.newest h ∷ read_of w 5 h ∷ seen_of w hs

-- trial 3's order: A's entry for home 3 comes before B's, and A commits after B, so that the kept position goes down
unfoldable pub first_commits : World
first_commits = goes fresh (begin 0 ∷ begin 1 ∷ store 0 3 (fill 65) room ∷ store 0 4 (fill 66) room ∷ store 1 3 (fill 67) room ∷ commit 1 room ∷ [])

unfoldable pub both_commit : World
both_commit = goes first_commits (commit 0 room ∷ [])

-- in the next group a transaction with two entries for home 6, and an entry for it in one that stays open
unfoldable pub next_group : World
next_group =
    goes both_commit
    (flush room ∷ begin 2 ∷ store 2 6 (fill 70) room ∷ store 2 7 (fill 71) room ∷ store 2 6 (fill 72) room ∷ commit 2 room ∷ begin 3
    ∷ store 3 6 (fill 73) room ∷ store 3 0 (fill 74) room ∷ [])

-- a trim of the first group; a crash after a flush, all of it persisted, and an opening
unfoldable pub first_trimmed : World
first_trimmed = goes next_group (settle room ∷ trim room ∷ [])

unfoldable pub opened_again : World
opened_again = step (step (goes first_trimmed (flush room ∷ [])) (crash 7 (λ i. false))) reopen

unfoldable pub listed : List ℕ
listed = 3 ∷ 4 ∷ 6 ∷ 7 ∷ []

-- what a call for a home is lent, with other newest positions
unfoldable pub lent_other : World → List ℕ → ℕ → Given
lent_other w newest home =
    record { state = w.state; newest = newest; log = w.log; area = w.area; block = zeros 64; batch = room; writer = 5; home = home }

-- what a read of a home shows where another position is kept for it
unfoldable pub shows_at : World → ℕ → ℕ → ℕ
shows_at w home position = get_or (read_call (lent_other w (keep w.newest home position) home)).block 0 0

-- Over the trimmed log: an entry for another home, one below the start, a place with no entry, none: the data copy. Entries for the home, committed or
-- not: theirs.
unfoldable pub over_damage : List ℕ
over_damage =
    let w : World = first_trimmed in
    shows_at w 6 36 ∷ shows_at w 3 29 ∷ shows_at w 6 39 ∷ shows_at w 6 no_position ∷ shows_at w 6 35 ∷ shows_at w 6 38 ∷ []

-- "question 1 covers its length": what commit, trim and read answer with another length
unfoldable pub wrong_length : List ℕ
wrong_length = let g : Given = lent_other fresh (zeros 63) 0 in (commit_call g).code ∷ (trim_call g).code ∷ (read_call g).code ∷ []

-- what is kept and read at each moment, over damage and with another length; of writer 3's own blocks the newest
unfoldable pub moments : List Trial
moments =
    record { yields = seen_of first_commits listed; paper = 29 ∷ 67 ∷ no_position ∷ 0 ∷ no_position ∷ 0 ∷ no_position ∷ 0 ∷ [] }
    ∷ record { yields = seen_of both_commit listed; paper = 28 ∷ 65 ∷ 30 ∷ 66 ∷ no_position ∷ 0 ∷ no_position ∷ 0 ∷ [] }
    ∷ record { yields = seen_of next_group listed; paper = 28 ∷ 65 ∷ 30 ∷ 66 ∷ 37 ∷ 72 ∷ 36 ∷ 71 ∷ [] }
    ∷ record { yields = read_of next_group 3 6 ∷ read_of next_group 3 0 ∷ []; paper = 73 ∷ 74 ∷ [] }
    ∷ record { yields = seen_of first_trimmed listed; paper = no_position ∷ 65 ∷ no_position ∷ 66 ∷ 37 ∷ 72 ∷ 36 ∷ 71 ∷ [] }
    ∷ record { yields = seen_of opened_again listed; paper = no_position ∷ 65 ∷ no_position ∷ 66 ∷ no_position ∷ 72 ∷ no_position ∷ 71 ∷ [] }
    ∷ record { yields = over_damage; paper = 0 ∷ 65 ∷ 0 ∷ 0 ∷ 70 ∷ 73 ∷ [] } ∷ record { yields = wrong_length; paper = 1 ∷ 1 ∷ 1 ∷ [] } ∷ []
