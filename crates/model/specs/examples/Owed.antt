-- Which commits are owed along a history (G 4, D 8, positions from 28 on): "every commit confirmed durable before, and all that an earlier opening
-- brought back". Of each commit of the book its ticket, and 1 if it is owed.
use Rattle.std.specs.Prelude.{ℕ, false, cond, List, [], ◌∷◌, ◌++◌}
use Rattle.model.specs.Book.{Commit}
use Rattle.model.specs.History.{Call, begin, store, commit, flush, confirm, settle, trim, World, crash, row_fates, step}
use Rattle.model.specs.DemandThree.{lost}
use Rattle.model.specs.examples.Trials.{room, fill, goes, fresh, Trial}
use Rattle.model.specs.examples.Witnesses.{reopen}

unfoldable pub owed_in : List Commit → List ℕ
owed_in [] = []
owed_in (c ∷ cs) = c.ticket ∷ cond c.owed 1 0 ∷ owed_in cs

unfoldable pub commits_of : World → List ℕ
commits_of w = owed_in w.book.commits

unfoldable pub commit_at : ℕ → List Call
commit_at home = begin 0 ∷ store 0 home (fill 9) room ∷ commit 0 room ∷ []

-- two commits in group 4, of which a flush makes neither owed; confirmed, both; one in group 5, flushed, settled and trimmed, but not confirmed
unfoldable pub two : World
two = goes fresh (commit_at 1 ++ (commit_at 2 ++ (flush room ∷ [])))

unfoldable pub confirmed : World
confirmed = goes two (confirm ∷ [])

unfoldable pub three : World
three = goes confirmed (commit_at 3 ++ (flush room ∷ settle room ∷ trim room ∷ []))

-- a confirm before the group's fence: its mark is below the ticket
unfoldable pub early : World
early = goes confirmed (commit_at 3 ++ (confirm ∷ []))

-- a cut that loses the third, and one that does not: its opening makes all that it brought back owed, and the tickets have ended
unfoldable pub cut_early : World
cut_early = step (goes confirmed (commit_at 3 ++ (flush room ∷ []))) (crash 4 (λ i. false))

unfoldable pub cut_late : World
cut_late = step three (crash 7 (λ i. false))

unfoldable pub brought_back : World
brought_back = step cut_late reopen

-- the commits that the cuts take: the third, none
unfoldable pub taken : List ℕ
taken =
    let w : World = goes confirmed (commit_at 3 ++ (flush room ∷ [])) in
    owed_in (lost (row_fates w 4 (λ i. false)) w.book.commits) ++ owed_in (lost (row_fates w 5 (λ i. false)) w.book.commits)

unfoldable pub moments : List Trial
moments =
    record { yields = commits_of two; paper = 29 ∷ 0 ∷ 30 ∷ 0 ∷ [] } ∷ record { yields = commits_of confirmed; paper = 29 ∷ 1 ∷ 30 ∷ 1 ∷ [] }
    ∷ record { yields = commits_of three; paper = 29 ∷ 1 ∷ 30 ∷ 1 ∷ 36 ∷ 0 ∷ [] } ∷ record { yields = commits_of early; paper = 29 ∷ 1 ∷ 30 ∷ 1 ∷ 36 ∷ 0 ∷ [] }
    ∷ record { yields = commits_of cut_early; paper = 0 ∷ 1 ∷ 0 ∷ 1 ∷ [] } ∷ record { yields = commits_of cut_late; paper = 0 ∷ 1 ∷ 0 ∷ 1 ∷ 0 ∷ 0 ∷ [] }
    ∷ record { yields = commits_of brought_back; paper = 0 ∷ 1 ∷ 0 ∷ 1 ∷ 0 ∷ 1 ∷ [] } ∷ record { yields = taken; paper = 36 ∷ 0 ∷ [] } ∷ []
