-- Histories with torn groups and a cut inside blanking (request e), G 4 and D 4: "Demand 3 must hold with each 64-byte block landing or not by itself,
-- blanking included". A crash chooses pieces by number; a group write has eight, its metadata first. Bytes from 128 on have the bit that a turn bit
-- displaces.
use Rattle.std.specs.Prelude.{ℕ, ◌%◌, Bool, false, ◌&&◌, List, [], ◌∷◌, ◌++◌, eqb, leb, ltb}
use Rattle.model.specs.Bytes.{zeros}
use Rattle.model.specs.History.{opening, begin, store, commit, flush, settle, trim, World, empty_store}
use Rattle.model.specs.examples.Lines.{Line, cut, does, gives, events_of, answers_of}
use Rattle.model.specs.examples.Trials.{room, lane, fill}
use Rattle.model.specs.examples.Witnesses.{ends_so, goes_onto}

-- an opening, with the commits that it brings back and the bytes that it writes
unfoldable pub opens : ℕ → ℕ → Line
opens back size = gives (opening (zeros 1024) (zeros 32) lane) back size

-- a commit in a group of its own, and its ticket
unfoldable pub alone : ℕ → ℕ → ℕ → List Line
alone home byte ticket =
    does (begin 0) ∷ does (store 0 home (fill byte) room) ∷ gives (commit 0 room) ticket 0 ∷ gives (flush room) 0 518 ∷ []

-- a commit of two homes in a group of its own, and its ticket: metadata and data blocks 0 and 1, pieces 0 to 2
unfoldable pub both : ℕ → ℕ → ℕ → List Line
both first second ticket =
    does (begin 1) ∷ does (store 1 0 (fill first) room) ∷ does (store 1 1 (fill second) room) ∷ gives (commit 1 room) ticket 0 ∷ gives (flush room) 0 518 ∷ []

-- every line answers as it says, and the world after them is asked; its commits and homes
unfoldable pub reads_to : World → List Line → (World → Bool) → Bool
reads_to w lines asked = goes_onto w (events_of lines) (answers_of lines) asked

unfoldable pub reads_thus : World → List Line → ℕ → List ℕ → Bool
reads_thus w lines commits homes = reads_to w lines (λ v. ends_so v commits homes)

-- A group over blanking. Two commits; of the second one's group the pieces that a choice has.
unfoldable pub two_commits : List Line
two_commits = opens 0 2136 ∷ (alone 0 200 29 ++ both 255 30 37)

unfoldable pub tears_to : World → (ℕ → Bool) → ℕ → ℕ → List ℕ → Bool
tears_to w chosen back size homes = reads_thus w (cut 4 chosen ∷ opens back size ∷ []) back homes

-- metadata and a data block, the other not; the data, the metadata not: the commit before it comes back
unfoldable pub metadata_without_block : World → Bool
metadata_without_block w = tears_to w (λ i. ltb i 2) 1 2204 (200 ∷ 0 ∷ 0 ∷ 0 ∷ [])

unfoldable pub blocks_without_metadata : World → Bool
blocks_without_metadata w = tears_to w (λ i. leb 1 i) 1 2204 (200 ∷ 0 ∷ 0 ∷ 0 ∷ [])

-- metadata and both data blocks, the group's other five not: both come back, each block with its own top bit
unfoldable pub entries_landed : World → Bool
entries_landed w = tears_to w (λ i. ltb i 3) 2 2272 (255 ∷ 30 ∷ 0 ∷ 0 ∷ [])

unfoldable pub commits_two : Bool
commits_two =
    reads_to (empty_store 4 4) two_commits
    (λ w. ends_so w 2 (0 ∷ 0 ∷ 0 ∷ 0 ∷ []) && metadata_without_block w && blocks_without_metadata w && entries_landed w)

-- Groups 4 to 6 and, after a trim to group 7, groups 7 to 9, of which the last two lie in ring slots used before
unfoldable pub wrapping : List Line
wrapping =
    opens 0 2136
    ∷ (alone 0 200 29 ++ (alone 1 30 36 ++ (alone 0 201 43 ++ (gives (settle room) 0 138 ∷ gives (trim room) 0 68 ∷ alone 2 140 50))))

-- A group over an older one of the same era: group 8 over group 4. In the next era, which starts at group 11, group 12 is torn, in a slot whose turn is
-- another than the start's.
unfoldable pub reusing : List Line
reusing =
    both 255 131 58
    ++ (cut 9 (λ i. ltb i 2) ∷ opens 1 2204 ∷ (alone 3 250 78 ++ (both 99 98 86 ++ (cut 4 (λ i. ltb i 2) ∷ opens 1 2204 ∷ []))))

unfoldable pub reuses_so : World → Bool
reuses_so w = reads_thus w reusing 5 (201 ∷ 30 ∷ 140 ∷ 250 ∷ [])

-- An opening cut before its head landed, so that nothing of the next stretches can have; one cut with its head landed and every third block of the
-- blanking; one that is done. Every commit is there, and the era after works: one commit stays, a torn one does not.
unfoldable pub cutting : List Line
cutting =
    alone 0 255 57
    ++ (alone 1 131 64 ++ (cut 11 (λ i. false) ∷ opens 3 2340 ∷ cut 1 (λ i. leb 9 i) ∷ opens 3 2340 ∷ cut 2 (λ i. eqb (i % 3) 0) ∷ opens 0 2136
    ∷ (alone 3 250 106 ++ (both 99 98 114 ++ (cut 4 (λ i. ltb i 2) ∷ opens 1 2204 ∷ [])))))

unfoldable pub cuts_so : World → Bool
cuts_so w = reads_thus w cutting 7 (255 ∷ 131 ∷ 140 ∷ 250 ∷ [])

unfoldable pub wraps_so : Bool
wraps_so = reads_to (empty_store 4 4) wrapping (λ w. ends_so w 4 (201 ∷ 30 ∷ 0 ∷ 0 ∷ []) && reuses_so w && cuts_so w)

unfoldable pub tears_so : Bool
tears_so = commits_two && wraps_so
