-- A history that meets the premises, so that the claims over all histories are not empty.
use Rattle.std.specs.Prelude.{ℕ, ◌+◌, ◌*◌, Bool, true, false, not, ◌&&◌, List, [], ◌∷◌, ◌++◌, eqb, leb, ltb, length, take, drop, replicate}
use Rattle.model.specs.Bytes.{puts, zeros, same}
use Rattle.model.specs.Layout.{header}
use Rattle.model.specs.Batch.{read_batch}
use Rattle.model.specs.Effects.{Given}
use Rattle.model.specs.Calls.{Outcome, format_call, open_call}
use Rattle.model.specs.Crash.{Memory, fences, persist}
use Rattle.model.specs.History.{Call, opening, begin, abort, store, commit, flush, confirm, settle, trim, read, Event, call, crash, World, unopened, empty_store, loaded, ends, is_opening, after_call, step}
use Rattle.model.specs.examples.Lines.{Line, cut, does, gives, refuses, events_of, answers_of}
use Rattle.model.specs.examples.Trials.{room, lane, fill, answer_of, positions}

-- A format over a store in use, with copies of the same: a header that opens, bytes of 255 elsewhere.
unfoldable pub used_before : Memory
used_before = record { log = puts (replicate (64 + 512 * 4) 255) 0 (header 8 4 8); area = replicate (64 * 8) 255 }

unfoldable pub used_copies : Given
used_copies =
    record { state = []; newest = []; log = used_before.log; area = used_before.area; block = []; batch = zeros 2746; writer = 0; home = 0 }

-- what its train leaves after some fences, with all or none of the writes up to the next
unfoldable pub format_leaves : ℕ → Bool → Memory
format_leaves passed all = let o : Outcome = format_call used_copies in persist passed (λ i. all) (read_batch (take o.size o.batch)) used_before

-- what an opening of a memory answers
unfoldable pub opens_with : Memory → ℕ
opens_with m = (open_call (loaded (unopened 8 m) (zeros 1024) positions lane)).code

-- landed whole, it is the empty store, and the copies hold the same; cut, it is the old store, none that opens, or the new one
unfoldable pub formats_so : Bool
formats_so =
    let o : Outcome = format_call used_copies in
    let m : Memory = format_leaves 3 false in
    same m.log (empty_store 4 8).memory.log && same m.area (zeros (64 * 8)) && same o.log m.log && same o.area m.area
    && same
    (opens_with (format_leaves 0 false) ∷ opens_with (format_leaves 0 true) ∷ opens_with (format_leaves 1 false) ∷ opens_with (format_leaves 1 true)
    ∷ opens_with (format_leaves 2 false) ∷ opens_with (format_leaves 2 true) ∷ opens_with m ∷ [])
    (0 ∷ 3 ∷ 3 ∷ 3 ∷ 3 ∷ 0 ∷ 0 ∷ [])

-- the premises as a test
unfoldable pub alike : Bool → Bool → Bool
alike true b = b
alike false b = not b

unfoldable pub allowed : World → Event → Bool
allowed w (call c) = alike (is_opening c) (not w.ready)
allowed w (crash passed chosen) = leb w.passed passed && leb passed (fences w.pending)

unfoldable pub open_again : Call
open_again = opening (zeros 1024) positions lane

unfoldable pub reopen : Event
reopen = call open_again

-- Two eras with every call of document 01, every refusal number of it that a history can meet (1 and 4 to 9; strip and header stay in order, and 10
-- needs 2^47 groups), a confirm, settles, trims, a ring that wraps, a crash that loses one group of two, and a crash inside an opening. Promised
-- places are in specs/examples/Reservations, torn groups in specs/examples/Tears.

-- two refused openings and a done one; refusals
unfoldable pub refusals : List Line
refusals =
    refuses (opening [] positions lane) 1 ∷ refuses (opening (zeros 1024) positions []) 9 ∷ gives open_again 0 2136 ∷ refuses (begin 8) 4 ∷ does (begin 0)
    ∷ refuses (begin 0) 6 ∷ refuses (store 0 8 (fill 1) room) 5 ∷ refuses (store 1 0 (fill 1) room) 7 ∷ refuses (store 0 0 [] room) 1
    ∷ does (read 0 0 (zeros 64)) ∷ []

-- writer 0 fills group 4, which is not fenced yet: nothing to settle, nothing to trim
unfoldable pub seven : List Line
seven =
    does (store 0 0 (fill 9) room) ∷ does (store 0 1 (fill 9) room) ∷ does (store 0 2 (fill 9) room) ∷ does (store 0 3 (fill 9) room)
    ∷ does (store 0 4 (fill 9) room) ∷ does (store 0 5 (fill 9) room) ∷ does (store 0 6 (fill 9) room) ∷ gives (commit 0 room) 35 516
    ∷ gives (settle room) 0 2 ∷ does (trim room) ∷ []

-- a commit in a group of its own, and its ticket
unfoldable pub alone : ℕ → ℕ → ℕ → List Line
alone home byte ticket =
    does (begin 0) ∷ does (store 0 home (fill byte) room) ∷ gives (commit 0 room) ticket 0 ∷ gives (flush room) 0 518 ∷ []

-- the log is full, until it is settled and trimmed; writer 1's commit then takes the first ring slot again
unfoldable pub wraps : List Line
wraps =
    does (begin 1) ∷ does (store 1 4 (fill 14) room) ∷ refuses (commit 1 room) 8 ∷ gives confirm 56 0 ∷ refuses (settle []) 9 ∷ gives (settle room) 0 478
    ∷ gives (trim room) 0 68 ∷ gives (commit 1 room) 57 0 ∷ []

-- writer 0's commit lies in two groups, of which the crash loses the second
unfoldable pub loses : List Line
loses =
    does (begin 0) ∷ does (store 0 0 (fill 7) room) ∷ does (store 0 1 (fill 7) room) ∷ does (store 0 2 (fill 7) room) ∷ does (store 0 3 (fill 7) room)
    ∷ does (store 0 4 (fill 7) room) ∷ does (store 0 5 (fill 7) room) ∷ refuses (store 0 6 (fill 7) (zeros 515)) 9 ∷ gives (store 0 6 (fill 7) room) 0 516
    ∷ does (store 0 7 (fill 7) room) ∷ gives (commit 0 room) 65 0 ∷ gives (flush room) 0 518 ∷ refuses (abort 0) 7 ∷ cut 9 (λ i. ltb i 8) ∷ []

-- a refused opening, one whose header is lost, and the second era
unfoldable pub again : List Line
again =
    refuses (opening (zeros 1024) positions []) 9 ∷ gives open_again 1 2204 ∷ cut 1 (λ i. false) ∷ gives open_again 1 2204 ∷ does (begin 2) ∷ does (abort 2)
    ∷ does (begin 0) ∷ does (store 0 4 (fill 20) room) ∷ gives (commit 0 room) 85 0 ∷ gives (flush room) 0 518 ∷ gives confirm 91 0 ∷ cut 4 (λ i. false)
    ∷ gives open_again 1 2204 ∷ []

unfoldable pub history_lines : List Line
history_lines = refusals ++ (seven ++ (alone 0 10 36 ++ (alone 1 11 43 ++ (alone 2 12 50 ++ (wraps ++ (loses ++ again))))))

unfoldable pub history : List Event
history = events_of history_lines

-- those of a call without figure and batch
unfoldable pub plain : List ℕ → List ℕ
plain [] = []
plain (n ∷ ns) = n ∷ 0 ∷ 0 ∷ plain ns

-- what its calls answer
unfoldable pub answered : List ℕ
answered = answers_of history_lines

-- eight homes, each of one byte throughout
unfoldable pub filled_with : List ℕ → List ℕ
filled_with [] = []
filled_with (b ∷ bs) = fill b ++ filled_with bs

-- whether a history meets the premises, each call answers the number, figure and batch length that are listed, and the world at its end is as asked. A
-- call's outcome is named, so that it is computed once.
unfoldable pub goes_onto : World → List Event → List ℕ → (World → Bool) → Bool
goes_onto w [] answers asked = same answers [] && asked w
goes_onto w (call c ∷ es) answers asked =
    let o : Outcome = ends w c in
    allowed w (call c) && same (answer_of o) (take 3 answers) && goes_onto (after_call w c o o.code) es (drop 3 answers) asked
goes_onto w (crash passed chosen ∷ es) answers asked = allowed w (crash passed chosen) && goes_onto (step w (crash passed chosen)) es answers asked

-- an opening is done, the book has so many commits and the data copy so many bytes a home
unfoldable pub ends_so : World → ℕ → List ℕ → Bool
ends_so w commits homes = w.ready && eqb (length w.book.commits) commits && same w.area (filled_with homes)

unfoldable pub goes_so : World → List Event → List ℕ → ℕ → List ℕ → Bool
goes_so w es answers commits homes = goes_onto w es answers (λ v. ends_so v commits homes)

-- six commits survive; of the lost one nothing stays
unfoldable pub goes_as_listed : Bool
goes_as_listed = goes_so (empty_store 4 8) history answered 6 (10 ∷ 11 ∷ 12 ∷ 9 ∷ 20 ∷ 9 ∷ 9 ∷ 0 ∷ [])

-- an opening of a new format is done with more groups too
unfoldable pub opens_larger : List ℕ
opens_larger = answer_of (ends (empty_store 5 1) (opening (zeros 1024) (zeros 8) lane))
