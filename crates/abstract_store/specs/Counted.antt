-- Places counted: in the end of the history with promised places, and after a drain. Which places are live, dead and free by the ledger, and what usage
-- tells of them.
use Rattle.std.specs.Prelude.{ℕ, ◌-◌, ◌*◌, Bool, List, [], ◌∷◌, length}
use Rattle.model.specs.Bytes.{same, zeros}
use Rattle.model.specs.History.{begin, store, commit, flush, settle, trim, Event, call, World, empty_store, ends, step}
use Rattle.model.specs.examples.Trials.{room, fill}
use Rattle.model.specs.History.{calls}
use Rattle.model.specs.examples.Witnesses.{reopen}
use Rattle.model.specs.examples.Reservations.{reserving}
use Rattle.abstract_store.specs.Store.{Store, new_store, follow, places_left, next_of, flush_bytes, settle_bytes, trim_bytes}
use Rattle.abstract_store.specs.Places.{Fate, live, dead, free, enter_event, many, drained, LongEnough}
use Rattle.abstract_store.specs.Usage.{Usage, told_at}

-- the live, the dead and the free places after a history, and the places in the ledger: writer 1's three and the committed one, writer 0's aborted one and the three passed over
unfoldable pub counts : World → Store → List Fate → List Event → List ℕ
counts w s fs [] =
    many s fs live (7 * s.start) (7 * s.groups) ∷ many s fs dead (7 * s.start) (7 * s.groups) ∷ many s fs free (7 * s.start) (7 * s.groups)
    ∷ length fs ∷ []
counts w s fs (e ∷ es) = counts (step w e) (follow s w e) (enter_event s w e fs) es

unfoldable pub counts_so : Bool
counts_so = same (counts (empty_store 4 8) (new_store 4 8) [] reserving) (4 ∷ 4 ∷ 20 ∷ 8 ∷ [])

-- what usage tells then: the same three, all free places promised to writer 0, and writer 1's transaction, which begins at the log's start
unfoldable pub usage_after : World → List Event → Usage
usage_after w [] = told_at w
usage_after w (e ∷ es) = usage_after (step w e) es

unfoldable pub numbers_of : Usage → List ℕ
numbers_of u = u.code ∷ u.live ∷ u.dead ∷ u.free ∷ u.promised ∷ u.holder ∷ u.first ∷ []

unfoldable pub usage_so : Bool
usage_so = same (numbers_of (usage_after (empty_store 4 8) reserving)) (0 ∷ 4 ∷ 4 ∷ 20 ∷ 20 ∷ 1 ∷ 28 ∷ [])

-- A drain of a log with one commit in a part-filled group (positions from 28 on), with batches as long as the abstract store says and no longer: the log
-- starts at its next position, and all 28 places are free; 518, 70 and 68 bytes are enough; with one byte less each of the three calls answers 9.
unfoldable pub drains_at : World → Store → List Event → List ℕ
drains_at w s [] =
    let first : List ℕ = zeros (flush_bytes s) in
    let w₁ : World = step w (call (flush first)) in
    let s₁ : Store = follow s w (call (flush first)) in
    let second : List ℕ = zeros (settle_bytes s₁) in
    let w₂ : World = step w₁ (call (settle second)) in
    let s₂ : Store = follow s₁ w₁ (call (settle second)) in
    let third : List ℕ = zeros (trim_bytes s₂) in
    let d : Store = drained w s first second third in
    places_left d ∷ next_of d ∷ 7 * d.start ∷ flush_bytes s ∷ settle_bytes s₁ ∷ trim_bytes s₂ ∷ (ends w (flush (zeros (flush_bytes s - 1)))).code
    ∷ (ends w₁ (settle (zeros (settle_bytes s₁ - 1)))).code ∷ (ends w₂ (trim (zeros (trim_bytes s₂ - 1)))).code ∷ []
drains_at w s (e ∷ es) = drains_at (step w e) (follow s w e) es

unfoldable pub one_commit : List Event
one_commit = reopen ∷ calls (begin 0 ∷ store 0 1 (fill 1) room ∷ commit 0 room ∷ [])

unfoldable pub drains_so : Bool
drains_so = same (drains_at (empty_store 4 8) (new_store 4 8) one_commit) (28 ∷ 35 ∷ 35 ∷ 518 ∷ 70 ∷ 68 ∷ 9 ∷ 9 ∷ 9 ∷ [])

-- so such batches meet the premise of `Drains`: the settle of one home of eight asks for that home alone
abbrev pub EnoughAt : World → Store → List Event → Type 0
EnoughAt w s [] = LongEnough w s (zeros 518) (zeros 70) (zeros 68)
EnoughAt w s (e ∷ es) = EnoughAt (step w e) (follow s w e) es
