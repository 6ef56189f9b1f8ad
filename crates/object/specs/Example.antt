-- Histories on a medium that keeps words, G 4 and D 4, which meet the premises of DemandRunner, DemandTorn and WordsEnough: cuts inside an opening's
-- blanking, inside a group's body, between a body and its first word, and behind a first word that no fence has covered.
use Rattle.std.specs.Prelude.{ℕ, zero, suc, ◌+◌, ◌%◌, ◌≤◌, Bool, true, false, cond, ◌&&◌, ◌||◌, List, [], ◌∷◌, ◌++◌, eqb, leb, ltb, length, take, drop}
use Rattle.model.specs.Bytes.{part, puts, zeros, same}
use Rattle.model.specs.Layout.{group_mark, group_at, group_number, header_start, home_at}
use Rattle.model.specs.Batch.{Record}
use Rattle.model.specs.Effects.{Given, formatted}
use Rattle.model.specs.Calls.{Outcome, open_call}
use Rattle.model.specs.Crash.{Memory, is_fence, fences, persist}
use Rattle.model.specs.History.{Call, opening, confirm, begin, store, commit, flush, call, World, empty_store, ends, after_call, step, after, calls as events, loaded, unopened}
use Rattle.model.specs.DemandThree.{Crashed, Holds}
use Rattle.model.specs.examples.Trials.{room, lane, fill, answer_of}
use Rattle.model.specs.examples.Witnesses.{allowed, filled_with}
use Rattle.theorems.specs.Hidden.{first_writers, next_writers, first_opening}
use Rattle.object.specs.Medium.{Grain, words}
use Rattle.object.specs.Alike.{hole, rewrites, Tearing, plain, torn, tears}
use Rattle.object.specs.Order.{motions, left_of, Left, Completed}
use Rattle.object.specs.Runner.{Doing, calls, cuts}

-- a new format, and its opening
unfoldable pub unformatted : Given
unformatted =
    record { state = []; newest = []; log = zeros 2112; area = zeros 256; block = []; batch = zeros 2474; writer = 0; home = 0 }

unfoldable pub open_again : Call
open_again = opening (zeros 1024) (zeros 32) lane

-- a commit in a group of its own: on words its body, a wait, its first word, a wait
unfoldable pub alone : ℕ → ℕ → List Call
alone home byte = begin 0 ∷ store 0 home (fill byte) room ∷ commit 0 room ∷ flush room ∷ []

unfoldable pub as_doings : List Call → List Doing
as_doings [] = []
as_doings (c ∷ cs) = calls c ∷ as_doings cs

-- every third word, every other one, all
unfoldable pub third : ℕ → Bool
third i = eqb (i % 3) 0

unfoldable pub other : ℕ → Bool
other i = eqb (i % 2) 1

unfoldable pub all : ℕ → Bool
all i = true

-- An opening (wait, header, wait, four blank groups, wait) is cut with two blank groups under way. A commit is confirmed; the next one's body is cut in
-- the middle. After the opening that brings the first back (a home more) a commit is cut between body and first word; after another a commit is cut behind
-- its first word, which has landed.
unfoldable pub history : List Doing
history =
    calls open_again ∷ cuts 5 third
    ∷ (as_doings (open_again ∷ (alone 0 200 ++ (confirm ∷ alone 1 30)))
    ++ (cuts 13 other
    ∷ (as_doings (open_again ∷ alone 3 250)
    ++ (cuts 11 all ∷ (as_doings (open_again ∷ alone 2 140) ++ (cuts 11 all ∷ calls open_again ∷ []))))))

-- what the calls answer: number, figure, bytes of the batch
unfoldable pub opens : ℕ → ℕ → List ℕ
opens back bytes = 0 ∷ back ∷ bytes ∷ []

unfoldable pub gives_alone : ℕ → List ℕ
gives_alone ticket = 0 ∷ 0 ∷ 0 ∷ 0 ∷ 0 ∷ 0 ∷ 0 ∷ ticket ∷ 0 ∷ 0 ∷ 0 ∷ 518 ∷ []

unfoldable pub answered : List ℕ
answered =
    opens 0 2136
    ++ (opens 0 2136
    ++ (gives_alone 57
    ++ (0 ∷ 63 ∷ 0
    ∷ (gives_alone 64 ++ (opens 1 2204 ++ (gives_alone 85 ++ (opens 0 2136 ++ (gives_alone 113 ++ opens 1 2204))))))))

-- The premises as a test. The records up to the last confirmed fence are a front, and the rest.
unfoldable pub up_to : ℕ → List Record → List Record
up_to n [] = []
up_to zero (r ∷ rs) = []
up_to (suc n) (r ∷ rs) = r ∷ up_to (cond (is_fence r) n (suc n)) rs

unfoldable pub behind : ℕ → List Record → List Record
behind n [] = []
behind zero (r ∷ rs) = r ∷ rs
behind (suc n) (r ∷ rs) = behind (cond (is_fence r) n (suc n)) rs

unfoldable pub carried_out : Grain → World → ℕ → Bool
carried_out l w many =
    let front : List Record = up_to w.passed w.pending in
    leb w.passed (fences front) && leb (length (motions l [] front)) many

-- whether a history meets them, its calls answer as listed and the world at its end is as asked; of a cut's book nothing is asked
unfoldable pub runs_to : Grain → World → List Doing → List ℕ → (World → Bool) → Bool
runs_to l w [] answers asked = same answers [] && asked w
runs_to l w (calls c ∷ ds) answers asked =
    let o : Outcome = ends w c in
    allowed w (call c) && same (answer_of o) (take 3 answers) && runs_to l (after_call w c o o.code) ds (drop 3 answers) asked
runs_to l w (cuts many chosen ∷ ds) answers asked =
    carried_out l w many && runs_to l (tears w (torn 0 (λ i. false) (Left l w many chosen))) ds answers asked

unfoldable pub runs_as_listed : Bool
runs_as_listed = runs_to words (empty_store 4 4) history answered (λ w. w.ready && same w.area (filled_with (200 ∷ 0 ∷ 140 ∷ 0 ∷ [])))

-- what DemandRunner then says of it, without premises
abbrev pub Goes : Grain → World → List Doing → Type 0
Goes l w [] = Unit {0}
Goes l w (calls c ∷ ds) = Holds w (call c) × Goes l (step w (call c)) ds
Goes l w (cuts many chosen ∷ ds) =
    (passed : ℕ)
    × (c : ℕ → Bool)
    × (passed ≤ fences w.pending)
    × Completed l w many passed
    × Crashed w passed c
    × Goes l (tears w (torn passed c (Left l w many chosen))) ds

-- The torn memory itself: the second commit of an era with every other word of its body, beside the one that whole blocks would have left

unfoldable pub two_commits : List Call
two_commits = open_again ∷ (alone 0 200 ++ alone 1 30)

unfoldable pub torn_memory : Memory
torn_memory = Left words (after (empty_store 4 4) (events two_commits)) 13 other

unfoldable pub as_tearings : List Call → List Tearing
as_tearings [] = []
as_tearings (c ∷ cs) = plain (call c) ∷ as_tearings cs

unfoldable pub tearings : List Tearing
tearings = as_tearings two_commits ++ (torn 4 (λ i. false) torn_memory ∷ plain (call open_again) ∷ [])

-- Alike as a test
unfoldable pub slots_alike : ℕ → List ℕ → List ℕ → ℕ → Bool
slots_alike groups a b zero = true
slots_alike groups a b (suc n) =
    (same (group_at a n) (group_at b n)
    || (hole groups (header_start b) n (group_at a n) && hole groups (header_start b) n (group_at b n)))
    && slots_alike groups a b n

unfoldable pub numbers_below : ℕ → List ℕ → ℕ → Bool
numbers_below bound a zero = true
numbers_below bound a (suc n) =
    (cond (same (part (group_at a n) 0 2) group_mark) (ltb (group_number (group_at a n)) bound) true) && numbers_below bound a n

unfoldable pub homes_alike : ℕ → ℕ → Memory → Memory → ℕ → Bool
homes_alike groups homes a b zero = true
homes_alike groups homes a b (suc n) =
    (same (home_at a.area n) (home_at b.area n) || rewrites groups homes b.log n) && homes_alike groups homes a b n

unfoldable pub is_alike : ℕ → ℕ → Memory → Memory → Bool
is_alike groups homes a b =
    eqb (length a.log) (length b.log)
    && (eqb (length a.area) (length b.area)
    && (same (part a.log 0 64) (part b.log 0 64)
    && (slots_alike groups a.log b.log groups
    && (numbers_below (header_start b.log + groups) a.log groups && homes_alike groups homes a b homes))))

-- the premises of DemandTorn as a test
unfoldable pub tears_to : ℕ → World → List Tearing → Bool
tears_to groups w [] = true
tears_to groups w (plain e ∷ ts) = allowed w e && tears_to groups (step w e) ts
tears_to groups w (torn passed chosen left ∷ ts) =
    leb w.passed passed && leb passed (fences w.pending)
    && (is_alike groups w.homes left (persist passed chosen w.pending w.memory) && tears_to groups (tears w (torn passed chosen left)) ts)

-- Isolation (D 12): a list of rights is committed, with home 3 (crates/theorems/specs/Hidden), and every other word of the next commit's body is torn. After the
-- opening that brings the list back home 4, which writer 1 may not read, gets byte a, and then all are at work.
unfoldable pub ruled : List Call
ruled =
    first_opening ∷ begin 0 ∷ store 0 3 (fill 5) room ∷ store 0 8 first_writers room ∷ store 0 9 next_writers room ∷ commit 0 room ∷ flush room
    ∷ alone 3 30

unfoldable pub ruled_memory : Memory
ruled_memory = Left words (after (empty_store 4 12) (events ruled)) 13 other

unfoldable pub ruled_torn : List Tearing
ruled_torn = as_tearings ruled ++ (torn 4 (λ i. false) ruled_memory ∷ plain (call first_opening) ∷ [])

unfoldable pub hides : ℕ → List Call
hides a = begin 0 ∷ store 0 4 (fill a) room ∷ commit 0 room ∷ []

unfoldable pub ruled_then : ℕ → List Tearing
ruled_then a = ruled_torn ++ as_tearings (hides a)

-- the memories that whole blocks would have left are others
unfoldable pub whole_after : ℕ → List Call → Memory
whole_after homes cs = let w : World = after (empty_store 4 homes) (events cs) in persist 4 (λ i. false) w.pending w.memory

-- A format over a store whose header is refused for a damage behind its first words, cut after two motions: a word of zeros that landed on the damage alone
-- would heal it, and the old store would open.
unfoldable pub damaged : Memory
damaged = record { log = puts (empty_store 4 4).memory.log 20 (1 ∷ []); area = zeros 256 }

unfoldable pub healing : Memory
healing = left_of words (formatted 4 4) damaged 2 (λ i. eqb i 3)

unfoldable pub opens_with : Memory → ℕ
opens_with m = (open_call (loaded (unopened 4 m) (zeros 1024) (zeros 32) lane)).code
