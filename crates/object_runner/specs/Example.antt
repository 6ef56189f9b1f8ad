-- Moments of histories that meet the premise of RunnerMoves, on words (G 4, D 8): a flush with two first words due, a trim with one, an opening that brings
-- homes back, and a format.
use Rattle.std.specs.Prelude.{ℕ, Bool, true, false, ◌&&◌, List, [], ◌∷◌, ◌++◌, leb, length}
use Rattle.model.specs.Calls.{Outcome}
use Rattle.model.specs.Crash.{fences}
use Rattle.model.specs.DemandThree.{Crashed, Holds}
use Rattle.model.specs.History.{Call, begin, store, commit, flush, settle, confirm, call, crash, World, empty_store, ends, after_call, step, after, calls}
use Rattle.model.specs.examples.Trials.{room, fill}
use Rattle.model.specs.examples.Witnesses.{open_again, allowed}
use Rattle.object.specs.Medium.{Grain, words}
use Rattle.object.specs.Alike.{Tearing, torn, tears}
use Rattle.object.specs.Order.{Motion, motions, Left}
use Rattle.object.specs.Runner.{Doing, calls as runs, cuts}
use Rattle.object.specs.Example.{open_again as open_small, two_commits as two_groups, as_tearings, torn_memory, alone, as_doings, other}
use Rattle.object_runner.specs.Next.{cursor}
use Rattle.object_runner.specs.Moves.{Hands, waiting_after, Due}
use Rattle.object_runner.specs.Always.{batch_of, records_of, next_of, headed_before}
use Rattle.object_runner.specs.Carries.{headed_for, least_after, left_under}

-- seven entries in one transaction: a group full, which is submitted
unfoldable pub fills : ℕ → List Call
fills byte =
    begin 0 ∷ store 0 0 (fill byte) room ∷ store 0 1 (fill byte) room ∷ store 0 2 (fill byte) room ∷ store 0 3 (fill byte) room ∷ store 0 4 (fill byte) room
    ∷ store 0 5 (fill byte) room ∷ store 0 6 (fill byte) room ∷ commit 0 room ∷ []

unfoldable pub two_commits : List Call
two_commits = open_again ∷ (fills 9 ++ (begin 0 ∷ store 0 0 (fill 10) room ∷ commit 0 room ∷ []))

-- a group that a commit has filled waits for its first word, and a flush submits the next one and fences both
unfoldable pub before : World
before = after (empty_store 4 8) (calls two_commits)

-- a group is settled, the next one waits, and a trim's header and fence come
unfoldable pub settled : World
settled = after (empty_store 4 8) (calls (open_again ∷ (fills 9 ++ (flush room ∷ settle room ∷ fills 10))))

-- power has gone with all fences passed
unfoldable pub reopened : World
reopened = after (empty_store 4 8) (calls (open_again ∷ (fills 9 ++ (flush room ∷ []))) ++ (crash 4 (λ i. false) ∷ []))

abbrev pub DueAt : World → Call → Type 0
DueAt w c = Due words 4 (ends w c).log (next_of (ends w c)) (headed_before w c) (waiting_after words [] w.pending) (records_of (ends w c))

-- the runner's number, the next group, the first words that wait, records and fences of the batch
unfoldable pub figures : World → Call → List ℕ
figures w c =
    headed_before w c ∷ next_of (ends w c) ∷ length (waiting_after words [] w.pending) ∷ length (records_of (ends w c)) ∷ fences (records_of (ends w c)) ∷ []

-- A history for DueAlways (G 4, D 4): the second of two groups is cut with every other word of its body. Then an opening comes.
unfoldable pub torn_front : List Tearing
torn_front = as_tearings two_groups ++ (torn 4 (λ i. false) torn_memory ∷ [])

-- A history for RunnerCarries (G 4, D 4): a commit is confirmed, the next one's group is cut in the middle of its body, and the first comes back.
unfoldable pub cut_short : List Doing
cut_short = as_doings (open_small ∷ (alone 0 200 ++ (confirm ∷ alone 1 30))) ++ (cuts 13 other ∷ runs open_small ∷ [])

-- its premises as a test; of a cut's book nothing is asked
unfoldable pub may_carry : Grain → World → ℕ → List Doing → Bool
may_carry l w least [] = true
may_carry l w least (runs c ∷ ds) =
    let o : Outcome = ends w c in
    allowed w (call c) && may_carry l (after_call w c o o.code) (least_after c o (motions l [] w.pending) least) ds
may_carry l w least (cuts many chosen ∷ ds) = leb least many && may_carry l (tears w (torn 0 (λ i. false) (Left l w many chosen))) 0 ds

-- what RunnerCarries then says of it, without premises
module _ (l : Grain) (groups homes : ℕ) where
  abbrev pub Goes : World → ℕ → List Motion → List Doing → Type 0
  Goes w headed handed [] = Unit {0}
  Goes w headed handed (runs c ∷ ds) =
      let o : Outcome = ends w c in
      Holds w (call c)
      × (actions : List Motion)
      × (on : ℕ)
      × Hands l groups homes (next_of o) (batch_of o) o.log (cursor 0 (headed_for c o headed) 0) actions on
      × Goes (step w (call c)) on (handed ++ actions) ds
  Goes w headed handed (cuts many chosen ∷ ds) =
      (passed : ℕ)
      × (c : ℕ → Bool)
      × Crashed w passed c
      × Goes (tears w (torn passed c (left_under l w.memory handed many chosen))) 0 [] ds
