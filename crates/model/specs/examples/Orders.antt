-- What stands in a batch, in which order; the bytes that an opening leaves in every ring slot; what trim does to F, the header and kept positions; a commit
-- whose predecessor is lost. G 4, D 8, positions from 28 on.
use Rattle.std.specs.Prelude.{ℕ, ◌+◌, true, false, cond, not, List, [], ◌∷◌, ◌++◌, ltb, take, get_or}
use Rattle.model.specs.Bytes.{same}
use Rattle.model.specs.Layout.{header_start, group_at}
use Rattle.model.specs.Batch.{Record, GW, HW, KW, FN, read_batch}
use Rattle.model.specs.State.{State, state_of}
use Rattle.model.specs.Newest.{no_position, kept_for}
use Rattle.model.specs.Calls.{Outcome, format_call}
use Rattle.model.specs.History.{begin, abort, store, commit, flush, confirm, settle, begin_round, step_round, trim, World, call, crash, ends, step}
use Rattle.model.specs.examples.Trials.{room, fill, goes, fresh, reopened, turn_bytes, unformatted, Trial}
use Rattle.model.specs.examples.Witnesses.{open_again, reopen}

-- a record as a number: ring slot, home, start; and the byte that a home's block begins with
unfoldable pub number_of : Record → List ℕ
number_of (GW slot group) = (100 + slot) ∷ []
number_of (HW home block) = (200 + home) ∷ get_or block 0 0 ∷ []
number_of (KW header) = (300 + header_start header) ∷ []
number_of FN = 400 ∷ []

unfoldable pub each_among : List Record → List ℕ
each_among [] = []
each_among (r ∷ rs) = number_of r ++ each_among rs

unfoldable pub records_of : Outcome → List ℕ
records_of o = each_among (read_batch (take o.size o.batch))

-- two commits of homes 5 and 2, 7 and 2, flushed: homes go out rising, each with its newest value, at once, in a round of two a step and by an opening
unfoldable pub mixed : World
mixed =
    goes fresh
    (begin 0 ∷ store 0 5 (fill 15) room ∷ store 0 2 (fill 12) room ∷ commit 0 room ∷ begin 1 ∷ store 1 7 (fill 27) room ∷ store 1 2 (fill 22) room ∷ commit 1 room
    ∷ flush room ∷ [])

unfoldable pub by_settle : World → List ℕ
by_settle w = records_of (ends w (settle room))

unfoldable pub by_round : World → List ℕ
by_round w = records_of (ends w (step_round 2 room)) ++ records_of (ends (step w (call (step_round 2 room))) (step_round 2 room))

unfoldable pub by_opening : World → List ℕ
by_opening w = records_of (ends (step w (crash 4 (λ i. false))) open_again)

unfoldable pub is_in_order : List ℕ
is_in_order = let w : World = mixed in by_settle w ++ (by_round (step w (call begin_round)) ++ by_opening w)

-- groups and homes go out rising in a format too
unfoldable pub by_format : List ℕ
by_format = records_of (format_call unformatted)

-- A commit in group 4, settled, and one at position 35, the first of group 5, with group 6 handed on behind it but not fenced: the log is trimmed to group 5.
-- What is kept for homes 1 and 2; the start in the log copy's header; start, next group, settled, F, mark and last closing + 1.
unfoldable pub two_groups : World
two_groups =
    goes fresh
    (begin 0 ∷ store 0 1 (fill 1) room ∷ commit 0 room ∷ flush room ∷ confirm ∷ settle room ∷ begin 0 ∷ store 0 2 (fill 2) room ∷ commit 0 room ∷ flush room
    ∷ begin 3 ∷ store 3 0 (fill 3) room ∷ store 3 1 (fill 3) room ∷ store 3 2 (fill 3) room ∷ store 3 3 (fill 3) room ∷ store 3 4 (fill 3) room
    ∷ store 3 5 (fill 3) room ∷ store 3 6 (fill 3) room ∷ store 3 7 (fill 3) room ∷ [])

unfoldable pub numbers_of : World → List ℕ
numbers_of w =
    let st : State = state_of w.state in
    header_start w.log ∷ st.start ∷ st.next ∷ st.settled ∷ st.fenced ∷ st.durable ∷ st.last ∷ []

unfoldable pub kept_for_home : World → List ℕ
kept_for_home w = kept_for w.newest 1 ∷ kept_for w.newest 2 ∷ numbers_of w

unfoldable pub around_trim : List ℕ
around_trim = let w : World = two_groups in kept_for_home w ++ kept_for_home (step w (call (trim room)))

-- The log starts at group 5 and is opened after a cut: it then starts at group 9, and the slots get groups 12, 9, 10 and 11 next. The turn bits that lie
-- there in the copy, and in lasting memory once all has landed, to the last block of the last slot; both logs are the same byte for byte.
unfoldable pub anew : World
anew =
    step (step (goes fresh (begin 0 ∷ store 0 1 (fill 1) room ∷ commit 0 room ∷ flush room ∷ settle room ∷ trim room ∷ [])) (crash 6 (λ i. false))) reopen

unfoldable pub slots_of : World → List ℕ
slots_of w =
    let log : List ℕ = (step w (crash 3 (λ i. false))).memory.log in
    turn_bytes w.log 4 ++ (turn_bytes log 4 ++ (get_or (group_at log 3) 511 0 ∷ cond (same log w.log) 1 0 ∷ []))

unfoldable pub blanked : List ℕ
blanked = let w : World = anew in slots_of w

-- A commit at the era's first position, the group filled by a transaction that is dropped, and a commit in the next group, linked to the first. Without the
-- first group none comes back.
unfoldable pub behind_lost : World
behind_lost =
    goes fresh
    (begin 0 ∷ store 0 1 (fill 1) room ∷ commit 0 room ∷ begin 1 ∷ store 1 0 (fill 3) room ∷ store 1 1 (fill 3) room ∷ store 1 2 (fill 3) room ∷ store 1 3 (fill 3) room
    ∷ store 1 4 (fill 3) room ∷ store 1 5 (fill 3) room ∷ store 1 6 (fill 3) room ∷ abort 1 ∷ begin 2 ∷ store 2 5 (fill 9) room ∷ commit 2 room ∷ flush room ∷ [])

unfoldable pub lost_first : List ℕ
lost_first =
    let w : World = behind_lost in
    reopened (step w (crash 3 (λ i. not (ltb i 8)))) ++ reopened (step w (crash 3 (λ i. true)))

-- the records of the settle, of the round's two steps and of the opening; a format's
unfoldable pub records : List Trial
records =
    record {
      yields = is_in_order;
      paper =
          202 ∷ 22 ∷ 205 ∷ 15 ∷ 207 ∷ 27 ∷ 400 ∷ 202 ∷ 22 ∷ 205 ∷ 15 ∷ 207 ∷ 27 ∷ 400 ∷ 202 ∷ 22 ∷ 205 ∷ 15 ∷ 207 ∷ 27 ∷ 400 ∷ 308 ∷ 400 ∷ 100 ∷ 101 ∷ 102 ∷ 103 ∷ 400 ∷ [];
    }
    ∷ record {
      yields = by_format;
      paper =
          300 ∷ 400 ∷ 100 ∷ 101 ∷ 102 ∷ 103 ∷ 200 ∷ 0 ∷ 201 ∷ 0 ∷ 202 ∷ 0 ∷ 203 ∷ 0 ∷ 204 ∷ 0 ∷ 205 ∷ 0 ∷ 206 ∷ 0 ∷ 207 ∷ 0 ∷ 400 ∷ 300 ∷ 400 ∷ [];
    }
    ∷ []

-- before and after the trim; the ring slots; the openings
unfoldable pub rows : List Trial
rows =
    record { yields = around_trim; paper = 28 ∷ 35 ∷ 4 ∷ 4 ∷ 7 ∷ 35 ∷ 42 ∷ 35 ∷ 36 ∷ no_position ∷ 35 ∷ 5 ∷ 5 ∷ 7 ∷ 35 ∷ 49 ∷ 35 ∷ 36 ∷ [] }
    ∷ record { yields = blanked; paper = 0 ∷ 0x80 ∷ 0x80 ∷ 0x80 ∷ 0 ∷ 0x80 ∷ 0x80 ∷ 0x80 ∷ 0x80 ∷ 1 ∷ [] }
    ∷ record { yields = lost_first; paper = 0 ∷ 0 ∷ 2136 ∷ 0 ∷ 2 ∷ 2272 ∷ [] } ∷ records
