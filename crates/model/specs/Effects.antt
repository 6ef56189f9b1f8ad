-- What each call does when it is done. Question by question refusals are in Questions, the calls as a whole in Calls.
use Rattle.std.specs.Prelude.{ℕ, zero, suc, ◌+◌, ◌-◌, ◌*◌, ◌/◌, ◌%◌, Bool, true, false, cond, not, ◌&&◌, List, [], ◌∷◌, ◌++◌, eqb, leb, ltb, length, get_or, take}
use Rattle.std.proofs.Math.Option.{Option, none, some}
use Rattle.model.specs.Bytes.{puts, zeros}
use Rattle.model.specs.Tag.{entry_word, closing_word, home_of}
use Rattle.model.specs.Layout.{header, header_start, group_at, turn_of, unused_group, empty_log, put_blank, put_entry, entry_at, block_at, home_at, put_home}
use Rattle.model.specs.Commit.{Span, committed, transactions, replay, members, newest_in, newest, found, entries}
use Rattle.model.specs.Batch.{Record, GW, HW, KW, FN}
use Rattle.model.specs.State.{State, state_of, set_start, set_next, set_filled, set_settled, set_fenced, set_durable, set_last, next_position, Writer, writer_of, set_writer, held_of, set_held, set_promise, promise_left, idle, begun, holding, logging, holds, has_logged, holds_home, first_for, count_for, fresh_state, set_round, set_cursor, fixed_in}
use Rattle.model.specs.Newest.{kept_for, nothing_kept, keep_entries, forget, carry_listed}
use Rattle.model.specs.Rights.{open_sign, keep_list}
use Rattle.model.specs.declared.Tag.{Tag}
pub use Rattle.model.specs.Given.{Given, groups, homes}
unfoldable pub use Rattle.model.specs.Given.{tags_of, live_base, live_tags, block_or, is_there}

-- what a done call leaves: its figure, the lent memory but the batch, and the records it writes
pub record Effect : Type 0 where
  pub figure : ℕ
  pub state : List ℕ
  pub newest : List ℕ
  pub log : List ℕ
  pub area : List ℕ
  pub block : List ℕ
  pub records : List Record

-- only the strip changes, with a figure
unfoldable pub new_state : Given → List ℕ → ℕ → Effect
new_state g s figure =
    record { figure = figure; state = s; newest = g.newest; log = g.log; area = g.area; block = g.block; records = [] }

-- the first n ring slots written as unused, by rising slot, for a log of so many groups that starts at group `start`
unfoldable pub blank_writes : ℕ → ℕ → ℕ → List Record
blank_writes groups start zero = []
blank_writes groups start (suc n) = blank_writes groups start n ++ (GW n (unused_group groups start n) ∷ [])

-- Format: "KW of 64 zeros, FN, all groups and homes as zeros in rising order, FN, the head with start 0, FN. The copies hold the same." "Format writes
-- its groups so for start 0, where it wrote zeros"

unfoldable pub zero_homes : ℕ → List Record
zero_homes zero = []
zero_homes (suc n) = zero_homes n ++ (HW n (zeros 64) ∷ [])

-- [S-23]
unfoldable pub formatted : ℕ → ℕ → List Record
formatted groups homes =
    KW (zeros 64) ∷ FN ∷ (blank_writes groups 0 groups ++ (zero_homes homes ++ (FN ∷ KW (header 0 groups homes) ∷ FN ∷ [])))

-- [S-22]
unfoldable pub format_effect : Given → Effect
format_effect g =
    record {
      figure = 0;
      state = g.state;
      newest = g.newest;
      log = empty_log 0 (groups g) (homes g);
      area = zeros (64 * homes g);
      block = g.block;
      records = formatted (groups g) (homes g);
    }

-- Replay, for open and settle

-- the homes below n that a test marks, rising ("Touched homes are marked one bit each in words of 64; the lowest marked goes next.")
unfoldable pub marked : (ℕ → Bool) → ℕ → List ℕ
marked test zero = []
marked test (suc n) = marked test n ++ cond (test n) (n ∷ []) []

-- the homes that some transactions write
unfoldable pub touched : (ℕ → Tag) → List (List ℕ) → ℕ → List ℕ
touched tags ts homes = marked (λ h. found (newest tags h ts)) homes

-- the entry at a position goes into its home
unfoldable pub restore : List ℕ → ℕ → (ℕ → Tag) → ℕ → List ℕ → List ℕ
restore log groups tags p area = put_home area (home_of (tags p)) (block_at log groups p)

-- the data copy with some transactions replayed into it
unfoldable pub replayed : List ℕ → ℕ → (ℕ → Tag) → List (List ℕ) → List ℕ → List ℕ
replayed log groups tags ts area = replay (restore log groups tags) ts area

-- HW of each of some homes
unfoldable pub home_writes : List ℕ → List ℕ → List Record
home_writes area [] = []
home_writes area (h ∷ hs) = HW h (home_at area h) ∷ home_writes area hs

-- Open: "replays the committed transactions into the data copy. Train: HW of each home touched, rising, FN, head with start + G, FN. Returns
-- their number. The log is then empty, .. next group is the new start, no place filled, last closing none, all writers idle. Open and trim put
-- the new head into the log copy too." "After opening, F, the settled position and the mark are 7 × start." "After its new head and fence, opening
-- writes every group, by rising ring place, .. and a fence; the log copy holds the same."

-- "Opening takes the start from the head"
unfoldable pub open_tags : Given → ℕ → Tag
open_tags g = entry_at g.log (groups g) (homes g) (header_start g.log)

-- [S-27]
unfoldable pub open_start : Given → ℕ
open_start g = header_start g.log + groups g

-- [S-24]
unfoldable pub open_effect : Given → Effect
open_effect g =
    let ts : List (List ℕ) = transactions (open_tags g) (7 * header_start g.log) (7 * groups g) in
    let area : List ℕ = replayed g.log (groups g) (open_tags g) ts g.area in
    let head : List ℕ = header (open_start g) (groups g) (homes g) in
    record {
      figure = length ts;
      state = fresh_state (groups g) (homes g) (open_start g) (open_sign (homes g) area);
      newest = nothing_kept (homes g);
      log = empty_log (open_start g) (groups g) (homes g);
      area = area;
      block = g.block;
      records =
          home_writes area (touched (open_tags g) ts (homes g))
          ++ (FN ∷ KW head ∷ FN ∷ (blank_writes (groups g) (open_start g) (groups g) ++ (FN ∷ [])));
    }

-- Begin, abort: "one open transaction for each of writers 0 to 7. Abort drops the held block; logged entries stay without a closing."

-- [S-28]
unfoldable pub begin_effect : Given → Effect
begin_effect g = new_state g (set_writer g.state g.writer begun) 0

-- Reserve: "An idle writer may ask for n places; when granted, its transaction opens". "Commit and abort give unused ones back." [S-43]
unfoldable pub reserve_effect : Given → ℕ → Effect
reserve_effect g n = new_state g (set_promise (set_writer g.state g.writer begun) g.writer n) 0

-- [S-28]
unfoldable pub abort_effect : Given → Effect
abort_effect g = new_state g (set_promise (set_writer g.state g.writer idle) g.writer 0) 0

-- Logging: "Logging takes the next position, blank group first where needed, and the seventh place hands the group on (GW)."

pub record Logged : Type 0 where
  pub state : List ℕ
  pub log : List ℕ
  pub records : List Record

-- the log copy with an entry's tag and block at the next position
unfoldable pub entered : State → ℕ → List ℕ → ℕ → List ℕ → List ℕ
entered st slot log word block =
    let blank : List ℕ = put_blank log st.groups slot st.next in
    let ready : List ℕ = cond (eqb st.filled 0) blank log in
    put_entry ready slot (turn_of st.groups st.next) st.filled word block

-- the group is handed on, or has one place more filled
unfoldable pub submitted : Bool → List ℕ → State → ℕ → List ℕ → Logged
submitted true s st slot log =
    record { state = set_filled (set_next s (st.next + 1)) 0; log = log; records = GW slot (group_at log slot) ∷ [] }
submitted false s st slot log = record { state = set_filled s (st.filled + 1); log = log; records = [] }

-- [S-30]
unfoldable pub logged : List ℕ → List ℕ → ℕ → List ℕ → Logged
logged s log word block =
    let st : State = state_of s in
    let slot : ℕ = st.next % st.groups in
    submitted (eqb st.filled 6) s st slot (entered st slot log word block)

-- the held block's entry is logged
unfoldable pub log_held : Given → Writer → ℕ → Logged
log_held g r position = logged g.state g.log (entry_word r.home (position - first_for r position)) (held_of g.state g.writer)

-- Store: "the writer holds one block. The same home again replaces it; another home first logs the held one."

unfoldable pub store_first : Given → Effect
store_first g = new_state g (set_held (set_writer g.state g.writer (holding g.home)) g.writer g.block) 0

unfoldable pub store_again : Given → Effect
store_again g = new_state g (set_held g.state g.writer g.block) 0

unfoldable pub store_other : Given → Writer → ℕ → Effect
store_other g r position =
    let l : Logged = log_held g r position in
    record {
      figure = 0;
      state =
          set_promise
          (set_held (set_writer l.state g.writer (logging g.home (first_for r position) (count_for r + 1))) g.writer g.block)
          g.writer
          (promise_left g.state g.writer);
      newest = g.newest;
      log = l.log;
      area = g.area;
      block = g.block;
      records = l.records;
    }

-- [S-29]
unfoldable pub store_effect : Given → Effect
store_effect g =
    let r : Writer = writer_of g.state g.writer in
    let other : Effect = store_other g r (next_position (state_of g.state)) in
    let held : Effect = cond (eqb r.home g.home) (store_again g) other in
    cond (holds r) held (store_first g)

-- Commit: "logs the held block as closing entry; returns its position + 1, the ticket. Without a store it logs nothing, the ticket is 0, and it
-- counts as no commit."

-- the distance back to the last closing entry, 0 if there is none since the start
unfoldable pub link_from : ℕ → State → ℕ
link_from position st = cond (leb st.last (7 * st.start)) 0 (position + 1 - st.last)

unfoldable pub log_closing : Given → Writer → ℕ → Logged
log_closing g r position =
    logged g.state g.log
    (closing_word r.home (position - first_for r position) (link_from position (state_of g.state)) (count_for r + 1))
    (held_of g.state g.writer)

-- the newest positions with those of the transaction that closes at a position of the log as logging has left it
unfoldable pub kept_commit : Given → List ℕ → ℕ → ℕ → List ℕ
kept_commit g log first position =
    keep_entries (tags_of g log) (entries (tags_of g log) (live_base g) (record { first = first; closing = position })) g.newest

unfoldable pub commit_held : Given → Writer → ℕ → Effect
commit_held g r position =
    let l : Logged = log_closing g r position in
    let newest : List ℕ = kept_commit g l.log (first_for r position) position in
    let s : List ℕ = set_promise (set_writer (set_last l.state (position + 1)) g.writer idle) g.writer 0 in
    record {
      figure = position + 1;
      state =
          keep_list
          (record { state = s; newest = newest; log = l.log; area = g.area; block = []; batch = []; writer = 0; home = 0 });
      newest = newest;
      log = l.log;
      area = g.area;
      block = g.block;
      records = l.records;
    }

-- [S-31]
unfoldable pub commit_effect : Given → Effect
commit_effect g =
    let r : Writer = writer_of g.state g.writer in
    let held : Effect = commit_held g r (next_position (state_of g.state)) in
    cond (holds r) held (abort_effect g)

-- Flush: "hands on a part-filled group, if any, then FN." "Each FN sets the fenced position F to 7 × (number of the next group not handed on)."

unfoldable pub flush_part : Given → State → Effect
flush_part g st =
    record {
      figure = 0;
      state = set_fenced (set_filled (set_next g.state (st.next + 1)) 0) (7 * (st.next + 1));
      newest = g.newest;
      log = g.log;
      area = g.area;
      block = g.block;
      records = GW (st.next % st.groups) (group_at g.log (st.next % st.groups)) ∷ FN ∷ [];
    }

unfoldable pub flush_none : Given → State → Effect
flush_none g st =
    record {
      figure = 0;
      state = set_fenced g.state (7 * st.next);
      newest = g.newest;
      log = g.log;
      area = g.area;
      block = g.block;
      records = FN ∷ [];
    }

-- [S-33]
unfoldable pub flush_effect : Given → Effect
flush_effect g =
    let st : State = state_of g.state in
    let part : Effect = flush_part g st in
    cond (eqb st.filled 0) (flush_none g st) part

-- Confirm: "the driver says all fences passed; the durable mark becomes F and is returned."

-- [S-34]
unfoldable pub confirm_effect : Given → Effect
confirm_effect g = new_state g (set_durable g.state (state_of g.state).fenced) (state_of g.state).fenced

-- Settle: "looks only at committed transactions whose closing entry lies below F. HW, rising, of the newest value each home has among them, then
-- FN; the data copy too. The settled position becomes the former F."
-- (The rule takes closing entries by rising position, so what it finds below F does not hang on what lies above.)

-- [S-38]
unfoldable pub settle_effect : Given → Effect
settle_effect g =
    let st : State = state_of g.state in
    let ts : List (List ℕ) = transactions (live_tags g) (live_base g) (st.fenced - live_base g) in
    let area : List ℕ = replayed g.log (groups g) (live_tags g) ts g.area in
    record {
      figure = 0;
      state = set_fenced (set_settled g.state st.fenced) (7 * st.next);
      newest = g.newest;
      log = g.log;
      area = area;
      block = g.block;
      records = home_writes area (touched (live_tags g) ts (homes g)) ++ (FN ∷ []);
    }

-- Rounds: "Let a round be begun, fixing the F it covers, then moved on by the next k homes a step, or all that remain in the log as it then stands,
-- rising; the last step, the one after which no home remains (the first if none is touched), writes FN and only then raises the settled position
-- to the F fixed."

-- [S-40]
unfoldable pub begin_round_effect : Given → Effect
begin_round_effect g = new_state g (set_cursor (set_round g.state ((state_of g.state).fenced + 1)) 0) 0

-- the homes from a cursor on that some transactions write
unfoldable pub touched_from : (ℕ → Tag) → List (List ℕ) → ℕ → ℕ → List ℕ
touched_from tags ts cursor homes = marked (λ h. leb cursor h && found (newest tags h ts)) homes

-- some homes of the data copy with the newest value that each has among some transactions
unfoldable pub restore_home : List ℕ → ℕ → ℕ → Option ℕ → List ℕ → List ℕ
restore_home log groups h none area = area
restore_home log groups h (some p) area = put_home area h (block_at log groups p)

unfoldable pub restored_homes : List ℕ → ℕ → (ℕ → Tag) → List (List ℕ) → List ℕ → List ℕ → List ℕ
restored_homes log groups tags ts [] area = area
restored_homes log groups tags ts (h ∷ hs) area =
    restored_homes log groups tags ts hs (restore_home log groups h (newest tags h ts) area)

-- the committed transactions "in the log as it then stands" that close below the fixed F
unfoldable pub round_transactions : Given → List (List ℕ)
round_transactions g = transactions (live_tags g) (live_base g) (fixed_in (state_of g.state) - live_base g)

-- the homes that remain [S-42]
unfoldable pub round_homes : Given → List ℕ
round_homes g = touched_from (live_tags g) (round_transactions g) (state_of g.state).cursor (homes g)

-- the strip after the last step, and after one that leaves homes: the last of the step's k homes is done
unfoldable pub round_ended : List ℕ → State → List ℕ
round_ended s st = set_cursor (set_round (set_fenced (set_settled s (fixed_in st)) (7 * st.next)) 0) 0

unfoldable pub round_moved : List ℕ → List ℕ → ℕ → List ℕ
round_moved s due k = set_cursor s (get_or due (k - 1) 0 + 1)

-- a step of k homes, where `due` remain, and whether it is the last
unfoldable pub step_homes : Given → ℕ → List ℕ → Bool → Effect
step_homes g k due last =
    let area : List ℕ = restored_homes g.log (groups g) (live_tags g) (round_transactions g) (take k due) g.area in
    record {
      figure = 0;
      state = cond last (round_ended g.state (state_of g.state)) (round_moved g.state due k);
      newest = g.newest;
      log = g.log;
      area = area;
      block = g.block;
      records = home_writes area (take k due) ++ cond last (FN ∷ []) [];
    }

-- [S-40]
unfoldable pub step_round_effect : Given → ℕ → Effect
step_round_effect g k = let due : List ℕ = round_homes g in step_homes g k due (leb (length due) k)

-- Trim: "the largest start s with 7 × s at most the settled position and no open or committed transaction lying on both sides of 7 × s (an open
-- one counts as reaching beyond). If it moves: KW, FN; a last closing before it becomes none. Else nothing."

-- no committed transaction lies on both sides of a position
unfoldable pub none_across : ℕ → List Span → Bool
none_across position [] = true
none_across position (s ∷ ss) = not (ltb s.first position && leb position s.closing) && none_across position ss

-- none of the first n writers has an open transaction with an entry logged before a position
unfoldable pub none_open_before : ℕ → List ℕ → ℕ → Bool
none_open_before position s zero = true
none_open_before position s (suc n) =
    none_open_before position s n && not (has_logged (writer_of s n) && ltb (writer_of s n).first position)

unfoldable pub may_start : List ℕ → List Span → ℕ → Bool
may_start s spans start = none_across (7 * start) spans && none_open_before (7 * start) s 8

-- the largest of start to start + n at which the log may start; start itself always may
unfoldable pub largest : (ℕ → Bool) → ℕ → ℕ → ℕ
largest may start zero = start
largest may start (suc n) = let below : ℕ = largest may start n in cond (may (start + suc n)) (start + suc n) below

-- [S-39]
unfoldable pub trim_start : Given → ℕ
trim_start g =
    let st : State = state_of g.state in
    let spans : List Span = committed (live_tags g) (live_base g) (next_position st - live_base g) in
    largest (may_start g.state spans) st.start (st.settled / 7 - st.start)

-- the log starts at a new group
unfoldable pub trim_to : Given → State → ℕ → Effect
trim_to g st start =
    let newest : List ℕ = forget g.newest (7 * start) (homes g) in
    let s : List ℕ = set_last (set_fenced (set_start g.state start) (7 * st.next)) (cond (leb st.last (7 * start)) 0 st.last) in
    record {
      figure = 0;
      state = carry_listed (homes g) newest s;
      newest = newest;
      log = puts g.log 0 (header start (groups g) (homes g));
      area = g.area;
      block = g.block;
      records = KW (header start (groups g) (homes g)) ∷ FN ∷ [];
    }

-- [S-39]
unfoldable pub trim_effect : Given → ℕ → Effect
trim_effect g start =
    let st : State = state_of g.state in
    let moved : Effect = trim_to g st start in
    cond (eqb start st.start) (new_state g g.state 0) moved

-- Read: "the writer's held block if it is for that home, else the newest entry for it in the writer's open transaction, else newest committed by
-- commit order, else the data copy. A writer with nothing open reads what is committed."

-- the newest entry of a writer's open transaction for a home
unfoldable pub newest_own : Given → Writer → Option ℕ
newest_own g r =
    let st : State = state_of g.state in
    let own : Option ℕ = newest_in (live_tags g) g.home (members (live_tags g) r.first (live_base g) (next_position st - live_base g)) in
    cond (has_logged r) own none

unfoldable pub newest_committed : Given → Option ℕ
newest_committed g =
    newest (live_tags g) g.home (transactions (live_tags g) (live_base g) (next_position (state_of g.state) - live_base g))

unfoldable pub current : Given → List ℕ
current g = block_or g (newest_committed g) (home_at g.area g.home)

-- the writer's held block, else its own newest, else a third
unfoldable pub own_else : Given → List ℕ → List ℕ
own_else g other =
    let r : Writer = writer_of g.state g.writer in
    let logged : List ℕ = block_or g (newest_own g r) other in
    cond (holds_home r g.home) (held_of g.state g.writer) logged

-- the read of document 01; the claim that the newest positions change nothing names it [S-35]
unfoldable pub visible : Given → List ℕ
visible g = own_else g (current g)

-- [S-37]
unfoldable pub kept_position : Given → Option ℕ
kept_position g = let p : ℕ = kept_for g.newest g.home in cond (is_there g p) (some p) none

unfoldable pub shown : Given → List ℕ
shown g = block_or g (kept_position g) (home_at g.area g.home)

-- [S-35]
unfoldable pub read_effect : Given → Effect
read_effect g =
    record {
      figure = 0;
      state = g.state;
      newest = g.newest;
      log = g.log;
      area = g.area;
      block = own_else g (shown g);
      records = [];
    }
