-- The abstract store: what every call answers, in terms of the calls before it. It is fed each call's arguments and answer and, at a crash, which
-- writes persisted; nothing from the strip, the copies or the bytes of the log. An engineer reads here when a call is done, with which number it is
-- refused, what figure it gives and how many bytes of records it writes.
use Rattle.std.specs.Prelude.{ℕ, zero, suc, ◌+◌, ◌-◌, ◌*◌, ◌/◌, ◌≡◌, Bool, true, false, cond, not, ◌&&◌, ◌||◌, List, [], ◌∷◌, eqb, leb, ltb, length, get_or, take}
use Rattle.std.proofs.Math.Option.{none, some}
use Rattle.model.specs.Bytes.{part}
use Rattle.model.specs.Layout.{max_start, header_start, entry_at}
use Rattle.model.specs.Commit.{transactions}
use Rattle.model.specs.Effects.{marked, largest}
use Rattle.model.specs.State.{list_home}
use Rattle.model.specs.Rights.{may_store, may_read}
use Rattle.model.specs.Questions.{ask}
use Rattle.model.specs.Calls.{Outcome}
use Rattle.model.specs.Crash.{Memory, persist}
use Rattle.model.specs.Book.{Held, Commit, Task, idle, opened, Book, run}
use Rattle.model.specs.Book as book
use Rattle.model.specs.History.{Change, begins, reserves, aborts, stores, commits, flushes, Service, settles, trims, reads, Call, opening, confirm, change, service, Event, call, crash, World, Formatting, after_format, ends, feed, row_fates, step, AllAllowed, round_begins, round_steps}
use Rattle.model.specs.DemandTwo.{each_contents, untrimmed, closed_below, any_across, any_open_before}

-- G and D; whether an opening is done since the last crash; the start that the header in lasting memory says, as the last crash (or format) left
-- it, and what the run's commits that this header has not trimmed wrote: the next opening, or the last, brings these back. Then the numbers since the
-- last done opening: the log's start, the settled position, the fenced position F, the durable mark, the ticket of the last commit at or above the
-- start (0: none), for each writer the places promised to it that no entry has used up, and the round under way: the F that it has fixed + 1 (0: no
-- round) and its cursor. Last the book.
pub record Store : Type 0 where
  pub groups : ℕ
  pub homes : ℕ
  pub ready : Bool
  pub head : ℕ
  pub back : List (List Held)
  pub start : ℕ
  pub settled : ℕ
  pub fenced : ℕ
  pub durable : ℕ
  pub last : ℕ
  pub promises : ℕ → ℕ
  pub round : ℕ
  pub cursor : ℕ
  pub book : Book

-- a new format
unfoldable pub new_store : ℕ → ℕ → Store
new_store groups homes =
    record {
      groups = groups;
      homes = homes;
      ready = false;
      head = 0;
      back = [];
      start = 0;
      settled = 0;
      fenced = 0;
      durable = 0;
      last = 0;
      promises = λ v. 0;
      round = 0;
      cursor = 0;
      book = book.empty;
    }

-- Where the log stands

-- the group of the first row since the last opening, the next group that is not submitted, the next position
unfoldable pub group_of_first : Store → ℕ
group_of_first s = s.head + s.groups

unfoldable pub next_group : Store → ℕ
next_group s = group_of_first s + s.book.rows

unfoldable pub next_of : Store → ℕ
next_of s = 7 * next_group s + s.book.filled

-- "Free places are those from the next position to the end of group start + G − 1, less those promised."
unfoldable pub places_left : Store → ℕ
places_left s = 7 * (s.start + s.groups) - next_of s

unfoldable pub promised_to : (ℕ → ℕ) → ℕ → ℕ
promised_to promises zero = 0
promised_to promises (suc n) = promised_to promises n + promises n

unfoldable pub free_left : Store → ℕ
free_left s = places_left s - promised_to s.promises 8

-- "its first n entries, each using one up, never meet answer 8"; "Other entries meet 8 when only promised places are left." [S-32]
unfoldable pub has_room_left : Store → ℕ → Bool
has_room_left s writer = leb 1 (s.promises writer) || ltb (promised_to s.promises 8) (places_left s)

-- "A flush that would leave fewer places than are promised is refused."
unfoldable pub may_flush : Store → Bool
may_flush s = eqb s.book.filled 0 || leb (promised_to s.promises 8) (7 * (s.start + s.groups) - 7 * (next_group s + 1))

-- the bytes that logging an entry writes: a group's record with its seventh
unfoldable pub entry_bytes : Store → ℕ
entry_bytes s = cond (eqb s.book.filled 6) 516 0

-- Writers

unfoldable pub is_idle : Task → Bool
is_idle idle = true
is_idle (opened es held) = false

-- whether a store for a home, and whether a commit must log an entry
unfoldable pub store_must_log : Task → ℕ → Bool
store_must_log idle home = false
store_must_log (opened es none) home = false
store_must_log (opened es (some h)) home = not (eqb h.home home)

unfoldable pub commit_must_log : Task → Bool
commit_must_log idle = false
commit_must_log (opened es none) = false
commit_must_log (opened es (some h)) = true

-- Homes that transactions write

unfoldable pub wrote : ℕ → List Held → Bool
wrote home [] = false
wrote home (h ∷ hs) = wrote home hs || eqb h.home home

unfoldable pub any_wrote : ℕ → List (List Held) → Bool
any_wrote home [] = false
any_wrote home (t ∷ ts) = any_wrote home ts || wrote home t

-- the number of homes that some transactions write
unfoldable pub many_homes : ℕ → List (List Held) → ℕ
many_homes homes ts = length (marked (λ h. any_wrote h ts) homes)

-- what a settle writes: the commits that are not trimmed and close below F
unfoldable pub to_settle : Store → List (List Held)
to_settle s = untrimmed (7 * s.start) (closed_below s.fenced s.book.commits)

-- the homes that the round's next step finds: those from the cursor on that such commits below the fixed F wrote
unfoldable pub to_step : Store → List ℕ
to_step s = marked (λ h. leb s.cursor h && any_wrote h (untrimmed (7 * s.start) (closed_below (s.round - 1) s.book.commits))) s.homes

-- "the largest start s with 7 × s at most the settled position and no open or committed transaction lying on both sides of 7 × s"
unfoldable pub may_start : Store → ℕ → Bool
may_start s start =
    not (any_across (group_of_first s) (7 * start) s.book.commits) && not (any_open_before (group_of_first s) (7 * start) s.book.tasks 8)

unfoldable pub next_start : Store → ℕ
next_start s = largest (may_start s) s.start (s.settled / 7 - s.start)

-- the list of rights: "A changed list counts from its commit", for every writer [S-60]
unfoldable pub list_of : Store → List ℕ
list_of s = part (book.homes_after s.homes s.book.commits) (64 * list_home) 256

-- What a call tells: its number, its figure and the bytes of records it writes. A refusal tells its number alone.
pub record Reply : Type 0 where
  pub code : ℕ
  pub figure : ℕ
  pub size : ℕ

unfoldable pub told : ℕ → ℕ → ℕ → Reply
told zero figure size = record { code = 0; figure = figure; size = size }
told (suc k) figure size = record { code = suc k; figure = 0; size = 0 }

-- the last question of every call that writes records
unfoldable pub ask_batch : ℕ → List ℕ → ℕ
ask_batch size batch = ask (leb size (length batch)) 9 0

-- the bytes of records that a flush, a settle and a trim write when they are done
abbrev pub flush_bytes : Store → ℕ
flush_bytes s = cond (eqb s.book.filled 0) 2 518

abbrev pub settle_bytes : Store → ℕ
settle_bytes s = 68 * many_homes s.homes (to_settle s) + 2

abbrev pub trim_bytes : Store → ℕ
trim_bytes s = cond (eqb (next_start s) s.start) 0 68

unfoldable pub reply_change : Store → Change → Reply
reply_change s (begins writer) = told (ask (ltb writer 8) 4 (ask (is_idle (s.book.tasks writer)) 6 0)) 0 0
reply_change s (reserves writer places) =
    told
    (ask (ltb writer 8) 4 (ask (is_idle (s.book.tasks writer)) 6 (ask (leb 1 places && leb places (free_left s)) 17 0)))
    0
    0
reply_change s (aborts writer) = told (ask (ltb writer 8) 4 (ask (not (is_idle (s.book.tasks writer))) 7 0)) 0 0
reply_change s (stores writer home block batch) =
    let logs : Bool = store_must_log (s.book.tasks writer) home in
    let size : ℕ = cond logs (entry_bytes s) 0 in
    told
    (ask (eqb (length block) 64) 1
    (ask (ltb writer 8) 4
    (ask (ltb home s.homes) 5
    (ask (may_store s.homes (list_of s) writer home) 19
    (ask (not (is_idle (s.book.tasks writer))) 7 (ask (not logs || has_room_left s writer) 8 (ask_batch size batch)))))))
    0
    size
reply_change s (commits writer batch) =
    let logs : Bool = commit_must_log (s.book.tasks writer) in
    let size : ℕ = cond logs (entry_bytes s) 0 in
    told
    (ask (ltb writer 8) 4 (ask (not (is_idle (s.book.tasks writer))) 7 (ask (not logs || has_room_left s writer) 8 (ask_batch size batch))))
    (cond logs (next_of s + 1) 0)
    size
reply_change s (flushes batch) =
    told (ask (may_flush s) 18 (ask_batch (flush_bytes s) batch)) 0 (flush_bytes s)

unfoldable pub reply_service : Store → Service → Reply
reply_service s (settles batch) =
    told (ask (eqb s.round 0) 21 (ask_batch (settle_bytes s) batch)) 0 (settle_bytes s)
reply_service s round_begins = told (ask (eqb s.round 0) 21 0) 0 0
reply_service s (round_steps homes batch) =
    let due : List ℕ = to_step s in
    let size : ℕ = 68 * length (take homes due) + cond (leb (length due) homes) 2 0 in
    told (ask (leb 1 s.round && leb 1 homes) 21 (ask_batch size batch)) 0 size
reply_service s (trims batch) =
    told (ask (leb (next_start s) max_start) 10 (ask_batch (trim_bytes s) batch)) 0 (trim_bytes s)
reply_service s (reads writer home block) =
    told
    (ask (eqb (length block) 64) 1 (ask (ltb writer 8) 4 (ask (ltb home s.homes) 5 (ask (may_read s.homes (list_of s) writer home) 20 0))))
    0
    0

-- An opening is done if the strip has 1,024 bytes and that of the newest positions 8 a home, start + G is at most 2^47, and the batch holds 72 bytes,
-- 516 for each group and 68 for each home that it brings back.
-- Its figure is the number of the run's commits that the header in lasting memory has not trimmed. [S-50]
unfoldable pub reply : Store → Call → Reply
reply s (opening state newest batch) =
    let size : ℕ = 68 * many_homes s.homes s.back + (72 + 516 * s.groups) in
    told (ask (eqb (length state) 1024 && eqb (length newest) (8 * s.homes)) 1 (ask (leb (group_of_first s) max_start) 10 (ask_batch size batch))) (length s.back) size
reply s confirm = told 0 s.fenced 0
reply s (change c) = reply_change s c
reply s (service c) = reply_service s c

-- What a done call changes, beside the book

-- the ticket of the last commit, and F after a fence of a flush
unfoldable pub last_after : ℕ → Change → ℕ → ℕ
last_after last (begins writer) figure = last
last_after last (reserves writer places) figure = last
last_after last (aborts writer) figure = last
last_after last (stores writer home block batch) figure = last
last_after last (commits writer batch) figure = cond (eqb figure 0) last figure
last_after last (flushes batch) figure = last

unfoldable pub fenced_after : Store → Change → ℕ
fenced_after s (begins writer) = s.fenced
fenced_after s (reserves writer places) = s.fenced
fenced_after s (aborts writer) = s.fenced
fenced_after s (stores writer home block batch) = s.fenced
fenced_after s (commits writer batch) = s.fenced
fenced_after s (flushes batch) = 7 * (group_of_first s + (book.flush s.book).rows)

-- the promises: "Commit and abort give unused ones back."
unfoldable pub set_for : (ℕ → ℕ) → ℕ → ℕ → ℕ → ℕ
set_for promises writer n x = cond (eqb writer x) n (promises x)

unfoldable pub promises_after : Store → Change → ℕ → ℕ
promises_after s (begins writer) = s.promises
promises_after s (reserves writer places) = set_for s.promises writer places
promises_after s (aborts writer) = set_for s.promises writer 0
promises_after s (stores writer home block batch) =
    cond (store_must_log (s.book.tasks writer) home) (set_for s.promises writer (s.promises writer - 1)) s.promises
promises_after s (commits writer batch) = set_for s.promises writer 0
promises_after s (flushes batch) = s.promises

-- the store with other numbers: start, settled, fenced, durable, last, promises
unfoldable pub numbered : Store → ℕ → ℕ → ℕ → ℕ → ℕ → (ℕ → ℕ) → Book → Store
numbered s start settled fenced durable last promises b =
    record {
      groups = s.groups;
      homes = s.homes;
      ready = true;
      head = s.head;
      back = s.back;
      start = start;
      settled = settled;
      fenced = fenced;
      durable = durable;
      last = last;
      promises = promises;
      round = s.round;
      cursor = s.cursor;
      book = b;
    }

-- the store with another round and cursor
unfoldable pub with_round : Store → ℕ → ℕ → Store
with_round s round cursor =
    record {
      groups = s.groups;
      homes = s.homes;
      ready = true;
      head = s.head;
      back = s.back;
      start = s.start;
      settled = s.settled;
      fenced = s.fenced;
      durable = s.durable;
      last = s.last;
      promises = s.promises;
      round = round;
      cursor = cursor;
      book = s.book;
    }

-- the round's last step: "only then raises the settled position to the F fixed"
unfoldable pub round_over : Store → Store
round_over s = with_round (numbered s s.start (s.round - 1) (7 * next_group s) s.durable s.last s.promises s.book) 0 0

-- a trim that moves
unfoldable pub trimmed_to : Store → ℕ → Store
trimmed_to s start =
    numbered s start s.settled (7 * next_group s) s.durable (cond (leb s.last (7 * start)) 0 s.last) s.promises s.book

unfoldable pub after_service : Store → Service → Store
after_service s (settles batch) = numbered s s.start s.fenced (7 * next_group s) s.durable s.last s.promises s.book
after_service s round_begins = with_round s (s.fenced + 1) 0
after_service s (round_steps homes batch) =
    let due : List ℕ = to_step s in
    cond (leb (length due) homes) (round_over s) (with_round s s.round (get_or due (homes - 1) 0 + 1))
after_service s (trims batch) = let moved : Store = trimmed_to s (next_start s) in cond (eqb (next_start s) s.start) s moved
after_service s (reads writer home block) = s

unfoldable pub after_done : Store → Call → ℕ → Store
after_done s (opening state newest batch) figure =
    let first : ℕ = group_of_first s in
    with_round (numbered s first (7 * first) (7 * first) (7 * first) 0 (λ v. 0) (feed s.book (opening state newest batch) figure)) 0 0
after_done s confirm figure = numbered s s.start s.settled s.fenced figure s.last s.promises (feed s.book confirm figure)
after_done s (change c) figure =
    numbered s s.start s.settled (fenced_after s c) s.durable (last_after s.last c figure) (promises_after s c)
    (feed s.book (change c) figure)
after_done s (service c) figure = after_service s c

unfoldable pub after_reply : Store → Call → Reply → Store
after_reply s c r = let next : Store = after_done s c r.figure in cond (eqb r.code 0) next s

-- A crash: `head` is the start in the header that persisted. If that is this era's, what is brought back are the commits of the run that it has not
-- trimmed; if not, no group of this era persisted and the same comes back as before.
unfoldable pub after_crash : Store → List (ℕ → Bool) → ℕ → Store
after_crash s fs head =
    record {
      groups = s.groups;
      homes = s.homes;
      ready = false;
      head = head;
      back = cond (leb (group_of_first s) head) (untrimmed (7 * head) (run fs s.book.commits)) s.back;
      start = s.start;
      settled = s.settled;
      fenced = s.fenced;
      durable = s.durable;
      last = s.last;
      promises = s.promises;
      round = s.round;
      cursor = s.cursor;
      book = book.crash s.book fs;
    }

-- The store beside a history

unfoldable pub reply_of : Outcome → Reply
reply_of o = record { code = o.code; figure = o.figure; size = o.size }

unfoldable pub follow : Store → World → Event → Store
follow s w (call c) = after_reply s c (reply_of (ends w c))
follow s w (crash passed chosen) =
    after_crash s (row_fates w passed chosen) (header_start (persist passed chosen w.pending w.memory).log)

-- what the commit rule finds in the log of lasting memory, entry by entry
unfoldable pub found_in_memory : ℕ → ℕ → Memory → List (List Held)
found_in_memory groups homes m =
    each_contents (entry_at m.log groups homes (header_start m.log)) m.log groups
    (transactions (entry_at m.log groups homes (header_start m.log)) (7 * header_start m.log) (7 * groups))

-- At every event: the call answers what the abstract store says. At every moment: what the rule finds in the log that the last crash (or format)
-- left are the run's commits that its header has not trimmed, in order, entry by entry.
abbrev pub AnswersAt : World → Store → Event → Type 0
AnswersAt w s (call c) = reply_of (ends w c) ≡ reply s c
AnswersAt w s (crash passed chosen) = Unit {0}

abbrev pub AnswersThroughout : World → Store → List Event → Type 0
AnswersThroughout w s [] = found_in_memory s.groups s.homes w.memory ≡ s.back
AnswersThroughout w s (e ∷ es) =
    (found_in_memory s.groups s.homes w.memory ≡ s.back) × AnswersAt w s e × AnswersThroughout (step w e) (follow s w e) es

-- [S-32, S-41, S-47, S-49, S-50, S-58, S-59, S-60]
abbrev pub Answers : Type 0
Answers =
    (groups homes : ℕ) (f : Formatting groups homes) (es : List Event) → AllAllowed (after_format f) es →
    AnswersThroughout (after_format f) (new_store groups homes) es
