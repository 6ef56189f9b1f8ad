-- What fetch, revise and transact answer, in terms of the calls before them: number, figure and bytes of records, as the abstract store (its Store.antt)
-- says it of the other calls. The replies know nothing of the strip, the copies or the bytes of the log; `Agreeing`, at the end, says of these at which
-- moments the replies hold.
-- "asks the store's questions once, in 01's order, for all of it": 1, 4, 5 for all homes, 19 for all, 20 for all, 6, 8, 9. Of question 1 only the lent
-- blocks are in the caller's hand at a moment of a history, and question 2 refuses none there.
use Rattle.std.specs.Prelude.{ℕ, zero, suc, ◌+◌, ◌*◌, ◌/◌, ◌≤◌, ◌<◌, ◌≡◌, Bool, true, not, ◌&&◌, List, eqb, leb, ltb, length}
use Rattle.model.specs.State.{state_of, next_position, free_places, writer_of, is_open_now, list_sign, is_in_order}
use Rattle.model.specs.Effects.{homes}
use Rattle.model.specs.Rights.{may_store, may_read, right_to_store, right_to_read, read_list}
use Rattle.model.specs.Questions.{ask}
use Rattle.model.specs.History.{World, lent}
use Rattle.abstract_store.specs.Store.{Store, next_of, free_left, is_idle, list_of, Reply, told, ask_batch, reply_of}
use Rattle.acts.specs.Units.{fetch_ends, revise_ends, transact_ends}

-- whole blocks, from one to the seven that a group has places for
unfoldable pub many_blocks : List ℕ → ℕ
many_blocks blocks = length blocks / 64

unfoldable pub whole_blocks : List ℕ → Bool
whole_blocks blocks = eqb (length blocks) (64 * many_blocks blocks) && leb 1 (many_blocks blocks) && leb (many_blocks blocks) 7

-- a question put for each of n homes in a row
unfoldable pub every_home : (ℕ → Bool) → ℕ → ℕ → Bool
every_home test home zero = true
every_home test home (suc n) = test home && every_home test (home + 1) n

unfoldable pub may_store_each : Store → ℕ → ℕ → ℕ → Bool
may_store_each s writer home n = every_home (may_store s.homes (list_of s) writer) home n

unfoldable pub may_read_each : Store → ℕ → ℕ → ℕ → Bool
may_read_each s writer home n = every_home (may_read s.homes (list_of s) writer) home n

-- 4 and 5, and what follows for n homes from `home` on
unfoldable pub ask_named : Store → ℕ → ℕ → ℕ → ℕ → ℕ
ask_named s writer home n next = ask (ltb writer 8) 4 (ask (leb (home + n) s.homes) 5 next)

unfoldable pub ask_blocks : Store → ℕ → ℕ → List ℕ → ℕ → ℕ
ask_blocks s writer home blocks next = ask (whole_blocks blocks) 1 (ask_named s writer home (many_blocks blocks) next)

-- 6, 8 and 9 of a transaction of n entries: its writer is idle, so that all of them need places that are not promised
unfoldable pub transact_bytes : Store → ℕ → ℕ
transact_bytes s n = 516 * ((s.book.filled + n) / 7)

unfoldable pub ask_entries : Store → ℕ → ℕ → List ℕ → ℕ
ask_entries s writer n batch =
    ask (is_idle (s.book.tasks writer)) 6 (ask (leb n (free_left s)) 8 (ask_batch (transact_bytes s n) batch))

unfoldable pub reply_fetch : Store → ℕ → ℕ → List ℕ → Reply
reply_fetch s writer home blocks = told (ask_blocks s writer home blocks (ask (may_read_each s writer home (many_blocks blocks)) 20 0)) 0 0

unfoldable pub reply_revise : Store → ℕ → ℕ → List ℕ → Reply
reply_revise s writer home blocks =
    told
    (ask_blocks s writer home blocks
    (ask (may_store_each s writer home (many_blocks blocks)) 19 (ask (may_read_each s writer home (many_blocks blocks)) 20 0)))
    0
    0

-- the ticket is the position of the last of the n entries, the closing one, + 1
unfoldable pub reply_transact : Store → ℕ → ℕ → List ℕ → List ℕ → Reply
reply_transact s writer home blocks batch =
    let n : ℕ = many_blocks blocks in
    told (ask_blocks s writer home blocks (ask (may_store_each s writer home n) 19 (ask_entries s writer n batch))) (next_of s + n) (transact_bytes s n)

-- the three calls at a moment answer what the abstract store says [S-50]
pub record ManyAnswer (w : World) (s : Store) (writer home : ℕ) (blocks batch : List ℕ) : Type 0 where
  pub fetch : reply_of (fetch_ends w writer home blocks) ≡ reply_fetch s writer home blocks
  pub revise : reply_of (revise_ends w writer home blocks) ≡ reply_revise s writer home blocks
  pub transact : reply_of (transact_ends w writer home blocks batch) ≡ reply_transact s writer home blocks batch

-- A moment at which the lent lengths are right, the strip is in order, and what these calls ask of it is the abstract store's. That every moment after a
-- done opening of every history is one is proved in crates/theorems (specs/ActsAnswer).
pub record Agreeing (w : World) (s : Store) : Type 0 where
  pub groups_least : 4 ≤ s.groups
  pub groups_most : s.groups ≤ 1024
  pub homes_least : 1 ≤ s.homes
  pub homes_most : s.homes ≤ 65535
  pub state : length w.state ≡ 1024
  pub newest : length w.newest ≡ 8 * s.homes
  pub log : length w.log ≡ 64 + 512 * s.groups
  pub area : length w.area ≡ 64 * s.homes
  pub order : is_in_order w.state s.groups s.homes ≡ true
  pub next : next_position (state_of w.state) ≡ next_of s
  pub filled : (state_of w.state).filled ≡ s.book.filled
  pub free : free_places w.state ≡ free_left s
  pub writers : (writer : ℕ) → writer < 8 → not (is_open_now (writer_of w.state writer)) ≡ is_idle (s.book.tasks writer)
  pub stores :
      (blocks batch : List ℕ) (writer home x : ℕ) →
      right_to_store (list_sign w.state) (homes (lent w blocks batch writer home)) (read_list (lent w blocks batch writer home)) writer x
      ≡ may_store s.homes (list_of s) writer x
  pub reads :
      (blocks batch : List ℕ) (writer home x : ℕ) →
      right_to_read (list_sign w.state) (homes (lent w blocks batch writer home)) (read_list (lent w blocks batch writer home)) writer x
      ≡ may_read s.homes (list_of s) writer x

abbrev pub AgreeingAnswer : Type 0
AgreeingAnswer = (w : World) (s : Store) → Agreeing w s → (writer home : ℕ) (blocks batch : List ℕ) → ManyAnswer w s writer home blocks batch
