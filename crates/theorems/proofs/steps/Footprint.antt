-- What each call may change, part by part: for every part and call either a row of the table `Touch` or a proof that the call leaves the part. A claim about a
-- part matches on `Touch`, so it names the calls in the part's rows and no other. A new call is entered here, once for each part. Assumes nothing.
use Prim.Native.Nat.{ℕ, ◌+◌, ◌-◌, ◌<◌}
use mathlib.Core.Path.{◌≡◌, refl, ap, ◌∙◌}
use mathlib.Core.Logic.{◌⊎◌, inl, inr}
use mathlib.Core.Bool.{Bool, true, false, cond}
use mathlib.Core.List.{List, [], ◌∷◌, ◌++◌}
use mathlib.Core.Option.{none, some}
use lib.Dec.{eqb, leb}
use lib.ListN.{length, get_or}
use borrow.Author.Tests.{ltb-true, eqb-true}
use Rattle.model.specs.State.{state_of, next_position, writer_of, holds, listed_of, promise_of}
use Rattle.model.specs.Effects.{Given, Effect, new_state, submitted, logged, log_held, begin_effect, reserve_effect, abort_effect, store_first, store_again, store_other, store_effect, flush_none, flush_part, flush_effect, confirm_effect, settle_effect, begin_round_effect, round_homes, round_ended, round_moved, step_homes, step_round_effect, trim_to, trim_effect, read_effect}
use Rattle.model.specs.Questions.{block_right, writer_known}
use Rattle.model.specs.Book.{Task, idle, opened, Book, with_task, store_task, entry_of, filled_up, submit}
use Rattle.model.specs.Book as book
use Rattle.model.specs.History.{begins, reserves, aborts, stores, commits, flushes, Service, settles, round_begins, round_steps, trims, reads, Call, opening, confirm, change, service, World, ends, feed, feed_change, is_opening}
use Rattle.abstract_store.specs.Store.{Store, numbered, with_round, round_over, trimmed_to, to_step, next_start, promises_after, after_service, after_done}
use Rattle.model_laws.proofs.state.ListedLaws.{listed-set_next, listed-set_filled, listed-set_settled, listed-set_fenced, listed-set_durable, listed-set_round, listed-set_cursor, listed-set_writer, listed-set_held, listed-set_promise}
use Rattle.model_laws.proofs.state.ListedLaws.{promise-carry}
use Rattle.model_laws.proofs.state.PromiseLaws.{promise-set_start, promise-set_next, promise-set_filled, promise-set_settled, promise-set_fenced, promise-set_durable, promise-set_last, promise-set_round, promise-set_cursor, promise-set_writer}
use Rattle.model_laws.proofs.state.QuestionLaws.{begin-ready, reserve-ready, abort-ready, store-ready}
use Rattle.theorems.proofs.steps.HeldLogs.{filled-commits}
use Rattle.theorems.proofs.steps.Rows.{row_of, row-lent, row-answer, row-state, row-newest}

-- ---- the table

-- the newest positions and what the strip has for the list; the book's commits; the start; the round and its cursor; the records; the promises in the strip
pub data Part : Type 0 where
  lists : Part
  committed : Part
  log_start : Part
  rounds : Part
  writes : Part
  shares : Part

pub data Touch : Part → Call → Type 0 where
  lists-open : (state newest batch : List ℕ) → Touch lists (opening state newest batch)
  lists-commit : (v : ℕ) (batch : List ℕ) → Touch lists (change (commits v batch))
  lists-trim : (batch : List ℕ) → Touch lists (service (trims batch))
  committed-open : (state newest batch : List ℕ) → Touch committed (opening state newest batch)
  committed-confirm : Touch committed confirm
  committed-commit : (v : ℕ) (batch : List ℕ) → Touch committed (change (commits v batch))
  start-open : (state newest batch : List ℕ) → Touch log_start (opening state newest batch)
  start-trim : (batch : List ℕ) → Touch log_start (service (trims batch))
  round-open : (state newest batch : List ℕ) → Touch rounds (opening state newest batch)
  round-begin : Touch rounds (service round_begins)
  round-step : (k : ℕ) (batch : List ℕ) → Touch rounds (service (round_steps k batch))
  records-open : (state newest batch : List ℕ) → Touch writes (opening state newest batch)
  records-store : (v home : ℕ) (block batch : List ℕ) → Touch writes (change (stores v home block batch))
  records-commit : (v : ℕ) (batch : List ℕ) → Touch writes (change (commits v batch))
  records-flush : (batch : List ℕ) → Touch writes (change (flushes batch))
  records-settle : (batch : List ℕ) → Touch writes (service (settles batch))
  records-step : (k : ℕ) (batch : List ℕ) → Touch writes (service (round_steps k batch))
  records-trim : (batch : List ℕ) → Touch writes (service (trims batch))
  shares-open : (state newest batch : List ℕ) → Touch shares (opening state newest batch)
  shares-reserve : (v n : ℕ) → Touch shares (change (reserves v n))
  shares-abort : (v : ℕ) → Touch shares (change (aborts v))
  shares-store : (v home : ℕ) (block batch : List ℕ) → Touch shares (change (stores v home block batch))
  shares-commit : (v : ℕ) (batch : List ℕ) → Touch shares (change (commits v batch))

-- what it says that a call leaves a part
abbrev pub Spares : Part → Call → Type 0
Spares lists c =
    (w : World) → (ends w c).code ≡ 0 → ((ends w c).newest ≡ w.newest) × ((i : ℕ) → listed_of (ends w c).state i ≡ listed_of w.state i)
Spares committed c = (b : Book) (figure : ℕ) → (feed b c figure).commits ≡ b.commits
Spares log_start c = (s : Store) (figure : ℕ) → (after_done s c figure).start ≡ s.start
Spares rounds c = (s : Store) (figure : ℕ) → ((after_done s c figure).round ≡ s.round) × ((after_done s c figure).cursor ≡ s.cursor)
Spares writes c = (w : World) → (row_of w c).effect.records ≡ []
Spares shares c =
    ((w : World) → (ends w c).code ≡ 0 → (x : ℕ) → x < 8 → promise_of (ends w c).state x ≡ promise_of w.state x)
    × ((s : Store) (figure : ℕ) → (after_done s c figure).promises ≡ s.promises)

-- ---- the newest positions and what the strip has for the list

-- an effect that leaves them
abbrev LeavesLists : Given → Effect → Type 0
LeavesLists g e = (e.newest ≡ g.newest) × ((i : ℕ) → listed_of e.state i ≡ listed_of g.state i)

spares-lists : (c : Call) → is_opening c ≡ false → ((w : World) → (row_of w c).answer ≡ 0 → LeavesLists (row_of w c).given (row_of w c).effect) → Spares lists c
spares-lists c o f w h =
    let q = f w (row-answer w c h) in
    let l = row-lent w c o in (
      row-newest w c h ∙ q.0 ∙ l.newest,
      λ i. ap (λ (x : List ℕ). listed_of x i) (row-state w c h) ∙ q.1 i ∙ ap (λ (x : List ℕ). listed_of x i) l.state,
    )

pub known : (g : Given) → writer_known g ≡ true → g.writer < 8
unfolding writer_known
known g h = ltb-true g.writer 8 h

whole : (g : Given) → block_right g ≡ true → length g.block ≡ 64
unfolding block_right
whole g h = eqb-true (length g.block) 64 h

module _ (g : Given) where
  abbrev s : List ℕ
  s = g.state

  abbrev v : ℕ
  v = g.writer

  submitted-listed : (i : ℕ) (d : Bool) (slot : ℕ) (log : List ℕ)
      → listed_of (submitted d g.state (state_of g.state) slot log).state i ≡ listed_of g.state i
  unfolding submitted
  submitted-listed i true slot log = listed-set_filled _ _ i ∙ listed-set_next s _ i
  submitted-listed i false slot log = listed-set_filled s _ i

  pub logged-listed : (i : ℕ) (log : List ℕ) (word : ℕ) (block : List ℕ) → listed_of (logged g.state log word block).state i ≡ listed_of g.state i
  unfolding logged
  logged-listed i log word block = submitted-listed i _ _ _

  pub abort-leaves : g.writer < 8 → LeavesLists g (abort_effect g)
  unfolding abort_effect new_state
  abort-leaves l = (refl, λ i. listed-set_promise _ v 0 i l ∙ listed-set_writer s v _ i l)

  store-leaves : g.writer < 8 → length g.block ≡ 64 → LeavesLists g (store_effect g)
  unfolding store_effect
  store-leaves l h = go (holds (writer_of s v)) (eqb (writer_of s v).home g.home)
    where
      go : (a b : Bool)
          → LeavesLists g (cond a (cond b (store_again g) (store_other g (writer_of g.state g.writer) (next_position (state_of g.state)))) (store_first g))
      go true true = unfold store_again new_state in (refl, λ i. listed-set_held s v _ i h l)
      go true false = unfold store_other log_held in
          (refl, λ i. listed-set_promise _ v _ i l ∙ listed-set_held _ v _ i h l ∙ listed-set_writer _ v _ i l ∙ logged-listed i _ _ _)
      go false b = unfold store_first new_state in (refl, λ i. listed-set_held _ v _ i h l ∙ listed-set_writer s v _ i l)

  flush-leaves : LeavesLists g (flush_effect g)
  unfolding flush_effect
  flush-leaves = go (eqb (state_of g.state).filled 0)
    where
      go : (d : Bool) → LeavesLists g (cond d (flush_none g (state_of g.state)) (flush_part g (state_of g.state)))
      go true = unfold flush_none in (refl, λ i. listed-set_fenced s _ i)
      go false = unfold flush_part in (refl, λ i. listed-set_fenced _ _ i ∙ listed-set_filled _ _ i ∙ listed-set_next s _ i)

  step-leaves : (k : ℕ) → LeavesLists g (step_round_effect g k)
  unfolding step_round_effect step_homes
  step-leaves k = go (leb (length (round_homes g)) k)
    where
      go : (d : Bool) → LeavesLists g (step_homes g k (round_homes g) d)
      go true = unfold round_ended in (refl, λ i. listed-set_cursor _ _ i ∙ listed-set_round _ _ i ∙ listed-set_fenced _ _ i ∙ listed-set_settled s _ i)
      go false = unfold round_moved in (refl, λ i. listed-set_cursor s _ i)

frame-lists : (c : Call) → Touch lists c ⊎ Spares lists c
unfolding row_of is_opening
frame-lists (opening state newest batch) = inl (lists-open state newest batch)
frame-lists confirm = inr (spares-lists confirm refl (λ w h. unfold confirm_effect new_state in (refl, λ i. listed-set_durable _ _ i)))
frame-lists (change (begins v)) =
    inr (spares-lists (change (begins v)) refl
    (λ w h. unfold begin_effect new_state in (refl, λ i. listed-set_writer _ _ _ i (known _ (begin-ready _ h).1))))
frame-lists (change (reserves v n)) =
    inr (spares-lists (change (reserves v n)) refl
    (λ w h. let l = known _ (reserve-ready _ n h).1 in
    unfold reserve_effect new_state in (refl, λ i. listed-set_promise _ _ n i l ∙ listed-set_writer _ _ _ i l)))
frame-lists (change (aborts v)) = inr (spares-lists (change (aborts v)) refl (λ w h. abort-leaves _ (known _ (abort-ready _ h).1)))
frame-lists (change (stores v home block batch)) =
    inr (spares-lists (change (stores v home block batch)) refl
    (λ w h. let k = store-ready _ _ h in store-leaves _ (known _ k.writer) (whole _ k.block)))
frame-lists (change (commits v batch)) = inl (lists-commit v batch)
frame-lists (change (flushes batch)) = inr (spares-lists (change (flushes batch)) refl (λ w h. flush-leaves _))
frame-lists (service (settles batch)) =
    inr (spares-lists (service (settles batch)) refl (λ w h. unfold settle_effect in (refl, λ i. listed-set_fenced _ _ i ∙ listed-set_settled _ _ i)))
frame-lists (service round_begins) =
    inr (spares-lists (service round_begins) refl
    (λ w h. unfold begin_round_effect new_state in (refl, λ i. listed-set_cursor _ _ i ∙ listed-set_round _ _ i)))
frame-lists (service (round_steps k batch)) = inr (spares-lists (service (round_steps k batch)) refl (λ w h. step-leaves _ k))
frame-lists (service (trims batch)) = inl (lists-trim batch)
frame-lists (service (reads v home block)) = inr (spares-lists (service (reads v home block)) refl (λ w h. unfold read_effect in (refl, λ i. refl)))

-- ---- the book's commits

pub store-commits : (b : Book) (v home : ℕ) (block : List ℕ) (t : Task) → (store_task b v home block t).commits ≡ b.commits
unfolding store_task with_task
store-commits b v home block idle = refl
store-commits b v home block (opened es none) = refl
store-commits b v home block (opened es (some h)) = go (eqb h.home home)
  where
    go : (d : Bool)
        → (cond d (with_task b v (opened es (book.hold home block))) (with_task (filled_up b) v (opened (es ++ (entry_of b h ∷ [])) (book.hold home block)))).commits
        ≡ b.commits
    go true = refl
    go false = filled-commits b

pub flush-commits : (b : Book) → (book.flush b).commits ≡ b.commits
unfolding book.flush submit
flush-commits b = go (eqb b.filled 0)
  where
    go : (d : Bool) → (cond d b (submit b)).commits ≡ b.commits
    go true = refl
    go false = refl

frame-committed : (c : Call) → Touch committed c ⊎ Spares committed c
unfolding feed feed_change book.begin book.abort book.store with_task
frame-committed (opening state newest batch) = inl (committed-open state newest batch)
frame-committed confirm = inl committed-confirm
frame-committed (change (begins v)) = inr (λ b f. refl)
frame-committed (change (reserves v n)) = inr (λ b f. refl)
frame-committed (change (aborts v)) = inr (λ b f. refl)
frame-committed (change (stores v home block batch)) = inr (λ b f. store-commits b v home block (b.tasks v))
frame-committed (change (commits v batch)) = inl (committed-commit v batch)
frame-committed (change (flushes batch)) = inr (λ b f. flush-commits b)
frame-committed (service c) = inr (λ b f. refl)

-- ---- the start, and the round, of the abstract store

frame-start : (c : Call) → Touch log_start c ⊎ Spares log_start c
unfolding after_done after_service numbered with_round round_over
frame-start (opening state newest batch) = inl (start-open state newest batch)
frame-start confirm = inr (λ s f. refl)
frame-start (change c) = inr (λ s f. refl)
frame-start (service (settles batch)) = inr (λ s f. refl)
frame-start (service round_begins) = inr (λ s f. refl)
frame-start (service (round_steps k batch)) = inr (λ s f. go s (leb (length (to_step s)) k))
  where
    go : (s : Store) (d : Bool) → (cond d (round_over s) (with_round s s.round (get_or (to_step s) (k - 1) 0 + 1))).start ≡ s.start
    go s true = refl
    go s false = refl
frame-start (service (trims batch)) = inl (start-trim batch)
frame-start (service (reads v home block)) = inr (λ s f. refl)

frame-round : (c : Call) → Touch rounds c ⊎ Spares rounds c
unfolding after_done after_service numbered trimmed_to
frame-round (opening state newest batch) = inl (round-open state newest batch)
frame-round confirm = inr (λ s f. (refl, refl))
frame-round (change c) = inr (λ s f. (refl, refl))
frame-round (service (settles batch)) = inr (λ s f. (refl, refl))
frame-round (service round_begins) = inl round-begin
frame-round (service (round_steps k batch)) = inl (round-step k batch)
frame-round (service (trims batch)) = inr (λ s f. go s (eqb (next_start s) s.start))
  where
    go : (s : Store) (d : Bool) → ((cond d s (trimmed_to s (next_start s))).round ≡ s.round) × ((cond d s (trimmed_to s (next_start s))).cursor ≡ s.cursor)
    go s true = (refl, refl)
    go s false = (refl, refl)
frame-round (service (reads v home block)) = inr (λ s f. (refl, refl))

-- ---- the records

frame-records : (c : Call) → Touch writes c ⊎ Spares writes c
unfolding row_of
frame-records (opening state newest batch) = inl (records-open state newest batch)
frame-records confirm = inr (λ w. unfold confirm_effect new_state in refl)
frame-records (change (begins v)) = inr (λ w. unfold begin_effect new_state in refl)
frame-records (change (reserves v n)) = inr (λ w. unfold reserve_effect new_state in refl)
frame-records (change (aborts v)) = inr (λ w. unfold abort_effect new_state in refl)
frame-records (change (stores v home block batch)) = inl (records-store v home block batch)
frame-records (change (commits v batch)) = inl (records-commit v batch)
frame-records (change (flushes batch)) = inl (records-flush batch)
frame-records (service (settles batch)) = inl (records-settle batch)
frame-records (service round_begins) = inr (λ w. unfold begin_round_effect new_state in refl)
frame-records (service (round_steps k batch)) = inl (records-step k batch)
frame-records (service (trims batch)) = inl (records-trim batch)
frame-records (service (reads v home block)) = inr (λ w. unfold read_effect in refl)

-- ---- what every service leaves of the abstract store

-- a store with the same of these
abbrev Same : Store → Store → Type 0
Same t s = (t.groups ≡ s.groups) × (t.homes ≡ s.homes) × (t.head ≡ s.head) × (t.back ≡ s.back) × (t.book ≡ s.book) × (t.promises ≡ s.promises)

service-same : (s : Store) (c : Service) → Same (after_service s c) s
unfolding after_service numbered with_round round_over trimmed_to
service-same s (settles batch) = (refl, refl, refl, refl, refl, refl)
service-same s round_begins = (refl, refl, refl, refl, refl, refl)
service-same s (round_steps k batch) = go (leb (length (to_step s)) k)
  where
    go : (d : Bool) → Same (cond d (round_over s) (with_round s s.round (get_or (to_step s) (k - 1) 0 + 1))) s
    go true = (refl, refl, refl, refl, refl, refl)
    go false = (refl, refl, refl, refl, refl, refl)
service-same s (trims batch) = go (eqb (next_start s) s.start)
  where
    go : (d : Bool) → Same (cond d s (trimmed_to s (next_start s))) s
    go true = (refl, refl, refl, refl, refl, refl)
    go false = (refl, refl, refl, refl, refl, refl)
service-same s (reads v home block) = (refl, refl, refl, refl, refl, refl)

-- ---- the promises, in the strip and in the abstract store

spares-shares : (c : Call) → is_opening c ≡ false
    → ((w : World) (x : ℕ) → x < 8 → promise_of (row_of w c).effect.state x ≡ promise_of (row_of w c).given.state x)
    → ((s : Store) (figure : ℕ) → (after_done s c figure).promises ≡ s.promises) → Spares shares c
spares-shares c o f k = (
  λ w h x l. ap (λ (s : List ℕ). promise_of s x) (row-state w c h) ∙ f w x l ∙ ap (λ (s : List ℕ). promise_of s x) (row-lent w c o).state,
  k,
)

module _ (g : Given) (x : ℕ) (l : x < 8) where
  flush-shares : promise_of (flush_effect g).state x ≡ promise_of g.state x
  unfolding flush_effect
  flush-shares = go (eqb (state_of g.state).filled 0)
    where
      go : (d : Bool) → promise_of (cond d (flush_none g (state_of g.state)) (flush_part g (state_of g.state))).state x ≡ promise_of g.state x
      go true = unfold flush_none in promise-set_fenced _ _ x
      go false = unfold flush_part in (promise-set_fenced _ _ x ∙ promise-set_filled _ _ x ∙ promise-set_next _ _ x)

  step-shares : (k : ℕ) → promise_of (step_round_effect g k).state x ≡ promise_of g.state x
  unfolding step_round_effect step_homes
  step-shares k = go (leb (length (round_homes g)) k)
    where
      go : (d : Bool) → promise_of (step_homes g k (round_homes g) d).state x ≡ promise_of g.state x
      go true = unfold round_ended in (promise-set_cursor _ _ x l ∙ promise-set_round _ _ x l ∙ promise-set_fenced _ _ x ∙ promise-set_settled _ _ x)
      go false = unfold round_moved in promise-set_cursor _ _ x l

  trim-shares : (y : ℕ) → promise_of (trim_effect g y).state x ≡ promise_of g.state x
  unfolding trim_effect
  trim-shares y = go (eqb y (state_of g.state).start)
    where
      go : (d : Bool) → promise_of (cond d (new_state g g.state 0) (trim_to g (state_of g.state) y)).state x ≡ promise_of g.state x
      go true = unfold new_state in refl
      go false = unfold trim_to in (promise-carry _ _ _ x l ∙ promise-set_last _ _ x ∙ promise-set_fenced _ _ x ∙ promise-set_start _ _ x)

frame-shares : (c : Call) → Touch shares c ⊎ Spares shares c
unfolding row_of is_opening after_done numbered promises_after
frame-shares (opening state newest batch) = inl (shares-open state newest batch)
frame-shares confirm = inr (spares-shares confirm refl (λ w x l. unfold confirm_effect new_state in promise-set_durable _ _ x) (λ s f. refl))
frame-shares (change (begins v)) = inr (spares-shares (change (begins v)) refl (λ w x l. unfold begin_effect new_state in promise-set_writer _ _ _ x l) (λ s f. refl))
frame-shares (change (reserves v n)) = inl (shares-reserve v n)
frame-shares (change (aborts v)) = inl (shares-abort v)
frame-shares (change (stores v home block batch)) = inl (shares-store v home block batch)
frame-shares (change (commits v batch)) = inl (shares-commit v batch)
frame-shares (change (flushes batch)) = inr (spares-shares (change (flushes batch)) refl (λ w x l. flush-shares _ x l) (λ s f. refl))
frame-shares (service (settles batch)) =
    inr (spares-shares (service (settles batch)) refl (λ w x l. unfold settle_effect in (promise-set_fenced _ _ x ∙ promise-set_settled _ _ x)) (λ s f. (service-same s (settles batch)).5))
frame-shares (service round_begins) =
    inr (spares-shares (service round_begins) refl (λ w x l. unfold begin_round_effect new_state in (promise-set_cursor _ _ x l ∙ promise-set_round _ _ x l)) (λ s f. (service-same s round_begins).5))
frame-shares (service (round_steps k batch)) = inr (spares-shares (service (round_steps k batch)) refl (λ w x l. step-shares _ x l k) (λ s f. (service-same s (round_steps k batch)).5))
frame-shares (service (trims batch)) = inr (spares-shares (service (trims batch)) refl (λ w x l. trim-shares _ x l _) (λ s f. (service-same s (trims batch)).5))
frame-shares (service (reads v home block)) = inr (spares-shares (service (reads v home block)) refl (λ w x l. unfold read_effect in refl) (λ s f. (service-same s (reads v home block)).5))

pub frame : (p : Part) (c : Call) → Touch p c ⊎ Spares p c
frame lists c = frame-lists c
frame committed c = frame-committed c
frame log_start c = frame-start c
frame rounds c = frame-round c
frame writes c = frame-records c
frame shares c = frame-shares c

-- ---- what every done call leaves of the abstract store, and that its book is fed the call

pub record Steady (s : Store) (c : Call) (figure : ℕ) : Type 0 where
  pub groups : (after_done s c figure).groups ≡ s.groups
  pub homes : (after_done s c figure).homes ≡ s.homes
  pub head : (after_done s c figure).head ≡ s.head
  pub back : (after_done s c figure).back ≡ s.back
  pub book : (after_done s c figure).book ≡ feed s.book c figure

pub steady : (s : Store) (c : Call) (figure : ℕ) → Steady s c figure
unfolding after_done numbered with_round
steady s (opening state newest batch) figure = record { groups = refl; homes = refl; head = refl; back = refl; book = refl }
steady s confirm figure = record { groups = refl; homes = refl; head = refl; back = refl; book = refl }
steady s (change c) figure = record { groups = refl; homes = refl; head = refl; back = refl; book = refl }
steady s (service c) figure =
    let q = service-same s c in record { groups = q.0; homes = q.1; head = q.2; back = q.3; book = unfold feed in q.4 }
