-- A store that logs the held block, and a commit.
use mathlib.Core.Path.{◌≡◌, refl, sym, ap, ◌∙◌, subst}
use mathlib.Core.Logic.{inl, inr}
use mathlib.Core.Bool.{Bool, true, false, cond}
use mathlib.Core.List.{List, [], ◌∷◌, ◌++◌}
use mathlib.Core.Option.{none, some}
use Prim.Native.Nat.{ℕ, suc, ◌+◌, ◌-◌, ◌*◌, ◌/◌, ◌%◌, ◌^◌, ◌≤◌, ◌<◌}
use native.Mathlib.Omega.{arith}
use lib.ListN.{length}
use lib.Dec.{eqb}
use borrow.Author.Tests.{ne_eqb}
use Rattle.model.specs.Tag.{entry_word, closing_word}
use Rattle.model.specs.Layout.{group_at}
use Rattle.model.specs.State.{state_of, set_last, next_position, writer_of, set_writer, held_of, set_held, promise_of, set_promise, promise_left, places, first_for, count_for, logging, idle}
use Rattle.model.specs.declared.State.{State}
use Rattle.model.specs.declared.Writer.{Writer}
use Rattle.model.specs.Rights.{keep_list}
use Rattle.model.specs.Effects.{Given, Logged, entered, logged, log_held, store_other, link_from, log_closing, commit_held}
use Rattle.model.specs.Batch.{Record, GW}
use Rattle.model.specs.Book.{Landing, row, Entry, Commit, Held, Task, opened, Book, fate_at, homes_after, entry_of, filled_up, with_task, add_commit}
use Rattle.model.specs.Book as book
use Rattle.model.specs.DemandTwo.{closed_below}
use Rattle.model.specs.History.{World, lent, feed, is_confirm, store, commit, feed_change}
use Rattle.model_laws.proofs.state.StateLaws.{state-set_last, length-set_last, writer-set_last, held-set_last}
use Rattle.model_laws.proofs.state.WriterLaws.{length-set_writer, length-set_held, state-set_writer, writer-set_writer, writer-set_writer-other, held-set_writer, state-set_held, writer-set_held, held-set_held, held-set_held-other, fits-idle, fits-logging}
use Rattle.model_laws.proofs.state.SignLaws.{length-keep_list, state-keep_list, writer-keep_list, held-keep_list, promise-keep_list}
use Rattle.model_laws.proofs.state.OrderLaws.{WriterInOrder, Reserved, place-below}
use Rattle.model_laws.proofs.state.QuestionLaws.{Roomy}
use Rattle.model_laws.proofs.state.PromiseLaws.{promise-set_last, promise-set_writer, promise-set_held, length-set_promise, state-set_promise, writer-set_promise, held-set_promise, promise-set_promise, promise-set_promise-other, promise-most}
use Rattle.model_laws.proofs.trace.Trace.{Ev, mine, hist, first_of, block_on, tag_at, tag_of, link_in, closer_of, oldest_of, LinkOk, Linked}
use Rattle.model_laws.proofs.trace.TraceLaws.{tag_at-here, block_on-older, done-rising, all_map}
use Rattle.model_laws.proofs.trace.LinkLaws.{linked-more, linked-ext, last_from}
use Rattle.theorems.proofs.invariant.GrowLaws.{open_done, open-mine, close-done, commits-open, commits-close, entries-here, mine-below, closed-snoc}
use Rattle.theorems.proofs.invariant.GrowImages.{apart_snoc, closers-older, image-open, image-close}
use Rattle.theorems.proofs.steps.DoneLaws.{after}
use Rattle.theorems.proofs.steps.WriterSteps.{task-here, task-other, order-idle}
use Rattle.theorems.proofs.steps.LogRuns.{Advance, advance-position, SameWriters, logged-writers, logged-numbers, logged-log, logged-records, promises-logged, copies-logged}
use Rattle.theorems.proofs.steps.LogSubmits.{submitted-logged, confirmed-more, owed-snoc}
use Rattle.theorems.proofs.steps.HeldLogs.{filled-tasks, filled-commits, event, so_far, Logging, logging-task, mine-event, last-closes, link-ok}
use Rattle.theorems.proofs.invariant.Invariant.{Sizes, SoundAt, plain_of, entries_for, TaskOk, Copies, Running}
use Rattle.model_laws.proofs.state.LoggingLaws.{Bounds, bounds, held-size, link-small}

-- a commit that logs, and the transaction that it closes: in the trace, in the log copy and in the book
pub record Closing (G D : ℕ) (w : World) (R : Running G D w) (v : ℕ) (u : World) : Type 0 where
  pub tr : List Ev
  pub earlier : List ℕ
  pub entries : List Entry
  pub copies : Copies G D R.b tr u
  pub start : (state_of u.state).start ≡ (state_of w.state).start
  pub done : (hist (7 * R.b) tr).done ≡ (hist (7 * R.b) R.tr).done ++ ((next_position (state_of w.state) ∷ earlier) ∷ [])
  pub first : first_of (next_position (state_of w.state)) earlier ≡ first_for (writer_of w.state v) (next_position (state_of w.state))
  pub listed : entries ≡ entries_for R.b tr (next_position (state_of w.state) ∷ earlier)
  pub commits : u.book.commits ≡ w.book.commits ++ (record { entries = entries; ticket = next_position (state_of w.state) + 1; owed = false } ∷ [])

module _ (G D : ℕ) (z : Sizes G D) (w : World) (R : Running G D w) (v : ℕ) (l : v < 8) (m : 2 ≤ (writer_of w.state v).mode)
    (left : Roomy w.state v) where
  abbrev b : ℕ
  b = R.b

  abbrev tr : List Ev
  tr = R.tr

  abbrev c : Copies G D R.b R.tr w
  c = R.copies

  abbrev st : State
  st = state_of w.state

  abbrev r : Writer
  r = writer_of w.state v

  abbrev hd : List ℕ
  hd = held_of w.state v

  abbrev P : ℕ
  P = next_position (state_of w.state)

  abbrev ps : List ℕ
  ps = so_far (writer_of w.state v) ((hist (7 * R.b) R.tr).open_transaction v)

  abbrev ev : Bool → ℕ → Ev
  ev final link = event v (writer_of w.state v) (held_of w.state v) final link

  roomy : (state_of w.state).next < (state_of w.state).start + G
  roomy = omega (arith, place-below w.state G D v c.order l left, c.order.groups-same)

  -- no promise is more than the ring has places
  few : promise_of w.state v < 2 ^ 16
  few = unfold places next_position in omega (arith, promise-most w.state v 8 l, c.order.promises.within, c.order.groups-same, c.order.start-next, z.high)

  position : P ≡ 7 * b + length tr
  position = c.position

  lg : Logging b tr r hd ((hist (7 * b) tr).open_transaction v) (w.book.tasks v) P
  lg = logging-task b tr r hd ((hist (7 * b) tr).open_transaction v) (w.book.tasks v) P m (c.tasks v l)

  bs : Bounds st r P
  bs = bounds st r (c.order.writers v l) (unfold next_position in omega (arith, c.order.start-next))

  in-room : P < 7 * (st.start + G)
  in-room = unfold next_position in omega (arith, c.order.filled-most, roomy)

  first-is : first_of (7 * b + length tr) ps ≡ first_for r P
  first-is = rw (← position) lg.first

  sound-event : (final : Bool) (link : ℕ) → link < 2 ^ 13 → SoundAt D (7 * b + length tr) (ev final link) (mine (hist (7 * b) tr) (ev final link))
  unfolding event
  sound-event final link h =
      rw (mine-event (hist (7 * b) tr) v r hd final link)
      (record {
        home = let k = (c.order.writers v l).home m in omega (arith, c.order.homes_same);
        block = held-size w.state v c.state_size l;
        back = let k = first-is in omega (arith, position, bs.low, in-room);
        link = h;
        count = omega (arith, lg.count, bs.many, bs.low, in-room);
      })

  -- the book's entry
  entry-is : (final : Bool) (link : ℕ)
      → entries_for b (ev final link ∷ tr) ((7 * b + length tr) ∷ mine (hist (7 * b) tr) (ev final link))
      ≡ entries_for b tr ps ++ (entry_of w.book (record { home = r.home; block = hd }) ∷ [])
  unfolding event entry_of
  entry-is final link =
      let q : 7 * st.next + st.filled ≡ 7 * b + length tr = unfold next_position in c.position in
      let e₁ : (7 * b + length tr) / 7 - b ≡ w.book.rows = omega (arith, c.rows, c.order.filled-most) in
      let e₂ : (7 * b + length tr) % 7 ≡ w.book.filled = omega (arith, c.filled, c.order.filled-most) in
      entries-here b (ev final link) tr (mine (hist (7 * b) tr) (ev final link)) (mine-below (7 * b) (ev final link) tr)
      ∙ rw (mine-event (hist (7 * b) tr) v r hd final link, e₁, e₂)

  low_first : (final : Bool) (link : ℕ) → 7 * st.start ≤ oldest_of ((7 * b + length tr) ∷ mine (hist (7 * b) tr) (ev final link))
  unfolding oldest_of
  low_first final link = rw (mine-event (hist (7 * b) tr) v r hd final link, first-is) bs.low

  groups-are : st.groups ≡ G
  groups-are = c.order.groups-same

  -- the strip after logging
  keeps : (word : ℕ) → SameWriters w.state (logged w.state w.log word hd).state
  keeps word = logged-writers w.state w.log word hd c.state_size

  moves : (word : ℕ) → Advance st (state_of (logged w.state w.log word hd).state) st.last
  moves word = logged-numbers w.state w.log word hd c.state_size c.order.filled-most (omega (arith, c.order.start-most))

  log_is : (word : ℕ) → (logged w.state w.log word hd).log ≡ entered st (st.next % G) w.log word hd
  log_is word = logged-log w.state w.log word hd ∙ ap (λ (n : ℕ). entered st (st.next % n) w.log word hd) groups-are

  records-are : (word : ℕ) → (logged w.state w.log word hd).records
      ≡ cond (eqb st.filled 6) (GW (st.next % G) (group_at (logged w.state w.log word hd).log (st.next % G)) ∷ []) []
  records-are word = logged-records w.state w.log word hd ∙ ap (λ (n : ℕ). cond (eqb st.filled 6) (GW (st.next % n) (group_at (logged w.state w.log word hd).log (st.next % n)) ∷ []) []) groups-are

  -- the trace's commits and links where the entry does not close
  module _ (home : ℕ) (block batch : List ℕ) (hb : length block ≡ 64) (hh : home < D) (differ : r.home ≡ home → ⊥) where
    abbrev e₀ : Ev
    e₀ = ev false 0

    word-is : plain_of (7 * b + length tr) e₀ (mine (hist (7 * b) tr) e₀) e₀.final ≡ entry_word r.home (P - first_for r P)
    unfolding plain_of event
    word-is = rw (mine-event (hist (7 * b) tr) v r hd false 0, first-is, ← position)

    abbrev g₀ : Given
    g₀ = lent w block batch v home

    abbrev lo : Logged
    lo = logged w.state w.log (entry_word r.home (P - first_for r P)) hd

    abbrev s₁ : List ℕ
    s₁ = set_writer lo.state v (logging home (first_for r P) (count_for r + 1))

    abbrev u : World
    u = after w (store v home block batch) (store_other (lent w block batch v home) (writer_of w.state v) (next_position (state_of w.state)))

    size₁ : length s₁ ≡ 1024
    size₁ = length-set_writer lo.state v _ ∙ (keeps _).size

    abbrev s₃ : List ℕ
    s₃ = set_held (set_writer lo.state v (logging home (first_for r P) (count_for r + 1))) v block

    abbrev n₃ : ℕ
    n₃ = promise_left w.state v

    size₃ : length s₃ ≡ 1024
    size₃ = length-set_held s₁ v block ∙ size₁

    state-is : u.state ≡ set_promise s₃ v n₃
    unfolding store_other log_held lent
    state-is = refl

    numbers-are : state_of u.state ≡ state_of lo.state
    numbers-are = rw state-is (state-set_promise s₃ v n₃ l ∙ state-set_held s₁ v block hb ∙ state-set_writer lo.state v _)

    writer-is : writer_of u.state v ≡ logging home (first_for r P) (count_for r + 1)
    writer-is =
        rw state-is (writer-set_promise s₃ v n₃ v l ∙ writer-set_held s₁ v block v l hb ∙ writer-set_writer lo.state v _ (keeps _).size l
        (fits-logging home (first_for r P) (count_for r + 1) (omega arith) (omega (arith, bs.upto, in-room, c.order.start-most)) (omega (arith, bs.many, bs.low, in-room, c.order.start-most))))

    held-is : held_of u.state v ≡ block
    held-is = rw state-is (held-set_promise s₃ v n₃ v l ∙ held-set_held s₁ v block size₁ l hb)

    writer-others : (x : ℕ) → x < 8 → (x ≡ v → ⊥) → writer_of u.state x ≡ writer_of w.state x
    writer-others x k n =
        rw state-is (writer-set_promise s₃ v n₃ x l ∙ writer-set_held s₁ v block x k hb ∙ writer-set_writer-other lo.state v _ x l k n ∙ (keeps _).writer x)

    promise-others : (x : ℕ) → x < 8 → (x ≡ v → ⊥) → promise_of u.state x ≡ promise_of w.state x
    promise-others x m n =
        rw state-is
        (promise-set_promise-other s₃ v n₃ x n ∙ promise-set_held s₁ v block x hb m ∙ promise-set_writer lo.state v _ x m ∙ (keeps _).promise x)

    promise-is : promise_of u.state v ≡ promise_of w.state v - 1
    unfolding promise_left
    promise-is = rw state-is (promise-set_promise s₃ v n₃ size₃ l (omega (arith, few)))

    adv : Advance st (state_of u.state) st.last
    adv = rw numbers-are (moves _)

    book-is : u.book ≡ with_task (filled_up w.book) v (opened (entries_for b tr ps ++ (entry_of w.book (record { home = r.home; block = hd }) ∷ [])) (some (record { home = home; block = block })))
    unfolding feed feed_change book.store book.store_task book.hold
    book-is = rw (lg.task, ne_eqb r.home home differ)

    open_is : (hist (7 * b) (e₀ ∷ tr)).open_transaction v ≡ (7 * b + length tr) ∷ mine (hist (7 * b) tr) e₀
    unfolding event
    open_is = open-mine (7 * b) e₀ tr refl refl

    done-is : (hist (7 * b) (e₀ ∷ tr)).done ≡ (hist (7 * b) tr).done
    unfolding event
    done-is = open_done (7 * b) e₀ tr refl

    task-is : TaskOk b (e₀ ∷ tr) (writer_of u.state v) (held_of u.state v) ((hist (7 * b) (e₀ ∷ tr)).open_transaction v)
        (opened (entries_for b tr ps ++ (entry_of w.book (record { home = r.home; block = hd }) ∷ [])) (some (record { home = home; block = block })))
    unfolding logging oldest_of
    task-is =
        rw (writer-is, held-is, open_is)
        (inr (inr (inr (
          refl,
          ap (λ es. opened es (some (record { home = home; block = block }))) (sym (entry-is false 0)),
          (rw (mine-event (hist (7 * b) tr) v r hd false 0) (sym first-is)),
          (rw (mine-event (hist (7 * b) tr) v r hd false 0) (omega (arith, lg.count))),
          omega arith,
        ))))

    commits-are : u.book.commits ≡ w.book.commits
    unfolding with_task
    commits-are = ap (λ (k : Book). k.commits) book-is ∙ filled-commits w.book

    in-order-is : WriterInOrder (state_of u.state) (writer_of u.state v)
    unfolding logging
    in-order-is =
        let p = advance-position st (state_of u.state) st.last adv in
        rw writer-is
        (record {
          mode = omega arith;
          home = λ h. omega (arith, adv.homes, c.order.homes_same);
          logged = λ h. (omega (arith, adv.start, bs.low), omega (arith, p, bs.upto), omega arith, omega (arith, p, bs.many));
        })

    promises-are : Reserved u.state
    unfolding logging
    promises-are =
        promises-logged w.state u.state v st.last l c.order.promises adv left promise-others writer-others (omega (arith, promise-is))
        (rw writer-is (λ h. absurd (omega arith)))

    links-are : Linked (7 * st.start) (tag_at (7 * b) (e₀ ∷ tr)) none (hist (7 * b) (e₀ ∷ tr)).done
    links-are =
        rw done-is (linked-ext (7 * st.start) (tag_at (7 * b) tr) (tag_at (7 * b) (e₀ ∷ tr)) none (hist (7 * b) tr).done
        (all_map (λ t. tag_at (7 * b) (e₀ ∷ tr) (closer_of t) ≡ tag_at (7 * b) tr (closer_of t)) (λ t. tag_at (7 * b) tr (closer_of t) ≡ tag_at (7 * b) (e₀ ∷ tr) (closer_of t)) (λ t h. sym h)
        (hist (7 * b) tr).done (closers-older (7 * b) e₀ tr)) c.links)

    log-becomes : u.log ≡ entered st (st.next % G) w.log (plain_of (7 * b + length tr) e₀ (mine (hist (7 * b) tr) e₀) e₀.final) e₀.block
    unfolding store_other log_held lent event
    log-becomes = rw word-is (log_is (entry_word r.home (P - first_for r P)))

    copies-are : Copies G D b (e₀ ∷ tr) u
    unfolding event store_other lent with_task
    copies-are =
        copies-logged G D b tr w u v e₀
        (opened (entries_for b tr ps ++ (entry_of w.book (record { home = r.home; block = hd }) ∷ [])) (some (record { home = home; block = block })))
        st.last z c l roomy refl refl (sound-event false 0 (omega arith)) adv (rw state-is (length-set_promise s₃ v n₃ ∙ size₃)) writer-others
        (λ x k n. rw state-is (held-set_promise s₃ v n₃ x l ∙ held-set_held-other s₁ v block x n hb ∙ held-set_writer lo.state v _ x l ∙ (keeps _).held x))
        in-order-is promises-are task-is refl log-becomes refl
        (ap (λ (k : Book). k.tasks v) book-is ∙ task-here (filled_up w.book) v _)
        (λ x n. ap (λ (k : Book). k.tasks x) book-is ∙ task-other (filled_up w.book) v x _ n ∙ ap (λ (f : ℕ → Task). f x) (filled-tasks w.book))
        (ap (λ (k : Book). k.rows) book-is) (ap (λ (k : Book). k.filled) book-is) (λ bound h. rw commits-are) (rw done-is c.apart) links-are (rw done-is c.last)
        (omega (arith, c.order.last-closing))

    pending-is : u.pending ≡ w.pending ++ cond (eqb st.filled 6) (GW (st.next % G) (group_at u.log (st.next % G)) ∷ []) []
    unfolding store_other log_held lent
    pending-is = ap (λ (x : List Record). w.pending ++ x) (records-are (entry_word r.home (P - first_for r P)))

    pub store-other-runs : Running G D u
    unfolding event store_other lent is_confirm
    store-other-runs =
        record {
          b = b;
          tr = e₀ ∷ tr;
          old = R.old;
          ready = refl;
          since = R.since;
          commits = rw commits-are (commits-open D b e₀ tr R.old w.book.commits refl R.commits);
          copies = copies-are;
          submitted =
              submitted-logged G D b tr R.old w u e₀ st.last R.submitted c copies-are adv roomy pending-is refl refl (λ bound h. rw commits-are)
              (λ k fs hs ff i. rw commits-are (image-open G D b w.memory.log e₀ tr R.old w.book.commits k fs refl i));
          confirmed = confirmed-more G b w u _ R.confirmed pending-is refl (omega (arith, adv.fenced)) (λ bound o. rw commits-are o);
        }

  -- a commit
  module _ (batch : List ℕ) where
    abbrev lk : ℕ
    lk = link_from (next_position (state_of w.state)) (state_of w.state)

    abbrev e₁ : Ev
    e₁ = ev true (link_from (next_position (state_of w.state)) (state_of w.state))

    lk-small : lk < 2 ^ 13
    lk-small = link-small G st z.high in-room c.order.last-closing

    closing-word : plain_of (7 * b + length tr) e₁ (mine (hist (7 * b) tr) e₁) e₁.final ≡ closing_word r.home (P - first_for r P) lk (count_for r + 1)
    unfolding plain_of event
    closing-word =
        let k : suc (length ps) ≡ count_for r + 1 = omega (arith, lg.count) in
        rw (mine-event (hist (7 * b) tr) v r hd true lk, first-is, k, ← position)

    abbrev lc : Logged
    lc = logged w.state w.log (closing_word r.home (P - first_for r P) lk (count_for r + 1)) hd

    abbrev y : World
    y = after w (commit v batch) (commit_held (lent w [] batch v 0) (writer_of w.state v) (next_position (state_of w.state)))

    abbrev s₂ : List ℕ
    s₂ = set_last lc.state (P + 1)

    size₂ : length s₂ ≡ 1024
    size₂ = length-set_last lc.state (P + 1) ∙ (keeps _).size

    abbrev s₄ : List ℕ
    s₄ = set_writer (set_last lc.state (P + 1)) v idle

    size₄ : length s₄ ≡ 1024
    size₄ = length-set_writer s₂ v idle ∙ size₂

    -- what is kept of the list of rights
    abbrev pub left_by : Given
    left_by =
        record { state = set_promise (set_writer (set_last lc.state (P + 1)) v idle) v 0; newest = y.newest; log = y.log; area = y.area; block = []; batch = []; writer = 0; home = 0 }

    abbrev s₅ : List ℕ
    s₅ = keep_list left_by

    pub c-state-is : y.state ≡ s₅
    unfolding commit_held log_closing lent
    c-state-is = refl

    pub left-size : length left_by.state ≡ 1024
    left-size = length-set_promise s₄ v 0 ∙ size₄

    size₅ : length s₅ ≡ 1024
    size₅ = length-keep_list left_by ∙ length-set_promise s₄ v 0 ∙ size₄

    c-numbers : state_of y.state ≡ state_of s₂
    c-numbers = rw c-state-is (state-keep_list left_by ∙ state-set_promise s₄ v 0 l ∙ state-set_writer s₂ v idle)

    c-writer : writer_of y.state v ≡ idle
    c-writer = rw c-state-is (writer-keep_list left_by v l ∙ writer-set_promise s₄ v 0 v l ∙ writer-set_writer s₂ v idle size₂ l fits-idle)

    c-writers : (x : ℕ) → x < 8 → (x ≡ v → ⊥) → writer_of y.state x ≡ writer_of w.state x
    c-writers x k n =
        rw c-state-is (writer-keep_list left_by x k ∙ writer-set_promise s₄ v 0 x l ∙ writer-set_writer-other s₂ v idle x l k n ∙ writer-set_last lc.state (P + 1) x ∙ (keeps _).writer x)

    c-promises : (x : ℕ) → x < 8 → (x ≡ v → ⊥) → promise_of y.state x ≡ promise_of w.state x
    c-promises x m n =
        rw c-state-is
        (promise-keep_list left_by x m ∙ promise-set_promise-other s₄ v 0 x n ∙ promise-set_writer s₂ v idle x m ∙ promise-set_last lc.state (P + 1) x ∙ (keeps _).promise x)

    c-promise : promise_of y.state v ≡ 0
    c-promise = rw c-state-is (promise-keep_list left_by v l ∙ promise-set_promise s₄ v 0 size₄ l (omega arith))

    c-adv : Advance st (state_of y.state) (P + 1)
    c-adv =
        let a = moves (closing_word r.home (P - first_for r P) lk (count_for r + 1)) in
        rw (c-numbers, state-set_last lc.state (P + 1) (keeps _).size (omega (arith, in-room, c.order.start-most)))
        (record {
          groups = a.groups;
          homes = a.homes;
          start = a.start;
          settled = a.settled;
          fenced = a.fenced;
          durable = a.durable;
          round = a.round;
          cursor = a.cursor;
          last = refl;
          moved = a.moved;
        })

    c-in-order : Reserved y.state
    c-in-order =
        promises-logged w.state y.state v (P + 1) l c.order.promises c-adv left c-promises c-writers (omega (arith, c-promise)) (λ h. c-promise)

    abbrev cm : Commit
    cm =
        record {
          entries = entries_for R.b R.tr ps ++ (entry_of w.book (record { home = (writer_of w.state v).home; block = held_of w.state v }) ∷ []);
          ticket = next_position (state_of w.state) + 1;
          owed = false;
        }

    c-book : y.book ≡ with_task (add_commit (filled_up w.book) cm) v book.idle
    unfolding feed feed_change book.commit book.commit_task commit_held
    c-book = rw lg.task

    c-commits : y.book.commits ≡ w.book.commits ++ (cm ∷ [])
    unfolding with_task add_commit
    c-commits = ap (λ (k : Book). k.commits) c-book ∙ ap (λ (x : List Commit). x ++ (cm ∷ [])) (filled-commits w.book)

    c-done : (hist (7 * b) (e₁ ∷ tr)).done ≡ (hist (7 * b) tr).done ++ (((7 * b + length tr) ∷ mine (hist (7 * b) tr) e₁) ∷ [])
    unfolding event
    c-done = close-done (7 * b) e₁ tr refl refl

    c-link : link_in (tag_at (7 * b) (e₁ ∷ tr) (7 * b + length tr)) ≡ lk
    unfolding event tag_of link_in
    c-link = ap link_in (tag_at-here (7 * b) e₁ tr)

    c-links : Linked (7 * st.start) (tag_at (7 * b) (e₁ ∷ tr)) none (hist (7 * b) (e₁ ∷ tr)).done
    unfolding closer_of
    c-links =
        rw c-done
        (linked-more (7 * st.start) (tag_at (7 * b) (e₁ ∷ tr)) none (hist (7 * b) tr).done ((7 * b + length tr) ∷ mine (hist (7 * b) tr) e₁)
        (linked-ext (7 * st.start) (tag_at (7 * b) tr) (tag_at (7 * b) (e₁ ∷ tr)) none (hist (7 * b) tr).done
        (all_map (λ t. tag_at (7 * b) (e₁ ∷ tr) (closer_of t) ≡ tag_at (7 * b) tr (closer_of t)) (λ t. tag_at (7 * b) tr (closer_of t) ≡ tag_at (7 * b) (e₁ ∷ tr) (closer_of t)) (λ t h. sym h)
        (hist (7 * b) tr).done (closers-older (7 * b) e₁ tr)) c.links)
        (λ h. rw c-link (subst (λ (p : ℕ). LinkOk (7 * st.start) (last_from none (hist (7 * b) tr).done) p lk) position
        (link-ok P st (hist (7 * b) tr).done (7 * b) (7 * b + length tr) (done-rising (7 * b) tr) (omega (arith, position)) c.last))))

    c-log : y.log ≡ entered st (st.next % G) w.log (plain_of (7 * b + length tr) e₁ (mine (hist (7 * b) tr) e₁) e₁.final) e₁.block
    unfolding commit_held log_closing lent event
    c-log = rw closing-word (log_is (closing_word r.home (P - first_for r P) lk (count_for r + 1)))

    c-homes : (bound : ℕ) → bound ≤ st.fenced → closed_below bound y.book.commits ≡ closed_below bound w.book.commits
    c-homes bound h = rw (c-commits, closed-snoc bound w.book.commits cm (unfold next_position in omega (arith, c.order.fenced-next)))

    c-copies : Copies G D b (e₁ ∷ tr) y
    unfolding event commit_held lent with_task add_commit
    c-copies =
        copies-logged G D b tr w y v e₁ book.idle (P + 1) z c l roomy refl refl (sound-event true lk lk-small) c-adv (rw c-state-is size₅) c-writers
        (λ x k n. rw c-state-is (held-keep_list left_by x k ∙ held-set_promise s₄ v 0 x l ∙ held-set_writer s₂ v idle x l ∙ held-set_last lc.state (P + 1) x ∙ (keeps _).held x))
        (rw c-writer (order-idle _)) c-in-order (rw c-writer (inl ((unfold idle in refl), refl))) refl c-log refl
        (ap (λ (k : Book). k.tasks v) c-book ∙ task-here (add_commit (filled_up w.book) cm) v book.idle)
        (λ x n. ap (λ (k : Book). k.tasks x) c-book ∙ task-other (add_commit (filled_up w.book) cm) v x book.idle n ∙ ap (λ (f : ℕ → Task). f x) (filled-tasks w.book))
        (ap (λ (k : Book). k.rows) c-book) (ap (λ (k : Book). k.filled) c-book) c-homes
        (rw c-done (apart_snoc (7 * st.start) (hist (7 * b) tr).done _ (low_first true lk) c.apart)) c-links
        (rw c-done (inl (omega (arith, last-closes (hist (7 * b) tr).done ((7 * b + length tr) ∷ mine (hist (7 * b) tr) e₁), position, closer))))
        (omega arith)
      where
        closer : closer_of ((7 * b + length tr) ∷ mine (hist (7 * b) tr) e₁) ≡ 7 * b + length tr
        closer = unfold closer_of in refl

    c-pending : y.pending ≡ w.pending ++ cond (eqb st.filled 6) (GW (st.next % G) (group_at y.log (st.next % G)) ∷ []) []
    unfolding commit_held log_closing lent
    c-pending = ap (λ (x : List Record). w.pending ++ x) (records-are (closing_word r.home (P - first_for r P) lk (count_for r + 1)))

    pub commit-held-runs : Running G D y
    unfolding event commit_held lent is_confirm
    commit-held-runs =
        record {
          b = b;
          tr = e₁ ∷ tr;
          old = R.old;
          ready = refl;
          since = R.since;
          commits = rw c-commits (commits-close D b e₁ tr R.old w.book.commits cm refl refl (sym (entry-is true lk)) (omega (arith, position)) R.commits);
          copies = c-copies;
          submitted =
              submitted-logged G D b tr R.old w y e₁ (P + 1) R.submitted c c-copies c-adv roomy c-pending refl refl c-homes
              (λ k fs hs ff i. rw c-commits (image-close G D b w.memory.log e₁ tr R.old w.book.commits k fs cm refl refl (sym (entry-is true lk)) (omega (arith, position)) ff (λ lt. omega (arith, low_first true lk)) i));
          confirmed = confirmed-more G b w y _ R.confirmed c-pending refl (omega (arith, c-adv.fenced)) (λ bound o. rw c-commits (owed-snoc bound w.book.commits cm refl o));
        }

    -- the trace has what it had at the earlier positions
    pub commit-older : (q : ℕ) → q < P → block_on (7 * commit-held-runs.b) commit-held-runs.tr q ≡ block_on (7 * b) tr q
    unfolding commit-held-runs
    commit-older q h = block_on-older (7 * b) e₁ tr q (omega (arith, position))

    pub commit-closes : Closing G D w R v y
    commit-closes =
        record {
          tr = e₁ ∷ tr;
          earlier = mine (hist (7 * b) tr) e₁;
          entries = cm.entries;
          copies = c-copies;
          start = c-adv.start;
          done = c-done ∙ ap (λ (p : ℕ). (hist (7 * b) tr).done ++ ((p ∷ mine (hist (7 * b) tr) e₁) ∷ [])) (sym position);
          first = ap (first_of P) (mine-event (hist (7 * b) tr) v r hd true lk) ∙ lg.first;
          listed = sym (entry-is true lk) ∙ ap (λ (p : ℕ). entries_for b (e₁ ∷ tr) (p ∷ mine (hist (7 * b) tr) e₁)) (sym position);
          commits = c-commits;
        }
