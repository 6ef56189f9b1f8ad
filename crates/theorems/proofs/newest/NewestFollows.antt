-- The newest positions are those that the book gives, after a done opening and every call that follows. Assumes nothing.
use Prim.Native.Nat.{ℕ, ◌+◌, ◌-◌, ◌*◌, ◌^◌, ◌≤◌, ◌<◌}
use mathlib.Core.Path.{◌≡◌, refl, sym, ap, ◌∙◌}
use mathlib.Core.Logic.{◌⊎◌, inl, inr}
use mathlib.Core.Bool.{Bool, true, false, cond, not, false≢true}
use mathlib.Core.List.{List, [], ◌∷◌, ◌++◌}
use mathlib.Core.Option.{Option, none, some}
use native.Mathlib.Omega.{arith}
use lib.Dec.{eqb, ltb}
use lib.ListN.{length}
use borrow.Author.Tests.{leb-true, leb-false, ltb-true, eqb-true, le-ltb}
use Rattle.model.specs.declared.Tag.{Tag}
use Rattle.model.specs.Layout.{home_count, header_start}
use Rattle.model.specs.Commit.{entries, each_entries, transactions}
use Rattle.model.specs.State.{state_of, next_position, writer_of, held_of, holds, first_for}
use Rattle.model.specs.Newest.{no_position, kept_as, kept_for, keep_entries, forget}
use Rattle.model.specs.Effects.{Given, Effect, homes, new_state, tags_of, live_base, kept_commit, commit_held, abort_effect, commit_effect, trim_start, trim_to, trim_effect}
use Rattle.model.specs.Questions.{writer_known, commit_answer, commit_logs, room, trim_answer}
use Rattle.model.specs.Calls.{Outcome, done, size_of, commit_call, trim_call}
use Rattle.model.specs.Book.{Task, commit_task, with_task, with_commits}
use Rattle.model.specs.Book as book
use Rattle.abstract_store.specs.Store.{Store, new_store, numbered, follow}
use Rattle.abstract_store.specs.Store as store
use Rattle.model.specs.History.{Call, opening, confirm, change, service, commit, trim, Event, call, crash, World, empty_store, unopened, lent, loaded, ends, change_ends, service_ends, feed, feed_change, is_opening, after_done, after_crash, step, Allowed}
use Rattle.model_laws.proofs.bytes.LayoutLaws.{homes_in}
use Rattle.model_laws.proofs.state.NewestLaws.{Keepable, kept-else, kept-entries, kept-forget, kept-nothing}
use Rattle.model_laws.proofs.state.QuestionLaws.{Roomy, room-true, CommitReady, commit-ready}
use Rattle.model_laws.proofs.trace.Trace.{hist, closer_of, oldest_of, closing_from}
use Rattle.model_laws.proofs.trace.TraceLaws.{All}
use Rattle.model_laws.proofs.trace.WholeLaws.{closing_from-snoc}
use Rattle.model_laws.proofs.trace.CountLaws.{span_of, spans_of}
use Rattle.theorems.proofs.invariant.Invariant.{Sizes, TaskOk, Running, Closed, Invariant}
use Rattle.theorems.proofs.invariant.LiveLog.{tags_in, base_of, kept_in, Shown, live-from, live-order, live-room, lent-groups, lent-homes, live-transactions, live-spans, kept-shown}
use Rattle.theorems.proofs.invariant.NewestBook.{last_entry, last_committed, committed-more, committed-old, committed-by, committed-all, HomeIn, newest-entries, trimmed_at, committed-trimmed}
use Rattle.theorems.proofs.steps.DoneLaws.{outcome-code, after}
use Rattle.theorems.proofs.steps.NewestSteps.{done-newest, open-newest}
use Rattle.theorems.proofs.steps.StoreCommit.{Closing, commit-closes}
use Rattle.theorems.proofs.steps.TrimRuns.{MayMove, trim-may}
use Rattle.theorems.proofs.demands.Yields.{ends-done}
use Rattle.theorems.proofs.demands.TrimYields.{trim-leaves}
use Rattle.theorems.proofs.demands.YieldsAll.{step_by}
use Rattle.theorems.proofs.steps.Footprint.{lists, committed, log_start, Touch, lists-open, lists-commit, lists-trim, committed-open, committed-confirm, committed-commit, start-open, start-trim, Spares, frame}
use Rattle.theorems.proofs.store.StoreAgrees.{Agrees}
use Rattle.theorems.proofs.store.StoreFollows.{done-agrees, follows, empty-agrees}

-- what is kept for each home is what the book says of it
abbrev pub Placed : ℕ → ℕ → World → Type 0
Placed G D w =
    (h : ℕ) → h < D
    → kept_for w.newest h ≡ kept_as (last_committed (header_start w.memory.log + G) (7 * (state_of w.state).start) h w.book.commits)

-- whatever records are read off the batch
after-placed : (G D : ℕ) (w : World) (c : Call) (g : Given) (e : Effect) → Placed G D (after w c e) → Placed G D (after_done w c (done g e))
unfolding after_done done
after-placed G D w c g e q = q

-- ---- the last of some transactions

each_last : (tags : ℕ → Tag) (base : ℕ) (xs : List (List ℕ)) (t : List ℕ)
    → each_entries tags base (spans_of (xs ++ (t ∷ []))) ≡ xs ++ (t ∷ []) → entries tags base (span_of t) ≡ t
unfolding each_entries spans_of
each_last tags base [] t e = cc
each_last tags base (x ∷ xs) t e = each_last tags base xs t cc

all-last : {A : Type 0} (P : A → Type 0) (xs : List A) (a : A) → All P (xs ++ (a ∷ [])) → P a
all-last P [] a h = h.0
all-last P (x ∷ xs) a h = all-last P xs a h.1

-- ---- a commit

module _ (G D : ℕ) (z : Sizes G D) (w : World) (r : Running G D w) (v : ℕ) (u : World) (k : Closing G D w r v u) where
  abbrev P : ℕ
  P = next_position (state_of w.state)

  abbrev t : List ℕ
  t = next_position (state_of w.state) ∷ k.earlier

  above : base_of u ≤ closer_of t
  unfolding closer_of
  above = omega (arith, k.start, live-order G D r.b r.tr w z r.copies)

  kept-snoc : kept_in r.b k.tr u ≡ closing_from (base_of u) (hist (7 * r.b) r.tr).done ++ (t ∷ [])
  kept-snoc = rw k.done (closing_from-snoc (base_of u) (hist (7 * r.b) r.tr).done t above)

  -- its entries are those that the log copy has from the first position to the closing one
  closing-entries : entries (tags_in G D u) (base_of u) (record { first = first_for (writer_of w.state v) P; closing = P }) ≡ t
  unfolding transactions span_of oldest_of closer_of
  closing-entries =
      rw (← k.first)
      (each_last (tags_in G D u) (base_of u) (closing_from (base_of u) (hist (7 * r.b) r.tr).done) t
      (rw (live-spans G D r.b k.tr u z k.copies, kept-snoc) at (live-transactions G D r.b k.tr u z k.copies)))

  closing-shown : All (Shown G D r.b k.tr u) t
  closing-shown =
      all-last (All (Shown G D r.b k.tr u)) (closing_from (base_of u) (hist (7 * r.b) r.tr).done) t
      (rw kept-snoc at (kept-shown G D r.b k.tr u z k.copies))

  keepable : (ps : List ℕ) → All (Shown G D r.b k.tr u) ps → Keepable (tags_in G D u) D ps
  keepable [] a = tt
  keepable (p ∷ ps) a =
      let s : Shown G D r.b k.tr u p = a.0 in
      let o = k.copies.order in (
        (
          omega (arith, s.home, s.fits.0),
          omega (arith, s.high, live-room G D r.b k.tr u z k.copies, o.start-most, z.high),
        ),
        keepable ps a.1,
      )

  homes-in-log : (ps : List ℕ) → All (Shown G D r.b k.tr u) ps → All (HomeIn (tags_in G D u) r.b k.tr) ps
  homes-in-log [] a = tt
  homes-in-log (p ∷ ps) a =
      let s : Shown G D r.b k.tr u p = a.0 in
      ((omega (arith, s.low, live-from G D r.b k.tr u z k.copies), s.home), homes-in-log ps a.1)

  -- what is then kept for a home
  pub closing-kept : (l : List ℕ) (h : ℕ) → length l ≡ 8 * D
      → kept_for l h ≡ kept_as (last_committed r.b (base_of w) h w.book.commits)
      → kept_for (keep_entries (tags_in G D u) (entries (tags_in G D u) (base_of u) (record { first = first_for (writer_of w.state v) P; closing = P })) l) h
      ≡ kept_as (last_committed r.b (base_of u) h u.book.commits)
  closing-kept l h e q =
      rw (closing-entries)
      (kept-entries (tags_in G D u) t l h D e (keepable t closing-shown)
      ∙ rw (newest-entries (tags_in G D u) r.b k.tr h t (homes-in-log t closing-shown), ← k.listed, q)
      (kept-else (last_entry r.b h k.entries) (last_committed r.b (base_of w) h w.book.commits)
      ∙ rw (k.commits, k.start)
      (ap kept_as
      (sym (committed-more r.b (base_of w) h w.book.commits
      (record { entries = k.entries; ticket = next_position (state_of w.state) + 1; owed = false })
      (omega (arith, live-order G D r.b r.tr w z r.copies)))))))

-- ---- calls that leave the newest positions, the start and the commits

module _ (G D : ℕ) (z : Sizes G D) (w : World) (r : Running G D w) (s : Store) (a : Agrees G D w s) (p : Placed G D w) where
  -- the start is the abstract store's
  start-after : (c : Call) (e : is_opening c ≡ false) (h : (ends w c).code ≡ 0) → (store.after_done s c (ends w c).figure).start ≡ s.start
      → (state_of (ends w c).state).start ≡ (state_of w.state).start
  unfolding after_done
  start-after c e h q = sym ((done-agrees G D z w r s a c e h).numbers refl).start ∙ q ∙ (a.numbers r.ready).start

  quiet-placed : (c : Call) (e : is_opening c ≡ false) (h : (ends w c).code ≡ 0) → (ends w c).newest ≡ w.newest
      → (store.after_done s c (ends w c).figure).start ≡ s.start
      → ((b c₀ x : ℕ) → last_committed b c₀ x (feed w.book c (ends w c).figure).commits ≡ last_committed b c₀ x w.book.commits)
      → Placed G D (after_done w c (ends w c))
  unfolding after_done
  quiet-placed c e h n q f x l = rw (n, start-after c e h q, f (header_start w.memory.log + G) (7 * (state_of w.state).start) x) (p x l)

  -- ---- commit

  -- a writer that holds nothing has no block to commit
  pub idle-commits : (v ticket : ℕ) → v < 8 → (writer_of w.state v).mode < 2 → (commit_task w.book v ticket (w.book.tasks v)).commits ≡ w.book.commits
  idle-commits v ticket l m = go (w.book.tasks v) (r.copies.tasks v l)
    where
      go : (t : Task) → TaskOk r.b r.tr (writer_of w.state v) (held_of w.state v) ((hist (7 * r.b) r.tr).open_transaction v) t
          → (commit_task w.book v ticket t).commits ≡ w.book.commits
      go t (inl h) = rw h.1 (unfold commit_task in refl)
      go t (inr (inl h)) = rw h.1 (unfold commit_task with_task in refl)
      go t (inr (inr (inl h))) = absurd (omega (arith, h.0))
      go t (inr (inr (inr h))) = absurd (omega (arith, h.0))

  module _ (v : ℕ) (batch : List ℕ) (h : (ends w (commit v batch)).code ≡ 0) where
    abbrev g : Given
    g = lent w [] batch v 0

    pub ready : CommitReady g (size_of (commit_effect g))
    unfolding ends change_ends commit_call
    ready =
        commit-ready g (size_of (commit_effect g))
        (sym (outcome-code g (commit_answer g (size_of (commit_effect g))) (commit_effect g)) ∙ h)

    pub known : v < 8
    unfolding writer_known lent
    known = ltb-true v 8 ready.writer

    pub ended : ends w (commit v batch) ≡ done g (commit_effect g)
    unfolding ends change_ends commit_call
    ended = ends-done (commit_call g) g (commit_answer g (size_of (commit_effect g))) (commit_effect g) refl h

    none-placed : holds (writer_of w.state v) ≡ false → Placed G D (after_done w (commit v batch) (ends w (commit v batch)))
    none-placed e =
        quiet-placed (commit v batch) (unfold is_opening in refl) h
        (ap (λ (o : Outcome). o.newest) ended ∙ (unfold done commit_effect lent in rw e (unfold abort_effect new_state in refl)))
        (unfold store.after_done numbered in refl)
        (λ b c₀ x. unfold feed feed_change book.commit in
        ap (last_committed b c₀ x) (idle-commits v (ends w (commit v batch)).figure known (leb-false 2 (writer_of w.state v).mode (unfold holds in e))))

    pub held-effect : holds (writer_of w.state v) ≡ true → commit_effect g ≡ commit_held g (writer_of w.state v) (next_position (state_of w.state))
    unfolding commit_effect lent
    held-effect e = rw e

    -- the world after it, but for its records
    abbrev pub y : World
    y = after w (commit v batch) (commit_held (lent w [] batch v 0) (writer_of w.state v) (next_position (state_of w.state)))

    held-newest : (state_of y.state).start ≡ (state_of w.state).start
        → y.newest
        ≡ keep_entries (tags_in G D y)
        (entries (tags_in G D y) (base_of y) (record { first = first_for (writer_of w.state v) (next_position (state_of w.state)); closing = next_position (state_of w.state) }))
        w.newest
    held-newest e =
        rw (e, ← lent-groups G D r.b r.tr w z r.copies [] batch v 0, ← lent-homes G D r.b r.tr w z r.copies [] batch v 0)
        (unfold commit_held kept_commit tags_of live_base lent in refl)

    pub held-mode : holds (writer_of w.state v) ≡ true → 2 ≤ (writer_of w.state v).mode
    unfolding holds
    held-mode e = leb-true 2 (writer_of w.state v).mode e

    pub held-roomy : holds (writer_of w.state v) ≡ true → Roomy w.state v
    held-roomy e = room-true w.state v (unfold room commit_logs lent in ready.roomy e)

    pub placed-then : holds (writer_of w.state v) ≡ true → Placed G D y
    placed-then e x l =
        let k : Closing G D w r v y = commit-closes G D z w r v known (held-mode e) (held-roomy e) batch in
        ap (λ (n : List ℕ). kept_for n x) (held-newest k.start)
        ∙ closing-kept G D z w r v y k w.newest x (a.newest r.ready) (rw r.since (p x l))
        ∙ ap (λ (b : ℕ). kept_as (last_committed b (base_of y) x y.book.commits)) r.since

    held-placed : holds (writer_of w.state v) ≡ true → Placed G D (after_done w (commit v batch) (ends w (commit v batch)))
    held-placed e = rw (ended, held-effect e) (after-placed G D w (commit v batch) g _ (placed-then e))

    commit-placed : Placed G D (after_done w (commit v batch) (ends w (commit v batch)))
    commit-placed = go (holds (writer_of w.state v)) refl
      where
        go : (d : Bool) → holds (writer_of w.state v) ≡ d → Placed G D (after_done w (commit v batch) (ends w (commit v batch)))
        go true e = held-placed e
        go false e = none-placed e

  -- ---- trim

  trimmed-kept : (c : ℕ) (o : Option ℕ) → c < 2 ^ 64 - 1 → cond (ltb (kept_as o) c) no_position (kept_as o) ≡ kept_as (trimmed_at c o)
  unfolding kept_as trimmed_at
  trimmed-kept c none l = rw (le-ltb no_position c (omega arith))
  trimmed-kept c (some q) l = go (ltb q c)
    where
      go : (d : Bool) → cond d no_position q ≡ kept_as (cond d none (some q))
      go true = refl
      go false = refl

  module _ (batch : List ℕ) (h : (ends w (trim batch)).code ≡ 0) where
    abbrev gt : Given
    gt = lent w [] batch 0 0

    abbrev start : ℕ
    start = trim_start (lent w [] batch 0 0)

    trim-newest : (e : Bool) → eqb start (state_of w.state).start ≡ e
        → (ends w (trim batch)).newest ≡ cond e w.newest (forget w.newest (7 * start) D)
    unfolding ends service_ends trim_call
    trim-newest e q =
        done-newest (trim_call gt) gt (trim_answer gt start (size_of (trim_effect gt start))) (trim_effect gt start) refl h
        ∙ (unfold trim_effect lent in rw q (go e))
      where
        go : (d : Bool) → (cond d (new_state gt w.state 0) (trim_to gt (state_of w.state) start)).newest ≡ cond d w.newest (forget w.newest (7 * start) D)
        go true = unfold new_state lent in refl
        go false =
            rw (← lent-homes G D r.b r.tr w z r.copies [] batch 0 0) (unfold trim_to lent in refl)

    left : ((state_of (ends w (trim batch)).state).start ≡ start) × (start ≤ 2 ^ 47)
    left = trim-leaves G D z w r batch h

    may : MayMove G D w r start
    may = trim-may G D z w r batch

    -- what is asked, with the start as it is then
    abbrev Due : ℕ → List ℕ → Type 0
    Due x n =
        kept_for n x ≡ kept_as (last_committed (header_start w.memory.log + G) (7 * trim_start (lent w [] batch 0 0)) x w.book.commits)

    moved : (x : ℕ) → x < D → Due x (forget w.newest (7 * start) D)
    moved x l =
        let b : ℕ = header_start w.memory.log + G in
        let e : last_committed b (7 * start) x w.book.commits ≡ trimmed_at (7 * start) (last_committed b (7 * (state_of w.state).start) x w.book.commits) =
        rw (← r.since)
        (committed-trimmed D r.b r.tr r.old (7 * (state_of w.state).start) (7 * start) x w.book.commits r.commits (omega (arith, may.from)) may.apart) in
        kept-forget w.newest (7 * start) D x D (a.newest r.ready) (omega arith) l
        ∙ rw (p x l) (trimmed-kept (7 * start) _ (omega (arith, left.1))) ∙ ap kept_as (sym e)

    trim-placed : Placed G D (after_done w (trim batch) (ends w (trim batch)))
    unfolding after_done feed
    trim-placed x l = rw left.0 (go (eqb start (state_of w.state).start) refl)
      where
        go : (e : Bool) → eqb start (state_of w.state).start ≡ e → Due x (ends w (trim batch)).newest
        go true e = rw (trim-newest true e, eqb-true start (state_of w.state).start e) (p x l)
        go false e = rw (trim-newest false e) (moved x l)

  -- ---- every call of an era

  pub done-placed : (c : Call) → is_opening c ≡ false → (ends w c).code ≡ 0 → Placed G D (after_done w c (ends w c))
  unfolding is_opening
  done-placed c o h = go c o h (frame lists c) (frame committed c) (frame log_start c)
    where
      go : (c : Call) → is_opening c ≡ false → (ends w c).code ≡ 0 → Touch lists c ⊎ Spares lists c → Touch committed c ⊎ Spares committed c
          → Touch log_start c ⊎ Spares log_start c → Placed G D (after_done w c (ends w c))
      go c o h (inl (lists-open state newest batch)) k q = absurd (false≢true (sym o))
      go c o h (inl (lists-commit v batch)) k q = commit-placed v batch h
      go c o h (inl (lists-trim batch)) k q = trim-placed batch h
      go c o h (inr f) k (inl (start-open state newest batch)) = absurd (false≢true (sym o))
      go c o h (inr f) k (inl (start-trim batch)) = trim-placed batch h
      go c o h (inr f) (inl (committed-open state newest batch)) (inr q) = absurd (false≢true (sym o))
      go c o h (inr f) (inl (committed-commit v batch)) (inr q) = commit-placed v batch h
      go c o h (inr f) (inl committed-confirm) (inr q) =
          quiet-placed confirm o h (f w h).0 (q s (ends w confirm).figure)
          (λ b c₀ x. unfold feed with_commits in committed-by (ends w confirm).figure b c₀ x w.book.commits)
      go c o h (inr f) (inr k) (inr q) =
          quiet-placed c o h (f w h).0 (q s (ends w c).figure) (λ b c₀ x. ap (last_committed b c₀ x) (k w.book (ends w c).figure))

-- ---- an opening

opened-placed : (G D : ℕ) (w : World) → Closed G D w → (state newest batch : List ℕ) → (ends w (opening state newest batch)).code ≡ 0
    → Placed G D (after_done w (opening state newest batch) (ends w (opening state newest batch)))
unfolding after_done feed with_commits
opened-placed G D w k state newest batch h x l =
    let e : homes (loaded w state newest batch) ≡ D = unfold loaded in (ap home_count k.opens.area_size ∙ homes_in D) in
    rw (open-newest w state newest batch h, e, kept-nothing D x l, committed-all (header_start w.memory.log + G) _ x w.book.commits, committed-old D (header_start w.memory.log + G) (7 * (state_of (ends w (opening state newest batch)).state).start) x w.book.commits k.past)
    (unfold kept_as in refl)

-- ---- every event

-- the abstract store goes along, and after a done opening the newest positions are the book's
abbrev pub NewestAlong : ℕ → ℕ → World → Type 0
NewestAlong G D w = (s : Store) × Agrees G D w s × (w.ready ≡ true → Placed G D w)

module _ (G D : ℕ) (z : Sizes G D) where
  opening-placed : (w : World) → Closed G D w → (w.ready ≡ true → Placed G D w) → (c : Call) → is_opening c ≡ true
      → ((step w (call c)).ready ≡ true → Placed G D (step w (call c)))
  unfolding is_opening
  opening-placed w k p (opening state newest batch) e =
      step_by (λ u. u.ready ≡ true → Placed G D u) w (opening state newest batch) p (λ h q. opened-placed G D w k state newest batch h)
  opening-placed w k p confirm e = absurd (false≢true e)
  opening-placed w k p (change c) e = absurd (false≢true e)
  opening-placed w k p (service c) e = absurd (false≢true e)

  placed-keeps : (w : World) → Invariant G D w → (s : Store) → Agrees G D w s → (w.ready ≡ true → Placed G D w) → (e : Event) → Allowed w e
      → ((step w e).ready ≡ true → Placed G D (step w e))
  placed-keeps w (inl k) s a p (call c) h = opening-placed w k p c (h ∙ ap not k.ready)
  placed-keeps w (inr r) s a p (call c) h =
      step_by (λ u. u.ready ≡ true → Placed G D u) w c p
      (λ e q. done-placed G D z w r s a (p r.ready) c (h ∙ ap not r.ready) e)
  placed-keeps w i s a p (crash passed chosen) h = λ q. absurd (false≢true (unfold step after_crash in q))

  pub along-keeps : (w : World) → Invariant G D w → NewestAlong G D w → (e : Event) → Allowed w e → NewestAlong G D (step w e)
  along-keeps w i k e h = (follow k.0 w e, follows G D z w i k.0 k.1 e h, placed-keeps w i k.0 k.1 k.2 e h)

  pub along-begins : NewestAlong G D (empty_store G D)
  along-begins = (new_store G D, empty-agrees G D z, λ h. absurd (false≢true (unfold empty_store unopened in h)))
