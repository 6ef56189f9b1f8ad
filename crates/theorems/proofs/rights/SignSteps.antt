-- The sign of the list of rights says nothing false of the list as the book has it: a commit that changes a position of the list's homes sets it by the
-- list as it is then, one that changes none leaves the list, an opening sets it by the homes that it brings back, and no other call changes either. Assumes nothing.
use Prim.Native.Nat.{ℕ, ◌+◌, ◌*◌, ◌≤◌, ◌<◌}
use mathlib.Core.Path.{◌≡◌, refl, sym, ap, ◌∙◌, subst}
use mathlib.Core.Logic.{◌⊎◌, inl, inr}
use mathlib.Core.Bool.{Bool, true, false, cond, not, false≢true}
use mathlib.Core.List.{List, []}
use lib.Dec.{eqb}
use lib.ListN.{length}
use borrow.Author.Tests.{leb-false}
use Rattle.model.specs.Bytes.{part, zeros}
use Rattle.model.specs.State.{state_of, next_position, writer_of, idle, holds, list_home, listed_of, list_sign}
use Rattle.model.specs.Newest.{kept_for}
use Rattle.model.specs.Effects.{Given, Effect, homes, new_state, open_effect, commit_held, commit_effect, kept_commit, trim_start, trim_to, trim_effect}
use Rattle.model.specs.Rights.{read_list, list_moved, sign_for, keep_list, Faithful}
use Rattle.model.specs.Calls.{Outcome, done}
use Rattle.model.specs.Book.{homes_after, with_commits}
use Rattle.model.specs.Book as book
use Rattle.model.specs.History.{Call, opening, confirm, change, service, commit, trim, Event, call, crash, World, lent, loaded, ends, feed, feed_change, is_opening, after_done, after_crash, step, Allowed}
use Rattle.model_laws.proofs.state.ListedLaws.{listed-set_start, listed-set_fenced, listed-set_last, listed-set_writer, listed-set_promise}
use Rattle.model_laws.proofs.state.NewestLaws.{length-entries, length-forget}
use Rattle.model_laws.proofs.state.SignLaws.{sign-fresh, sign-listed, sign-carry, sign-stays, sign-moves, none-moved, list-numbers, sign-faithful, state-keep_list}
use Rattle.theorems.proofs.invariant.Invariant.{Sizes, Running, Closed, Invariant}
use Rattle.theorems.proofs.invariant.LiveLog.{lent-homes}
use Rattle.theorems.proofs.steps.DoneLaws.{after}
use Rattle.theorems.proofs.steps.OpenStep.{open-effect, homes-owed}
use Rattle.theorems.proofs.steps.NumberRuns.{owed-writes}
use Rattle.theorems.proofs.steps.StoreCommit.{left_by, c-state-is, left-size, commit-held-runs, commit-older}
use Rattle.theorems.proofs.store.StoreAgrees.{Agrees}
use Rattle.theorems.proofs.demands.YieldsAll.{step_by}
use Rattle.theorems.proofs.steps.Rows.{row_of, row-state}
use Rattle.theorems.proofs.steps.Footprint.{lists, committed, Touch, lists-open, lists-commit, lists-trim, committed-open, committed-confirm, committed-commit, Spares, frame, logged-listed, abort-leaves}
use Rattle.theorems.proofs.newest.NewestFollows.{Placed, NewestAlong, idle-commits, known, ended, held-effect, held-mode, held-roomy, placed-then}
use Rattle.theorems.proofs.newest.NewestShown.{list-shown, same-list}
use Rattle.theorems.proofs.rights.ListedSteps.{Listed}
use Rattle.abstract_store.specs.Store.{Store}

-- the list as the book has it
abbrev list_in : ℕ → World → List ℕ
list_in D w = part (homes_after D w.book.commits) (64 * list_home) 256

-- where there is room for a list
abbrev pub Signed : ℕ → World → Type 0
Signed D w = list_home + 4 ≤ D → Faithful (list_sign w.state) (part (homes_after D w.book.commits) (64 * list_home) 256)

-- whatever records are read off the batch
after-signed : (D : ℕ) (w : World) (c : Call) (g : Given) (e : Effect) → Signed D (after w c e) → Signed D (after_done w c (done g e))
unfolding after_done done
after-signed D w c g e q = q

-- ---- trim

trim-sign : (g : Given) (start : ℕ) → length g.newest ≡ 8 * homes g → list_sign (trim_effect g start).state ≡ list_sign g.state
unfolding trim_effect
trim-sign g start n = go (eqb start (state_of g.state).start)
  where
    go : (d : Bool) → list_sign (cond d (new_state g g.state 0) (trim_to g (state_of g.state) start)).state ≡ list_sign g.state
    go true = unfold new_state in refl
    go false = unfold trim_to in
        (sign-carry (homes g) _ _ (length-forget g.newest (7 * start) (homes g) ∙ n) ∙ sign-listed _ ∙ listed-set_last _ _ 4 ∙ listed-set_fenced _ _ 4 ∙ listed-set_start g.state start 4
        ∙ sym (sign-listed g.state))

-- ---- calls of an era

module _ (G D : ℕ) (z : Sizes G D) (w : World) (r : Running G D w) (s : Store) (a : Agrees G D w s) (p : Placed G D w)
    (listed : Listed D w.state w.newest) (signed : Signed D w) where
  same-signed : (c : Call) → list_sign (ends w c).state ≡ list_sign w.state
      → homes_after D (feed w.book c (ends w c).figure).commits ≡ homes_after D w.book.commits → Signed D (after_done w c (ends w c))
  unfolding after_done
  same-signed c f e m = rw (f, e) (signed m)

  -- one that leaves the positions and what lies behind them
  quiet-signed : (c : Call) → listed_of (ends w c).state 4 ≡ listed_of w.state 4
      → homes_after D (feed w.book c (ends w c).figure).commits ≡ homes_after D w.book.commits → Signed D (after_done w c (ends w c))
  quiet-signed c f e = same-signed c (sign-listed (ends w c).state ∙ f ∙ sym (sign-listed w.state)) e

  homes-are : (block batch : List ℕ) (v h : ℕ) → homes (lent w block batch v h) ≡ D
  homes-are block batch v h = lent-homes G D r.b r.tr w z r.copies block batch v h

  -- ---- commit

  module _ (v : ℕ) (batch : List ℕ) (h : (ends w (commit v batch)).code ≡ 0) where
    abbrev g : Given
    g = lent w [] batch v 0

    lv : v < 8
    lv = known G D z w r s a p v batch h

    none-signed : holds (writer_of w.state v) ≡ false → Signed D (after_done w (commit v batch) (ends w (commit v batch)))
    none-signed e =
        quiet-signed (commit v batch)
        (ap (λ (o : Outcome). listed_of o.state 4) (ended G D z w r s a p v batch h)
        ∙ (unfold done commit_effect lent in rw e ((abort-leaves (lent w [] batch v 0) (unfold lent in lv)).1 4)))
        (unfold feed feed_change book.commit in
        ap (homes_after D) (idle-commits G D z w r s a p v (ends w (commit v batch)).figure lv (leb-false 2 (writer_of w.state v).mode (unfold holds in e))))

    module _ (e : holds (writer_of w.state v) ≡ true) where
      -- the world after it, but for its records, and the strip before the list's part of it is kept
      abbrev y : World
      y = after w (commit v batch) (commit_held (lent w [] batch v 0) (writer_of w.state v) (next_position (state_of w.state)))

      abbrev left : Given
      left = left_by G D z w r v lv (held-mode G D z w r s a p v batch h e) (held-roomy G D z w r s a p v batch h e) batch

      runs : Running G D y
      runs = commit-held-runs G D z w r v lv (held-mode G D z w r s a p v batch h e) (held-roomy G D z w r s a p v batch h e) batch

      placed : Placed G D y
      placed = placed-then G D z w r s a p v batch h e

      state-now : y.state ≡ keep_list left
      state-now = c-state-is G D z w r v lv (held-mode G D z w r s a p v batch h e) (held-roomy G D z w r s a p v batch h e) batch

      state-size : length left.state ≡ 1024
      state-size = left-size G D z w r v lv (held-mode G D z w r s a p v batch h e) (held-roomy G D z w r s a p v batch h e) batch

      left-homes : homes left ≡ D
      unfolding commit_held lent
      left-homes = homes-are [] batch v 0

      newest-size : length left.newest ≡ 8 * homes left
      unfolding commit_held kept_commit lent
      newest-size = rw left-homes (length-entries _ _ w.newest ∙ a.newest r.ready)

      -- logging leaves the positions and the sign
      listed-left : (i : ℕ) → listed_of left.state i ≡ listed_of w.state i
      listed-left i =
          listed-set_promise _ v 0 i lv ∙ listed-set_writer _ v idle i lv ∙ listed-set_last _ _ i
          ∙ (unfold lent in logged-listed (lent w [] batch v 0) i _ _ _)

      -- a position has changed: the sign is that of the list as it is now
      moved-signed : list_moved left ≡ true → Signed D y
      moved-signed t m =
          let q : read_list left ≡ list_in D y =
          list-numbers left.state y.state y.newest y.log y.area (sym (ap state_of state-now ∙ state-keep_list left))
          ∙ (unfold lent in list-shown G D z y runs placed m) in
          subst (λ (n : ℕ). Faithful n (list_in D y)) (sym (ap list_sign state-now ∙ sign-moves left t state-size ∙ ap sign_for q)) (sign-faithful (list_in D y))

      -- none has changed: the list is what it was
      stayed-signed : list_moved left ≡ false → Signed D y
      unfolding runs
      stayed-signed t m =
          let f : (i : ℕ) → i < 4 → kept_for y.newest (list_home + i) ≡ kept_for w.newest (list_home + i) =
          λ i l. sym (none-moved left (subst (λ (n : ℕ). list_home + 4 ≤ n) (sym left-homes) m) t i l) ∙ listed-left i ∙ listed m i l in
          let q : list_in D y ≡ list_in D w =
          same-list G D z w r p y runs placed (unfold commit_held lent in refl)
          (commit-older G D z w r v lv (held-mode G D z w r s a p v batch h e) (held-roomy G D z w r s a p v batch h e) batch) m f in
          let k : list_sign y.state ≡ list_sign w.state =
          ap list_sign state-now ∙ sign-stays left t newest-size ∙ sign-listed left.state ∙ listed-left 4 ∙ sym (sign-listed w.state) in
          rw (k, q) (signed m)

      held-signed : Signed D y
      held-signed = go (list_moved left) refl
        where
          go : (d : Bool) → list_moved left ≡ d → Signed D y
          go true t = moved-signed t
          go false t = stayed-signed t

    commit-signed : Signed D (after_done w (commit v batch) (ends w (commit v batch)))
    commit-signed = go (holds (writer_of w.state v)) refl
      where
        go : (d : Bool) → holds (writer_of w.state v) ≡ d → Signed D (after_done w (commit v batch) (ends w (commit v batch)))
        go true e =
            rw (ended G D z w r s a p v batch h, held-effect G D z w r s a p v batch h e)
            (after-signed D w (commit v batch) (lent w [] batch v 0) _ (held-signed e))
        go false e = none-signed e

  -- ---- every call

  trim-signed : (batch : List ℕ) → (ends w (trim batch)).code ≡ 0 → Signed D (after_done w (trim batch) (ends w (trim batch)))
  trim-signed batch h =
      let g : Given = lent w [] batch 0 0 in
      let x : ℕ = trim_start g in
      let n : length g.newest ≡ 8 * homes g = rw (homes-are [] batch 0 0) (unfold lent in a.newest r.ready) in
      let e : (ends w (trim batch)).state ≡ (trim_effect g x).state = row-state w (trim batch) h ∙ (unfold row_of in refl) in
      same-signed (trim batch) (ap list_sign e ∙ trim-sign g x n ∙ (unfold lent in refl)) (unfold feed in refl)

  done-signed : (c : Call) → is_opening c ≡ false → (ends w c).code ≡ 0 → Signed D (after_done w c (ends w c))
  unfolding is_opening
  done-signed c o h = go c o h (frame lists c) (frame committed c)
    where
      go : (c : Call) → is_opening c ≡ false → (ends w c).code ≡ 0 → Touch lists c ⊎ Spares lists c → Touch committed c ⊎ Spares committed c
          → Signed D (after_done w c (ends w c))
      go c o h (inl (lists-open state newest batch)) k = absurd (false≢true (sym o))
      go c o h (inl (lists-commit v batch)) k = commit-signed v batch h
      go c o h (inl (lists-trim batch)) k = trim-signed batch h
      go c o h (inr f) (inl (committed-open state newest batch)) = absurd (false≢true (sym o))
      go c o h (inr f) (inl committed-confirm) =
          quiet-signed confirm ((f w h).1 4) (unfold feed with_commits homes_after in owed-writes (ends w confirm).figure w.book.commits _)
      go c o h (inr f) (inl (committed-commit v batch)) = commit-signed v batch h
      go c o h (inr f) (inr k) = quiet-signed c ((f w h).1 4) (ap (homes_after D) (k w.book (ends w c).figure))

-- ---- an opening sets the sign by the homes that it brings back

opened-signed : (G D : ℕ) (z : Sizes G D) (w : World) → Closed G D w → (state newest batch : List ℕ) → (ends w (opening state newest batch)).code ≡ 0
    → Signed D (after_done w (opening state newest batch) (ends w (opening state newest batch)))
unfolding after_done feed with_commits homes_after
opened-signed G D z w c state newest batch h m =
    let g : Given = loaded w state newest batch in
    let e : (ends w (opening state newest batch)).state ≡ (open_effect g).state = row-state w (opening state newest batch) h ∙ (unfold row_of in refl) in
    let list : List ℕ = part (homes_after D w.book.commits) (64 * list_home) 256 in
    let f : list_sign (ends w (opening state newest batch)).state ≡ sign_for list =
    ap list_sign (e ∙ ap (λ (x : Effect). x.state) (open-effect G D z w c state newest batch)) ∙ sign-fresh _ _ _ _ m in
    let k : Faithful (list_sign (ends w (opening state newest batch)).state) list =
    subst (λ (n : ℕ). Faithful n list) (sym f) (sign-faithful list) in
    rw (homes-owed w.book.commits (zeros (64 * D))) k

-- ---- every event

module _ (G D : ℕ) (z : Sizes G D) where
  opening-signed : (w : World) → Closed G D w → (c : Call) → is_opening c ≡ true → (ends w c).code ≡ 0 → Signed D (after_done w c (ends w c))
  unfolding is_opening
  opening-signed w i (opening state newest batch) e f = opened-signed G D z w i state newest batch f
  opening-signed w i confirm e f = absurd (false≢true e)
  opening-signed w i (change c) e f = absurd (false≢true e)
  opening-signed w i (service c) e f = absurd (false≢true e)

  pub signed-keeps : (w : World) → Invariant G D w → NewestAlong G D w → (w.ready ≡ true → Listed D w.state w.newest) → (w.ready ≡ true → Signed D w)
      → (e : Event) → Allowed w e → ((step w e).ready ≡ true → Signed D (step w e))
  signed-keeps w (inl c) k l p (call c₀) h =
      step_by (λ u. u.ready ≡ true → Signed D u) w c₀ p (λ e q. opening-signed w c c₀ (h ∙ ap not c.ready) e)
  signed-keeps w (inr r) k l p (call c) h =
      step_by (λ u. u.ready ≡ true → Signed D u) w c p
      (λ e q. done-signed G D z w r k.0 k.1 (k.2 r.ready) (l r.ready) (p r.ready) c (h ∙ ap not r.ready) e)
  signed-keeps w i k l p (crash passed chosen) h = λ q. absurd (false≢true (unfold step after_crash in q))
