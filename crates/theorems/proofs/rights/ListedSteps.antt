-- The state strip has, for the list's four homes, what the newest positions have: only commit, trim and open change either. Assumes nothing.
use Prim.Native.Nat.{ℕ, ◌+◌, ◌*◌, ◌≤◌, ◌<◌}
use mathlib.Core.Path.{◌≡◌, refl, sym, ap, ◌∙◌}
use mathlib.Core.Logic.{◌⊎◌, inl, inr}
use mathlib.Core.Bool.{Bool, true, false, cond, not, false≢true}
use mathlib.Core.List.{List, []}
use native.Mathlib.Omega.{arith}
use lib.Dec.{eqb}
use lib.ListN.{length}
use Rattle.model.specs.Layout.{home_count}
use Rattle.model.specs.State.{state_of, next_position, writer_of, idle, holds, list_home, listed_of}
use Rattle.model.specs.declared.Writer.{Writer}
use Rattle.model.specs.Newest.{kept_for}
use Rattle.model.specs.Effects.{Given, Effect, homes, new_state, log_closing, open_effect, abort_effect, kept_commit, commit_held, commit_effect, trim_start, trim_to, trim_effect}
use Rattle.model.specs.History.{Call, opening, confirm, change, service, commit, trim, Event, call, crash, World, lent, loaded, ends, is_opening, after_done, after_crash, step, Allowed}
use Rattle.model_laws.proofs.bytes.LayoutLaws.{homes_in}
use Rattle.model_laws.proofs.state.StateLaws.{length-set_start, length-set_fenced, length-set_last}
use Rattle.model_laws.proofs.state.WriterLaws.{length-set_writer}
use Rattle.model_laws.proofs.state.PromiseLaws.{length-set_promise}
use Rattle.model_laws.proofs.state.NewestLaws.{length-entries, length-forget, kept-nothing}
use Rattle.model_laws.proofs.state.ListedLaws.{listed-carry}
use Rattle.model_laws.proofs.state.SignLaws.{listed-keep_list, listed-fresh}
use Rattle.model_laws.proofs.state.QuestionLaws.{commit-ready}
use Rattle.theorems.proofs.invariant.Invariant.{Sizes, Running, Closed, Invariant}
use Rattle.theorems.proofs.invariant.LiveLog.{lent-homes}
use Rattle.theorems.proofs.steps.LogRuns.{logged-writers}
use Rattle.theorems.proofs.steps.NewestSteps.{open-newest}
use Rattle.theorems.proofs.steps.Rows.{row_of, row-lent, row-answer, row-state, row-newest}
use Rattle.theorems.proofs.steps.Footprint.{lists, Touch, lists-open, lists-commit, lists-trim, Spares, frame, known, abort-leaves}
use Rattle.theorems.proofs.demands.YieldsAll.{step_by}

-- where there is room for a list, the strip has the positions that are kept for its homes
abbrev pub Listed : ℕ → List ℕ → List ℕ → Type 0
Listed D state newest = list_home + 4 ≤ D → (i : ℕ) → i < 4 → listed_of state i ≡ kept_for newest (list_home + i)

-- ---- commit and trim carry them over

module _ (g : Given) (size : length g.state ≡ 1024) (n : length g.newest ≡ 8 * homes g) where
  held-carries : (r : Writer) (p : ℕ) → Listed (homes g) (commit_held g r p).state (commit_held g r p).newest
  unfolding commit_held log_closing
  held-carries r p m i k =
      listed-keep_list _ i m (unfold kept_commit in length-entries _ _ g.newest ∙ n)
      (length-set_promise _ g.writer 0 ∙ length-set_writer _ g.writer idle ∙ length-set_last _ _ ∙ (logged-writers g.state g.log _ _ size).size) k

  commit-carries : g.writer < 8 → Listed (homes g) g.state g.newest → Listed (homes g) (commit_effect g).state (commit_effect g).newest
  unfolding commit_effect
  commit-carries l q = go (holds (writer_of g.state g.writer))
    where
      held : Effect
      held = commit_held g (writer_of g.state g.writer) (next_position (state_of g.state))

      go : (d : Bool) → Listed (homes g) (cond d held (abort_effect g)).state (cond d held (abort_effect g)).newest
      go true = held-carries (writer_of g.state g.writer) (next_position (state_of g.state))
      go false = let f = abort-leaves g l in λ m i k. f.1 i ∙ q m i k ∙ ap (λ (x : List ℕ). kept_for x (list_home + i)) (sym f.0)

  trim-carries : (start : ℕ) → Listed (homes g) g.state g.newest → Listed (homes g) (trim_effect g start).state (trim_effect g start).newest
  unfolding trim_effect
  trim-carries start q = go (eqb start (state_of g.state).start)
    where
      moved : Effect
      moved = trim_to g (state_of g.state) start

      go : (d : Bool) → Listed (homes g) (cond d (new_state g g.state 0) moved).state (cond d (new_state g g.state 0) moved).newest
      go true m i k = unfold new_state in q m i k
      go false m i k = unfold trim_to in
          listed-carry (homes g) _ _ i m (length-forget g.newest (7 * start) (homes g) ∙ n)
          (length-set_last _ _ ∙ length-set_fenced _ _ ∙ length-set_start g.state start ∙ size) k

-- ---- every call of an era

module _ (G D : ℕ) (z : Sizes G D) (w : World) (r : Running G D w) (n : length w.newest ≡ 8 * D) (p : Listed D w.state w.newest) where
  homes-are : (block batch : List ℕ) (v h : ℕ) → homes (lent w block batch v h) ≡ D
  homes-are block batch v h = lent-homes G D r.b r.tr w z r.copies block batch v h

  -- of a done call its effect is asked
  by-effect : (c : Call) (h : (ends w c).code ≡ 0) → homes (row_of w c).given ≡ D → is_opening c ≡ false
      → (length (row_of w c).given.state ≡ 1024 → length (row_of w c).given.newest ≡ 8 * homes (row_of w c).given
      → Listed (homes (row_of w c).given) (row_of w c).given.state (row_of w c).given.newest
      → Listed (homes (row_of w c).given) (row_of w c).effect.state (row_of w c).effect.newest)
      → Listed D (ends w c).state (ends w c).newest
  by-effect c h d o f =
      let l = row-lent w c o in
      rw (row-state w c h, row-newest w c h, ← d)
      (f (ap length l.state ∙ r.copies.state_size) (ap length l.newest ∙ n ∙ ap (λ (x : ℕ). 8 * x) (sym d)) (rw (l.state, l.newest, d) p))

  done-listed : (c : Call) → is_opening c ≡ false → (ends w c).code ≡ 0 → Listed D (ends w c).state (ends w c).newest
  unfolding is_opening row_of
  done-listed c o h = go c o h (frame lists c)
    where
      go : (c : Call) → is_opening c ≡ false → (ends w c).code ≡ 0 → Touch lists c ⊎ Spares lists c → Listed D (ends w c).state (ends w c).newest
      go c o h (inl (lists-open state newest batch)) = absurd (false≢true (sym o))
      go c o h (inl (lists-commit v batch)) =
          by-effect (commit v batch) h (homes-are [] batch v 0) refl
          (λ a b q. commit-carries (lent w [] batch v 0) a b (known _ (commit-ready _ _ (row-answer w (commit v batch) h)).writer) q)
      go c o h (inl (lists-trim batch)) =
          by-effect (trim batch) h (homes-are [] batch 0 0) refl (λ a b q. trim-carries (lent w [] batch 0 0) a b (trim_start (lent w [] batch 0 0)) q)
      go c o h (inr f) = λ m i k. (f w h).1 i ∙ p m i k ∙ ap (λ (x : List ℕ). kept_for x (list_home + i)) (sym (f w h).0)

-- ---- an opening keeps none

opened-listed : (G D : ℕ) (w : World) → Closed G D w → (state newest batch : List ℕ) → (ends w (opening state newest batch)).code ≡ 0
    → Listed D (ends w (opening state newest batch)).state (ends w (opening state newest batch)).newest
opened-listed G D w c state newest batch h m i k =
    let g : Given = loaded w state newest batch in
    let e : homes g ≡ D = unfold loaded in (ap home_count c.opens.area_size ∙ homes_in D) in
    rw (open-newest w state newest batch h, e, kept-nothing D (list_home + i) (omega arith), row-state w (opening state newest batch) h)
    (unfold row_of open_effect in listed-fresh _ _ _ _ i k)

-- ---- every event

module _ (G D : ℕ) (z : Sizes G D) where
  opening-listed : (w : World) → Closed G D w → (c : Call) → is_opening c ≡ true → (ends w c).code ≡ 0 → Listed D (ends w c).state (ends w c).newest
  unfolding is_opening
  opening-listed w k (opening state newest batch) e f = opened-listed G D w k state newest batch f
  opening-listed w k confirm e f = absurd (false≢true e)
  opening-listed w k (change c) e f = absurd (false≢true e)
  opening-listed w k (service c) e f = absurd (false≢true e)

  pub listed-keeps : (w : World) → Invariant G D w → (w.ready ≡ true → length w.newest ≡ 8 * D) → (w.ready ≡ true → Listed D w.state w.newest)
      → (e : Event) → Allowed w e → ((step w e).ready ≡ true → Listed D (step w e).state (step w e).newest)
  listed-keeps w (inl c) n p (call c₀) h =
      step_by (λ u. u.ready ≡ true → Listed D u.state u.newest) w c₀ p (λ e q. unfold after_done in opening-listed w c c₀ (h ∙ ap not c.ready) e)
  listed-keeps w (inr r) n p (call c) h =
      step_by (λ u. u.ready ≡ true → Listed D u.state u.newest) w c p
      (λ e q. unfold after_done in done-listed G D z w r (n r.ready) (p r.ready) c (h ∙ ap not r.ready) e)
  listed-keeps w i n p (crash passed chosen) h = λ q. absurd (false≢true (unfold step after_crash in q))
