-- What every done call of a history yields. Beside the invariant it takes one more fact, which every event keeps: after a done opening every commit
-- whose ticket a crash has ended is owed. Assumes nothing.
use Prim.Native.Nat.{ℕ, zero, suc, ◌≤◌, ◌<◌}
use mathlib.Core.Path.{◌≡◌, refl, sym, ap, ◌∙◌}
use mathlib.Core.Logic.{◌⊎◌, inl, inr}
use mathlib.Core.Bool.{Bool, true, false, not, false≢true}
use mathlib.Core.List.{List, [], ◌∷◌, ◌++◌}
use mathlib.Core.Option.{none, some}
use native.Mathlib.Omega.{arith}
use borrow.Author.Tests.{leb-false, ltb-true}
use Rattle.model.specs.State.{writer_of, held_of, holds}
use Rattle.model.specs.declared.Writer.{Writer}
use Rattle.model.specs.Effects.{Given, commit_held, commit_effect}
use Rattle.model.specs.Questions.{writer_known, commit_answer}
use Rattle.model.specs.Calls.{Outcome, done, size_of, commit_call}
use Rattle.model.specs.Book.{Commit, Task, idle, opened, Book, filled_up, with_task, add_commit, entry_of, commit_task, owed_by, all_owed, with_commits}
use Rattle.model.specs.Book as book
use Rattle.model.specs.DemandTwo.{Live, Yields, ServiceYields, YieldsAt}
use Rattle.model.specs.History.{Service, settles, trims, reads, Call, opening, confirm, change, service, commit, Event, call, crash, World, unopened, empty_store, lent, ends, change_ends, feed, feed_change, is_opening, after_done, after_call, after_crash, step, Allowed, round_begins, round_steps}
use Rattle.model_laws.proofs.state.QuestionLaws.{commit-ready}
use Rattle.theorems.proofs.steps.RefusalLaws.{left-as-lent}
use Rattle.theorems.proofs.steps.DoneLaws.{outcome-code}
use Rattle.model_laws.proofs.trace.Trace.{Ev}
use Rattle.theorems.proofs.invariant.Invariant.{Sizes, TaskOk, Running, Invariant}
use Rattle.theorems.proofs.demands.Yields.{PastOwed, ends-done, confirm-yields, settle-yields, begin-round-yields, step-round-yields}
use Rattle.theorems.proofs.demands.TrimYields.{trim-yields}
use Rattle.theorems.proofs.steps.HeldLogs.{filled-commits}
use Rattle.theorems.proofs.steps.Footprint.{committed, Touch, committed-open, committed-confirm, committed-commit, Spares, frame}

-- ---- lists of commits

pub past_all : (cs : List Commit) → PastOwed (all_owed cs)
unfolding all_owed
past_all [] = tt
past_all (c ∷ cs) = (λ h. refl, past_all cs)

pub past_by : (mark : ℕ) (cs : List Commit) → PastOwed cs → PastOwed (owed_by mark cs)
unfolding owed_by
past_by mark [] p = tt
past_by mark (c ∷ cs) p = (λ h. rw (p.0 h), past_by mark cs p.1)

pub past-snoc : (cs : List Commit) (c : Commit) → PastOwed cs → 1 ≤ c.ticket → PastOwed (cs ++ (c ∷ []))
past-snoc [] c p l = (λ h. absurd (omega arith), tt)
past-snoc (d ∷ cs) c p l = (p.0, past-snoc cs c p.1 l)

-- ---- what the book's steps do to its commits

-- a commit that is added has a ticket
abbrev Ticketed : ℕ → Task → Type 0
Ticketed ticket idle = Unit {0}
Ticketed ticket (opened es none) = Unit {0}
Ticketed ticket (opened es (some h)) = 1 ≤ ticket

commit-past : (b : Book) (v ticket : ℕ) (t : Task) → Ticketed ticket t → PastOwed b.commits → PastOwed (commit_task b v ticket t).commits
unfolding commit_task with_task add_commit
commit-past b v ticket idle l p = p
commit-past b v ticket (opened es none) l p = p
commit-past b v ticket (opened es (some h)) l p =
    past-snoc (filled_up b).commits (record { entries = es ++ (entry_of b h ∷ []); ticket = ticket; owed = false }) (rw (filled-commits b) p) l

-- ---- steps

-- by the answer: refused, nothing changes
pub step_by : (P : World → Type 0) (w : World) (c : Call) → P w → ((ends w c).code ≡ 0 → P (after_done w c (ends w c))) → P (step w (call c))
unfolding step after_call
step_by P w c p f = go (ends w c).code refl
  where
    go : (n : ℕ) → (ends w c).code ≡ n → P (after_call w c (ends w c) n)
    go zero e = f e
    go (suc n) e = rw (left-as-lent w c n e) p

-- a writer that holds nothing has no block to commit
idle-ticketed : (b : ℕ) (tr : List Ev) (r : Writer) (held ps : List ℕ) (t : Task) (ticket : ℕ) → TaskOk b tr r held ps t → r.mode < 2
    → Ticketed ticket t
idle-ticketed b tr r held ps t ticket (inl h) l = rw h.1 tt
idle-ticketed b tr r held ps t ticket (inr (inl h)) l = rw h.1 tt
idle-ticketed b tr r held ps t ticket (inr (inr (inl h))) l = absurd (omega arith)
idle-ticketed b tr r held ps t ticket (inr (inr (inr h))) l = absurd (omega arith)

any-ticketed : (ticket : ℕ) (t : Task) → 1 ≤ ticket → Ticketed ticket t
any-ticketed ticket idle l = tt
any-ticketed ticket (opened es none) l = tt
any-ticketed ticket (opened es (some h)) l = l

writer-below : (w : World) (batch : List ℕ) (v : ℕ) → writer_known (lent w [] batch v 0) ≡ true → v < 8
unfolding writer_known lent
writer-below w batch v h = ltb-true v 8 h

held-figure : (w : World) (batch : List ℕ) (v : ℕ) → holds (writer_of w.state v) ≡ true → 1 ≤ (commit_effect (lent w [] batch v 0)).figure
unfolding commit_effect commit_held lent
held-figure w batch v h = rw h (omega arith)

-- after a done opening every commit that a crash has ended is owed
abbrev pub Owing : World → Type 0
Owing w = w.ready ≡ true → PastOwed w.book.commits

module _ (G D : ℕ) (z : Sizes G D) where
  -- the ticket of a done commit
  commit-ticketed : (w : World) → Running G D w → (v : ℕ) (batch : List ℕ) → (ends w (commit v batch)).code ≡ 0
      → Ticketed (ends w (commit v batch)).figure (w.book.tasks v)
  unfolding ends change_ends commit_call
  commit-ticketed w r v batch h =
      let g : Given = lent w [] batch v 0 in
      let a : commit_answer g (size_of (commit_effect g)) ≡ 0 = sym (outcome-code g (commit_answer g (size_of (commit_effect g))) (commit_effect g)) ∙ h in
      let k = commit-ready g (size_of (commit_effect g)) a in
      let l : v < 8 = writer-below w batch v k.writer in
      let d : (done g (commit_effect g)).figure ≡ (commit_effect g).figure = unfold done in refl in
      let e : (commit_call g).figure ≡ (commit_effect g).figure =
      ap (λ (o : Outcome). o.figure) (ends-done (commit_call g) g (commit_answer g (size_of (commit_effect g))) (commit_effect g) refl h) ∙ d in
      rw e (go (holds (writer_of w.state v)) refl l)
    where
      go : (d : Bool) → holds (writer_of w.state v) ≡ d → v < 8 → Ticketed (commit_effect (lent w [] batch v 0)).figure (w.book.tasks v)
      go true e l = any-ticketed (commit_effect (lent w [] batch v 0)).figure (w.book.tasks v) (held-figure w batch v e)
      go false e l =
          idle-ticketed r.b r.tr (writer_of w.state v) (held_of w.state v) _ (w.book.tasks v) _ (r.copies.tasks v l)
          (leb-false 2 (writer_of w.state v).mode (unfold holds in e))

  past-done : (w : World) → Running G D w → (c : Call) → is_opening c ≡ false → (ends w c).code ≡ 0 → PastOwed w.book.commits
      → PastOwed (feed w.book c (ends w c).figure).commits
  unfolding is_opening feed feed_change
  past-done w r c o h p = go c o h (frame committed c)
    where
      go : (c : Call) → is_opening c ≡ false → (ends w c).code ≡ 0 → Touch committed c ⊎ Spares committed c → PastOwed (feed w.book c (ends w c).figure).commits
      go c o h (inl (committed-open state newest batch)) = absurd (false≢true (sym o))
      go c o h (inl committed-confirm) = (unfold with_commits in past_by (ends w confirm).figure w.book.commits p)
      go c o h (inl (committed-commit v batch)) =
          (unfold book.commit in commit-past w.book v (ends w (commit v batch)).figure (w.book.tasks v) (commit-ticketed w r v batch h) p)
      go c o h (inr f) = rw (f w.book (ends w c).figure) p

  pub running-owing : (w : World) → Running G D w → Owing w → (c : Call) → is_opening c ≡ false → Owing (step w (call c))
  unfolding after_done
  running-owing w r o c e = step_by Owing w c o (λ h q. past-done w r c e h (o r.ready))

  opened-owing : (w : World) → Owing w → (c : Call) → is_opening c ≡ true → Owing (step w (call c))
  unfolding is_opening
  opened-owing w o (opening state newest batch) e = step_by Owing w (opening state newest batch) o (λ h q. (unfold after_done feed with_commits in past_all w.book.commits))
  opened-owing w o confirm e = absurd (false≢true e)
  opened-owing w o (change c) e = absurd (false≢true e)
  opened-owing w o (service c) e = absurd (false≢true e)

  pub owing-keeps : (w : World) → Invariant G D w → Owing w → (e : Event) → Allowed w e → Owing (step w e)
  owing-keeps w (inl k) o (call c) a = opened-owing w o c (a ∙ ap not k.ready)
  owing-keeps w (inr r) o (call c) a = running-owing w r o c (a ∙ ap not r.ready)
  owing-keeps w i o (crash passed chosen) a = λ h. absurd (false≢true (unfold step after_crash in h))

  -- ---- what a done call yields

  service-yields : (w : World) (r : Running G D w) → Live w → (c : Service) → (ends w (service c)).code ≡ 0 → ServiceYields w c (ends w (service c))
  service-yields w r l (settles batch) h = settle-yields G D z w r batch h
  service-yields w r l round_begins h = begin-round-yields G D z w r h
  service-yields w r l (round_steps k batch) h = step-round-yields G D z w r k batch h
  service-yields w r l (trims batch) h = trim-yields G D z w r batch h
  service-yields w r l (reads v home block) h = l.readable v home block h

  pub call-yields : (w : World) (r : Running G D w) → PastOwed w.book.commits → Live w → (c : Call) → is_opening c ≡ false
      → (ends w c).code ≡ 0 → Yields w c (ends w c)
  unfolding is_opening
  call-yields w r p l (opening state newest batch) e h = tt
  call-yields w r p l confirm e h = confirm-yields G D z w r p h
  call-yields w r p l (change c) e h = tt
  call-yields w r p l (service c) e h = service-yields w r l c h

  opening-yields : (w : World) (c : Call) → is_opening c ≡ true → (ends w c).code ≡ 0 → Yields w c (ends w c)
  unfolding is_opening
  opening-yields w (opening state newest batch) e h = tt
  opening-yields w confirm e h = absurd (false≢true e)
  opening-yields w (change c) e h = tt
  opening-yields w (service c) e h = absurd (false≢true e)

  pub event-yields : (w : World) → Invariant G D w → Owing w → (w.ready ≡ true → Live w) → (e : Event) → Allowed w e → YieldsAt w e
  event-yields w (inl k) o l (call c) a = opening-yields w c (a ∙ ap not k.ready)
  event-yields w (inr r) o l (call c) a = call-yields w r (o r.ready) (l r.ready) c (a ∙ ap not r.ready)
  event-yields w i o l (crash passed chosen) a = tt

pub format-owing : (groups homes : ℕ) → Owing (empty_store groups homes)
unfolding empty_store unopened
format-owing groups homes h = absurd (false≢true h)
