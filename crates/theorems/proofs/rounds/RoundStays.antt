-- A done call between a round's steps leaves the round and its cursor, and no more homes. Assumes nothing.
use Prim.Native.Nat.{ℕ, zero, suc, ◌+◌, ◌-◌, ◌*◌, ◌≤◌}
use mathlib.Core.Path.{◌≡◌, refl, sym, ap, ◌∙◌, subst}
use mathlib.Core.Logic.{◌⊎◌, inl, inr}
use mathlib.Core.Bool.{true, cond, false≢true}
use mathlib.Core.List.{List, []}
use mathlib.Core.Option.{none, some}
use native.Mathlib.Omega.{arith}
use lib.ListN.{length}
use Rattle.model.specs.State.{state_of, fixed_in, next_position}
use Rattle.model.specs.Book.{Book, Task, idle, opened, commit_task, with_task, homes_after}
use Rattle.model.specs.DemandTwo.{closed_below}
use Rattle.model.specs.Book as book
use Rattle.model.specs.History.{Change, commits, Call, opening, confirm, change, service, commit, call, World, ends, after_call, after_done, step, feed, feed_change, is_opening}
use Rattle.abstract_store.specs.Store.{Store, Reply, told, reply, reply_of, reply_change, commit_must_log, next_of, to_step, after_reply, follow}
use Rattle.abstract_store.specs.Store as store
use Rattle.abstract_store.specs.Rounds.{homes_left, may_come, TicketAbove}
use Rattle.theorems.proofs.invariant.Invariant.{Sizes, Running}
use Rattle.theorems.proofs.steps.RoundRuns.{remaining-are}
use Rattle.theorems.proofs.store.StoreAgrees.{Agrees, position-is}
use Rattle.theorems.proofs.store.CallAnswers.{remaining-is, call-answers}
use Rattle.theorems.proofs.steps.Footprint.{committed, rounds, Touch, committed-commit, round-open, round-begin, round-step, Spares, frame}
use Rattle.theorems.proofs.rounds.RoundSteps.{homes_same, steps-shrink}

told-figure : (x figure size : ℕ) → (told x figure size).code ≡ 0 → (told x figure size).figure ≡ figure
unfolding told
told-figure zero figure size e = refl
told-figure (suc x) figure size e = absurd (omega arith)

round-stays : (s : Store) (c : Call) (figure : ℕ) → may_come c ≡ true
    → ((store.after_done s c figure).round ≡ s.round) × ((store.after_done s c figure).cursor ≡ s.cursor)
unfolding may_come
round-stays s c figure m = go c m (frame rounds c)
  where
    go : (c : Call) → may_come c ≡ true → Touch rounds c ⊎ Spares rounds c → ((store.after_done s c figure).round ≡ s.round) × ((store.after_done s c figure).cursor ≡ s.cursor)
    go c m (inl (round-open state newest batch)) = absurd (false≢true m)
    go c m (inl round-begin) = absurd (false≢true m)
    go c m (inl (round-step k batch)) = absurd (false≢true m)
    go c m (inr f) = f s figure

module _ (G D : ℕ) (z : Sizes G D) (w : World) (r : Running G D w) (s : Store) (a : Agrees G D w s) where
  left_is : 1 ≤ (state_of w.state).round → homes_left w ≡ to_step s
  unfolding homes_left
  left_is under = remaining-are G D z w r under [] ∙ remaining-is G D z w r s a under

  commit-figure : (v : ℕ) (batch : List ℕ) → (ends w (change (commits v batch))).code ≡ 0
      → (ends w (change (commits v batch))).figure ≡ cond (commit_must_log (s.book.tasks v)) (next_of s + 1) 0
  unfolding reply reply_change reply_of is_opening
  commit-figure v batch h =
      let q : reply_of (ends w (change (commits v batch))) ≡ reply s (change (commits v batch)) = call-answers G D z w r s a (change (commits v batch)) refl tt in
      ap (λ (x : Reply). x.figure) q ∙ told-figure _ _ _ (sym (ap (λ (x : Reply). x.code) q) ∙ h)

  above : s.round ≤ next_of s + 1
  above =
      let o = r.copies.order in
      let e : next_position (state_of w.state) ≡ 7 * (state_of w.state).next + (state_of w.state).filled = unfold next_position in refl in
      omega (arith, (a.numbers r.ready).round, o.round-fenced, o.fenced-next, position-is G D z w r s a, e)

  committing : (v : ℕ) (batch : List ℕ) → (ends w (commit v batch)).code ≡ 0
      → ((feed s.book (commit v batch) (ends w (commit v batch)).figure).commits ≡ s.book.commits) ⊎ (s.round ≤ (ends w (commit v batch)).figure)
  unfolding feed feed_change book.commit
  committing v batch h = go (s.book.tasks v) (commit-figure v batch h)
    where
      go : (t : Task) → (ends w (change (commits v batch))).figure ≡ cond (commit_must_log t) (next_of s + 1) 0
          → ((commit_task s.book v (ends w (change (commits v batch))).figure t).commits ≡ s.book.commits)
          ⊎ (s.round ≤ (ends w (change (commits v batch))).figure)
      go idle e = inl (unfold commit_task in refl)
      go (opened es none) e = inl (unfold commit_task with_task in refl)
      go (opened es (some x)) e =
          let q : (ends w (change (commits v batch))).figure ≡ next_of s + 1 = e ∙ (unfold commit_must_log in refl) in
          inr (omega (arith, q, above))

  ticket : (c : Call) → (ends w c).code ≡ 0 → TicketAbove s c (ends w c).figure
  ticket (opening state newest batch) h = tt
  ticket confirm h = tt
  ticket (change c) h = go c h (frame committed (change c))
    where
      go : (c : Change) → (ends w (change c)).code ≡ 0 → Touch committed (change c) ⊎ Spares committed (change c) → TicketAbove s (change c) (ends w (change c)).figure
      go c h (inl (committed-commit v batch)) = committing v batch h
      go c h (inr f) = inl (f s.book (ends w (change c)).figure)
  ticket (service c) h = tt

module _ (G D : ℕ) (z : Sizes G D) (w : World) (r : Running G D w) (s : Store) (a : Agrees G D w s) (c : Call) (h : (ends w c).code ≡ 0)
    (m : may_come c ≡ true) (under : 1 ≤ (state_of w.state).round) (r' : Running G D (step w (call c)))
    (a' : Agrees G D (step w (call c)) (follow s w (call c))) where
  follows-done : follow s w (call c) ≡ store.after_done s c (ends w c).figure
  unfolding follow after_reply reply_of
  follows-done = rw h

  agrees : Agrees G D (step w (call c)) (store.after_done s c (ends w c).figure)
  agrees = subst (λ (x : Store). Agrees G D (step w (call c)) x) follows-done a'

  step-book : (step w (call c)).book ≡ feed w.book c (ends w c).figure
  unfolding step after_call after_done
  step-book = rw h

  same-homes : homes_after w.homes (closed_below (fixed_in (state_of w.state)) (step w (call c)).book.commits)
      ≡ homes_after w.homes (closed_below (fixed_in (state_of w.state)) w.book.commits)
  unfolding fixed_in
  same-homes =
      let n = a.numbers r.ready in
      ap (λ (b : Book). homes_after w.homes (closed_below ((state_of w.state).round - 1) b.commits)) step-book
      ∙ subst
      (λ (b : Book).
      homes_after w.homes (closed_below ((state_of w.state).round - 1) (feed b c (ends w c).figure).commits)
      ≡ homes_after w.homes (closed_below ((state_of w.state).round - 1) b.commits))
      a.book
      (subst
      (λ (k : ℕ).
      homes_after w.homes (closed_below (k - 1) (feed s.book c (ends w c).figure).commits)
      ≡ homes_after w.homes (closed_below (k - 1) s.book.commits))
      n.round
      (homes_same w.homes s c (ends w c).figure (omega (arith, n.round)) m (ticket G D z w r s a c h)))

  pub stays : ((state_of (step w (call c)).state).round ≡ (state_of w.state).round)
      × ((state_of (step w (call c)).state).cursor ≡ (state_of w.state).cursor)
      × (length (homes_left (step w (call c))) ≤ length (homes_left w))
      × (homes_after w.homes (closed_below (fixed_in (state_of w.state)) (step w (call c)).book.commits)
      ≡ homes_after w.homes (closed_below (fixed_in (state_of w.state)) w.book.commits))
  stays =
      let n = a.numbers r.ready in
      let n' = agrees.numbers r'.ready in
      let q = round-stays s c (ends w c).figure m in
      let e : (state_of (step w (call c)).state).round ≡ (state_of w.state).round = sym n'.round ∙ q.0 ∙ n.round in (
        e,
        sym n'.cursor ∙ q.1 ∙ n.cursor,
        rw (left_is G D z w r s a under, left_is G D z (step w (call c)) r' _ agrees (omega (arith, e)))
            (steps-shrink s c (ends w c).figure (omega (arith, n.round)) m (ticket G D z w r s a c h)),
        same-homes,
      )
