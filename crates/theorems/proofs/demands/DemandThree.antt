-- Demand 3, whole: for every G and D, every list of calls and crashes under the premises.
use mathlib.Core.Path.{◌≡◌, refl, sym, ap, ◌∙◌}
use mathlib.Core.Logic.{inl, inr}
use mathlib.Core.Bool.{true, false, not, false≢true}
use mathlib.Core.List.{List, [], ◌∷◌}
use Prim.Native.Nat.{ℕ, ◌^◌, ◌≤◌}
use borrow.Author.Tests.{leb-true}
use Rattle.model.specs.State.{state_of}
use Rattle.model.specs.Effects.{Given, new_state, settle_effect, begin_round_effect, step_round_effect, trim_effect, trim_start}
use Rattle.model.specs.Questions.{settle_answer, begin_round_answer, step_round_answer, trim_answer, start_fits}
use Rattle.model.specs.Calls.{size_of, settle_call, begin_round_call, step_round_call, trim_call}
use Rattle.model.specs.DemandThree.{Holds, AllHold, CallHolds, Demand3}
use Rattle.model.specs.History.{Change, begins, reserves, aborts, stores, commits, flushes, Service, settles, round_begins, round_steps, trims, reads, Call, opening, confirm, change, service, settle, begin_round, step_round, trim, Event, call, crash as cut, World, empty_store, lent, ends, service_ends, is_opening, step, Allowed, AllAllowed}
use Rattle.model_laws.proofs.state.QuestionLaws.{settle-ready, begin-round-ready, step-round-ready, trim-ready}
use Rattle.theorems.proofs.steps.FormatRuns.{from-format}
use Rattle.theorems.proofs.steps.Beginning.{format-closed}
use Rattle.theorems.proofs.steps.CallRuns.{by_answer, no_bytes, begin-keeps, reserve-keeps, abort-keeps, store_keeps, commit-keeps, flush-keeps, confirm-keeps, read_keeps}
use Rattle.theorems.proofs.steps.SettleRuns.{settle-runs, settle-formed}
use Rattle.theorems.proofs.steps.RoundRuns.{lent_out, lent-within, begin-round-runs, step-round-runs, step-round-formed}
use Rattle.theorems.proofs.steps.TrimRuns.{trim-runs, trim-formed}
use Rattle.theorems.proofs.steps.OpenKeeps.{open-keeps, open-holds}
use Rattle.theorems.proofs.steps.CrashRuns.{crash-closed, crash-owed, quiet-closed, quiet-owed}
use Rattle.theorems.proofs.invariant.Invariant.{Sizes, Closed, Running, Invariant}
use Rattle.model_laws.proofs.state.LoggingLaws.{fits}

module _ (G D : ℕ) (z : Sizes G D) where
  settle-keeps : (w : World) → Running G D w → (batch : List ℕ) → Running G D (step w (call (settle batch)))
  unfolding ends service_ends settle_call
  settle-keeps w r batch =
      let g : Given = lent w [] batch 0 0 in
      by_answer (Running G D) w (settle batch) g (settle_answer g (size_of (settle_effect g))) (settle_effect g) refl r
      (λ a. record {
        formed = settle-formed G D z w r batch;
        fit = fits g (size_of (settle_effect g)) (settle-ready g (size_of (settle_effect g)) a).2;
        next = settle-runs G D z w r batch (lent_out w batch (settle-ready g (size_of (settle_effect g)) a).1);
      })

  begin-round-keeps : (w : World) → Running G D w → Running G D (step w (call begin_round))
  unfolding ends service_ends begin_round_call
  begin-round-keeps w r =
      let g : Given = lent w [] [] 0 0 in
      by_answer (Running G D) w begin_round g (begin_round_answer g) (begin_round_effect g) refl r
      (λ a. record {
        formed = unfold begin_round_effect new_state in tt;
        fit = no_bytes g (begin_round_effect g) (unfold begin_round_effect new_state in refl);
        next = begin-round-runs G D z w r (lent_out w [] (begin-round-ready g a).1);
      })

  step-round-keeps : (w : World) → Running G D w → (k : ℕ) (batch : List ℕ) → Running G D (step w (call (step_round k batch)))
  unfolding ends service_ends step_round_call
  step-round-keeps w r k batch =
      let g : Given = lent w [] batch 0 0 in
      by_answer (Running G D) w (step_round k batch) g (step_round_answer g k (size_of (step_round_effect g k))) (step_round_effect g k) refl r
      (λ a. let q = step-round-ready g k (size_of (step_round_effect g k)) a in
      let under : 1 ≤ (state_of w.state).round = lent-within w batch q.1 in
      record {
        formed = step-round-formed G D z w r under k batch q.2;
        fit = fits g (size_of (step_round_effect g k)) q.3;
        next = step-round-runs G D z w r under k batch q.2;
      })

  trim-keeps : (w : World) → Running G D w → (batch : List ℕ) → Running G D (step w (call (trim batch)))
  unfolding ends service_ends trim_call
  trim-keeps w r batch =
      let g : Given = lent w [] batch 0 0 in
      let s : ℕ = trim_start g in
      by_answer (Running G D) w (trim batch) g (trim_answer g s (size_of (trim_effect g s))) (trim_effect g s) refl r
      (λ a. let k = trim-ready g s (size_of (trim_effect g s)) a in
      let m : s ≤ 2 ^ 47 = unfold start_fits in leb-true s (2 ^ 47) k.1 in
      record {
        formed = trim-formed w batch s;
        fit = fits g (size_of (trim_effect g s)) k.2;
        next = trim-runs G D z w r batch m;
      })

  -- after an opening is done every call but another opening keeps the invariant
  change-keeps : (w : World) → Running G D w → (c : Change) → Running G D (step w (call (change c)))
  change-keeps w r (begins v) = begin-keeps G D z w r v
  change-keeps w r (reserves v n) = reserve-keeps G D z w r v n
  change-keeps w r (aborts v) = abort-keeps G D z w r v
  change-keeps w r (stores v home block batch) = store_keeps G D z w r v home block batch
  change-keeps w r (commits v batch) = commit-keeps G D z w r v batch
  change-keeps w r (flushes batch) = flush-keeps G D z w r batch

  service-keeps : (w : World) → Running G D w → (c : Service) → Running G D (step w (call (service c)))
  service-keeps w r (settles batch) = settle-keeps w r batch
  service-keeps w r round_begins = begin-round-keeps w r
  service-keeps w r (round_steps k batch) = step-round-keeps w r k batch
  service-keeps w r (trims batch) = trim-keeps w r batch
  service-keeps w r (reads v home block) = read_keeps G D z w r v home block

  call-keeps : (w : World) → Running G D w → (c : Call) → is_opening c ≡ false → Running G D (step w (call c))
  unfolding is_opening
  call-keeps w r (opening state newest batch) e = absurd (false≢true (sym e))
  call-keeps w r confirm e = confirm-keeps G D z w r
  call-keeps w r (change c) e = change-keeps w r c
  call-keeps w r (service c) e = service-keeps w r c

  -- before, only an opening is allowed
  opening-keeps : (w : World) → Closed G D w → (c : Call) → is_opening c ≡ true → Invariant G D (step w (call c)) × CallHolds w c (ends w c)
  unfolding is_opening
  opening-keeps w k (opening state newest batch) e = (open-keeps G D z w k state newest batch, open-holds G D z w k state newest batch)
  opening-keeps w k confirm e = absurd (false≢true e)
  opening-keeps w k (change c) e = absurd (false≢true e)
  opening-keeps w k (service c) e = absurd (false≢true e)

  nothing-asked : (w : World) (c : Call) → is_opening c ≡ false → CallHolds w c (ends w c)
  unfolding is_opening
  nothing-asked w (opening state newest batch) e = absurd (false≢true (sym e))
  nothing-asked w confirm e = tt
  nothing-asked w (change c) e = tt
  nothing-asked w (service c) e = tt

  pub keeps : (w : World) → Invariant G D w → (e : Event) → Allowed w e → Invariant G D (step w e) × Holds w e
  keeps w (inl k) (call c) a = opening-keeps w k c (a ∙ ap not k.ready)
  keeps w (inl k) (cut passed chosen) a = (inl (unfold step in quiet-closed G D w k passed chosen), quiet-owed G D w k passed chosen)
  keeps w (inr r) (call c) a = let q : is_opening c ≡ false = a ∙ ap not r.ready in (inr (call-keeps w r c q), nothing-asked w c q)
  keeps w (inr r) (cut passed chosen) a = (inl (unfold step in crash-closed G D z w r passed chosen a.0 a.1), crash-owed G D z w r passed chosen a.0 a.1)

  pub all_hold : (es : List Event) (w : World) → Invariant G D w → AllAllowed w es → AllHold w es
  all_hold [] w i a = tt
  all_hold (e ∷ es) w i a = let k = keeps w i e a.0 in (k.1, all_hold es (step w e) k.0 a.1)

pub demand3 : Demand3
demand3 = from-format AllHold (λ G D z es a. all_hold G D z es (empty_store G D) (inl (format-closed G D z)) a)
