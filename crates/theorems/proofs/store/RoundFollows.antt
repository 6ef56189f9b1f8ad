-- The abstract store follows the calls of rounds: its numbers and promises are the strip's after them. Assumes nothing.
use Prim.Native.Nat.{ℕ, ◌+◌, ◌-◌, ◌*◌, ◌≤◌}
use mathlib.Core.Path.{◌≡◌, refl, sym, ap, ◌∙◌}
use mathlib.Core.Bool.{Bool, true, false, cond}
use mathlib.Core.List.{List, []}
use lib.Dec.{leb}
use lib.ListN.{length, get_or}
use borrow.Author.Tests.{leb-false}
use Rattle.model.specs.State.{state_of, fixed_in}
use Rattle.model.specs.declared.State.{State}
use Rattle.model.specs.Effects.{Given, Effect, new_state, begin_round_effect, step_round_effect}
use Rattle.model.specs.Questions.{begin_round_answer, step_round_answer}
use Rattle.model.specs.Calls.{Outcome, done, size_of, begin_round_call, step_round_call}
use Rattle.model.specs.History.{round_begins, round_steps, service, World, lent, ends, service_ends}
use Rattle.abstract_store.specs.Store.{Store, numbered, with_round, round_over, after_service}
use Rattle.model_laws.proofs.state.QuestionLaws.{begin-round-ready, step-round-ready}
use Rattle.theorems.proofs.invariant.Invariant.{Sizes, Running}
use Rattle.theorems.proofs.steps.DoneLaws.{outcome-code}
use Rattle.theorems.proofs.steps.RoundRuns.{lent_out, lent-within, begun-numbers, remaining, stepped, step-effect, ended-numbers, moved-numbers}
use Rattle.theorems.proofs.demands.Yields.{ends-done}
use Rattle.theorems.proofs.store.StoreAgrees.{Numbers, Agrees, next-is}
use Rattle.theorems.proofs.store.CallAnswers.{remaining-is}

module _ (G D : ℕ) (z : Sizes G D) (w : World) (r : Running G D w) (s : Store) (a : Agrees G D w s) where
  abbrev st : State
  st = state_of w.state

  abbrev n : Numbers s (state_of w.state)
  n = a.numbers r.ready

  -- ---- a round is begun

  module _ (h : (ends w (service round_begins)).code ≡ 0) where
    abbrev g : Given
    g = lent w [] [] 0 0

    begun-state : (ends w (service round_begins)).state ≡ (begin_round_effect g).state
    unfolding ends service_ends begin_round_call
    begun-state =
        ap (λ (x : Outcome). x.state) (ends-done (begin_round_call g) g (begin_round_answer g) (begin_round_effect g) refl h) ∙ (unfold done in refl)

    begun-none : (state_of w.state).round ≡ 0
    unfolding ends service_ends begin_round_call
    begun-none = lent_out w [] (begin-round-ready g (sym (outcome-code g (begin_round_answer g) (begin_round_effect g)) ∙ h)).1

    pub begin-round-numbers : Numbers (after_service s round_begins) (state_of (ends w (service round_begins)).state)
    unfolding after_service with_round
    begin-round-numbers =
        rw (begun-state)
        (unfold begin_round_effect new_state lent in
        (rw (begun-numbers G D z w r begun-none)
        (record {
          start = n.start;
          settled = n.settled;
          fenced = n.fenced;
          durable = n.durable;
          last = n.last;
          round = ap (λ (x : ℕ). x + 1) n.fenced;
          cursor = refl;
        })))

  -- ---- a step

  module _ (k : ℕ) (batch : List ℕ) (h : (ends w (service (round_steps k batch))).code ≡ 0) where
    abbrev g' : Given
    g' = lent w [] batch 0 0

    step-zero : step_round_answer g' k (size_of (step_round_effect g' k)) ≡ 0
    unfolding ends service_ends step_round_call
    step-zero = sym (outcome-code g' (step_round_answer g' k (size_of (step_round_effect g' k))) (step_round_effect g' k)) ∙ h

    under : 1 ≤ (state_of w.state).round
    under = lent-within w batch (step-round-ready g' k (size_of (step_round_effect g' k)) step-zero).1

    one : 1 ≤ k
    one = (step-round-ready g' k (size_of (step_round_effect g' k)) step-zero).2

    abbrev rest : List ℕ
    rest = remaining G D z w r under

    step-state : (ends w (service (round_steps k batch))).state ≡ (stepped G D z w r under k (leb (length rest) k)).state
    unfolding ends service_ends step_round_call
    step-state =
        ap (λ (x : Outcome). x.state)
        (ends-done (step_round_call g' k) g' (step_round_answer g' k (size_of (step_round_effect g' k))) (step_round_effect g' k) refl h)
        ∙ (unfold done in ap (λ (e : Effect). e.state) (step-effect G D z w r under k batch))

    pub step-round-numbers : Numbers (after_service s (round_steps k batch)) (state_of (ends w (service (round_steps k batch))).state)
    unfolding after_service
    step-round-numbers = rw (step-state, ← remaining-is G D z w r s a under) (go (leb (length rest) k) refl)
      where
        go : (d : Bool) → leb (length rest) k ≡ d
            → Numbers (cond d (round_over s) (with_round s s.round (get_or rest (k - 1) 0 + 1))) (state_of (stepped G D z w r under k d).state)
        go true e =
            rw (ended-numbers G D z w r under)
            (unfold round_over with_round numbered in
            (record {
              start = n.start;
              settled = unfold fixed_in in ap (λ (x : ℕ). x - 1) n.round;
              fenced = ap (λ (x : ℕ). 7 * x) (next-is G D z w r s a);
              durable = n.durable;
              last = n.last;
              round = refl;
              cursor = refl;
            }))
        go false e =
            rw (moved-numbers G D z w r under k one (leb-false (length rest) k e))
            (unfold with_round in
            (record {
              start = n.start;
              settled = n.settled;
              fenced = n.fenced;
              durable = n.durable;
              last = n.last;
              round = n.round;
              cursor = refl;
            }))
