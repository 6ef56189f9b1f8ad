-- Rounds, for every history: the data copy home by home at every moment, and what raises the settled position. Assumes nothing.
use Prim.Native.Nat.{ℕ, ◌+◌, ◌≤◌, ◌<◌}
use mathlib.Core.Path.{◌≡◌, refl, sym, ap, ◌∙◌, subst}
use mathlib.Core.Logic.{◌⊎◌, inl, inr}
use mathlib.Core.Bool.{Bool, true, false, not, false≢true}
use mathlib.Core.List.{List, [], ◌∷◌}
use native.Mathlib.Omega.{arith}
use lib.Dec.{leb}
use lib.ListN.{length, take}
use borrow.Author.Tests.{leb-true, leb-false}
use Rattle.model.specs.Rights.{open_sign}
use Rattle.model.specs.Layout.{home_at}
use Rattle.model.specs.State.{state_of, fresh_state}
use Rattle.model.specs.declared.State.{State}
use Rattle.model.specs.Effects.{Given, Effect, new_state, begin_round_effect, step_round_effect, settle_effect, open_effect, open_start}
use Rattle.model.specs.Questions.{settle_answer, begin_round_answer, step_round_answer, open_answer}
use Rattle.model.specs.Calls.{Outcome, done, size_of, settle_call, begin_round_call, step_round_call, open_call}
use Rattle.model.specs.Book.{homes_after}
use Rattle.model.specs.DemandTwo.{closed_below, SettledHomes}
use Rattle.model.specs.History.{Service, settles, round_begins, round_steps, trims, reads, Call, opening, confirm, change, service, settle, begin_round, step_round, Event, call, crash, World, empty_store, lent, loaded, ends, service_ends, is_opening, after_call, after_done, step, Allowed, AllAllowed}
use Rattle.abstract_store.specs.Rounds.{homes_left, homes_left_by, Moved, Ended, ServiceRaises, Raises, RaisesAt, may_come, StaysAt, RoundsThroughout, RoundsKept}
use Rattle.abstract_store.specs.Store.{Store, new_store, follow}
use Rattle.model_laws.proofs.state.OrderLaws.{state-fresh}
use Rattle.model_laws.proofs.state.StateLaws.{with_cursor}
use Rattle.model_laws.proofs.state.QuestionLaws.{settle-ready, begin-round-ready, step-round-ready}
use Rattle.theorems.proofs.invariant.Invariant.{Sizes, Closed, Running, Invariant}
use Rattle.theorems.proofs.invariant.OpenLaws.{new_start}
use Rattle.theorems.proofs.invariant.SettledLaws.{settled-none}
use Rattle.theorems.proofs.steps.DoneLaws.{outcome-code}
use Rattle.theorems.proofs.steps.RoundRuns.{lent_out, lent-within, begun-numbers, remaining, remaining-are, stepped, step-effect, ended-numbers, brought_up, step-now, step-size, next_cursor, cursor-from, cursor-upto, moved-numbers}
use Rattle.theorems.proofs.steps.OpenStep.{open-effect}
use Rattle.theorems.proofs.steps.FormatRuns.{from-format}
use Rattle.theorems.proofs.steps.Beginning.{format-closed}
use Rattle.theorems.proofs.demands.DemandThree.{keeps}
use Rattle.theorems.proofs.store.StoreAgrees.{Agrees}
use Rattle.theorems.proofs.store.StoreFollows.{follows, empty-agrees}
use Rattle.theorems.proofs.rounds.RoundStays.{stays}
use Rattle.theorems.proofs.rounds.RoundCounts.{homes-fewer}
use Rattle.theorems.proofs.demands.Yields.{ends-done, step-round-yields}

module _ (G D : ℕ) (z : Sizes G D) (w : World) (r : Running G D w) where
  kept : SettledHomes w.homes w.area (state_of w.state) w.book.commits
  kept =
      subst (λ (d : ℕ). SettledHomes d w.area (state_of w.state) w.book.commits) (sym r.copies.homes) r.copies.settled_homes

  settle-raises : (batch : List ℕ) → (ends w (settle batch)).code ≡ 0 → (state_of w.state).round ≡ 0
  unfolding ends service_ends settle_call
  settle-raises batch h =
      let g : Given = lent w [] batch 0 0 in
      lent_out w batch
      (settle-ready g (size_of (settle_effect g)) (sym (outcome-code g (settle_answer g (size_of (settle_effect g))) (settle_effect g)) ∙ h)).1

  begin-raises : (ends w begin_round).code ≡ 0
      → ((state_of w.state).round ≡ 0) × ((state_of (ends w begin_round).state).settled ≡ (state_of w.state).settled)
  unfolding ends service_ends begin_round_call
  begin-raises h =
      let g : Given = lent w [] [] 0 0 in
      let none : (state_of w.state).round ≡ 0 =
      lent_out w [] (begin-round-ready g (sym (outcome-code g (begin_round_answer g) (begin_round_effect g)) ∙ h)).1 in (
        none,
        ap (λ (o : Outcome). (state_of o.state).settled) (ends-done (begin_round_call g) g (begin_round_answer g) (begin_round_effect g) refl h) ∙ begun none,
      )
    where
      begun : (state_of w.state).round ≡ 0
          → (state_of (done (lent w [] [] 0 0) (begin_round_effect (lent w [] [] 0 0))).state).settled ≡ (state_of w.state).settled
      begun none = unfold done begin_round_effect new_state lent in ap (λ (x : State). x.settled) (begun-numbers G D z w r none)

  module _ (k : ℕ) (batch : List ℕ) (h : (ends w (step_round k batch)).code ≡ 0) where
    abbrev g : Given
    g = lent w [] batch 0 0

    answered : step_round_answer g k (size_of (step_round_effect g k)) ≡ 0
    unfolding ends service_ends step_round_call
    answered = sym (outcome-code g (step_round_answer g k (size_of (step_round_effect g k))) (step_round_effect g k)) ∙ h

    under : 1 ≤ (state_of w.state).round
    under = lent-within w batch (step-round-ready g k (size_of (step_round_effect g k)) answered).1

    one : 1 ≤ k
    one = (step-round-ready g k (size_of (step_round_effect g k)) answered).2

    abbrev rest : List ℕ
    rest = remaining G D z w r under

    left_is : homes_left w ≡ rest
    unfolding homes_left
    left_is = remaining-are G D z w r under []

    state-is : (ends w (step_round k batch)).state ≡ (stepped G D z w r under k (leb (length rest) k)).state
    unfolding ends service_ends step_round_call
    state-is =
        ap (λ (x : Outcome). x.state)
        (ends-done (step_round_call g k) g (step_round_answer g k (size_of (step_round_effect g k))) (step_round_effect g k) refl h)
        ∙ (unfold done in ap (λ (e : Effect). e.state) (step-effect G D z w r under k batch))

    log_is : (ends w (step_round k batch)).log ≡ w.log
    unfolding ends service_ends step_round_call
    log_is =
        ap (λ (x : Outcome). x.log)
        (ends-done (step_round_call g k) g (step_round_answer g k (size_of (step_round_effect g k))) (step_round_effect g k) refl h)
        ∙ (unfold done in ap (λ (e : Effect). e.log) (step-effect G D z w r under k batch))

    area-is : (ends w (step_round k batch)).area ≡ brought_up G D z w r under (take k rest)
    unfolding ends service_ends step_round_call
    area-is =
        ap (λ (x : Outcome). x.area)
        (ends-done (step_round_call g k) g (step_round_answer g k (size_of (step_round_effect g k))) (step_round_effect g k) refl h)
        ∙ (unfold done in ap (λ (e : Effect). e.area) (step-effect G D z w r under k batch))

    fewer-left : (m : k < length rest)
        → state_of (ends w (step_round k batch)).state ≡ with_cursor (state_of w.state) (next_cursor G D z w r under k one m)
        → leb (length rest) k ≡ false
        → length (homes_left_by (ends w (step_round k batch))) + k ≡ length (homes_left w)
    unfolding homes_left_by
    fewer-left m q e =
        rw (left_is, log_is)
        (homes-fewer G D z w r under k one m (ends w (step_round k batch)).state (ends w (step_round k batch)).area q
        (ap length (area-is ∙ ap (brought_up G D z w r under) (step-now G D z w r under k one m))
        ∙ step-size G D z w r under (next_cursor G D z w r under k one m) (cursor-upto G D z w r under k one m) ∙ sym r.copies.area_size))

    step-raises : Moved w k (ends w (step_round k batch)) ⊎ Ended w k (ends w (step_round k batch))
    step-raises = go (leb (length rest) k) refl
      where
        numbers : (d : Bool) → leb (length rest) k ≡ d → state_of (ends w (step_round k batch)).state ≡ state_of (stepped G D z w r under k d).state
        numbers d e = ap state_of (state-is ∙ ap (λ (x : Bool). (stepped G D z w r under k x).state) e)

        go : (d : Bool) → leb (length rest) k ≡ d → Moved w k (ends w (step_round k batch)) ⊎ Ended w k (ends w (step_round k batch))
        go true e =
            let q = numbers true e ∙ ended-numbers G D z w r under in
            let l : length (homes_left w) ≤ k = rw left_is (leb-true (length rest) k e) in
            inr
            (record {
              few = l;
              settled = ap (λ (x : State). x.settled) q;
              fenced = ap (λ (x : State). x.fenced) q;
              round = ap (λ (x : State). x.round) q;
              copied = λ x i.
                  step-round-yields G D z w r k batch h x i
                  ∙ ap (λ (b : ℕ). home_at (homes_after w.homes (closed_below b w.book.commits)) x)
                  (settled-none (state_of (ends w (step_round k batch)).state) x (ap (λ (y : State). y.round) q) ∙ ap (λ (y : State). y.settled) q);
            })
        go false e =
            let m : k < length rest = leb-false (length rest) k e in
            let q = numbers false e ∙ moved-numbers G D z w r under k one m in
            inl
            (record {
              settled = ap (λ (x : State). x.settled) q;
              fenced = ap (λ (x : State). x.fenced) q;
              round = ap (λ (x : State). x.round) q;
              cursor = omega (arith, ap (λ (x : State). x.cursor) q, cursor-from G D z w r under k one m);
              many = rw left_is m;
              fewer = fewer-left m (numbers false e ∙ moved-numbers G D z w r under k one m) e;
            })

  service-raises : (c : Service) → (ends w (service c)).code ≡ 0 → ServiceRaises w c (ends w (service c))
  service-raises (settles batch) h = settle-raises batch h
  service-raises round_begins h = begin-raises h
  service-raises (round_steps k batch) h = step-raises k batch h
  service-raises (trims batch) h = tt
  service-raises (reads v home block) h = tt

  running-raises : (c : Call) → is_opening c ≡ false → (ends w c).code ≡ 0 → Raises w c (ends w c)
  unfolding is_opening
  running-raises (opening state newest batch) e h = absurd (false≢true (sym e))
  running-raises confirm e h = tt
  running-raises (change c) e h = tt
  running-raises (service c) e h = service-raises c h

-- "Opening ends a round"
module _ (G D : ℕ) (z : Sizes G D) (w : World) (c : Closed G D w) (state newest batch : List ℕ) (h : (ends w (opening state newest batch)).code ≡ 0) where
  abbrev b : ℕ
  b = new_start G D z w.memory (homes_after D w.book.commits) c.opens

  opened-state : (ends w (opening state newest batch)).state ≡ fresh_state G D b (open_sign D (homes_after D w.book.commits))
  unfolding ends open_call
  opened-state =
      let g : Given = loaded w state newest batch in
      ap (λ (o : Outcome). o.state) (ends-done (open_call g) g (open_answer g (open_start g) (size_of (open_effect g))) (open_effect g) refl h)
      ∙ (unfold done in ap (λ (e : Effect). e.state) (open-effect G D z w c state newest batch))

  round-ended : (state_of (ends w (opening state newest batch)).state).round ≡ 0
  round-ended =
      ap (λ (x : List ℕ). (state_of x).round) opened-state
      ∙ ap (λ (x : State). x.round)
      (state-fresh G D b _ (omega (arith, z.high)) (omega (arith, z.homes)) (omega (arith, z.high, c.opens.start)))

module _ (G D : ℕ) (z : Sizes G D) where
  opening-raises : (w : World) (k : Closed G D w) (c : Call) → is_opening c ≡ true → (ends w c).code ≡ 0 → Raises w c (ends w c)
  unfolding is_opening
  opening-raises w k (opening state newest batch) e h = round-ended G D z w k state newest batch h
  opening-raises w k confirm e h = tt
  opening-raises w k (change c) e h = tt
  opening-raises w k (service c) e h = absurd (false≢true e)

  raises-at : (w : World) → Invariant G D w → (e : Event) → Allowed w e → RaisesAt w e
  raises-at w (inl k) (call c) a = opening-raises w k c (a ∙ ap not k.ready)
  raises-at w (inr r) (call c) a = running-raises G D z w r c (a ∙ ap not r.ready)
  raises-at w i (crash passed chosen) a = tt

  kept-ready : (w : World) → Invariant G D w → w.ready ≡ true → SettledHomes w.homes w.area (state_of w.state) w.book.commits
  kept-ready w (inl k) h = absurd (false≢true (sym k.ready ∙ h))
  kept-ready w (inr r) h = kept G D z w r

  -- a done call leaves the store open
  open-still : (w : World) (c : Call) → (ends w c).code ≡ 0 → (step w (call c)).ready ≡ true
  unfolding step after_call after_done
  open-still w c h = rw h

  stays_at : (w : World) → Invariant G D w → (s : Store) → Agrees G D w s → (e : Event) → Allowed w e → Invariant G D (step w e)
      → Agrees G D (step w e) (follow s w e) → StaysAt w e
  stays_at w (inl k) s a (call c) l j b = closed-stays c (l ∙ ap not k.ready)
    where
      closed-stays : (c : Call) → is_opening c ≡ true → StaysAt w (call c)
      closed-stays (opening state newest batch) o h m u = absurd (false≢true (unfold may_come in m))
      closed-stays confirm o h m u = absurd (false≢true (unfold is_opening in o))
      closed-stays (change c) o h m u = absurd (false≢true (unfold is_opening in o))
      closed-stays (service c) o h m u = absurd (false≢true (unfold is_opening in o))
  stays_at w (inr r) s a (call c) l (inl k) b = λ h m u. absurd (false≢true (sym k.ready ∙ open-still w c h))
  stays_at w (inr r) s a (call c) l (inr r') b = λ h m u. stays G D z w r s a c h m u r' b
  stays_at w i s a (crash passed chosen) l j b = tt

  throughout : (es : List Event) (w : World) (s : Store) → Invariant G D w → Agrees G D w s → AllAllowed w es → RoundsThroughout w es
  throughout [] w s i g a = kept-ready w i
  throughout (e ∷ es) w s i g a =
      let j : Invariant G D (step w e) = (keeps G D z w i e a.0).0 in
      let b : Agrees G D (step w e) (follow s w e) = follows G D z w i s g e a.0 in (
        kept-ready w i,
        raises-at w i e a.0,
        stays_at w i s g e a.0 j b,
        throughout es (step w e) (follow s w e) j b a.1,
      )

pub rounds-kept : RoundsKept
rounds-kept =
    from-format RoundsThroughout
    (λ G D z es a. throughout G D z es (empty_store G D) (new_store G D) (inl (format-closed G D z)) (empty-agrees G D z) a)
