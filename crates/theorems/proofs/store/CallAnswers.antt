-- What the calls of rounds answer is what the abstract store says, and so for every call of an era. Assumes nothing.
use Prim.Native.Nat.{ℕ, ◌+◌, ◌-◌, ◌*◌, ◌≤◌, ◌<◌}
use mathlib.Core.Path.{◌≡◌, refl, sym, ap, ◌∙◌}
use mathlib.Core.Bool.{Bool, true, false, cond, ◌&&◌, false≢true}
use mathlib.Core.List.{List, [], ◌∷◌}
use native.Mathlib.Omega.{arith}
use lib.Dec.{leb}
use lib.ListN.{length, take, length-append}
use lib.Seq.{take_all}
use borrow.Author.Tests.{leb-true, leb-false}
use Rattle.model.specs.Batch.{FN, batch_bytes}
use Rattle.model.specs.Commit.{newest}
use Rattle.model.specs.State.{state_of, under_way, fixed_in}
use Rattle.model.specs.declared.State.{State}
use Rattle.model.specs.Effects.{Given, new_state, marked, home_writes, begin_round_effect, step_round_effect}
use Rattle.model.specs.Questions.{ask, batch_fits, in_round, begin_round_answer, step_round_answer}
use Rattle.model.specs.Calls.{size_of, begin_round_call, step_round_call}
use Rattle.model.specs.DemandTwo.{closed_below, untrimmed}
use Rattle.model.specs.History.{Change, begins, reserves, aborts, stores, commits, flushes, Service, settles, round_begins, round_steps, trims, reads, Call, opening, confirm, change, service, World, lent, ends, change_ends, service_ends, is_opening}
use Rattle.abstract_store.specs.Store.{Store, any_wrote, to_step, ask_batch, reply_of, reply_change, reply_service, reply}
use Rattle.model_laws.proofs.state.BatchLaws.{batch-append, batch-one, length-FN}
use Rattle.model_laws.proofs.trace.WalkLaws.{closing_below}
use Rattle.theorems.proofs.invariant.Invariant.{Sizes, Running}
use Rattle.theorems.proofs.invariant.LiveLog.{tags_in, kept_in}
use Rattle.theorems.proofs.steps.RoundRuns.{is_due, remaining, brought_up, stepped, step-effect, step-size, step-inside, step-now, next_cursor, cursor-upto}
use Rattle.theorems.proofs.store.StoreLaws.{answers, marked-same, found-any-wrote, bytes-homes}
use Rattle.theorems.proofs.rights.RightsHold.{ChangeRights, ServiceRights, RightsAt}
use Rattle.theorems.proofs.store.StoreAgrees.{Numbers, Agrees, size_none, asked}
use Rattle.theorems.proofs.store.ChangeAnswers.{batch-is, begin-answers, reserve-answers, abort-answers, store-answers, commit-answers, flush-answers, confirm-answers, read-answers}
use Rattle.theorems.proofs.store.ServiceAnswers.{no-round, below-contents, settle-answers, trim-answers}

no-records : length (batch_bytes []) ≡ 0
unfolding batch_bytes
no-records = refl

module _ (G D : ℕ) (z : Sizes G D) (w : World) (r : Running G D w) (s : Store) (a : Agrees G D w s) where
  abbrev st : State
  st = state_of w.state

  abbrev n : Numbers s (state_of w.state)
  n = a.numbers r.ready

  -- ---- a round is begun

  begin-round-answers : reply_of (begin_round_call (lent w [] [] 0 0)) ≡ reply_service s round_begins
  unfolding begin_round_call reply_service
  begin-round-answers =
      let g : Given = lent w [] [] 0 0 in
      answers g (begin_round_answer g) (begin_round_effect g) _ 0 0
      (unfold begin_round_answer in (asked G D z w r s a [] [] 0 0 _ ∙ rw (no-round G D z w r s a [])))
      (λ e. (unfold begin_round_effect new_state in refl, size_none (begin_round_effect g) (unfold begin_round_effect new_state in refl)))

  -- ---- a step

  module _ (under : 1 ≤ (state_of w.state).round) where
    abbrev rest : List ℕ
    rest = remaining G D z w r under

    abbrev brought : List ℕ → List ℕ
    brought = brought_up G D z w r under

    -- the homes that remain, by the book
    pub remaining-is : rest ≡ to_step s
    unfolding to_step fixed_in
    remaining-is =
        rw (n.cursor, n.round, a.homes)
        (marked-same (is_due G D z w r under)
        (λ h. leb st.cursor h && any_wrote h (untrimmed (7 * s.start) (closed_below (st.round - 1) s.book.commits))) D
        (λ h.
        ap (λ (x : Bool). leb st.cursor h && x)
        (found-any-wrote (tags_in G D w) w.log G h (closing_below (st.round - 1) (kept_in r.b r.tr w))
        ∙ ap (any_wrote h) (below-contents G D z w r s a (st.round - 1)))))

    homes-bytes : (e : ℕ) → e ≤ D
        → length (batch_bytes (home_writes (brought (marked (is_due G D z w r under) e)) (marked (is_due G D z w r under) e)))
        ≡ 68 * length (marked (is_due G D z w r under) e)
    homes-bytes e l = bytes-homes D _ _ (step-size G D z w r under e l) (step-inside G D z w r under e l)

    stepped-bytes : (k : ℕ) → 1 ≤ k → (d : Bool) → leb (length rest) k ≡ d
        → length (batch_bytes (stepped G D z w r under k d).records) ≡ 68 * length (take k rest) + cond d 2 0
    stepped-bytes k one true e =
        rw (take_all k rest (leb-true (length rest) k e))
        (ap length (batch-append (home_writes (brought rest) rest) (FN ∷ []))
        ∙ length-append (batch_bytes (home_writes (brought rest) rest)) (batch_bytes (FN ∷ []))
        ∙ omega (arith, homes-bytes D (omega arith), ap length (batch-one FN) ∙ length-FN))
    stepped-bytes k one false e =
        let many : k < length rest = leb-false (length rest) k e in
        rw (step-now G D z w r under k one many)
        (ap length (batch-append (home_writes (brought (marked (is_due G D z w r under) (next_cursor G D z w r under k one many))) _) [])
        ∙ length-append (batch_bytes (home_writes (brought (marked (is_due G D z w r under) (next_cursor G D z w r under k one many))) _)) (batch_bytes [])
        ∙ omega (arith, homes-bytes (next_cursor G D z w r under k one many) (cursor-upto G D z w r under k one many), no-records))

    pub step-bytes : (k : ℕ) (batch : List ℕ) → 1 ≤ k
        → (size_of (step_round_effect (lent w [] batch 0 0) k) ≡ 68 * length (take k (to_step s)) + cond (leb (length (to_step s)) k) 2 0)
        × ((step_round_effect (lent w [] batch 0 0) k).figure ≡ 0)
    unfolding size_of
    step-bytes k batch one =
        rw (← remaining-is, step-effect G D z w r under k batch) (stepped-bytes k one (leb (length rest) k) refl, refl)

  step-number : (k : ℕ) (batch : List ℕ)
      → step_round_answer (lent w [] batch 0 0) k (size_of (step_round_effect (lent w [] batch 0 0) k))
      ≡ ask (leb 1 s.round && leb 1 k) 21 (ask_batch (68 * length (take k (to_step s)) + cond (leb (length (to_step s)) k) 2 0) batch)
  unfolding step_round_answer in_round under_way lent
  step-number k batch =
      asked G D z w r s a [] batch 0 0 _ ∙ go (leb 1 st.round) (leb 1 k) refl refl
      ∙ ap
      (λ (x : ℕ). ask (leb 1 x && leb 1 k) 21 (ask_batch (68 * length (take k (to_step s)) + cond (leb (length (to_step s)) k) 2 0) batch)) (sym n.round)
    where
      g : Given
      g = lent w [] batch 0 0

      go : (d e : Bool) → leb 1 st.round ≡ d → leb 1 k ≡ e
          → ask (d && e) 21 (ask (batch_fits g (size_of (step_round_effect g k))) 9 0)
          ≡ ask (d && e) 21 (ask_batch (68 * length (take k (to_step s)) + cond (leb (length (to_step s)) k) 2 0) batch)
      go true true p q =
          ap (λ (x : ℕ). ask true 21 x)
          (batch-is G D z w r s a [] batch 0 0 _ _ (step-bytes (leb-true 1 st.round p) k batch (leb-true 1 k q)).0)
      go true false p q = unfold ask in refl
      go false e p q = unfold ask in refl

  asked-zero : (b : Bool) (x : ℕ) → ask b 21 x ≡ 0 → b ≡ true
  unfolding ask
  asked-zero true x e = refl
  asked-zero false x e = absurd (omega arith)

  step-round-answers : (k : ℕ) (batch : List ℕ) → reply_of (step_round_call (lent w [] batch 0 0) k) ≡ reply_service s (round_steps k batch)
  unfolding step_round_call reply_service
  step-round-answers k batch =
      let g : Given = lent w [] batch 0 0 in
      answers g (step_round_answer g k (size_of (step_round_effect g k))) (step_round_effect g k) _ 0
      (68 * length (take k (to_step s)) + cond (leb (length (to_step s)) k) 2 0) (step-number k batch)
      (λ e. let q = both (leb 1 s.round) (leb 1 k) (asked-zero (leb 1 s.round && leb 1 k) _ e) in
      let b = step-bytes (leb-true 1 st.round (rw n.round at q.0)) k batch (leb-true 1 k q.1) in
      (b.1, b.0))
    where
      both : (x y : Bool) → (x && y) ≡ true → (x ≡ true) × (y ≡ true)
      both true y e = (refl, e)
      both false y e = absurd (false≢true e)

  -- ---- every call of an era

  change-answers : (c : Change) → ChangeRights w s c → reply_of (ends w (change c)) ≡ reply_change s c
  unfolding ends change_ends
  change-answers (begins v) right = begin-answers G D z w r s a v
  change-answers (reserves v places) right = reserve-answers G D z w r s a v places
  change-answers (aborts v) right = abort-answers G D z w r s a v
  change-answers (stores v home block batch) right = store-answers G D z w r s a v home block batch right
  change-answers (commits v batch) right = commit-answers G D z w r s a v batch
  change-answers (flushes batch) right = flush-answers G D z w r s a batch

  service-answers : (c : Service) → ServiceRights w s c → reply_of (ends w (service c)) ≡ reply_service s c
  unfolding ends service_ends
  service-answers (settles batch) right = settle-answers G D z w r s a batch
  service-answers round_begins right = begin-round-answers
  service-answers (round_steps k batch) right = step-round-answers k batch
  service-answers (trims batch) right = trim-answers G D z w r s a batch
  service-answers (reads v home block) right = read-answers G D z w r s a v home block right

  pub call-answers : (c : Call) → is_opening c ≡ false → RightsAt w s c → reply_of (ends w c) ≡ reply s c
  unfolding ends reply is_opening
  call-answers (opening state newest batch) e right = absurd (false≢true (sym e))
  call-answers confirm e right = confirm-answers G D z w r s a
  call-answers (change c) e right = (unfold ends in change-answers c right)
  call-answers (service c) e right = (unfold ends in service-answers c right)
