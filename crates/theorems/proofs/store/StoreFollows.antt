-- The abstract store goes on agreeing with the world, call by call and crash by crash. Assumes nothing.
use Prim.Native.Nat.{ℕ, zero, suc, ◌+◌, ◌*◌, ◌^◌, ◌≤◌, ◌<◌}
use mathlib.Core.Path.{◌≡◌, refl, sym, ap, ◌∙◌, subst}
use mathlib.Core.Logic.{◌⊎◌, inl, inr}
use mathlib.Core.Bool.{Bool, true, false, cond, not, false≢true}
use mathlib.Core.List.{List}
use native.Mathlib.Omega.{arith}
use lib.Dec.{eqb, leb}
use lib.ListN.{length}
use borrow.Author.Tests.{le-leb, lt-leb, ne_eqb}
use Rattle.model.specs.Rights.{open_sign}
use Rattle.model.specs.Layout.{group_count, home_count, header_start}
use Rattle.model.specs.State.{state_of, promise_of, fresh_state}
use Rattle.model.specs.Effects.{Given, Effect, homes, open_effect, open_start}
use Rattle.model.specs.Questions.{open_answer}
use Rattle.model.specs.Calls.{size_of, open_call}
use Rattle.model.specs.Crash.{Memory, fences, persist}
use Rattle.model.specs.Book.{Book, homes_after, run}
use Rattle.model.specs.Book as book
use Rattle.model.specs.DemandTwo.{untrimmed}
use Rattle.model.specs.History.{Call, opening, confirm, change, service, Event, call, crash, World, unopened, empty_store, loaded, ends, change_ends, feed, is_opening, after_done, after_call, after_crash, step, Allowed, row_fates, reserve, abort, store, commit}
use Rattle.abstract_store.specs.Store.{Store, new_store, group_of_first, reply_of, promises_after, numbered, after_reply, follow, found_in_memory, with_round}
use Rattle.abstract_store.specs.Store as store
use Rattle.model_laws.proofs.bytes.LayoutLaws.{groups-in, homes_in}
use Rattle.model_laws.proofs.state.OrderLaws.{InOrder, state-fresh, promise-fresh}
use Rattle.model_laws.proofs.state.NewestLaws.{length-nothing}
use Rattle.model_laws.proofs.state.QuestionLaws.{open-ready}
use Rattle.theorems.proofs.invariant.Invariant.{Sizes, Running, Closed, Invariant, ImageOk}
use Rattle.theorems.proofs.invariant.OpenLaws.{new_start}
use Rattle.theorems.proofs.invariant.LateOpens.{late-found}
use Rattle.theorems.proofs.steps.RefusalLaws.{left-as-lent}
use Rattle.theorems.proofs.steps.DoneLaws.{outcome-code}
use Rattle.theorems.proofs.steps.Rows.{row_of, row-state}
use Rattle.theorems.proofs.steps.Footprint.{shares, Touch, shares-open, shares-reserve, shares-abort, shares-store, shares-commit, Spares, frame, steady}
use Rattle.theorems.proofs.steps.NewestSteps.{newest-length, open-newest}
use Rattle.theorems.proofs.steps.CrashRuns.{image, same_memory}
use Rattle.theorems.proofs.steps.OpenStep.{open-effect}
use Rattle.theorems.proofs.steps.Beginning.{formatted-start, formatted-found}
use Rattle.theorems.proofs.store.StoreAgrees.{Numbers, Agrees}
use Rattle.theorems.proofs.store.StoreNumbers.{done-state, start_small, change-numbers, confirm-numbers, service-numbers}
use Rattle.theorems.proofs.store.StorePromises.{ps, commit-promises, reserved, aborted, stored, committed-writer}

module _ (G D : ℕ) (z : Sizes G D) (w : World) (r : Running G D w) (s : Store) (a : Agrees G D w s) where
  abbrev o : InOrder w.state G D
  o = r.copies.order

  abbrev n : Numbers s (state_of w.state)
  n = a.numbers r.ready

  -- ---- a done call

  done-numbers : (c : Call) → is_opening c ≡ false → (ends w c).code ≡ 0 → Numbers (store.after_done s c (ends w c).figure) (state_of (ends w c).state)
  unfolding is_opening
  done-numbers (opening state newest batch) e h = absurd (false≢true (sym e))
  done-numbers confirm e h = (confirm-numbers G D z w r s a) h
  done-numbers (change c) e h = (change-numbers G D z w r s a) c h
  done-numbers (service c) e h = unfold store.after_done in (service-numbers G D z w r s a) c h

  done-promises : (c : Call) → is_opening c ≡ false → (ends w c).code ≡ 0 → (x : ℕ) → x < 8
      → (store.after_done s c (ends w c).figure).promises x ≡ promise_of (ends w c).state x
  unfolding is_opening store.after_done numbered promises_after row_of
  done-promises c o h x l = go c o h (frame shares c)
    where
      state-is : (c : Call) → (ends w c).code ≡ 0 → promise_of (row_of w c).effect.state x ≡ promise_of (ends w c).state x
      state-is c h = ap (λ (t : List ℕ). promise_of t x) (sym (row-state w c h))

      go : (c : Call) → is_opening c ≡ false → (ends w c).code ≡ 0 → Touch shares c ⊎ Spares shares c
          → (store.after_done s c (ends w c).figure).promises x ≡ promise_of (ends w c).state x
      go c o h (inl (shares-open state newest batch)) = absurd (false≢true (sym o))
      go c o h (inl (shares-reserve v n)) = (reserved G D z w r s a) v n x (unfold ends change_ends in h) l ∙ state-is (reserve v n) h
      go c o h (inl (shares-abort v)) = (aborted G D z w r s a) v x (unfold ends change_ends in h) l ∙ state-is (abort v) h
      go c o h (inl (shares-store v home block batch)) = (stored G D z w r s a) v home block batch x (unfold ends change_ends in h) l ∙ state-is (store v home block batch) h
      go c o h (inl (shares-commit v batch)) =
          (commit-promises G D z w r s a) v batch x ((committed-writer G D z w r s a) v batch (unfold ends change_ends in h)) l ∙ state-is (commit v batch) h
      go c o h (inr f) = ap (λ (p : ℕ → ℕ). p x) (f.1 s (ends w c).figure) ∙ (ps G D z w r s a) x l ∙ sym (f.0 w h x l)

  pub done-agrees : (c : Call) → is_opening c ≡ false → (ends w c).code ≡ 0
      → Agrees G D (after_done w c (ends w c)) (store.after_done s c (ends w c).figure)
  unfolding after_done
  done-agrees c e h =
      let q = steady s c (ends w c).figure in
      record {
        groups = q.groups ∙ a.groups;
        homes = q.homes ∙ a.homes;
        head = q.head ∙ a.head;
        found = a.found ∙ sym q.back;
        book = q.book ∙ ap (λ (b : Book). feed b c (ends w c).figure) a.book;
        numbers = λ k. done-numbers c e h;
        newest = λ k. newest-length w c e h ∙ a.newest r.ready;
        promises = λ k. done-promises c e h;
      }

-- ---- a done opening

module _ (G D : ℕ) (z : Sizes G D) (w : World) (c : Closed G D w) (s : Store) (a : Agrees G D w s) (state newest batch : List ℕ)
    (h : (ends w (opening state newest batch)).code ≡ 0) where
  abbrev g : Given
  g = loaded w state newest batch

  abbrev b : ℕ
  b = new_start G D z w.memory (homes_after D w.book.commits) c.opens

  opened-zero : open_answer g (open_start g) (size_of (open_effect g)) ≡ 0
  unfolding ends open_call
  opened-zero = sym (outcome-code g (open_answer g (open_start g) (size_of (open_effect g))) (open_effect g)) ∙ h

  opened-start : open_start g ≡ b
  unfolding open_start loaded
  opened-start = rw (ap group_count c.opens.log_size ∙ groups-in G)

  opened-small : b ≤ 2 ^ 47
  opened-small =
      subst (λ (x : ℕ). x ≤ 2 ^ 47) opened-start (start_small (open_start g) (open-ready g (open_start g) (size_of (open_effect g)) opened-zero).2)

  opened-state : (ends w (opening state newest batch)).state ≡ fresh_state G D b (open_sign D (homes_after D w.book.commits))
  unfolding ends open_call
  opened-state =
      done-state _ g (open_answer g (open_start g) (size_of (open_effect g))) (open_effect g) refl h
      ∙ ap (λ (e : Effect). e.state) (open-effect G D z w c state newest batch)

  opened-first : group_of_first s ≡ b
  unfolding group_of_first
  opened-first = omega (arith, a.head, a.groups)

  opened-numbers : Numbers (store.after_done s (opening state newest batch) (ends w (opening state newest batch)).figure) (state_of (ends w (opening state newest batch)).state)
  unfolding store.after_done
  opened-numbers =
      let m : b ≤ 2 ^ 47 = opened-small in
      rw (opened-state, state-fresh G D b _ (omega (arith, z.high)) (omega (arith, z.homes)) (omega arith))
      (unfold with_round numbered in
      (record {
        start = opened-first;
        settled = omega (arith, opened-first);
        fenced = omega (arith, opened-first);
        durable = omega (arith, opened-first);
        last = refl;
        round = refl;
        cursor = refl;
      }))

  opened-newest : length (ends w (opening state newest batch)).newest ≡ 8 * D
  opened-newest =
      ap length (open-newest w state newest batch h) ∙ length-nothing (homes (loaded w state newest batch))
      ∙ ap (λ (n : ℕ). 8 * n) (unfold loaded in (ap home_count c.opens.area_size ∙ homes_in D))

  pub opened-agrees : Agrees G D (after_done w (opening state newest batch) (ends w (opening state newest batch)))
      (store.after_done s (opening state newest batch) (ends w (opening state newest batch)).figure)
  unfolding after_done
  opened-agrees =
      record {
        groups = unfold store.after_done with_round numbered in a.groups;
        homes = unfold store.after_done with_round numbered in a.homes;
        head = unfold store.after_done with_round numbered in a.head;
        found = unfold store.after_done with_round numbered in a.found;
        book = unfold store.after_done with_round numbered in ap (λ (x : Book). feed x (opening state newest batch) (ends w (opening state newest batch)).figure) a.book;
        numbers = λ k. opened-numbers;
        newest = λ k. opened-newest;
        promises = λ k x l. unfold store.after_done with_round numbered in sym (ap (λ (t : List ℕ). promise_of t x) opened-state ∙ promise-fresh G D b _ x l);
      }

-- ---- a call, done or refused

call-follows : (G D : ℕ) (w : World) (s : Store) (c : Call) → Agrees G D w s
    → ((ends w c).code ≡ 0 → Agrees G D (after_done w c (ends w c)) (store.after_done s c (ends w c).figure))
    → Agrees G D (step w (call c)) (follow s w (call c))
unfolding step after_call follow after_reply reply_of
call-follows G D w s c a d = go (ends w c).code refl
  where
    go : (k : ℕ) → (ends w c).code ≡ k → Agrees G D (after_call w c (ends w c) k) (cond (eqb k 0) (store.after_done s c (ends w c).figure) s)
    go zero e = d e
    go (suc k) e =
        rw (ne_eqb (suc k) 0 (λ x. omega arith)) (subst (λ (x : World). Agrees G D x s) (sym (left-as-lent w c k e)) a)

-- ---- crashes

-- what the rule finds hangs on the log alone
found-log : (G D : ℕ) (m m' : Memory) → m.log ≡ m'.log → found_in_memory G D m ≡ found_in_memory G D m'
unfolding found_in_memory
found-log G D m m' e = rw e

module _ (G D : ℕ) (z : Sizes G D) (w : World) (s : Store) (a : Agrees G D w s) (passed : ℕ) (chosen : ℕ → Bool) where
  abbrev m : Memory
  m = persist passed chosen w.pending w.memory

  abbrev fs : List (ℕ → Bool)
  fs = row_fates w passed chosen

  abbrev head : ℕ
  head = header_start (persist passed chosen w.pending w.memory).log

  first-at : group_of_first s ≡ header_start w.memory.log + G
  unfolding group_of_first
  first-at = omega (arith, a.head, a.groups)

  -- where the log is as it was, the header is too, and the same comes back
  same_back : m.log ≡ w.memory.log → found_in_memory G D m ≡ cond (leb (group_of_first s) head) (untrimmed (7 * head) (run fs s.book.commits)) s.back
  same_back e =
      let l : head < group_of_first s = omega (arith, ap header_start e, first-at, z.low) in
      rw (lt-leb (group_of_first s) head l) (found-log G D m w.memory e ∙ a.found)

  crash-agrees : found_in_memory G D m ≡ cond (leb (group_of_first s) head) (untrimmed (7 * head) (run fs s.book.commits)) s.back
      → Agrees G D (after_crash w passed chosen) (follow s w (crash passed chosen))
  unfolding after_crash follow
  crash-agrees f =
      record {
        groups = unfold store.after_crash in a.groups;
        homes = unfold store.after_crash in a.homes;
        head = unfold store.after_crash in refl;
        found = unfold store.after_crash in f;
        book = unfold store.after_crash in ap (λ (b : Book). book.crash b fs) a.book;
        numbers = λ e. absurd (false≢true e);
        newest = λ e. absurd (false≢true e);
        promises = λ e. absurd (false≢true e);
      }

  -- in an era
  pub running-crash : (r : Running G D w) → w.passed ≤ passed → passed ≤ fences w.pending
      → Agrees G D (after_crash w passed chosen) (follow s w (crash passed chosen))
  running-crash r least most = crash-agrees (go (image G D z w r passed chosen least most))
    where
      go : ImageOk G D r.b w.memory.log r.tr r.old w.book.commits m fs
          → found_in_memory G D m ≡ cond (leb (group_of_first s) head) (untrimmed (7 * head) (run fs s.book.commits)) s.back
      go (inl e) = same_back e.same
      go (inr l) =
          let i : group_of_first s ≤ head = omega (arith, first-at, r.since, l.from) in
          rw (le-leb (group_of_first s) head i)
          (late-found G D r.b r.tr r.old w.book.commits m fs z r.copies.sound r.commits l
          ∙ ap (λ (b : Book). untrimmed (7 * head) (run fs b.commits)) (sym a.book))

  -- before an opening is done
  pub closed-crash : (c : Closed G D w) → Agrees G D (after_crash w passed chosen) (follow s w (crash passed chosen))
  closed-crash c = crash-agrees (same_back (ap (λ (x : Memory). x.log) (same_memory G D w c passed chosen)))

-- ---- every history

module _ (G D : ℕ) (z : Sizes G D) where
  opening-follows : (w : World) → Closed G D w → (s : Store) → Agrees G D w s → (c : Call) → is_opening c ≡ true
      → Agrees G D (step w (call c)) (follow s w (call c))
  unfolding is_opening
  opening-follows w k s a (opening state newest batch) e =
      call-follows G D w s (opening state newest batch) a (opened-agrees G D z w k s a state newest batch)
  opening-follows w k s a confirm e = absurd (false≢true e)
  opening-follows w k s a (change c) e = absurd (false≢true e)
  opening-follows w k s a (service c) e = absurd (false≢true e)

  pub follows : (w : World) → Invariant G D w → (s : Store) → Agrees G D w s → (e : Event) → Allowed w e → Agrees G D (step w e) (follow s w e)
  follows w (inl k) s a (call c) h = opening-follows w k s a c (h ∙ ap not k.ready)
  follows w (inr r) s a (call c) h = call-follows G D w s c a (done-agrees G D z w r s a c (h ∙ ap not r.ready))
  follows w (inl k) s a (crash passed chosen) h = (unfold step in closed-crash G D z w s a passed chosen k)
  follows w (inr r) s a (crash passed chosen) h = (unfold step in running-crash G D z w s a passed chosen r h.0 h.1)

  pub empty-agrees : Agrees G D (empty_store G D) (new_store G D)
  unfolding empty_store unopened new_store
  empty-agrees =
      record {
        groups = refl;
        homes = refl;
        head = sym (formatted-start G D z);
        found = formatted-found G D z;
        book = refl;
        numbers = λ e. absurd (false≢true e);
        newest = λ e. absurd (false≢true e);
        promises = λ e. absurd (false≢true e);
      }
