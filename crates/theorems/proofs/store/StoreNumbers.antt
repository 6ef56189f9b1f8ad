-- The abstract store's numbers are the strip's after every done call of an era. Assumes nothing.
use Prim.Native.Nat.{ℕ, ◌+◌, ◌-◌, ◌*◌, ◌^◌, ◌≤◌, ◌<◌}
use mathlib.Core.Path.{◌≡◌, refl, sym, ap, ◌∙◌, subst}
use mathlib.Core.Bool.{Bool, true, false, cond}
use mathlib.Core.List.{List, []}
use native.Mathlib.Omega.{arith}
use lib.Dec.{eqb, leb}
use lib.ListN.{length}
use borrow.Author.Tests.{leb-true, ltb-true, eqb-true, ne_eqb}
use Rattle.model.specs.Tag.{entry_word, closing_word}
use Rattle.model.specs.State.{state_of, set_start, set_next, set_filled, set_fenced, set_last, next_position, set_promise, promise_left, places, writer_of, set_writer, held_of, set_held, idle, begun, holding, logging, holds, first_for, count_for}
use Rattle.model.specs.declared.State.{State}
use Rattle.model.specs.declared.Writer.{Writer}
use Rattle.model.specs.Effects.{Given, Effect, logged, link_from, log_held, log_closing, begin_effect, reserve_effect, abort_effect, store_first, store_again, store_other, store_effect, commit_held, commit_effect, flush_none, flush_part, flush_effect, confirm_effect, settle_effect, trim_start, trim_to, trim_effect, read_effect, new_state}
use Rattle.model.specs.Questions.{block_right, writer_known, start_fits, begin_answer, reserve_answer, abort_answer, store_answer, commit_answer, flush_answer, confirm_answer, settle_answer, trim_answer, read_answer}
use Rattle.model.specs.Calls.{Outcome, done, outcome, size_of, begin_call, reserve_call, abort_call, store_call, commit_call, flush_call, confirm_call, settle_call, trim_call, read_call}
use Rattle.model.specs.Book.{Book}
use Rattle.model.specs.Book as book
use Rattle.model.specs.History.{Change, begins, reserves, aborts, stores, commits, flushes, Service, settles, trims, reads, confirm, change, service, World, lent, ends, change_ends, service_ends, round_begins, round_steps}
use Rattle.abstract_store.specs.Store.{Store, group_of_first, next_group, last_after, fenced_after, numbered, trimmed_to, after_service}
use Rattle.abstract_store.specs.Store as store
use Rattle.model_laws.proofs.state.StateLaws.{with_start, with_fenced, with_settled, with_last, with_durable, with_next, with_filled, length-set_next, length-set_filled, state-set_next, state-set_filled, state-set_fenced, state-set_durable, state-set_last}
use Rattle.model_laws.proofs.state.WriterLaws.{state-set_writer, state-set_held}
use Rattle.model_laws.proofs.state.PromiseLaws.{state-set_promise}
use Rattle.model_laws.proofs.state.ListedLaws.{state-carry}
use Rattle.model_laws.proofs.state.SignLaws.{state-keep_list}
use Rattle.model_laws.proofs.state.OrderLaws.{InOrder}
use Rattle.model_laws.proofs.state.QuestionLaws.{reserve-ready, abort-ready, store-ready, commit-ready, trim-ready}
use Rattle.theorems.proofs.invariant.Invariant.{Sizes, Running}
use Rattle.theorems.proofs.steps.DoneLaws.{outcome-code}
use Rattle.theorems.proofs.steps.LogRuns.{Advance, logged-numbers, logged-writers}
use Rattle.theorems.proofs.steps.SettleRuns.{settle-effect, numbers}
use Rattle.theorems.proofs.steps.TrimRuns.{MayMove, trim-may, last_kept, renumbered-is}
use Rattle.theorems.proofs.demands.Yields.{ends-done}
use Rattle.theorems.proofs.store.StoreAgrees.{Numbers, Agrees, next-is, filled_is}
use Rattle.theorems.proofs.store.ServiceAnswers.{start_is}
use Rattle.theorems.proofs.store.RoundFollows.{begin-round-numbers, step-round-numbers}

-- what a done call leaves in the strip and gives as its figure
pub done-state : (o : Outcome) (g : Given) (a : ℕ) (e : Effect) → o ≡ outcome g a e → o.code ≡ 0 → o.state ≡ e.state
done-state o g a e q h = ap (λ (x : Outcome). x.state) (ends-done o g a e q h) ∙ (unfold done in refl)

done-figure : (o : Outcome) (g : Given) (a : ℕ) (e : Effect) → o ≡ outcome g a e → o.code ≡ 0 → o.figure ≡ e.figure
done-figure o g a e q h = ap (λ (x : Outcome). x.figure) (ends-done o g a e q h) ∙ (unfold done in refl)

-- where the strip has the numbers, the store numbered so agrees
numbers_as : (s : Store) (p : ℕ → ℕ) (b : Book) (start settled fenced durable last : ℕ) (st : State) → start ≡ st.start → settled ≡ st.settled
    → fenced ≡ st.fenced → durable ≡ st.durable → last ≡ st.last → s.round ≡ st.round → s.cursor ≡ st.cursor
    → Numbers (numbered s start settled fenced durable last p b) st
unfolding numbered
numbers_as s p b start settled fenced durable last st e₁ e₂ e₃ e₄ e₅ e₆ e₇ =
    record { start = e₁; settled = e₂; fenced = e₃; durable = e₄; last = e₅; round = e₆; cursor = e₇ }

writer-ok : (w : World) (v h : ℕ) (block batch : List ℕ) → writer_known (lent w block batch v h) ≡ true → v < 8
unfolding writer_known lent
writer-ok w v h block batch e = ltb-true v 8 e

pub start_small : (x : ℕ) → start_fits x ≡ true → x ≤ 2 ^ 47
unfolding start_fits
start_small x h = leb-true x (2 ^ 47) h

-- a done store was lent a block
block-right : (w : World) (v h : ℕ) (block batch : List ℕ) → block_right (lent w block batch v h) ≡ true → length block ≡ 64
unfolding block_right lent
block-right w v h block batch e = eqb-true (length block) 64 e

pub block-ok : (w : World) (v h : ℕ) (block batch : List ℕ) → (store_call (lent w block batch v h)).code ≡ 0 → length block ≡ 64
unfolding store_call
block-ok w v h block batch e =
    let g : Given = lent w block batch v h in
    block-right w v h block batch
    (store-ready g (size_of (store_effect g)) (sym (outcome-code g (store_answer g (size_of (store_effect g))) (store_effect g)) ∙ e)).block

module _ (G D : ℕ) (z : Sizes G D) (w : World) (r : Running G D w) (s : Store) (a : Agrees G D w s) where
  abbrev st : State
  st = state_of w.state

  abbrev o : InOrder w.state G D
  o = r.copies.order

  abbrev n : Numbers s (state_of w.state)
  n = a.numbers r.ready

  -- the same numbers
  stays : (p : ℕ → ℕ) (b : Book) (t : List ℕ) → state_of t ≡ st → Numbers (numbered s s.start s.settled s.fenced s.durable s.last p b) (state_of t)
  stays p b t e = rw e (numbers_as s p b s.start s.settled s.fenced s.durable s.last st n.start n.settled n.fenced n.durable n.last n.round n.cursor)

  next_small : 7 * st.next + 7 < 2 ^ 64
  next_small = omega (arith, o.next-most, o.start-most, o.groups-same, z.high)

  advanced : (word : ℕ) (block : List ℕ) → Advance st (state_of (logged w.state w.log word block).state) st.last
  advanced word block = logged-numbers w.state w.log word block r.copies.state_size o.filled-most (omega (arith, o.next-most, o.start-most, o.groups-same, z.high))

  logged-size : (word : ℕ) (block : List ℕ) → length (logged w.state w.log word block).state ≡ 1024
  logged-size word block = (logged-writers w.state w.log word block r.copies.state_size).size

  -- an entry logged changes none of them
  logged-stays : (p : ℕ → ℕ) (b : Book) (word : ℕ) (block : List ℕ)
      → Numbers (numbered s s.start s.settled s.fenced s.durable s.last p b) (state_of (logged w.state w.log word block).state)
  logged-stays p b word block =
      let ad = advanced word block in
      numbers_as s p b s.start s.settled s.fenced s.durable s.last (state_of (logged w.state w.log word block).state)
      (n.start ∙ sym ad.start) (n.settled ∙ sym ad.settled) (n.fenced ∙ sym ad.fenced) (n.durable ∙ sym ad.durable) (n.last ∙ sym ad.last)
      (n.round ∙ sym ad.round) (n.cursor ∙ sym ad.cursor)

  -- ---- store

  other-numbers : (v h : ℕ) (block batch : List ℕ) (p : ℕ → ℕ) (b : Book) → v < 8 → length block ≡ 64
      → Numbers (numbered s s.start s.settled s.fenced s.durable s.last p b)
      (state_of (store_other (lent w block batch v h) (writer_of w.state v) (next_position (state_of w.state))).state)
  unfolding store_other log_held lent
  other-numbers v h block batch ps b wk l =
      let x : Writer = writer_of w.state v in
      let p : ℕ = next_position (state_of w.state) in
      let word : ℕ = entry_word x.home (p - first_for x p) in
      let after : List ℕ = (logged w.state w.log word (held_of w.state v)).state in
      let y : Writer = logging h (first_for x p) (count_for x + 1) in
      subst (λ (q : State). Numbers (numbered s s.start s.settled s.fenced s.durable s.last ps b) q)
      (sym (state-set_promise (set_held (set_writer after v y) v block) v (promise_left w.state v) wk ∙ state-set_held (set_writer after v y) v block l ∙ state-set_writer after v y))
      (logged-stays ps b word (held_of w.state v))

  store-numbers : (v h : ℕ) (block batch : List ℕ) (p : ℕ → ℕ) (b : Book) → v < 8 → length block ≡ 64
      → Numbers (numbered s s.start s.settled s.fenced s.durable s.last p b) (state_of (store_effect (lent w block batch v h)).state)
  unfolding store_effect store_first store_again new_state lent
  store-numbers v h block batch p b wk l = go (holds (writer_of w.state v)) (eqb (writer_of w.state v).home h)
    where
      go : (d e : Bool)
          → Numbers (numbered s s.start s.settled s.fenced s.durable s.last p b)
          (state_of
          (cond d (cond e (store_again (lent w block batch v h)) (store_other (lent w block batch v h) (writer_of w.state v) (next_position (state_of w.state))))
          (store_first (lent w block batch v h))).state)
      go true true = stays p b (set_held w.state v block) (state-set_held w.state v block l)
      go true false = other-numbers v h block batch p b wk l
      go false e =
          stays p b (set_held (set_writer w.state v (holding h)) v block)
          (state-set_held (set_writer w.state v (holding h)) v block l ∙ state-set_writer w.state v (holding h))

  -- ---- commit

  idle-state : (v : ℕ) → v < 8 → state_of (set_promise (set_writer w.state v idle) v 0) ≡ state_of w.state
  idle-state v l = state-set_promise (set_writer w.state v idle) v 0 l ∙ state-set_writer w.state v idle

  held-numbers : (v : ℕ) (batch : List ℕ) (p : ℕ → ℕ) (b : Book) → v < 8
      → Numbers (numbered s s.start s.settled s.fenced s.durable (next_position (state_of w.state) + 1) p b)
      (state_of (commit_held (lent w [] batch v 0) (writer_of w.state v) (next_position (state_of w.state))).state)
  unfolding commit_held log_closing lent
  held-numbers v batch ps b wk =
      let x : Writer = writer_of w.state v in
      let p : ℕ = next_position (state_of w.state) in
      let word : ℕ = closing_word x.home (p - first_for x p) (link_from p (state_of w.state)) (count_for x + 1) in
      let after : List ℕ = (logged w.state w.log word (held_of w.state v)).state in
      let ad = advanced word (held_of w.state v) in
      let q : p ≡ 7 * st.next + st.filled = unfold next_position in refl in
      subst (λ (q : State). Numbers (numbered s s.start s.settled s.fenced s.durable (p + 1) ps b) q)
      (sym (state-keep_list _ ∙ state-set_promise (set_writer (set_last after (p + 1)) v idle) v 0 wk ∙ state-set_writer (set_last after (p + 1)) v idle
      ∙ state-set_last after (p + 1) (logged-size word (held_of w.state v)) (omega (arith, next_small, q, o.filled-most))))
      (numbers_as s ps b s.start s.settled s.fenced s.durable (p + 1) (with_last (state_of after) (p + 1)) (n.start ∙ sym ad.start)
      (n.settled ∙ sym ad.settled) (n.fenced ∙ sym ad.fenced) (n.durable ∙ sym ad.durable) refl (n.round ∙ sym ad.round) (n.cursor ∙ sym ad.cursor))

  commit-numbers : (v : ℕ) (batch : List ℕ) (p : ℕ → ℕ) (b : Book) → v < 8
      → Numbers (numbered s s.start s.settled s.fenced s.durable (last_after s.last (commits v batch) (commit_effect (lent w [] batch v 0)).figure) p b)
      (state_of (commit_effect (lent w [] batch v 0)).state)
  unfolding commit_effect last_after lent
  commit-numbers v batch p b wk = go (holds (writer_of w.state v))
    where
      go : (d : Bool)
          → Numbers
          (numbered s s.start s.settled s.fenced s.durable
          (cond
          (eqb (cond d (commit_held (lent w [] batch v 0) (writer_of w.state v) (next_position (state_of w.state))) (abort_effect (lent w [] batch v 0))).figure 0)
          s.last
          (cond d (commit_held (lent w [] batch v 0) (writer_of w.state v) (next_position (state_of w.state))) (abort_effect (lent w [] batch v 0))).figure)
          p b)
          (state_of
          (cond d (commit_held (lent w [] batch v 0) (writer_of w.state v) (next_position (state_of w.state))) (abort_effect (lent w [] batch v 0))).state)
      go true =
          let f : (commit_held (lent w [] batch v 0) (writer_of w.state v) (next_position (state_of w.state))).figure ≡ next_position (state_of w.state) + 1 =
          unfold commit_held in refl in
          rw (f, ne_eqb (next_position (state_of w.state) + 1) 0 (λ e. omega arith)) (held-numbers v batch p b wk)
      go false = (unfold abort_effect new_state in stays p b (set_promise (set_writer w.state v idle) v 0) (idle-state v wk))

  -- ---- flush

  rows : group_of_first s + s.book.rows ≡ st.next
  unfolding next_group
  rows = next-is G D z w r s a

  flush-numbers : (batch : List ℕ) (p : ℕ → ℕ) (b : Book)
      → Numbers (numbered s s.start s.settled (fenced_after s (flushes batch)) s.durable s.last p b) (state_of (flush_effect (lent w [] batch 0 0)).state)
  unfolding flush_effect fenced_after book.flush lent
  flush-numbers batch p b =
      subst
      (λ (f : ℕ).
      Numbers (numbered s s.start s.settled (7 * (group_of_first s + (cond (eqb f 0) s.book (book.submit s.book)).rows)) s.durable s.last p b)
      (state_of
      (cond (eqb (state_of w.state).filled 0) (flush_none (lent w [] batch 0 0) (state_of w.state)) (flush_part (lent w [] batch 0 0) (state_of w.state))).state))
      (sym (filled_is G D z w r s a)) (go (eqb (state_of w.state).filled 0))
    where
      one : st.next + 1 < 2 ^ 64
      one = omega (arith, next_small)

      none-state : state_of (set_fenced w.state (7 * (state_of w.state).next)) ≡ with_fenced (state_of w.state) (7 * (state_of w.state).next)
      none-state = state-set_fenced w.state (7 * st.next) r.copies.state_size (omega (arith, next_small))

      part-state : state_of (set_fenced (set_filled (set_next w.state ((state_of w.state).next + 1)) 0) (7 * ((state_of w.state).next + 1)))
          ≡ with_fenced (with_filled (with_next (state_of w.state) ((state_of w.state).next + 1)) 0) (7 * ((state_of w.state).next + 1))
      part-state =
          rw (
            state-set_fenced (set_filled (set_next w.state (st.next + 1)) 0) (7 * (st.next + 1))
                (length-set_filled (set_next w.state (st.next + 1)) 0 ∙ length-set_next w.state (st.next + 1) ∙ r.copies.state_size) (omega (arith, next_small)),
            state-set_filled (set_next w.state (st.next + 1)) 0 (length-set_next w.state (st.next + 1) ∙ r.copies.state_size) (omega arith),
            state-set_next w.state (st.next + 1) r.copies.state_size one,
          )

      go : (d : Bool)
          → Numbers (numbered s s.start s.settled (7 * (group_of_first s + (cond d s.book (book.submit s.book)).rows)) s.durable s.last p b)
          (state_of (cond d (flush_none (lent w [] batch 0 0) (state_of w.state)) (flush_part (lent w [] batch 0 0) (state_of w.state))).state)
      go true =
          (unfold flush_none in
          rw none-state
          (numbers_as s p b s.start s.settled (7 * (group_of_first s + s.book.rows)) s.durable s.last
          (with_fenced (state_of w.state) (7 * (state_of w.state).next)) n.start n.settled (omega (arith, rows)) n.durable n.last n.round n.cursor))
      go false =
          (unfold flush_part book.submit in
          rw part-state
          (numbers_as s p b s.start s.settled (7 * (group_of_first s + (s.book.rows + 1))) s.durable s.last
          (with_fenced (with_filled (with_next (state_of w.state) ((state_of w.state).next + 1)) 0) (7 * ((state_of w.state).next + 1))) n.start n.settled
          (omega (arith, rows)) n.durable n.last n.round n.cursor))

  -- ---- the calls that the book is fed

  pub change-numbers : (c : Change) → (ends w (change c)).code ≡ 0
      → Numbers (store.after_done s (change c) (ends w (change c)).figure) (state_of (ends w (change c)).state)
  unfolding store.after_done ends change_ends
  change-numbers (begins v) h =
      let g : Given = lent w [] [] v 0 in
      (unfold begin_call in
      rw (done-state _ g (begin_answer g) (begin_effect g) refl h)
      (unfold begin_effect new_state lent fenced_after last_after in stays _ _ (set_writer w.state v begun) (state-set_writer w.state v begun)))
  change-numbers (reserves v places) h =
      let g : Given = lent w [] [] v 0 in
      (unfold reserve_call in
      rw (done-state _ g (reserve_answer g places) (reserve_effect g places) refl h)
      (unfold reserve_effect new_state lent fenced_after last_after in
      stays _ _ (set_promise (set_writer w.state v begun) v places)
      (state-set_promise (set_writer w.state v begun) v places
      (writer-ok w v 0 [] [] (reserve-ready g places (sym (outcome-code g (reserve_answer g places) (reserve_effect g places)) ∙ h)).1) ∙ state-set_writer w.state v begun)))
  change-numbers (aborts v) h =
      let g : Given = lent w [] [] v 0 in
      (unfold abort_call in
      rw (done-state _ g (abort_answer g) (abort_effect g) refl h)
      (unfold abort_effect new_state lent fenced_after last_after in stays _ _ (set_promise (set_writer w.state v idle) v 0)
      (idle-state v (writer-ok w v 0 [] [] (abort-ready g (sym (outcome-code g (abort_answer g) (abort_effect g)) ∙ h)).1))))
  change-numbers (stores v home block batch) h =
      let g : Given = lent w block batch v home in
      (unfold store_call in
      rw (done-state _ g (store_answer g (size_of (store_effect g))) (store_effect g) refl h)
      (unfold fenced_after last_after in store-numbers v home block batch _ _
      (writer-ok w v home block batch (store-ready g (size_of (store_effect g)) (sym (outcome-code g (store_answer g (size_of (store_effect g))) (store_effect g)) ∙ h)).writer)
      (block-ok w v home block batch h)))
  change-numbers (commits v batch) h =
      let g : Given = lent w [] batch v 0 in
      (unfold commit_call in
      rw (done-state _ g (commit_answer g (size_of (commit_effect g))) (commit_effect g) refl h, done-figure _ g (commit_answer g (size_of (commit_effect g))) (commit_effect g) refl h)
      (unfold fenced_after in commit-numbers v batch _ _
      (writer-ok w v 0 [] batch (commit-ready g (size_of (commit_effect g)) (sym (outcome-code g (commit_answer g (size_of (commit_effect g))) (commit_effect g)) ∙ h)).writer)))
  change-numbers (flushes batch) h =
      let g : Given = lent w [] batch 0 0 in
      (unfold flush_call in
      rw (done-state _ g (flush_answer g (size_of (flush_effect g))) (flush_effect g) refl h)
      (unfold last_after in flush-numbers batch _ _))

  -- ---- confirm and the calls that change nothing in the book

  pub confirm-numbers : (ends w confirm).code ≡ 0 → Numbers (store.after_done s confirm (ends w confirm).figure) (state_of (ends w confirm).state)
  unfolding store.after_done ends confirm_call confirm_effect new_state lent
  confirm-numbers h =
      let g : Given = lent w [] [] 0 0 in
      let e : Effect = confirm_effect g in
      rw (
        done-state _ g (confirm_answer g) e refl h,
        done-figure _ g (confirm_answer g) e refl h,
        state-set_durable w.state st.fenced r.copies.state_size (omega (arith, next_small, o.fenced-next)),
      )
      (numbers_as s _ _ s.start s.settled s.fenced st.fenced s.last (with_durable (state_of w.state) (state_of w.state).fenced) n.start
      n.settled n.fenced refl n.last n.round n.cursor)

  settle-numbers : (batch : List ℕ) → (ends w (service (settles batch))).code ≡ 0
      → Numbers (after_service s (settles batch)) (state_of (ends w (service (settles batch))).state)
  unfolding after_service ends service_ends settle_call
  settle-numbers batch h =
      let g : Given = lent w [] batch 0 0 in
      rw (done-state _ g (settle_answer g (size_of (settle_effect g))) (settle_effect g) refl h, settle-effect G D z w r batch, numbers G D z w r)
      (numbers_as s s.promises s.book s.start s.fenced (7 * next_group s) s.durable s.last
      (with_fenced (with_settled (state_of w.state) (state_of w.state).fenced) (7 * (state_of w.state).next)) n.start n.fenced
      (ap (λ (x : ℕ). 7 * x) (next-is G D z w r s a)) n.durable n.last n.round n.cursor)

  -- a trim to a group at which the log may start
  trim-to-numbers : (batch : List ℕ) (x : ℕ) → MayMove G D w r x → x ≤ 2 ^ 47
      → Numbers (cond (eqb x s.start) s (trimmed_to s x)) (state_of (trim_effect (lent w [] batch 0 0) x).state)
  unfolding trim_effect trim_to new_state lent trimmed_to last_kept
  trim-to-numbers batch x t most =
      subst
      (λ (f : ℕ).
      Numbers (cond (eqb x f) s (numbered s x s.settled (7 * next_group s) s.durable (cond (leb s.last (7 * x)) 0 s.last) s.promises s.book))
      (state_of
      (cond (eqb x (state_of w.state).start) (new_state (lent w [] batch 0 0) w.state 0) (trim_to (lent w [] batch 0 0) (state_of w.state) x)).state))
      (sym n.start) (go (eqb x (state_of w.state).start))
    where
      moved : Numbers (numbered s x s.settled (7 * next_group s) s.durable (cond (leb s.last (7 * x)) 0 s.last) s.promises s.book)
          (state_of
          (set_last (set_fenced (set_start w.state x) (7 * (state_of w.state).next)) (cond (leb (state_of w.state).last (7 * x)) 0 (state_of w.state).last)))
      moved =
          subst (λ (q : State). Numbers (numbered s x s.settled (7 * next_group s) s.durable (cond (leb s.last (7 * x)) 0 s.last) s.promises s.book) q)
          (sym (renumbered-is G D z w r x t most))
          (numbers_as s s.promises s.book x s.settled (7 * next_group s) s.durable (cond (leb s.last (7 * x)) 0 s.last)
          (with_last (with_fenced (with_start (state_of w.state) x) (7 * (state_of w.state).next)) (cond (leb (state_of w.state).last (7 * x)) 0 (state_of w.state).last))
          refl n.settled (ap (λ (y : ℕ). 7 * y) (next-is G D z w r s a)) n.durable (ap (λ (y : ℕ). cond (leb y (7 * x)) 0 y) n.last)
          n.round n.cursor)

      go : (d : Bool)
          → Numbers (cond d s (numbered s x s.settled (7 * next_group s) s.durable (cond (leb s.last (7 * x)) 0 s.last) s.promises s.book))
          (state_of (cond d (new_state (lent w [] batch 0 0) w.state 0) (trim_to (lent w [] batch 0 0) (state_of w.state) x)).state)
      go true = n
      go false =
          subst (λ (q : State). Numbers (numbered s x s.settled (7 * next_group s) s.durable (cond (leb s.last (7 * x)) 0 s.last) s.promises s.book) q)
          (sym (state-carry _ _ _)) moved

  trim-numbers : (batch : List ℕ) → (ends w (service (trims batch))).code ≡ 0
      → Numbers (after_service s (trims batch)) (state_of (ends w (service (trims batch))).state)
  unfolding after_service ends service_ends trim_call
  trim-numbers batch h =
      let g : Given = lent w [] batch 0 0 in
      let x : ℕ = trim_start g in
      let m : x ≤ 2 ^ 47 =
      start_small x
      (trim-ready g x (size_of (trim_effect g x)) (sym (outcome-code g (trim_answer g x (size_of (trim_effect g x))) (trim_effect g x)) ∙ h)).1 in
      rw (done-state _ g (trim_answer g x (size_of (trim_effect g x))) (trim_effect g x) refl h)
      (subst (λ (y : ℕ). Numbers (cond (eqb y s.start) s (trimmed_to s y)) (state_of (trim_effect (lent w [] batch 0 0) x).state)) (start_is G D z w r s a batch)
      (trim-to-numbers batch x (trim-may G D z w r batch) m))

  pub service-numbers : (c : Service) → (ends w (service c)).code ≡ 0 → Numbers (after_service s c) (state_of (ends w (service c)).state)
  service-numbers (settles batch) h = settle-numbers batch h
  service-numbers round_begins h = begin-round-numbers G D z w r s a h
  service-numbers (round_steps k batch) h = step-round-numbers G D z w r s a k batch h
  service-numbers (trims batch) h = trim-numbers batch h
  service-numbers (reads v home block) h =
      let g : Given = lent w block [] v home in
      (unfold after_service ends service_ends read_call in
      rw (done-state _ g (read_answer g) (read_effect g) refl h) (unfold read_effect lent in n))
