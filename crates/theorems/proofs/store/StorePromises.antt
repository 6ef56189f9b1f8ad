-- The abstract store's promises are the strip's after every done call of an era. Assumes nothing.
use Prim.Native.Nat.{ℕ, ◌+◌, ◌-◌, ◌*◌, ◌^◌, ◌≤◌, ◌<◌}
use mathlib.Core.Path.{◌≡◌, refl, sym, ap, ◌∙◌, subst}
use mathlib.Core.Bool.{Bool, true, false, cond, not, ◌&&◌}
use mathlib.Core.List.{List, []}
use native.Mathlib.Omega.{arith}
use lib.Dec.{eqb}
use lib.ListN.{length}
use borrow.Author.Tests.{ltb-true, eqb-true, eqb-false}
use Rattle.model.specs.Tag.{entry_word, closing_word}
use Rattle.model.specs.State.{state_of, set_last, next_position, promise_of, set_promise, promised, promise_left, places, free_places, writer_of, set_writer, held_of, set_held, idle, begun, holding, logging, holds, first_for, count_for}
use Rattle.model.specs.declared.State.{State}
use Rattle.model.specs.declared.Writer.{Writer}
use Rattle.model.specs.Effects.{Given, logged, link_from, log_held, log_closing, reserve_effect, abort_effect, store_first, store_again, store_other, store_effect, commit_held, commit_effect, new_state}
use Rattle.model.specs.Questions.{writer_known, may_promise, store_logs, reserve_answer, abort_answer, store_answer, commit_answer}
use Rattle.model.specs.Calls.{size_of, reserve_call, abort_call, store_call, commit_call}
use Rattle.model.specs.History.{World, lent}
use Rattle.abstract_store.specs.Store.{Store, store_must_log, set_for}
use Rattle.model_laws.proofs.state.StateLaws.{length-set_last}
use Rattle.model_laws.proofs.state.WriterLaws.{length-set_writer, length-set_held}
use Rattle.model_laws.proofs.state.PromiseLaws.{promise-set_last, promise-set_writer, promise-set_held, promise-set_promise, promise-set_promise-other, promise-most}
use Rattle.model_laws.proofs.state.SignLaws.{promise-keep_list}
use Rattle.model_laws.proofs.state.OrderLaws.{InOrder}
use Rattle.model_laws.proofs.state.QuestionLaws.{reserve-ready, may-promise, abort-ready, store-ready, commit-ready}
use Rattle.theorems.proofs.invariant.Invariant.{Sizes, Running}
use Rattle.theorems.proofs.steps.DoneLaws.{outcome-code}
use Rattle.theorems.proofs.steps.LogRuns.{logged-writers}
use Rattle.theorems.proofs.store.StoreAgrees.{Agrees, store-logs}
use Rattle.theorems.proofs.store.StoreNumbers.{block-ok}

module _ (G D : ℕ) (z : Sizes G D) (w : World) (r : Running G D w) (s : Store) (a : Agrees G D w s) where
  abbrev st : State
  st = state_of w.state

  abbrev o : InOrder w.state G D
  o = r.copies.order

  -- ---- promises

  pub ps : (x : ℕ) → x < 8 → s.promises x ≡ promise_of w.state x
  ps = a.promises r.ready

  -- a strip with the writers' promises as they were, but for one writer's
  set-promise : (t : List ℕ) (v k x : ℕ) → length t ≡ 1024 → v < 8 → k < 2 ^ 16 → x < 8 → ((y : ℕ) → y < 8 → promise_of t y ≡ promise_of w.state y)
      → set_for s.promises v k x ≡ promise_of (set_promise t v k) x
  unfolding set_for
  set-promise t v k x size lv lk lx f = go (eqb v x) refl
    where
      go : (d : Bool) → eqb v x ≡ d → cond d k (s.promises x) ≡ promise_of (set_promise t v k) x
      go true e = let q : v ≡ x = eqb-true v x e in subst (λ (y : ℕ). k ≡ promise_of (set_promise t v k) y) q (sym (promise-set_promise t v k size lv lk))
      go false e =
          let q = eqb-false v x e in
          ps x lx ∙ sym (f x lx) ∙ sym (promise-set_promise-other t v k x (λ i. q (sym i)))

  writer-size : (v : ℕ) (y : Writer) → length (set_writer w.state v y) ≡ 1024
  writer-size v y = length-set_writer w.state v y ∙ r.copies.state_size

  few : (v : ℕ) → v < 8 → promise_of w.state v < 2 ^ 16
  few v l =
      let q : places st ≤ 7 * (st.start + st.groups) - 7 * st.start = unfold places next_position in omega (arith, o.start-next) in
      omega (arith, promise-most w.state v 8 l, o.promises.within, o.groups-same, z.high)

  few-places : (k : ℕ) → may_promise w.state k ≡ true → k < 2 ^ 16
  few-places k h =
      let q : places st ≤ 7 * (st.start + st.groups) - 7 * st.start = unfold places next_position in omega (arith, o.start-next) in
      let m : k ≤ places st - promised w.state 8 = unfold free_places in (may-promise w.state k h).1 in
      omega (arith, o.groups-same, z.high)

  may_of : (v m : ℕ) → may_promise (lent w [] [] v 0).state m ≡ true → may_promise w.state m ≡ true
  unfolding lent
  may_of v m e = e

  known-writer : (block batch : List ℕ) (v h : ℕ) → writer_known (lent w block batch v h) ≡ true → v < 8
  unfolding writer_known lent
  known-writer block batch v h e = ltb-true v 8 e

  idle-promises : (v x : ℕ) → v < 8 → x < 8 → set_for s.promises v 0 x ≡ promise_of (set_promise (set_writer w.state v idle) v 0) x
  idle-promises v x lv lx =
      set-promise (set_writer w.state v idle) v 0 x (writer-size v idle) lv (omega arith) lx (λ y l. promise-set_writer w.state v idle y l)

  other-promises : (v h : ℕ) (block batch : List ℕ) (x : ℕ) → length block ≡ 64 → v < 8 → x < 8
      → set_for s.promises v (s.promises v - 1) x
      ≡ promise_of (store_other (lent w block batch v h) (writer_of w.state v) (next_position (state_of w.state))).state x
  unfolding store_other log_held lent promise_left
  other-promises v h block batch x l lv lx =
      let R : Writer = writer_of w.state v in
      let p : ℕ = next_position (state_of w.state) in
      let word : ℕ = entry_word R.home (p - first_for R p) in
      let after : List ℕ = (logged w.state w.log word (held_of w.state v)).state in
      let k = logged-writers w.state w.log word (held_of w.state v) r.copies.state_size in
      let y : Writer = logging h (first_for R p) (count_for R + 1) in
      ap (λ (q : ℕ). set_for s.promises v (q - 1) x) (ps v lv)
      ∙ set-promise (set_held (set_writer after v y) v block) v (promise_of w.state v - 1) x
      (length-set_held (set_writer after v y) v block ∙ length-set_writer after v y ∙ k.size) lv (omega (arith, few v lv)) lx
      (λ i m. promise-set_held (set_writer after v y) v block i l m ∙ promise-set_writer after v y i m ∙ k.promise i)

  store-promises : (v h : ℕ) (block batch : List ℕ) (x : ℕ) → length block ≡ 64 → v < 8 → x < 8
      → cond (store_logs (lent w block batch v h)) (set_for s.promises v (s.promises v - 1)) s.promises x
      ≡ promise_of (store_effect (lent w block batch v h)).state x
  unfolding store_effect store_logs store_first store_again new_state lent
  store-promises v h block batch x l lv lx = go (holds (writer_of w.state v)) (eqb (writer_of w.state v).home h)
    where
      go : (d e : Bool)
          → cond (d && not e) (set_for s.promises v (s.promises v - 1)) s.promises x
          ≡ promise_of
          (cond d (cond e (store_again (lent w block batch v h)) (store_other (lent w block batch v h) (writer_of w.state v) (next_position (state_of w.state))))
          (store_first (lent w block batch v h))).state
          x
      go true true = ps x lx ∙ sym (promise-set_held w.state v block x l lx)
      go true false = other-promises v h block batch x l lv lx
      go false e =
          ps x lx
          ∙ sym (promise-set_held (set_writer w.state v (holding h)) v block x l lx ∙ promise-set_writer w.state v (holding h) x lx)

  held-promises : (v : ℕ) (batch : List ℕ) (x : ℕ) → v < 8 → x < 8
      → set_for s.promises v 0 x ≡ promise_of (commit_held (lent w [] batch v 0) (writer_of w.state v) (next_position (state_of w.state))).state x
  unfolding commit_held log_closing lent
  held-promises v batch x lv lx =
      let R : Writer = writer_of w.state v in
      let p : ℕ = next_position (state_of w.state) in
      let word : ℕ = closing_word R.home (p - first_for R p) (link_from p (state_of w.state)) (count_for R + 1) in
      let after : List ℕ = (logged w.state w.log word (held_of w.state v)).state in
      let k = logged-writers w.state w.log word (held_of w.state v) r.copies.state_size in
      set-promise (set_writer (set_last after (p + 1)) v idle) v 0 x
      (length-set_writer (set_last after (p + 1)) v idle ∙ length-set_last after (p + 1) ∙ k.size) lv (omega arith) lx
      (λ y m. promise-set_writer (set_last after (p + 1)) v idle y m ∙ promise-set_last after (p + 1) y ∙ k.promise y)
      ∙ sym (promise-keep_list _ x lx)

  pub commit-promises : (v : ℕ) (batch : List ℕ) (x : ℕ) → v < 8 → x < 8
      → set_for s.promises v 0 x ≡ promise_of (commit_effect (lent w [] batch v 0)).state x
  unfolding commit_effect lent
  commit-promises v batch x lv lx = go (holds (writer_of w.state v))
    where
      go : (d : Bool)
          → set_for s.promises v 0 x
          ≡ promise_of
          (cond d (commit_held (lent w [] batch v 0) (writer_of w.state v) (next_position (state_of w.state))) (abort_effect (lent w [] batch v 0))).state
          x
      go true = held-promises v batch x lv lx
      go false = (unfold abort_effect new_state in idle-promises v x lv lx)

  reserve-passed : (v m : ℕ) → (reserve_call (lent w [] [] v 0) m).code ≡ 0 → (v < 8) × (m < 2 ^ 16)
  unfolding reserve_call
  reserve-passed v m h =
      let g : Given = lent w [] [] v 0 in
      let e : reserve_answer g m ≡ 0 = sym (outcome-code g (reserve_answer g m) (reserve_effect g m)) ∙ h in
      (known-writer [] [] v 0 (reserve-ready g m e).1, few-places m (may_of v m (reserve-ready g m e).3))

  pub reserved : (v m x : ℕ) → (reserve_call (lent w [] [] v 0) m).code ≡ 0 → x < 8
      → set_for s.promises v m x ≡ promise_of (reserve_effect (lent w [] [] v 0) m).state x
  unfolding reserve_effect new_state lent
  reserved v m x h l =
      set-promise (set_writer w.state v begun) v m x (writer-size v begun) (reserve-passed v m h).0 (reserve-passed v m h).1 l
      (λ y i. promise-set_writer w.state v begun y i)

  abort-passed : (v : ℕ) → (abort_call (lent w [] [] v 0)).code ≡ 0 → v < 8
  unfolding abort_call
  abort-passed v h =
      let g : Given = lent w [] [] v 0 in
      known-writer [] [] v 0 (abort-ready g (sym (outcome-code g (abort_answer g) (abort_effect g)) ∙ h)).1

  pub aborted : (v x : ℕ) → (abort_call (lent w [] [] v 0)).code ≡ 0 → x < 8 → set_for s.promises v 0 x ≡ promise_of (abort_effect (lent w [] [] v 0)).state x
  unfolding abort_effect new_state lent
  aborted v x h l = idle-promises v x (abort-passed v h) l

  pub stored : (v home : ℕ) (block batch : List ℕ) (x : ℕ) → (store_call (lent w block batch v home)).code ≡ 0 → x < 8
      → cond (store_must_log (s.book.tasks v) home) (set_for s.promises v (s.promises v - 1)) s.promises x
      ≡ promise_of (store_effect (lent w block batch v home)).state x
  unfolding store_call
  stored v home block batch x h l =
      let g : Given = lent w block batch v home in
      let k = store-ready g (size_of (store_effect g)) (sym (outcome-code g (store_answer g (size_of (store_effect g))) (store_effect g)) ∙ h) in
      let lv : v < 8 = known-writer block batch v home k.writer in
      ap (λ (d : Bool). cond d (set_for s.promises v (s.promises v - 1)) s.promises x) (sym (store-logs G D z w r s a block batch v home lv))
      ∙ store-promises v home block batch x (block-ok w v home block batch (unfold store_call in h)) lv l

  pub committed-writer : (v : ℕ) (batch : List ℕ) → (commit_call (lent w [] batch v 0)).code ≡ 0 → v < 8
  unfolding commit_call
  committed-writer v batch h =
      let g : Given = lent w [] batch v 0 in
      known-writer [] batch v 0 (commit-ready g (size_of (commit_effect g)) (sym (outcome-code g (commit_answer g (size_of (commit_effect g))) (commit_effect g)) ∙ h)).writer
