-- Every call keeps the invariant: by its answer, and by what it finds in the writer's record.
use mathlib.Core.Path.{◌≡◌, refl, ap, ◌∙◌}
use mathlib.Core.Logic.{inl, inr, ⊎_elim}
use mathlib.Core.Bool.{Bool, true, false, cond}
use mathlib.Core.List.{List, [], ◌∷◌, append-nil}
use mathlib.Core.Option.{none}
use Prim.Native.Nat.{ℕ, zero, suc, ◌+◌, ◌-◌, ◌*◌, ◌%◌, ◌≤◌, ◌<◌}
use native.Mathlib.Nat.{mod-lt}
use native.Mathlib.Omega.{arith}
use lib.ListN.{length}
use lib.Dec.{eqb}
use borrow.Author.Tests.{leb-true, leb-false, ltb-true, eqb-true, eqb-false}
use Rattle.model.specs.Layout.{home_count, group_at}
use Rattle.model.specs.Batch.{GW, batch_bytes}
use Rattle.model.specs.State.{state_of, next_position, promised, writer_of, is_open_now, holds}
use Rattle.model.specs.declared.Writer.{Writer}
use Rattle.model.specs.Effects.{Given, Effect, logged, log_held, log_closing, begin_effect, reserve_effect, abort_effect, store_first, store_again, store_other, store_effect, commit_held, commit_effect, flush_none, flush_part, flush_effect, confirm_effect, read_effect, new_state}
use Rattle.model.specs.Questions.{begin_answer, reserve_answer, abort_answer, store_answer, commit_answer, flush_answer, confirm_answer, read_answer, block_right, writer_known, is_home_known, writer_open, store_logs, commit_logs, room}
use Rattle.model.specs.Calls.{Outcome, outcome, size_of, begin_call, reserve_call, abort_call, store_call, commit_call, flush_call, confirm_call, read_call}
use Rattle.model.specs.Book.{Task, opened, idle, Book, with_task}
use Rattle.model.specs.Book as book
use Rattle.model.specs.History.{Call, begin, reserve, abort, store, commit, flush, confirm, read, call, World, lent, ends, feed, is_confirm, step, change_ends, feed_change, service_ends}
use Rattle.model_laws.proofs.bytes.LayoutLaws.{homes_in, length-group_at, group-fits}
use Rattle.model_laws.proofs.state.BatchLaws.{AllFormed}
use Rattle.theorems.proofs.steps.RefusalLaws.{step-refused}
use Rattle.model_laws.proofs.state.QuestionLaws.{StoreReady, CommitReady, Roomy, room-true, abort-ready, store-ready, commit-ready, flush-ready, keeps-promises}
use Rattle.theorems.proofs.steps.DoneLaws.{outcome-code, step-done, after}
use Rattle.theorems.proofs.steps.LogRuns.{logged-records, logged-log}
use Rattle.theorems.proofs.steps.WriterSteps.{begin-runs, reserve-runs, abort-runs, store-first-runs, store-again-runs}
use Rattle.theorems.proofs.steps.StoreCommit.{store-other-runs, commit-held-runs}
use Rattle.theorems.proofs.steps.FlushRuns.{flush-none-runs, flush-part-runs}
use Rattle.theorems.proofs.steps.NumberRuns.{confirm-runs}
use Rattle.model_laws.proofs.trace.Trace.{Ev}
use Rattle.theorems.proofs.invariant.Invariant.{Sizes, TaskOk, Running}
use Rattle.model_laws.proofs.state.LoggingLaws.{fits, length-entered}

-- what a done call shows: its records can be read back, and the world after it is as it should be
pub record Done (P : World → Type 0) (w : World) (c : Call) (g : Given) (e : Effect) : Type 0 where
  pub formed : AllFormed e.records
  pub fit : size_of e ≤ length g.batch
  pub next : P (after w c e)

-- by the answer: refused, nothing changes
pub by_answer : (P : World → Type 0) (w : World) (c : Call) (g : Given) (a : ℕ) (e : Effect) → ends w c ≡ outcome g a e → P w → (a ≡ 0 → Done P w c g e)
    → P (step w (call c))
by_answer P w c g zero e q p d = let k = d refl in rw (step-done w c g 0 e q refl k.formed k.fit) k.next
by_answer P w c g (suc n) e q p d = rw (step-refused w c n (ap (λ (o : Outcome). o.code) q ∙ outcome-code g (suc n) e)) p

pub no_bytes : (g : Given) (e : Effect) → e.records ≡ [] → size_of e ≤ length g.batch
unfolding size_of batch_bytes
no_bytes g e h = rw h (omega arith)

-- numbers that the questions ask about
writer-lt : (g : Given) → writer_known g ≡ true → g.writer < 8
unfolding writer_known
writer-lt g h = ltb-true g.writer 8 h

-- the writer's task, by its mode
mode-one : (b : ℕ) (tr : List Ev) (r : Writer) (held ps : List ℕ) (t : Task) → TaskOk b tr r held ps t → r.mode ≡ 1 → t ≡ opened [] none
mode-one b tr r held ps t (inl h) e = absurd (omega arith)
mode-one b tr r held ps t (inr (inl h)) e = h.1
mode-one b tr r held ps t (inr (inr (inl h))) e = absurd (omega arith)
mode-one b tr r held ps t (inr (inr (inr h))) e = absurd (omega arith)

module _ (G D : ℕ) (z : Sizes G D) (w : World) (r : Running G D w) where
  homes-are : home_count (length w.area) ≡ D
  homes-are = ap home_count r.copies.area_size ∙ homes_in D

  pub begin-keeps : (v : ℕ) → Running G D (step w (call (begin v)))
  unfolding ends change_ends begin_call
  begin-keeps v =
      let g : Given = lent w [] [] v 0 in
      by_answer (Running G D) w (begin v) g (begin_answer g) (begin_effect g) refl r
      (λ a. record { formed = unfold begin_effect new_state in tt; fit = no_bytes g (begin_effect g) (unfold begin_effect new_state in refl); next = begin-runs G D w v r a })

  pub reserve-keeps : (v n : ℕ) → Running G D (step w (call (reserve v n)))
  unfolding ends change_ends reserve_call
  reserve-keeps v n =
      let g : Given = lent w [] [] v 0 in
      by_answer (Running G D) w (reserve v n) g (reserve_answer g n) (reserve_effect g n) refl r
      (λ a. record {
        formed = unfold reserve_effect new_state in tt;
        fit = no_bytes g (reserve_effect g n) (unfold reserve_effect new_state in refl);
        next = reserve-runs G D w v n r z.high a;
      })

  pub abort-keeps : (v : ℕ) → Running G D (step w (call (abort v)))
  unfolding ends change_ends abort_call
  abort-keeps v =
      let g : Given = lent w [] [] v 0 in
      by_answer (Running G D) w (abort v) g (abort_answer g) (abort_effect g) refl r
      (λ a. record {
        formed = unfold abort_effect new_state in tt;
        fit = no_bytes g (abort_effect g) (unfold abort_effect new_state in refl);
        next = abort-runs G D w v r (unfold lent in writer-lt g (abort-ready g a).1) (abort v) (unfold is_confirm in refl) (unfold feed feed_change book.abort in refl);
      })

  -- an entry that is logged
  logged-formed : (s log : List ℕ) (word : ℕ) (block : List ℕ) → (state_of s).groups ≡ G → length log ≡ 64 + 512 * G → AllFormed (logged s log word block).records
  logged-formed s log word block eg el = rw (logged-records s log word block) (go (eqb (state_of s).filled 6))
    where
      slot : ℕ
      slot = (state_of s).next % (state_of s).groups

      below : slot < G
      below = rw eg (mod-lt (state_of s).next {m = G} (omega arith))

      size : length (logged s log word block).log ≡ 64 + 512 * G
      size = ap length (logged-log s log word block) ∙ length-entered (state_of s) slot log word block ∙ el

      go : (t : Bool) → AllFormed (cond t (GW slot (group_at (logged s log word block).log slot) ∷ []) [])
      go true = ((omega (arith, below), length-group_at (logged s log word block).log slot (group-fits slot (logged s log word block).log G below size)), tt)
      go false = tt

  -- store: what it does, by the writer's record
  module _ (v home : ℕ) (block batch : List ℕ) where
    abbrev g₁ : Given
    g₁ = lent w block batch v home

    abbrev r₁ : Writer
    r₁ = writer_of w.state v

    store-is-first : holds r₁ ≡ false → store_effect g₁ ≡ store_first g₁
    unfolding store_effect lent
    store-is-first h = rw h

    store-is-again : holds r₁ ≡ true → eqb r₁.home home ≡ true → store_effect g₁ ≡ store_again g₁
    unfolding store_effect lent
    store-is-again h k = rw (h, k)

    store-is-other : holds r₁ ≡ true → eqb r₁.home home ≡ false → store_effect g₁ ≡ store_other g₁ r₁ (next_position (state_of w.state))
    unfolding store_effect lent
    store-is-other h k = rw (h, k)

    module _ (a : store_answer g₁ (size_of (store_effect g₁)) ≡ 0) where
      k : StoreReady g₁ (size_of (store_effect g₁))
      k = store-ready g₁ (size_of (store_effect g₁)) a

      writer-ok : v < 8
      unfolding lent
      writer-ok = writer-lt g₁ k.writer

      home-ok : home < D
      unfolding is_home_known lent
      home-ok = let q = ltb-true home (home_count (length w.area)) k.home in omega (arith, homes-are)

      block-ok : length block ≡ 64
      unfolding block_right lent
      block-ok = eqb-true (length block) 64 k.block

      is_open : 1 ≤ r₁.mode
      unfolding writer_open is_open_now lent
      is_open = leb-true 1 r₁.mode k.opened

      room-ok : holds r₁ ≡ true → eqb r₁.home home ≡ false → Roomy w.state v
      unfolding store_logs room lent
      room-ok h f = room-true w.state v (k.roomy (rw (h, f)))

      size_ok : size_of (store_effect g₁) ≤ length g₁.batch
      size_ok = fits g₁ (size_of (store_effect g₁)) k.batch

      first_done : holds r₁ ≡ false → Done (Running G D) w (store v home block batch) g₁ (store_effect g₁)
      unfolding holds
      first_done h =
          let m : r₁.mode ≡ 1 = let q = leb-false 2 r₁.mode h in omega (arith, is_open) in
          record {
            formed = rw (store-is-first h) (unfold store_first new_state in tt);
            fit = size_ok;
            next = rw (store-is-first h) (store-first-runs G D w v home block batch r writer-ok home-ok z.homes block-ok m (mode-one r.b r.tr r₁ _ _ _ (r.copies.tasks v writer-ok) m));
          }

      again-done : holds r₁ ≡ true → eqb r₁.home home ≡ true → Done (Running G D) w (store v home block batch) g₁ (store_effect g₁)
      unfolding holds
      again-done h f =
          record {
            formed = rw (store-is-again h f) (unfold store_again new_state in tt);
            fit = size_ok;
            next = rw (store-is-again h f) (store-again-runs G D w v home block batch r writer-ok block-ok (leb-true 2 r₁.mode h) (eqb-true r₁.home home f));
          }

      other-done : holds r₁ ≡ true → eqb r₁.home home ≡ false → Done (Running G D) w (store v home block batch) g₁ (store_effect g₁)
      unfolding holds
      other-done h f =
          record {
            formed = rw (store-is-other h f) (unfold store_other log_held lent in logged-formed w.state w.log _ _ r.copies.order.groups-same r.copies.log_size);
            fit = size_ok;
            next =
                rw (store-is-other h f)
                (store-other-runs G D z w r v writer-ok (leb-true 2 r₁.mode h) (room-ok h f) home block batch block-ok home-ok (eqb-false r₁.home home f));
          }

      store-done : Done (Running G D) w (store v home block batch) g₁ (store_effect g₁)
      store-done = go (holds r₁) refl (eqb r₁.home home) refl
        where
          go : (t : Bool) → holds r₁ ≡ t → (q : Bool) → eqb r₁.home home ≡ q → Done (Running G D) w (store v home block batch) g₁ (store_effect g₁)
          go false e q f = first_done e
          go true e true f = again-done e f
          go true e false f = other-done e f

    pub store_keeps : Running G D (step w (call (store v home block batch)))
    unfolding ends change_ends store_call
    store_keeps = by_answer (Running G D) w (store v home block batch) g₁ (store_answer g₁ (size_of (store_effect g₁))) (store_effect g₁) refl r store-done

  -- commit
  module _ (v : ℕ) (batch : List ℕ) where
    abbrev g₂ : Given
    g₂ = lent w [] batch v 0

    abbrev r₂ : Writer
    r₂ = writer_of w.state v

    commit-is-abort : holds r₂ ≡ false → commit_effect g₂ ≡ abort_effect g₂
    unfolding commit_effect lent
    commit-is-abort h = rw h

    commit-is-held : holds r₂ ≡ true → commit_effect g₂ ≡ commit_held g₂ r₂ (next_position (state_of w.state))
    unfolding commit_effect lent
    commit-is-held h = rw h

    module _ (a : commit_answer g₂ (size_of (commit_effect g₂)) ≡ 0) where
      k₂ : CommitReady g₂ (size_of (commit_effect g₂))
      k₂ = commit-ready g₂ (size_of (commit_effect g₂)) a

      writer-ok₂ : v < 8
      unfolding lent
      writer-ok₂ = writer-lt g₂ k₂.writer

      is-open₂ : 1 ≤ r₂.mode
      unfolding writer_open is_open_now lent
      is-open₂ = leb-true 1 r₂.mode k₂.opened

      room-ok₂ : holds r₂ ≡ true → Roomy w.state v
      unfolding commit_logs room lent
      room-ok₂ h = room-true w.state v (k₂.roomy h)

      size-ok₂ : size_of (commit_effect g₂) ≤ length g₂.batch
      size-ok₂ = fits g₂ (size_of (commit_effect g₂)) k₂.batch

      none_done : holds r₂ ≡ false → Done (Running G D) w (commit v batch) g₂ (commit_effect g₂)
      unfolding holds
      none_done h =
          let m : r₂.mode ≡ 1 = let q = leb-false 2 r₂.mode h in omega (arith, is-open₂) in
          let t = mode-one r.b r.tr r₂ _ _ _ (r.copies.tasks v writer-ok₂) m in
          record {
            formed = rw (commit-is-abort h) (unfold abort_effect new_state in tt);
            fit = size-ok₂;
            next =
                rw (commit-is-abort h)
                (unfold abort_effect new_state lent in abort-runs G D w v r writer-ok₂ (commit v batch) (unfold is_confirm in refl) (unfold feed feed_change book.commit book.commit_task in rw t));
          }

      held-done : holds r₂ ≡ true → Done (Running G D) w (commit v batch) g₂ (commit_effect g₂)
      unfolding holds
      held-done h =
          record {
            formed = rw (commit-is-held h) (unfold commit_held log_closing lent in logged-formed w.state w.log _ _ r.copies.order.groups-same r.copies.log_size);
            fit = size-ok₂;
            next = rw (commit-is-held h) (commit-held-runs G D z w r v writer-ok₂ (leb-true 2 r₂.mode h) (room-ok₂ h) batch);
          }

      commit-done : Done (Running G D) w (commit v batch) g₂ (commit_effect g₂)
      commit-done = go (holds r₂) refl
        where
          go : (t : Bool) → holds r₂ ≡ t → Done (Running G D) w (commit v batch) g₂ (commit_effect g₂)
          go false e = none_done e
          go true e = held-done e

    pub commit-keeps : Running G D (step w (call (commit v batch)))
    unfolding ends change_ends commit_call
    commit-keeps = by_answer (Running G D) w (commit v batch) g₂ (commit_answer g₂ (size_of (commit_effect g₂))) (commit_effect g₂) refl r commit-done

  -- flush
  module _ (batch : List ℕ) where
    abbrev g₃ : Given
    g₃ = lent w [] batch 0 0

    flush-done : flush_answer g₃ (size_of (flush_effect g₃)) ≡ 0 → Done (Running G D) w (flush batch) g₃ (flush_effect g₃)
    flush-done a = go (eqb (state_of w.state).filled 0) refl
      where
        size-ok₃ : size_of (flush_effect g₃) ≤ length g₃.batch
        size-ok₃ = fits g₃ (size_of (flush_effect g₃)) (flush-ready g₃ (size_of (flush_effect g₃)) a).2

        kept₃ : eqb (state_of w.state).filled 0 ≡ false
            → promised w.state 8 ≤ 7 * ((state_of w.state).start + (state_of w.state).groups) - 7 * ((state_of w.state).next + 1)
        kept₃ e =
            ⊎_elim (λ h. absurd (eqb-false (state_of w.state).filled 0 e h)) (λ h. h)
            (keeps-promises w.state (unfold lent in (flush-ready g₃ (size_of (flush_effect g₃)) a).1))

        is_none : eqb (state_of w.state).filled 0 ≡ true → flush_effect g₃ ≡ flush_none g₃ (state_of w.state)
        is_none e = unfold flush_effect lent in rw e

        is-part : eqb (state_of w.state).filled 0 ≡ false → flush_effect g₃ ≡ flush_part g₃ (state_of w.state)
        is-part e = unfold flush_effect lent in rw e

        slot : ℕ
        slot = (state_of w.state).next % (state_of w.state).groups

        below : slot < G
        below = rw r.copies.order.groups-same (mod-lt (state_of w.state).next {m = G} (omega arith))

        go : (t : Bool) → eqb (state_of w.state).filled 0 ≡ t → Done (Running G D) w (flush batch) g₃ (flush_effect g₃)
        go true e =
            record {
              formed = rw (is_none e) (unfold flush_none in (tt, tt));
              fit = size-ok₃;
              next = rw (is_none e) (flush-none-runs G D z w r batch (eqb-true (state_of w.state).filled 0 e));
            }
        go false e =
            record {
              formed = rw (is-part e) (unfold flush_part lent in ((omega (arith, below), length-group_at w.log slot (group-fits slot w.log G below r.copies.log_size)), (tt, tt)));
              fit = size-ok₃;
              next = rw (is-part e) (flush-part-runs G D z w r (let q = eqb-false (state_of w.state).filled 0 e in omega arith) (kept₃ e) batch);
            }

    pub flush-keeps : Running G D (step w (call (flush batch)))
    unfolding ends change_ends flush_call
    flush-keeps = by_answer (Running G D) w (flush batch) g₃ (flush_answer g₃ (size_of (flush_effect g₃))) (flush_effect g₃) refl r flush-done

  pub confirm-keeps : Running G D (step w (call confirm))
  unfolding ends confirm_call
  confirm-keeps =
      let g : Given = lent w [] [] 0 0 in
      by_answer (Running G D) w confirm g (confirm_answer g) (confirm_effect g) refl r
      (λ a. record { formed = unfold confirm_effect new_state in tt; fit = no_bytes g (confirm_effect g) (unfold confirm_effect new_state in refl); next = confirm-runs G D z w r })

  -- a read changes nothing
  read_same : (v home : ℕ) (block : List ℕ) → after w (read v home block) (read_effect (lent w block [] v home)) ≡ w
  unfolding read_effect lent feed feed_change is_confirm
  read_same v home block = rw (append-nil w.pending, ← r.ready)

  pub read_keeps : (v home : ℕ) (block : List ℕ) → Running G D (step w (call (read v home block)))
  unfolding ends service_ends read_call
  read_keeps v home block =
      let g : Given = lent w block [] v home in
      by_answer (Running G D) w (read v home block) g (read_answer g) (read_effect g) refl r
      (λ a. record { formed = unfold read_effect in tt; fit = no_bytes g (read_effect g) (unfold read_effect in refl); next = rw (read_same v home block) r })
