-- What begin, reserve, abort, read, confirm, store, commit and flush answer, by the abstract store that agrees with the world. Assumes nothing.
use Prim.Native.Nat.{ℕ, ◌+◌, ◌-◌, ◌*◌, ◌%◌, ◌<◌}
use mathlib.Core.Path.{◌≡◌, refl, sym, ap, ◌∙◌}
use mathlib.Core.Bool.{Bool, true, false, cond, not, ◌&&◌, ◌||◌}
use mathlib.Core.List.{List, [], ◌++◌}
use native.Mathlib.Nat.{mod-lt}
use native.Mathlib.Omega.{arith}
use lib.Dec.{eqb, leb, ltb}
use lib.ListN.{length, length-append}
use borrow.Author.Tests.{ltb-true}
use Rattle.model.specs.Layout.{group_at}
use Rattle.model.specs.Batch.{Record, GW, FN, record_bytes, batch_bytes}
use Rattle.model.specs.State.{state_of, next_position, promised, places, free_places, writer_of, held_of, holds}
use Rattle.model.specs.declared.State.{State}
use Rattle.model.specs.Effects.{Given, logged, log_held, log_closing, begin_effect, reserve_effect, abort_effect, store_first, store_again, store_other, store_effect, commit_held, commit_effect, flush_none, flush_part, flush_effect, confirm_effect, read_effect, new_state}
use Rattle.model.specs.Rights.{may_store, may_read}
use Rattle.model.specs.Questions.{ask, writer_known, is_home_known, store_allowed, read_allowed, writer_open, room, may_promise, keeps_promises, store_logs, commit_logs, batch_fits, begin_answer, reserve_answer, abort_answer, store_answer, commit_answer, flush_answer, confirm_answer, read_answer}
use Rattle.model.specs.Calls.{size_of, begin_call, reserve_call, abort_call, store_call, commit_call, flush_call, confirm_call, read_call}
use Rattle.model.specs.History.{begins, reserves, aborts, stores, commits, flushes, reads, confirm, World, lent}
use Rattle.abstract_store.specs.Store.{Store, next_of, places_left, promised_to, free_left, has_room_left, may_flush, entry_bytes, is_idle, store_must_log, commit_must_log, list_of, ask_batch, reply_change, reply_service, reply, reply_of}
use Rattle.model_laws.proofs.bytes.LayoutLaws.{length-group_at, group-fits}
use Rattle.model_laws.proofs.state.BatchLaws.{length-GW, length-FN}
use Rattle.model_laws.proofs.state.OrderLaws.{InOrder}
use Rattle.model_laws.proofs.state.QuestionLaws.{ask-passed}
use Rattle.theorems.proofs.invariant.Invariant.{Sizes, Running}
use Rattle.theorems.proofs.steps.LogRuns.{logged-records, logged-log}
use Rattle.theorems.proofs.store.StoreLaws.{answers, ask-same}
use Rattle.model_laws.proofs.state.LoggingLaws.{length-entered}
use Rattle.theorems.proofs.store.StoreAgrees.{Numbers, Agrees, size_none, size-group, next-is, filled_is, position-is, asked, asked-newest, asked-both, asked-block, open_is, store-logs, commit-logs, promised-is, places-are, room-is, home-is, double-not}

module _ (G D : ℕ) (z : Sizes G D) (w : World) (r : Running G D w) (s : Store) (a : Agrees G D w s) where
  abbrev st : State
  st = state_of w.state

  abbrev o : InOrder w.state G D
  o = r.copies.order

  abbrev n : Numbers s (state_of w.state)
  n = a.numbers r.ready

  -- ---- begin, abort, read, confirm

  begin-number : (v : ℕ) → begin_answer (lent w [] [] v 0) ≡ ask (ltb v 8) 4 (ask (is_idle (s.book.tasks v)) 6 0)
  unfolding begin_answer writer_known lent
  begin-number v =
      (asked G D z w r s a) [] [] v 0 (ask (ltb v 8) 4 (ask (not (writer_open (lent w [] [] v 0))) 6 0))
      ∙ ask-same (ltb v 8) 4 (ask (not (writer_open (lent w [] [] v 0))) 6 0) (ask (is_idle (s.book.tasks v)) 6 0)
      (λ l. ap (λ (b : Bool). ask b 6 0) (ap not ((open_is G D z w r s a) [] [] v 0 (ltb-true v 8 l)) ∙ (double-not G D z w r s a) (is_idle (s.book.tasks v))))

  pub begin-answers : (v : ℕ) → reply_of (begin_call (lent w [] [] v 0)) ≡ reply_change s (begins v)
  unfolding begin_call reply_change
  begin-answers v =
      let g : Given = lent w [] [] v 0 in
      answers g (begin_answer g) (begin_effect g) (ask (ltb v 8) 4 (ask (is_idle (s.book.tasks v)) 6 0)) 0 0 (begin-number v)
      (λ e. (unfold begin_effect new_state in refl, size_none (begin_effect g) (unfold begin_effect new_state in refl)))

  promise-is : (places : ℕ) → may_promise w.state places ≡ (leb 1 places && leb places (free_left s))
  unfolding may_promise free_places free_left
  promise-is places =
      ap (λ (x : ℕ). leb 1 places && leb places (x - promised w.state 8)) (sym (places-are G D z w r s a))
      ∙ ap (λ (x : ℕ). leb 1 places && leb places (places_left s - x)) (sym (promised-is G D z w r s a))

  reserve-inner : (v places : ℕ) → v < 8
      → ask (not (writer_open (lent w [] [] v 0))) 6 (ask (may_promise (lent w [] [] v 0).state places) 17 0)
      ≡ ask (is_idle (s.book.tasks v)) 6 (ask (leb 1 places && leb places (free_left s)) 17 0)
  unfolding lent
  reserve-inner v places l =
      ap (λ (b : Bool). ask b 6 (ask (may_promise w.state places) 17 0)) (ap not ((open_is G D z w r s a) [] [] v 0 l) ∙ (double-not G D z w r s a) (is_idle (s.book.tasks v)))
      ∙ ap (λ (b : Bool). ask (is_idle (s.book.tasks v)) 6 (ask b 17 0)) (promise-is places)

  reserve-number : (v places : ℕ)
      → reserve_answer (lent w [] [] v 0) places
      ≡ ask (ltb v 8) 4 (ask (is_idle (s.book.tasks v)) 6 (ask (leb 1 places && leb places (free_left s)) 17 0))
  unfolding reserve_answer writer_known lent
  reserve-number v places = (asked G D z w r s a) [] [] v 0 _ ∙ ask-same (ltb v 8) 4 _ _ (λ l. reserve-inner v places (ltb-true v 8 l))

  pub reserve-answers : (v places : ℕ) → reply_of (reserve_call (lent w [] [] v 0) places) ≡ reply_change s (reserves v places)
  unfolding reserve_call reply_change
  reserve-answers v places =
      let g : Given = lent w [] [] v 0 in
      answers g (reserve_answer g places) (reserve_effect g places)
      (ask (ltb v 8) 4 (ask (is_idle (s.book.tasks v)) 6 (ask (leb 1 places && leb places (free_left s)) 17 0))) 0 0 (reserve-number v places)
      (λ e. (unfold reserve_effect new_state in refl, size_none (reserve_effect g places) (unfold reserve_effect new_state in refl)))

  abort-number : (v : ℕ) → abort_answer (lent w [] [] v 0) ≡ ask (ltb v 8) 4 (ask (not (is_idle (s.book.tasks v))) 7 0)
  unfolding abort_answer writer_known lent
  abort-number v =
      (asked G D z w r s a) [] [] v 0 (ask (ltb v 8) 4 (ask (writer_open (lent w [] [] v 0)) 7 0))
      ∙ ask-same (ltb v 8) 4 (ask (writer_open (lent w [] [] v 0)) 7 0) (ask (not (is_idle (s.book.tasks v))) 7 0)
      (λ l. ap (λ (b : Bool). ask b 7 0) ((open_is G D z w r s a) [] [] v 0 (ltb-true v 8 l)))

  pub abort-answers : (v : ℕ) → reply_of (abort_call (lent w [] [] v 0)) ≡ reply_change s (aborts v)
  unfolding abort_call reply_change
  abort-answers v =
      let g : Given = lent w [] [] v 0 in
      answers g (abort_answer g) (abort_effect g) (ask (ltb v 8) 4 (ask (not (is_idle (s.book.tasks v))) 7 0)) 0 0 (abort-number v)
      (λ e. (unfold abort_effect new_state in refl, size_none (abort_effect g) (unfold abort_effect new_state in refl)))

  -- the rights are those of the abstract store's list (RightsHold)
  read_number : (v h : ℕ) (block : List ℕ) → read_allowed (lent w block [] v h) ≡ may_read s.homes (list_of s) v h
      → read_answer (lent w block [] v h)
      ≡ ask (eqb (length block) 64) 1 (ask (ltb v 8) 4 (ask (ltb h s.homes) 5 (ask (may_read s.homes (list_of s) v h) 20 0)))
  unfolding read_answer writer_known lent
  read_number v h block right =
      (asked-both G D z w r s a) block [] v h (ask (ltb v 8) 4 (ask (is_home_known (lent w block [] v h)) 5 (ask (read_allowed (lent w block [] v h)) 20 0)))
      ∙ ap (λ (b : Bool). ask (eqb (length block) 64) 1 (ask (ltb v 8) 4 (ask b 5 (ask (read_allowed (lent w block [] v h)) 20 0)))) ((home-is G D z w r s a) block [] v h)
      ∙ ap (λ (b : Bool). ask (eqb (length block) 64) 1 (ask (ltb v 8) 4 (ask (ltb h s.homes) 5 (ask b 20 0)))) right

  pub read-answers : (v h : ℕ) (block : List ℕ) → read_allowed (lent w block [] v h) ≡ may_read s.homes (list_of s) v h
      → reply_of (read_call (lent w block [] v h)) ≡ reply_service s (reads v h block)
  unfolding read_call reply_service
  read-answers v h block right =
      let g : Given = lent w block [] v h in
      answers g (read_answer g) (read_effect g) _ 0 0 (read_number v h block right) (λ e. (unfold read_effect in refl, size_none (read_effect g) (unfold read_effect in refl)))

  pub confirm-answers : reply_of (confirm_call (lent w [] [] 0 0)) ≡ reply s confirm
  unfolding confirm_call reply
  confirm-answers =
      let g : Given = lent w [] [] 0 0 in
      answers g (confirm_answer g) (confirm_effect g) 0 s.fenced 0 (unfold confirm_answer in (asked G D z w r s a) [] [] 0 0 0)
      (λ e. (unfold confirm_effect new_state lent in sym n.fenced, size_none (confirm_effect g) (unfold confirm_effect new_state in refl)))

  -- ---- store, commit, flush

  -- the entry that a call logs
  size-logged : (word : ℕ) (block : List ℕ) → length (batch_bytes (logged w.state w.log word block).records) ≡ entry_bytes s
  unfolding entry_bytes
  size-logged word block =
      let slot : ℕ = st.next % st.groups in
      let below : slot < G = rw o.groups-same (mod-lt st.next {m = G} (omega (arith, z.low))) in
      let size : length (logged w.state w.log word block).log ≡ 64 + 512 * G =
      ap length (logged-log w.state w.log word block) ∙ length-entered st slot w.log word block ∙ r.copies.log_size in
      ap (λ (x : List Record). length (batch_bytes x)) (logged-records w.state w.log word block)
      ∙ size-group (eqb st.filled 6) slot (group_at (logged w.state w.log word block).log slot)
      (length-group_at (logged w.state w.log word block).log slot (group-fits slot (logged w.state w.log word block).log G below size))
      ∙ ap (λ (f : ℕ). cond (eqb f 6) 516 0) (sym (filled_is G D z w r s a))

  store_bytes : (v h : ℕ) (block batch : List ℕ)
      → size_of (store_effect (lent w block batch v h)) ≡ cond (store_logs (lent w block batch v h)) (entry_bytes s) 0
  unfolding store_effect store_logs lent
  store_bytes v h block batch = go (holds (writer_of w.state v)) (eqb (writer_of w.state v).home h)
    where
      go : (d e : Bool)
          → size_of
          (cond d (cond e (store_again (lent w block batch v h)) (store_other (lent w block batch v h) (writer_of w.state v) (next_position (state_of w.state))))
          (store_first (lent w block batch v h)))
          ≡ cond (d && not e) (entry_bytes s) 0
      go true true = size_none (store_again (lent w block batch v h)) (unfold store_again new_state in refl)
      go true false = (unfold size_of store_other log_held in size-logged _ (held_of w.state v))
      go false e = size_none (store_first (lent w block batch v h)) (unfold store_first new_state in refl)

  pub batch-is : (block batch : List ℕ) (v h size size' : ℕ) → size ≡ size' → ask (batch_fits (lent w block batch v h) size) 9 0 ≡ ask_batch size' batch
  unfolding batch_fits ask_batch lent
  batch-is block batch v h size size' e = rw e

  store-size : (v h : ℕ) (block batch : List ℕ) → v < 8
      → size_of (store_effect (lent w block batch v h)) ≡ cond (store_must_log (s.book.tasks v) h) (entry_bytes s) 0
  store-size v h block batch l =
      store_bytes v h block batch ∙ ap (λ (b : Bool). cond b (entry_bytes s) 0) ((store-logs G D z w r s a) block batch v h l)

  store-inner : (v h : ℕ) (block batch : List ℕ) → store_allowed (lent w block batch v h) ≡ may_store s.homes (list_of s) v h → v < 8
      → ask (is_home_known (lent w block batch v h)) 5
      (ask (store_allowed (lent w block batch v h)) 19
      (ask (writer_open (lent w block batch v h)) 7
      (ask (not (store_logs (lent w block batch v h)) || room (lent w block batch v h)) 8
      (ask (batch_fits (lent w block batch v h) (size_of (store_effect (lent w block batch v h)))) 9 0))))
      ≡ ask (ltb h s.homes) 5
      (ask (may_store s.homes (list_of s) v h) 19
      (ask (not (is_idle (s.book.tasks v))) 7
      (ask (not (store_must_log (s.book.tasks v) h) || has_room_left s v) 8 (ask_batch (cond (store_must_log (s.book.tasks v) h) (entry_bytes s) 0) batch))))
  store-inner v h block batch right l =
      rw (
        (home-is G D z w r s a) block batch v h,
        right,
        (open_is G D z w r s a) block batch v h l,
        (room-is G D z w r s a) block batch v h l,
        batch-is block batch v h _ _ (store-size v h block batch l),
        (store-logs G D z w r s a) block batch v h l,
      )

  store-number : (v h : ℕ) (block batch : List ℕ) → store_allowed (lent w block batch v h) ≡ may_store s.homes (list_of s) v h
      → store_answer (lent w block batch v h) (size_of (store_effect (lent w block batch v h)))
      ≡ ask (eqb (length block) 64) 1
      (ask (ltb v 8) 4
      (ask (ltb h s.homes) 5
      (ask (may_store s.homes (list_of s) v h) 19
      (ask (not (is_idle (s.book.tasks v))) 7
      (ask (not (store_must_log (s.book.tasks v) h) || has_room_left s v) 8 (ask_batch (cond (store_must_log (s.book.tasks v) h) (entry_bytes s) 0) batch))))))
  unfolding store_answer writer_known lent
  store-number v h block batch right =
      (asked-block G D z w r s a) block batch v h _
      ∙ ap (λ (k : ℕ). ask (eqb (length block) 64) 1 k) (ask-same (ltb v 8) 4 _ _ (λ l. store-inner v h block batch right (ltb-true v 8 l)))

  -- what an answer of 0 says of the writer
  known : (b c : Bool) (v k : ℕ) → ask b 1 (ask (ltb v 8) 4 k) ≡ 0 → v < 8
  known b c v k e = ltb-true v 8 (ask-passed (ltb v 8) 3 k (ask-passed b 0 (ask (ltb v 8) 4 k) e).1).0

  pub store-answers : (v h : ℕ) (block batch : List ℕ) → store_allowed (lent w block batch v h) ≡ may_store s.homes (list_of s) v h
      → reply_of (store_call (lent w block batch v h)) ≡ reply_change s (stores v h block batch)
  unfolding store_call reply_change
  store-answers v h block batch right =
      let g : Given = lent w block batch v h in
      answers g (store_answer g (size_of (store_effect g))) (store_effect g) _ 0 (cond (store_must_log (s.book.tasks v) h) (entry_bytes s) 0)
      (store-number v h block batch right)
      (λ e. (figure-zero v h block batch, store-size v h block batch (known (eqb (length block) 64) true v _ e)))
    where
      figure-zero : (v h : ℕ) (block batch : List ℕ) → (store_effect (lent w block batch v h)).figure ≡ 0
      figure-zero v h block batch = (unfold store_effect in go (holds (writer_of (lent w block batch v h).state (lent w block batch v h).writer)) (eqb (writer_of (lent w block batch v h).state (lent w block batch v h).writer).home (lent w block batch v h).home))
        where
          go : (d e : Bool)
              → (cond d (cond e (store_again (lent w block batch v h)) (store_other (lent w block batch v h) (writer_of (lent w block batch v h).state (lent w block batch v h).writer) (next_position (state_of (lent w block batch v h).state))))
              (store_first (lent w block batch v h))).figure
              ≡ 0
          go true true = unfold store_again new_state in refl
          go true false = unfold store_other in refl
          go false e = unfold store_first new_state in refl

  -- commit
  commit-bytes : (v : ℕ) (batch : List ℕ)
      → (size_of (commit_effect (lent w [] batch v 0)) ≡ cond (commit_logs (lent w [] batch v 0)) (entry_bytes s) 0)
      × ((commit_effect (lent w [] batch v 0)).figure ≡ cond (commit_logs (lent w [] batch v 0)) (next_of s + 1) 0)
  unfolding commit_effect commit_logs lent
  commit-bytes v batch = go (holds (writer_of w.state v))
    where
      go : (d : Bool)
          → (size_of (cond d (commit_held (lent w [] batch v 0) (writer_of w.state v) (next_position (state_of w.state))) (abort_effect (lent w [] batch v 0)))
          ≡ cond d (entry_bytes s) 0)
          × ((cond d (commit_held (lent w [] batch v 0) (writer_of w.state v) (next_position (state_of w.state))) (abort_effect (lent w [] batch v 0))).figure
          ≡ cond d (next_of s + 1) 0)
      go true =
          ((unfold size_of commit_held log_closing in size-logged _ (held_of w.state v)), (unfold commit_held in ap (λ (p : ℕ). p + 1) (sym (position-is G D z w r s a))))
      go false = (size_none (abort_effect (lent w [] batch v 0)) (unfold abort_effect new_state in refl), (unfold abort_effect new_state in refl))

  commit-size : (v : ℕ) (batch : List ℕ) → v < 8
      → size_of (commit_effect (lent w [] batch v 0)) ≡ cond (commit_must_log (s.book.tasks v)) (entry_bytes s) 0
  commit-size v batch l = (commit-bytes v batch).0 ∙ ap (λ (b : Bool). cond b (entry_bytes s) 0) ((commit-logs G D z w r s a) [] batch v 0 l)

  commit-inner : (v : ℕ) (batch : List ℕ) → v < 8
      → ask (writer_open (lent w [] batch v 0)) 7
      (ask (not (commit_logs (lent w [] batch v 0)) || room (lent w [] batch v 0)) 8
      (ask (batch_fits (lent w [] batch v 0) (size_of (commit_effect (lent w [] batch v 0)))) 9 0))
      ≡ ask (not (is_idle (s.book.tasks v))) 7
      (ask (not (commit_must_log (s.book.tasks v)) || has_room_left s v) 8 (ask_batch (cond (commit_must_log (s.book.tasks v)) (entry_bytes s) 0) batch))
  commit-inner v batch l =
      rw ((open_is G D z w r s a) [] batch v 0 l, (room-is G D z w r s a) [] batch v 0 l, batch-is [] batch v 0 _ _ (commit-size v batch l), (commit-logs G D z w r s a) [] batch v 0 l)

  commit-number : (v : ℕ) (batch : List ℕ)
      → commit_answer (lent w [] batch v 0) (size_of (commit_effect (lent w [] batch v 0)))
      ≡ ask (ltb v 8) 4
      (ask (not (is_idle (s.book.tasks v))) 7
      (ask (not (commit_must_log (s.book.tasks v)) || has_room_left s v) 8 (ask_batch (cond (commit_must_log (s.book.tasks v)) (entry_bytes s) 0) batch)))
  unfolding commit_answer writer_known lent
  commit-number v batch = (asked-newest G D z w r s a) [] batch v 0 _ ∙ ask-same (ltb v 8) 4 _ _ (λ l. commit-inner v batch (ltb-true v 8 l))

  pub commit-answers : (v : ℕ) (batch : List ℕ) → reply_of (commit_call (lent w [] batch v 0)) ≡ reply_change s (commits v batch)
  unfolding commit_call reply_change
  commit-answers v batch =
      let g : Given = lent w [] batch v 0 in
      answers g (commit_answer g (size_of (commit_effect g))) (commit_effect g) _ (cond (commit_must_log (s.book.tasks v)) (next_of s + 1) 0)
      (cond (commit_must_log (s.book.tasks v)) (entry_bytes s) 0) (commit-number v batch)
      (λ e. let l : v < 8 = ltb-true v 8 (ask-passed (ltb v 8) 3 _ e).0 in
      ((commit-bytes v batch).1 ∙ ap (λ (b : Bool). cond b (next_of s + 1) 0) ((commit-logs G D z w r s a) [] batch v 0 l), commit-size v batch l))

  -- flush
  flush-bytes : (batch : List ℕ)
      → (size_of (flush_effect (lent w [] batch 0 0)) ≡ cond (eqb s.book.filled 0) 2 518) × ((flush_effect (lent w [] batch 0 0)).figure ≡ 0)
  unfolding flush_effect lent
  flush-bytes batch = rw (filled_is G D z w r s a) (go (eqb st.filled 0))
    where
      slot : ℕ
      slot = st.next % st.groups

      size : length (group_at w.log ((state_of w.state).next % (state_of w.state).groups)) ≡ 512
      size =
          length-group_at w.log slot
          (group-fits slot w.log G (rw o.groups-same (mod-lt st.next {m = G} (omega (arith, z.low)))) r.copies.log_size)

      go : (d : Bool)
          → (size_of (cond d (flush_none (lent w [] batch 0 0) (state_of w.state)) (flush_part (lent w [] batch 0 0) (state_of w.state))) ≡ cond d 2 518)
          × ((cond d (flush_none (lent w [] batch 0 0) (state_of w.state)) (flush_part (lent w [] batch 0 0) (state_of w.state))).figure ≡ 0)
      go true = ((unfold size_of flush_none batch_bytes record_bytes in refl), (unfold flush_none in refl))
      go false = (
        (unfold size_of flush_part batch_bytes in
            (length-append (record_bytes (GW ((state_of w.state).next % (state_of w.state).groups) (group_at w.log ((state_of w.state).next % (state_of w.state).groups)))) (record_bytes FN ++ [])
            ∙ omega (arith, length-GW ((state_of w.state).next % (state_of w.state).groups) (group_at w.log ((state_of w.state).next % (state_of w.state).groups)) size, length-append (record_bytes FN) [], length-FN))),
        (unfold flush_part in refl),
      )

  flush-keeps : keeps_promises w.state ≡ may_flush s
  unfolding keeps_promises may_flush
  flush-keeps =
      ap (λ (x : ℕ). eqb x 0 || leb (promised w.state 8) (7 * (st.start + st.groups) - 7 * (st.next + 1))) (sym (filled_is G D z w r s a))
      ∙ ap (λ (x : ℕ). eqb s.book.filled 0 || leb x (7 * (st.start + st.groups) - 7 * (st.next + 1))) (sym (promised-is G D z w r s a))
      ∙ ap (λ (x : ℕ). eqb s.book.filled 0 || leb (promised_to s.promises 8) (7 * x - 7 * (st.next + 1)))
      (sym (ap (λ (x : ℕ). x + s.groups) n.start ∙ ap (λ (x : ℕ). st.start + x) (a.groups ∙ sym o.groups-same)))
      ∙ ap (λ (x : ℕ). eqb s.book.filled 0 || leb (promised_to s.promises 8) (7 * (s.start + s.groups) - 7 * (x + 1))) (sym (next-is G D z w r s a))

  flush-number : (batch : List ℕ)
      → flush_answer (lent w [] batch 0 0) (size_of (flush_effect (lent w [] batch 0 0)))
      ≡ ask (may_flush s) 18 (ask_batch (cond (eqb s.book.filled 0) 2 518) batch)
  unfolding flush_answer
  flush-number batch =
      (asked G D z w r s a) [] batch 0 0 _
      ∙ ap (λ (k : ℕ). ask (keeps_promises (lent w [] batch 0 0).state) 18 k) (batch-is [] batch 0 0 _ _ (flush-bytes batch).0)
      ∙ (unfold lent in ap (λ (b : Bool). ask b 18 (ask_batch (cond (eqb s.book.filled 0) 2 518) batch)) flush-keeps)

  pub flush-answers : (batch : List ℕ) → reply_of (flush_call (lent w [] batch 0 0)) ≡ reply_change s (flushes batch)
  unfolding flush_call reply_change
  flush-answers batch =
      let g : Given = lent w [] batch 0 0 in
      answers g (flush_answer g (size_of (flush_effect g))) (flush_effect g) _ 0 (cond (eqb s.book.filled 0) 2 518) (flush-number batch)
      (λ e. ((flush-bytes batch).1, (flush-bytes batch).0))
