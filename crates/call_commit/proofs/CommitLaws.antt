-- Commit: its answer, its two effects and how it ends. Assumes nothing.
use mathlib.Core.Path.{◌≡◌, refl, sym, ap, ◌∙◌}
use mathlib.Core.Bool.{Bool, true, false, cond, not, ◌||◌}
use mathlib.Core.List.{List, []}
use mathlib.Core.Logic.{◌≢◌}
use Prim.Native.Nat.{ℕ, ◌+◌, ◌*◌, ◌≤◌, ◌<◌}
use native.Mathlib.Omega.{arith}
use lib.Dec.{eqb, leb, ltb}
use lib.ListN.{length}
use borrow.Author.Tests.{not-true, not-false, ltb-true, lt-ltb, le-ltb}
use Rattle.model.specs.Layout.{home_count}
use Rattle.model.specs.Batch.{batch_bytes}
use Rattle.model.specs.declared.State.{State}
use Rattle.model.specs.declared.Writer.{Writer}
use Rattle.model.specs.State.{state_of, next_position, writer_of, set_writer, set_promise, idle, is_open_now, holds, first_for}
use Rattle.model.specs.Rights.{keep_list}
use Rattle.model.specs.Effects.{Given, new_state, abort_effect, log_closing, tags_of, live_base, kept_commit, commit_held, commit_effect}
use Rattle.model.specs.Questions.{ask, ask_newest, writer_known, writer_open, room_for, room, commit_logs, batch_fits, commit_answer}
use Rattle.model.specs.Calls.{size_of, commit_call}
use Rattle.model_laws.proofs.bytes.ByteLaws.{puts-nil}
use Rattle.model_laws.proofs.state.OrderLaws.{place-below}
use Rattle.model_laws.proofs.state.QuestionLaws.{ask-yes, ask-no, room-true, CommitReady, commit-ready}
use Rattle.call_ask.specs.Lent.{lent_all, leaves_everything}
use Rattle.call_ask.proofs.AnswerLaws.{Usable, refused-by}
use Rattle.call_ask.proofs.NewestAnswers.{newest-usable, newest-refuses, newest-passes, newest-only}
use Rattle.call_store.specs.Logs.{MayLog, Fits}
use Rattle.call_commit.specs.Closings.{logged_closing, kept_under, Committed}
use Rattle.call_store.proofs.CallLaws.{newest-first, ends}
use Rattle.call_store.proofs.LogLaws.{logged-size}
use Rattle.call_store.proofs.ReadyLaws.{quiet, loud, may, fits-tag}
use Rattle.model_laws.proofs.state.LoggingLaws.{fits}

-- ---- its effect

effect-none : (g : Given) (r : Writer) → r ≡ writer_of g.state g.writer → holds r ≡ false → commit_effect g ≡ abort_effect g
unfolding commit_effect
effect-none g r e h = let k : holds (writer_of g.state g.writer) ≡ false = ap holds (sym e) ∙ h in rw k

pub effect-held : (g : Given) (r : Writer) (st : State) → r ≡ writer_of g.state g.writer → st ≡ state_of g.state → holds r ≡ true
    → commit_effect g ≡ commit_held g r (next_position st)
unfolding commit_effect
effect-held g r st e es h =
    let k : holds (writer_of g.state g.writer) ≡ true = ap holds (sym e) ∙ h in
    rw (k, e, es)

size_none : (g : Given) → size_of (abort_effect g) ≡ 0
unfolding size_of abort_effect new_state batch_bytes
size_none g = refl

size-held : (g : Given) (r : Writer) (st : State) → st ≡ state_of g.state → 1 ≤ st.groups → 64 + 512 * st.groups ≤ length g.log
    → size_of (commit_held g r (next_position st)) ≡ cond (eqb st.filled 6) 516 0
unfolding size_of commit_held log_closing
size-held g r st es h k = logged-size g.state g.log _ _ st es h k

logs-is : (g : Given) (r : Writer) (t : Bool) → r ≡ writer_of g.state g.writer → holds r ≡ t → commit_logs g ≡ t
unfolding commit_logs
logs-is g r t e h = ap holds (sym e) ∙ h

pub kept-list : (l m a b x y p q s : List ℕ) → s ≡ keep_list (lent_all l a x p [] [] 0 0) → l ≡ m → a ≡ b → x ≡ y → p ≡ q
    → s ≡ keep_list (lent_all m b y q [] [] 0 0)
kept-list l m a b x y p q s e f g h k = e ∙ rw (f, g, h, k)

-- ---- its answer

module _ (l a s ps b : List ℕ) (v : ℕ) where
  module _ (r₀ : ℕ) (e₀ : r₀ ≡ ask_newest (lent_all l a s ps [] [] 0 0) 0) where
    pub refuses : r₀ ≢ 0 → r₀ ≡ commit_answer (lent_all l a s ps [] b v 0) (size_of (commit_effect (lent_all l a s ps [] b v 0)))
    unfolding commit_answer
    refuses n = newest-refuses (lent_all l a s ps [] b v 0) r₀ _ (e₀ ∙ sym (newest-only l a s ps [] b v 0 0)) n

    module _ (z₀ : r₀ ≡ 0) where
      zeroed : ask_newest (lent_all l a s ps [] b v 0) 0 ≡ 0
      zeroed = newest-only l a s ps [] b v 0 0 ∙ sym e₀ ∙ z₀

      pub lent-use : Usable l a s
      lent-use = (newest-usable (lent_all l a s ps [] b v 0) zeroed).0

      pub writer-no : 8 ≤ v → 4 ≡ commit_answer (lent_all l a s ps [] b v 0) (size_of (commit_effect (lent_all l a s ps [] b v 0)))
      unfolding commit_answer writer_known
      writer-no k = sym (newest-passes (lent_all l a s ps [] b v 0) _ zeroed ∙ ask-no (ltb v 8) 4 _ (le-ltb v 8 k))

      module _ (r : Writer) (o : Bool) (k : v < 8) (er : r ≡ writer_of s v) (eo : o ≡ is_open_now r) where
        pub open_no : not o ≡ true → 7 ≡ commit_answer (lent_all l a s ps [] b v 0) (size_of (commit_effect (lent_all l a s ps [] b v 0)))
        unfolding commit_answer writer_known writer_open
        open_no p =
            sym
            (newest-passes (lent_all l a s ps [] b v 0) _ zeroed ∙ ask-yes (ltb v 8) 4 _ (lt-ltb v 8 k)
            ∙ ask-no (is_open_now (writer_of s v)) 7 _ (ap is_open_now (sym er) ∙ sym eo ∙ not-true o p))

        rest : (size : ℕ) → not o ≡ false
            → commit_answer (lent_all l a s ps [] b v 0) size
            ≡ ask (not (commit_logs (lent_all l a s ps [] b v 0)) || room (lent_all l a s ps [] b v 0)) 8 (ask (leb size (length b)) 9 0)
        unfolding commit_answer writer_known writer_open batch_fits
        rest size p =
            newest-passes (lent_all l a s ps [] b v 0) _ zeroed ∙ ask-yes (ltb v 8) 4 _ (lt-ltb v 8 k)
            ∙ ask-yes (is_open_now (writer_of s v)) 7 _ (ap is_open_now (sym er) ∙ sym eo ∙ not-false o p)

        pub none-yes : (t : Bool) → not o ≡ false → t ≡ holds r → not t ≡ true
            → 0 ≡ commit_answer (lent_all l a s ps [] b v 0) (size_of (commit_effect (lent_all l a s ps [] b v 0)))
        none-yes t p et q =
            let f : holds r ≡ false = sym et ∙ not-true t q in
            sym
            (rest _ p
            ∙ quiet _ _ _ (length b) (logs-is (lent_all l a s ps [] b v 0) r false er f)
            (ap size_of (effect-none (lent_all l a s ps [] b v 0) r er f) ∙ size_none (lent_all l a s ps [] b v 0)))

        pub held_asks : (t : Bool) (st : State) (y : ℕ) → not o ≡ false → t ≡ holds r → not t ≡ false → st ≡ state_of s
            → y ≡ ask (room_for s v) 8 (ask (leb (cond (eqb st.filled 6) 516 0) (length b)) 9 0)
            → y ≡ commit_answer (lent_all l a s ps [] b v 0) (size_of (commit_effect (lent_all l a s ps [] b v 0)))
        unfolding room
        held_asks t st y p et q es ey =
            let f : holds r ≡ true = sym et ∙ not-false t q in
            let u = lent-use in
            let g₁ : 1 ≤ (state_of s).groups = omega (arith, u.order.groups-same, u.groups-least) in
            let g₂ : 64 + 512 * (state_of s).groups ≤ length l = omega (arith, u.order.groups-same, u.log-length) in
            let z : size_of (commit_effect (lent_all l a s ps [] b v 0)) ≡ cond (eqb (state_of s).filled 6) 516 0 =
            ap size_of (effect-held (lent_all l a s ps [] b v 0) r (state_of s) er refl f) ∙ size-held (lent_all l a s ps [] b v 0) r (state_of s) refl g₁ g₂ in
            ey ∙ sym (rest _ p ∙ loud _ _ _ (logs-is (lent_all l a s ps [] b v 0) r true er f) ∙ rw (z, es))

  -- ---- what a commit that is not refused knows

  module _ (code : ℕ) (e : code ≡ commit_answer (lent_all l a s ps [] b v 0) (size_of (commit_effect (lent_all l a s ps [] b v 0)))) where
    pub ends-refused : (c figure size : ℕ) → code ≢ 0 → (c ≡ code) × (figure ≡ 0) × (size ≡ 0)
        → leaves_everything c figure size l a s ps [] b ≡ commit_call (lent_all l a s ps [] b v 0)
    unfolding commit_call
    ends-refused c figure size n q =
        refused-by (lent_all l a s ps [] b v 0) (commit_effect (lent_all l a s ps [] b v 0)) _ c figure size (q.0 ∙ e) (λ z. n (sym q.0 ∙ z)) q.1 q.2

    module _ (z : code ≡ 0) where
      ready : CommitReady (lent_all l a s ps [] b v 0) (size_of (commit_effect (lent_all l a s ps [] b v 0)))
      ready = commit-ready (lent_all l a s ps [] b v 0) _ (sym e ∙ z)

      lent_both : Usable l a s × (length ps ≡ 8 * home_count (length a))
      unfolding commit_answer
      lent_both = newest-usable (lent_all l a s ps [] b v 0) (newest-first (lent_all l a s ps [] b v 0) _ (sym e ∙ z)).0

      lent_for : Usable l a s
      lent_for = lent_both.0

      pub known : (length s ≡ 1024) × (v < 8)
      unfolding writer_known
      known = (lent_for.state-length, ltb-true v 8 ready.writer)

      pub ends-none : (r : Writer) (t : Bool) (s' : List ℕ) (c figure size : ℕ) → r ≡ writer_of s v → t ≡ holds r → not t ≡ true
          → s' ≡ set_promise (set_writer s v idle) v 0 → (c ≡ 0) × (figure ≡ 0) × (size ≡ 0) → leaves_everything c figure size l a s' ps [] b ≡ commit_call (lent_all l a s ps [] b v 0)
      unfolding commit_call abort_effect new_state batch_bytes
      ends-none r t s' c figure size er et p hs q =
          ends (lent_all l a s ps [] b v 0) (commit_effect (lent_all l a s ps [] b v 0)) (abort_effect (lent_all l a s ps [] b v 0)) _ c figure size l a s' ps [] b
          (effect-none (lent_all l a s ps [] b v 0) r er (sym et ∙ not-true t p)) (sym e ∙ z) q.0 q.1 q.2 refl refl hs refl refl (sym (puts-nil b 0))

      pub held : (r : Writer) (t : Bool) (st : State) → r ≡ writer_of s v → t ≡ holds r → not t ≡ false → st ≡ state_of s
          → MayLog l s b st v × Fits st r (next_position st) × (length ps ≡ 8 * st.homes) × (length a ≡ 64 * st.homes)
      unfolding room
      held r t st er et o es =
          let f : holds r ≡ true = sym et ∙ not-false t o in
          let u = lent_for in
          let g₁ : 1 ≤ (state_of s).groups = omega (arith, u.order.groups-same, u.groups-least) in
          let g₂ : 64 + 512 * (state_of s).groups ≤ length l = omega (arith, u.order.groups-same, u.log-length) in
          let k : (state_of s).next < (state_of s).start + (state_of s).groups =
          place-below s _ _ v u.order known.1 (room-true s v (ready.roomy (logs-is (lent_all l a s ps [] b v 0) r true er f))) in
          let y : size_of (commit_effect (lent_all l a s ps [] b v 0)) ≡ cond (eqb (state_of s).filled 6) 516 0 =
          ap size_of (effect-held (lent_all l a s ps [] b v 0) r (state_of s) er refl f) ∙ size-held (lent_all l a s ps [] b v 0) r (state_of s) refl g₁ g₂ in
          let i : cond (eqb (state_of s).filled 6) 516 0 ≤ length b = rw y at (fits (lent_all l a s ps [] b v 0) _ ready.batch) in
          let h : length ps ≡ 8 * (state_of s).homes = lent_both.1 ∙ ap (λ n. 8 * n) (sym u.order.homes_same) in
          let d : length a ≡ 64 * (state_of s).homes = u.area-length ∙ ap (λ n. 64 * n) (sym u.order.homes_same) in
          (may l a s b st v u es known.1 (rw es k) (rw es i), fits-tag l a s st r v u es er known.1 f (rw es k), rw es h, rw es d)

      -- the newest positions, over the numbers of the strip
      newest-same : (r : Writer) (st : State) (l' : List ℕ) → st ≡ state_of s
          → kept_under l' st r ps ≡ kept_commit (lent_all l a s ps [] b v 0) l' (first_for r (next_position st)) (next_position st)
      unfolding kept_under kept_commit tags_of live_base
      newest-same r st l' es = rw (es, lent_for.order.groups-same, lent_for.order.homes_same)

      pub ends_held : (r : Writer) (t : Bool) (st : State) (n q : ℕ) (s' p' l' b' : List ℕ) (c figure size : ℕ) → r ≡ writer_of s v → t ≡ holds r
          → not t ≡ false → st ≡ state_of s → q ≡ next_position st → Committed n s' p' l' b' s ps l b a st r v → (c ≡ 0) × (figure ≡ q + 1) × (size ≡ n)
          → leaves_everything c figure size l' a s' p' [] b' ≡ commit_call (lent_all l a s ps [] b v 0)
      unfolding commit_call commit_held log_closing logged_closing
      ends_held r t st n q s' p' l' b' c figure size er et o es eq d y =
          let k : p' ≡ kept_commit (lent_all l a s ps [] b v 0) (logged_closing s l st r v).log (first_for r (next_position st)) (next_position st) =
          d.newest ∙ newest-same r st l' es ∙ ap (λ x. kept_commit (lent_all l a s ps [] b v 0) x (first_for r (next_position st)) (next_position st)) d.log in
          ends (lent_all l a s ps [] b v 0) (commit_effect (lent_all l a s ps [] b v 0)) (commit_held (lent_all l a s ps [] b v 0) r (next_position st)) _ c figure size l' a
          s' p' [] b'
          (effect-held (lent_all l a s ps [] b v 0) r st er es (sym et ∙ not-false t o)) (sym e ∙ z) y.0 (y.1 ∙ rw eq) (y.2 ∙ d.size ∙ rw (← es))
          (d.log ∙ rw (← es)) refl (kept-list _ _ _ _ _ _ _ _ _ d.state (d.log ∙ rw (← es)) refl (rw (← es)) (k ∙ rw (← es))) (k ∙ rw (← es)) refl (d.batch ∙ rw (← es))
