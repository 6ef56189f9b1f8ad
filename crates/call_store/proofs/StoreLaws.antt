-- Store: its answer, its three effects and how it ends. Assumes nothing.
use mathlib.Core.Path.{◌≡◌, refl, sym, ap, ◌∙◌}
use mathlib.Core.Bool.{Bool, true, false, cond, not, ◌||◌}
use mathlib.Core.List.{List, []}
use mathlib.Core.Logic.{◌≢◌}
use Prim.Native.Nat.{ℕ, ◌+◌, ◌*◌, ◌≤◌, ◌<◌}
use native.Mathlib.Omega.{arith}
use lib.Dec.{eqb, leb, ltb}
use lib.ListN.{length}
use borrow.Author.Tests.{not-true, not-false, ltb-true, lt-ltb, le-ltb, eq-eqb, ne_eqb}
use Rattle.model.specs.Layout.{home_count}
use Rattle.model.specs.Batch.{batch_bytes}
use Rattle.model.specs.declared.State.{State}
use Rattle.model.specs.declared.Writer.{Writer}
use Rattle.model.specs.State.{state_of, next_position, writer_of, set_writer, set_held, holding, is_open_now, holds}
use Rattle.model.specs.Effects.{Given, new_state, log_held, store_first, store_again, store_other, store_effect}
use Rattle.model.specs.Questions.{ask, ask_block, writer_known, is_home_known, writer_open, room_for, room, store_logs, batch_fits, store_allowed, store_answer}
use Rattle.model.specs.Calls.{size_of, store_call}
use Rattle.model_laws.proofs.bytes.ByteLaws.{puts-nil}
use Rattle.model_laws.proofs.state.OrderLaws.{place-below}
use Rattle.model_laws.proofs.state.QuestionLaws.{ask-yes, ask-no, room-true, StoreReady, store-ready}
use Rattle.call_ask.specs.Lent.{lent, leaves}
use Rattle.call_ask.proofs.AnswerLaws.{Usable, block-usable, block-refuses, block-passes, block-only, refused-by}
use Rattle.call_rights.proofs.RightsLaws.{store-only}
use Rattle.call_store.specs.Logs.{MayLog, Fits, logged_entry, StoredOther}
use Rattle.call_store.proofs.CallLaws.{block-first, ends}
use Rattle.call_store.proofs.LogLaws.{logged-size}
use Rattle.call_store.proofs.ReadyLaws.{quiet, loud, may, fits-tag}
use Rattle.model_laws.proofs.state.LoggingLaws.{fits}

-- ---- its effect

pub effect-first : (g : Given) (r : Writer) → r ≡ writer_of g.state g.writer → holds r ≡ false → store_effect g ≡ store_first g
unfolding store_effect
effect-first g r e h = let k : holds (writer_of g.state g.writer) ≡ false = ap holds (sym e) ∙ h in rw k

effect-again : (g : Given) (r : Writer) → r ≡ writer_of g.state g.writer → holds r ≡ true → r.home ≡ g.home → store_effect g ≡ store_again g
unfolding store_effect
effect-again g r e h m =
    let k : holds (writer_of g.state g.writer) ≡ true = ap holds (sym e) ∙ h in
    let q : eqb (writer_of g.state g.writer).home g.home ≡ true = eq-eqb _ _ (ap (λ (x : Writer). x.home) (sym e) ∙ m) in
    rw (k, q)

pub effect-other : (g : Given) (r : Writer) (st : State) → r ≡ writer_of g.state g.writer → st ≡ state_of g.state → holds r ≡ true
    → r.home ≢ g.home → store_effect g ≡ store_other g r (next_position st)
unfolding store_effect
effect-other g r st e es h m =
    let k : holds (writer_of g.state g.writer) ≡ true = ap holds (sym e) ∙ h in
    let q : eqb (writer_of g.state g.writer).home g.home ≡ false = ne_eqb _ _ (λ z. m (ap (λ (x : Writer). x.home) e ∙ z)) in
    rw (k, q, e, es)

size-first : (g : Given) → size_of (store_first g) ≡ 0
unfolding size_of store_first new_state batch_bytes
size-first g = refl

size-again : (g : Given) → size_of (store_again g) ≡ 0
unfolding size_of store_again new_state batch_bytes
size-again g = refl

size-other : (g : Given) (r : Writer) (st : State) → st ≡ state_of g.state → 1 ≤ st.groups → 64 + 512 * st.groups ≤ length g.log
    → size_of (store_other g r (next_position st)) ≡ cond (eqb st.filled 6) 516 0
unfolding size_of store_other log_held
size-other g r st es h k = logged-size g.state g.log _ _ st es h k

-- ---- whether it logs

logs-not : (g : Given) (r : Writer) → r ≡ writer_of g.state g.writer → holds r ≡ false → store_logs g ≡ false
unfolding store_logs
logs-not g r e h = let k : holds (writer_of g.state g.writer) ≡ false = ap holds (sym e) ∙ h in rw k

logs-same : (g : Given) (r : Writer) → r ≡ writer_of g.state g.writer → holds r ≡ true → r.home ≡ g.home → store_logs g ≡ false
unfolding store_logs
logs-same g r e h m =
    let k : holds (writer_of g.state g.writer) ≡ true = ap holds (sym e) ∙ h in
    let q : eqb (writer_of g.state g.writer).home g.home ≡ true = eq-eqb _ _ (ap (λ (x : Writer). x.home) (sym e) ∙ m) in
    rw (k, q)

logs-other : (g : Given) (r : Writer) → r ≡ writer_of g.state g.writer → holds r ≡ true → r.home ≢ g.home → store_logs g ≡ true
unfolding store_logs
logs-other g r e h m =
    let k : holds (writer_of g.state g.writer) ≡ true = ap holds (sym e) ∙ h in
    let q : eqb (writer_of g.state g.writer).home g.home ≡ false = ne_eqb _ _ (λ z. m (ap (λ (x : Writer). x.home) e ∙ z)) in
    rw (k, q)

-- ---- its answer

module _ (l a s x b : List ℕ) (v h : ℕ) where
  module _ (r₀ : ℕ) (e₀ : r₀ ≡ ask_block (lent l a s x [] 0 0) 0) where
    pub refuses : r₀ ≢ 0 → r₀ ≡ store_answer (lent l a s x b v h) (size_of (store_effect (lent l a s x b v h)))
    unfolding store_answer
    refuses n = block-refuses (lent l a s x b v h) r₀ _ (e₀ ∙ sym (block-only l a s x b v h 0)) n

    module _ (z₀ : r₀ ≡ 0) where
      zeroed : ask_block (lent l a s x b v h) 0 ≡ 0
      zeroed = block-only l a s x b v h 0 ∙ sym e₀ ∙ z₀

      pub lent-use : Usable l a s
      lent-use = (block-usable (lent l a s x b v h) zeroed).0

      pub writer-no : 8 ≤ v → 4 ≡ store_answer (lent l a s x b v h) (size_of (store_effect (lent l a s x b v h)))
      unfolding store_answer writer_known
      writer-no k = sym (block-passes (lent l a s x b v h) _ zeroed ∙ ask-no (ltb v 8) 4 _ (le-ltb v 8 k))

      pub home-no : (n : ℕ) → v < 8 → n ≡ home_count (length a) → n ≤ h
          → 5 ≡ store_answer (lent l a s x b v h) (size_of (store_effect (lent l a s x b v h)))
      unfolding store_answer writer_known is_home_known
      home-no n k en m =
          sym
          (block-passes (lent l a s x b v h) _ zeroed ∙ ask-yes (ltb v 8) 4 _ (lt-ltb v 8 k)
          ∙ ask-no (ltb h (home_count (length a))) 5 _ (le-ltb h (home_count (length a)) (omega arith)))

      pub right-no : (n : ℕ) (q : Bool) → v < 8 → n ≡ home_count (length a) → h < n → q ≡ store_allowed (lent l a s [] [] v h) → not q ≡ true
          → 19 ≡ store_answer (lent l a s x b v h) (size_of (store_effect (lent l a s x b v h)))
      unfolding store_answer writer_known is_home_known
      right-no n q k en m eq p =
          sym
          (block-passes (lent l a s x b v h) _ zeroed ∙ ask-yes (ltb v 8) 4 _ (lt-ltb v 8 k)
          ∙ ask-yes (ltb h (home_count (length a))) 5 _ (lt-ltb h (home_count (length a)) (omega arith))
          ∙ ask-no (store_allowed (lent l a s x b v h)) 19 _ (store-only l a s x b v h ∙ sym eq ∙ not-true q p))

      module _ (n : ℕ) (q : Bool) (r : Writer) (o : Bool) (k : v < 8) (en : n ≡ home_count (length a)) (m : h < n) (eq : q ≡ store_allowed (lent l a s [] [] v h))
          (nq : not q ≡ false) (er : r ≡ writer_of s v) (eo : o ≡ is_open_now r) where
        allowed : store_allowed (lent l a s x b v h) ≡ true
        allowed = store-only l a s x b v h ∙ sym eq ∙ not-false q nq

        pub open_no : not o ≡ true → 7 ≡ store_answer (lent l a s x b v h) (size_of (store_effect (lent l a s x b v h)))
        unfolding store_answer writer_known is_home_known writer_open
        open_no p =
            sym
            (block-passes (lent l a s x b v h) _ zeroed ∙ ask-yes (ltb v 8) 4 _ (lt-ltb v 8 k)
            ∙ ask-yes (ltb h (home_count (length a))) 5 _ (lt-ltb h (home_count (length a)) (omega arith))
            ∙ ask-yes (store_allowed (lent l a s x b v h)) 19 _ allowed
            ∙ ask-no (is_open_now (writer_of s v)) 7 _ (ap is_open_now (sym er) ∙ sym eo ∙ not-true o p))

        rest : (size : ℕ) → not o ≡ false
            → store_answer (lent l a s x b v h) size
            ≡ ask (not (store_logs (lent l a s x b v h)) || room (lent l a s x b v h)) 8 (ask (leb size (length b)) 9 0)
        unfolding store_answer writer_known is_home_known writer_open batch_fits
        rest size p =
            block-passes (lent l a s x b v h) _ zeroed ∙ ask-yes (ltb v 8) 4 _ (lt-ltb v 8 k)
            ∙ ask-yes (ltb h (home_count (length a))) 5 _ (lt-ltb h (home_count (length a)) (omega arith))
            ∙ ask-yes (store_allowed (lent l a s x b v h)) 19 _ allowed
            ∙ ask-yes (is_open_now (writer_of s v)) 7 _ (ap is_open_now (sym er) ∙ sym eo ∙ not-false o p)

        pub first-yes : (t : Bool) → not o ≡ false → t ≡ holds r → not t ≡ true
            → 0 ≡ store_answer (lent l a s x b v h) (size_of (store_effect (lent l a s x b v h)))
        first-yes t p et q =
            let f : holds r ≡ false = sym et ∙ not-true t q in
            sym
            (rest _ p
            ∙ quiet _ _ _ (length b) (logs-not (lent l a s x b v h) r er f)
            (ap size_of (effect-first (lent l a s x b v h) r er f) ∙ size-first (lent l a s x b v h)))

        pub again-yes : (t : Bool) → not o ≡ false → t ≡ holds r → not t ≡ false → r.home ≡ h
            → 0 ≡ store_answer (lent l a s x b v h) (size_of (store_effect (lent l a s x b v h)))
        again-yes t p et q w =
            let f : holds r ≡ true = sym et ∙ not-false t q in
            sym
            (rest _ p
            ∙ quiet _ _ _ (length b) (logs-same (lent l a s x b v h) r er f w)
            (ap size_of (effect-again (lent l a s x b v h) r er f w) ∙ size-again (lent l a s x b v h)))

        pub other-asks : (t : Bool) (st : State) (y : ℕ) → not o ≡ false → t ≡ holds r → not t ≡ false → r.home ≢ h → st ≡ state_of s
            → y ≡ ask (room_for s v) 8 (ask (leb (cond (eqb st.filled 6) 516 0) (length b)) 9 0)
            → y ≡ store_answer (lent l a s x b v h) (size_of (store_effect (lent l a s x b v h)))
        unfolding room
        other-asks t st y p et q w es ey =
            let f : holds r ≡ true = sym et ∙ not-false t q in
            let u = lent-use in
            let g₁ : 1 ≤ (state_of s).groups = omega (arith, u.order.groups-same, u.groups-least) in
            let g₂ : 64 + 512 * (state_of s).groups ≤ length l = omega (arith, u.order.groups-same, u.log-length) in
            let z : size_of (store_effect (lent l a s x b v h)) ≡ cond (eqb (state_of s).filled 6) 516 0 =
            ap size_of (effect-other (lent l a s x b v h) r (state_of s) er refl f w) ∙ size-other (lent l a s x b v h) r (state_of s) refl g₁ g₂ in
            ey ∙ sym (rest _ p ∙ loud _ _ _ (logs-other (lent l a s x b v h) r er f w) ∙ rw (z, es))

  -- ---- what a store that is not refused knows

  module _ (code : ℕ) (e : code ≡ store_answer (lent l a s x b v h) (size_of (store_effect (lent l a s x b v h)))) where
    pub ends-refused : (c figure size : ℕ) → code ≢ 0 → (c ≡ code) × (figure ≡ 0) × (size ≡ 0)
        → leaves c figure size l a s x b ≡ store_call (lent l a s x b v h)
    unfolding store_call
    ends-refused c figure size n q =
        refused-by (lent l a s x b v h) (store_effect (lent l a s x b v h)) _ c figure size (q.0 ∙ e) (λ z. n (sym q.0 ∙ z)) q.1 q.2

    module _ (z : code ≡ 0) where
      ready : StoreReady (lent l a s x b v h) (size_of (store_effect (lent l a s x b v h)))
      ready = store-ready (lent l a s x b v h) _ (sym e ∙ z)

      lent_for : Usable l a s × (length x ≡ 64)
      unfolding store_answer
      lent_for = block-usable (lent l a s x b v h) (block-first (lent l a s x b v h) _ (sym e ∙ z)).0

      pub known : (length s ≡ 1024) × (v < 8) × (length x ≡ 64)
      unfolding writer_known
      known = (lent_for.0.state-length, ltb-true v 8 ready.writer, lent_for.1)

      pub firsts : (r : Writer) (t : Bool) → t ≡ holds r → not t ≡ true
          → (length s ≡ 1024) × (v < 8) × (length x ≡ 64) × (holds r ≡ false)
      firsts r t et p = (known.0, known.1, known.2, sym et ∙ not-true t p)

      pub ends-first : (r : Writer) (t : Bool) (s' : List ℕ) (c figure size : ℕ) → r ≡ writer_of s v → t ≡ holds r → not t ≡ true
          → s' ≡ set_held (set_writer s v (holding h)) v x → (c ≡ 0) × (figure ≡ 0) × (size ≡ 0)
          → leaves c figure size l a s' x b ≡ store_call (lent l a s x b v h)
      unfolding store_call store_first new_state batch_bytes
      ends-first r t s' c figure size er et p hs q =
          ends (lent l a s x b v h) (store_effect (lent l a s x b v h)) (store_first (lent l a s x b v h)) _ c figure size l a s' [] x b
          (effect-first (lent l a s x b v h) r er (sym et ∙ not-true t p)) (sym e ∙ z) q.0 q.1 q.2 refl refl hs refl refl (sym (puts-nil b 0))

      pub ends-again : (r : Writer) (t : Bool) (s' : List ℕ) (c figure size : ℕ) → r ≡ writer_of s v → t ≡ holds r → not t ≡ false → r.home ≡ h
          → s' ≡ set_held s v x → (c ≡ 0) × (figure ≡ 0) × (size ≡ 0) → leaves c figure size l a s' x b ≡ store_call (lent l a s x b v h)
      unfolding store_call store_again new_state batch_bytes
      ends-again r t s' c figure size er et p w hs q =
          ends (lent l a s x b v h) (store_effect (lent l a s x b v h)) (store_again (lent l a s x b v h)) _ c figure size l a s' [] x b
          (effect-again (lent l a s x b v h) r er (sym et ∙ not-false t p) w) (sym e ∙ z) q.0 q.1 q.2 refl refl hs refl refl
          (sym (puts-nil b 0))

      pub others : (r : Writer) (t : Bool) (st : State) → r ≡ writer_of s v → t ≡ holds r → not t ≡ false → r.home ≢ h → st ≡ state_of s
          → MayLog l s b st v × Fits st r (next_position st) × (length x ≡ 64) × (holds r ≡ true) × (r.home ≢ h)
      unfolding room
      others r t st er et p w es =
          let f : holds r ≡ true = sym et ∙ not-false t p in
          let u = lent_for.0 in
          let g₁ : 1 ≤ (state_of s).groups = omega (arith, u.order.groups-same, u.groups-least) in
          let g₂ : 64 + 512 * (state_of s).groups ≤ length l = omega (arith, u.order.groups-same, u.log-length) in
          let k : (state_of s).next < (state_of s).start + (state_of s).groups =
          place-below s _ _ v u.order known.1 (room-true s v (ready.roomy (logs-other (lent l a s x b v h) r er f w))) in
          let y : size_of (store_effect (lent l a s x b v h)) ≡ cond (eqb (state_of s).filled 6) 516 0 =
          ap size_of (effect-other (lent l a s x b v h) r (state_of s) er refl f w) ∙ size-other (lent l a s x b v h) r (state_of s) refl g₁ g₂ in
          let i : cond (eqb (state_of s).filled 6) 516 0 ≤ length b = rw y at (fits (lent l a s x b v h) _ ready.batch) in
          (may l a s b st v u es known.1 (rw es k) (rw es i), fits-tag l a s st r v u es er known.1 f (rw es k), lent_for.1, f, w)

      pub ends-other : (r : Writer) (t : Bool) (st : State) (n : ℕ) (s' l' b' : List ℕ) (c figure size : ℕ) → r ≡ writer_of s v → t ≡ holds r
          → not t ≡ false → r.home ≢ h → st ≡ state_of s → StoredOther n s' l' b' s l b x st r v h → (c ≡ 0) × (figure ≡ 0) × (size ≡ n)
          → leaves c figure size l' a s' x b' ≡ store_call (lent l a s x b v h)
      unfolding store_call store_other log_held logged_entry
      ends-other r t st n s' l' b' c figure size er et p w es d q =
          ends (lent l a s x b v h) (store_effect (lent l a s x b v h)) (store_other (lent l a s x b v h) r (next_position st)) _ c figure size l' a s' [] x b'
          (effect-other (lent l a s x b v h) r st er es (sym et ∙ not-false t p) w) (sym e ∙ z) q.0 q.1 (q.2 ∙ d.size) d.log refl
          d.state refl refl d.batch
