-- Settle: what its first questions give, what it does to the strip and the batch, and how the call ends. Assumes nothing.
use mathlib.Core.Path.{◌≡◌, refl, sym, ap, ◌∙◌}
use mathlib.Core.Logic.{◌≢◌}
use mathlib.Core.Bool.{not}
use mathlib.Core.List.{List, [], ◌∷◌}
use Prim.Native.Nat.{ℕ, ◌+◌, ◌-◌, ◌*◌, ◌^◌, ◌≤◌, ◌<◌}
use native.Mathlib.Omega.{arith}
use lib.ListN.{length}
use borrow.Author.Tests.{le-leb, lt-leb}
use Rattle.model.specs.Bytes.{puts}
use Rattle.model.specs.Layout.{group_count, home_count, entry_at}
use Rattle.model.specs.Batch.{FN, record_bytes, batch_bytes}
use Rattle.model.specs.declared.State.{State}
use Rattle.model.specs.State.{state_of, set_settled, set_fenced}
use Rattle.model.specs.Effects.{Given, touched, replayed, home_writes, tags_of, live_tags, live_base, settle_effect}
use Rattle.model.specs.Questions.{ask, ask_state, batch_fits, settle_answer, in_round}
use Rattle.model.specs.Calls.{size_of, settle_call}
use Rattle.model_laws.proofs.state.BatchLaws.{batch-one, length-FN}
use Rattle.model_laws.proofs.state.QuestionLaws.{ask-yes, ask-no}
use Rattle.model_laws.proofs.state.OrderLaws.{InOrder}
use Rattle.log_scan.specs.Walk.{closed_below}
use Rattle.call_ask.specs.Lent.{lent, leaves}
use Rattle.call_ask.proofs.AnswerLaws.{Usable, state-usable, state-only, state-refuses, state-passes, refused-by, done-by}
use Rattle.log_tables.specs.Plans.{Searchable, Planned}
use Rattle.log_tables.proofs.PlanLaws.{plan-size, plan-area, plan-batch}
use Rattle.call_settle.proofs.RoundLaws.{round-out, round-in}

-- ---- the numbers of a strip in order

pub record Numbers (log area state : List ℕ) (st : State) : Type 0 where
  pub log-length : length log ≡ 64 + 512 * st.groups
  pub groups-least : 4 ≤ st.groups
  pub groups-most : st.groups ≤ 1024
  pub area-length : length area ≡ 64 * st.homes
  pub homes-most : st.homes ≤ 65535
  pub state-length : length state ≡ 1024
  pub start-most : st.start ≤ 2 ^ 47
  pub start-fenced : 7 * st.start ≤ st.fenced
  pub fenced-most : st.fenced ≤ 7 * (st.start + st.groups)
  pub next-most : st.next ≤ st.start + st.groups
  pub start-round : st.round ≢ 0 → 7 * st.start ≤ st.round - 1
  pub round-most : st.round ≤ st.fenced + 1

pub numbers : (log area state : List ℕ) (code : ℕ) (st : State) → code ≡ ask_state (lent log area state [] [] 0 0) 0 → code ≡ 0
    → st ≡ state_of state → Numbers log area state st
numbers log area state code st e z f =
    let u : Usable log area state = state-usable (lent log area state [] [] 0 0) (sym e ∙ z) in
    let o : InOrder state (group_count (length log)) (home_count (length area)) = u.order in
    rw f
    (record {
      log-length = omega arith;
      groups-least = omega arith;
      groups-most = omega arith;
      area-length = omega arith;
      homes-most = omega arith;
      state-length = omega arith;
      start-most = omega arith;
      start-fenced = omega arith;
      fenced-most = omega arith;
      next-most = omega arith;
      start-round = λ n. let k = o.round-settled (omega arith) in omega (arith, o.start-settled);
      round-most = omega (arith, o.round-fenced);
    })

pub state-length : (log area state : List ℕ) (code : ℕ) → code ≡ ask_state (lent log area state [] [] 0 0) 0 → code ≡ 0 → length state ≡ 1024
state-length log area state code e z = (state-usable (lent log area state [] [] 0 0) (sym e ∙ z)).state-length

pub settle-searchable : (log area state : List ℕ) (st : State) → Numbers log area state st
    → Searchable log st.groups st.homes st.start (st.fenced - 7 * st.start)
settle-searchable log area state st k =
    record {
      long = k.log-length;
      least = k.groups-least;
      most = k.groups-most;
      homes-most = k.homes-most;
      low = k.start-most;
      within = omega (arith, k.fenced-most);
    }

pub round-searchable : (log area state : List ℕ) (st : State) → Numbers log area state st
    → Searchable log st.groups st.homes st.start (st.round - 1 - 7 * st.start)
round-searchable log area state st k =
    record {
      long = k.log-length;
      least = k.groups-least;
      most = k.groups-most;
      homes-most = k.homes-most;
      low = k.start-most;
      within = omega (arith, k.fenced-most, k.round-most);
    }

-- ---- how the call ends

module _ (log area state batch : List ℕ) where
  abbrev settling : Given
  settling = lent log area state [] batch 0 0

  pub settle-refused : (v code figure size : ℕ) → v ≡ ask_state (lent log area state [] [] 0 0) 0 → v ≢ 0
      → (code ≡ v) × (figure ≡ 0) × (size ≡ 0) → leaves code figure size log area state [] batch ≡ settle_call settling
  unfolding settle_call settle_answer
  settle-refused v code figure size e h r =
      refused-by settling (settle_effect settling) _ code figure size
      (r.0 ∙ state-refuses settling v _ (e ∙ sym (state-only log area state [] batch 0 0 0)) h) (λ z. h (sym r.0 ∙ z)) r.1 r.2

  -- during a round
  pub settle-busy : (v code figure size : ℕ) (st : State) → v ≡ ask_state (lent log area state [] [] 0 0) 0 → v ≡ 0 → st ≡ state_of state → st.round ≢ 0
      → (code ≡ 21) × (figure ≡ 0) × (size ≡ 0) → leaves code figure size log area state [] batch ≡ settle_call settling
  unfolding settle_call settle_answer
  settle-busy v code figure size st e z f n r =
      refused-by settling (settle_effect settling) _ code figure size
      (r.0
      ∙ sym (state-passes settling _ (state-only log area state [] batch 0 0 0 ∙ sym e ∙ z)
      ∙ ask-no _ 21 _ (ap not (round-in log area state batch st f n)))) (λ y. let w = r.0 in omega arith) r.1 r.2

  module _ (v end number count : ℕ) (st : State) (e : v ≡ ask_state (lent log area state [] [] 0 0) 0) (z : v ≡ 0)
      (f : st ≡ state_of state) (calm : st.round ≡ 0)
      (p : Planned log st.groups st.homes st.start (st.fenced - 7 * st.start) end number count) where
    order : InOrder state (group_count (length log)) (home_count (length area))
    order = (state-usable (lent log area state [] [] 0 0) (sym e ∙ z)).order

    area-long : length area ≡ 64 * home_count (length area)
    area-long = (state-usable (lent log area state [] [] 0 0) (sym e ∙ z)).area-length

    plan-live : Planned log (group_count (length log)) (home_count (length area)) (state_of state).start ((state_of state).fenced - 7 * (state_of state).start)
        end number count
    plan-live = rw (f, order.groups-same, order.homes_same) at p

    settle-size : size_of (settle_effect settling) ≡ 68 * count + 2
    unfolding size_of settle_effect live_tags tags_of live_base
    settle-size =
        plan-size log area _ _ _ _ end number count plan-live area-long (FN ∷ []) ∙ ap (λ (k : ℕ). 68 * count + k) (ap length (batch-one FN) ∙ length-FN)

    settle-length : length (batch_bytes (settle_effect settling).records) ≡ 68 * count + 2
    unfolding size_of
    settle-length = settle-size

    asked : ask_state settling (ask (not (in_round settling)) 21 (ask (batch_fits settling (size_of (settle_effect settling))) 9 0))
        ≡ ask (batch_fits settling (size_of (settle_effect settling))) 9 0
    asked =
        state-passes settling _ (state-only log area state [] batch 0 0 0 ∙ sym e ∙ z)
        ∙ ask-yes _ 21 _ (ap not (round-out log area state batch st f calm))

    pub settle-short : (code figure size : ℕ) (a b : List ℕ) → length batch < 68 * count + 2 → (code ≡ 9) × (figure ≡ 0) × (size ≡ 0)
        → a ≡ area → b ≡ batch → leaves code figure size log a state [] b ≡ settle_call settling
    unfolding settle_call settle_answer batch_fits
    settle-short code figure size a b h r ea eb =
        rw (ea, eb)
        (refused-by settling (settle_effect settling) _ code figure size
        (r.0 ∙ sym (asked ∙ ask-no _ 9 0 (lt-leb (size_of (settle_effect settling)) (length batch) (omega (arith, settle-size)))))
        (λ y. let w = r.0 in omega arith) r.1 r.2)

    pub settle-done : (code figure size at : ℕ) (a s d b : List ℕ) → 68 * count + 2 ≤ length batch
        → (code ≡ 0) × (figure ≡ 0) × (size ≡ 68 * count + 2)
        → a ≡ replayed log st.groups (entry_at log st.groups st.homes st.start) (closed_below log st.groups st.homes st.start end) area
        → d
        ≡ puts batch 0
        (batch_bytes (home_writes a
        (touched (entry_at log st.groups st.homes st.start) (closed_below log st.groups st.homes st.start end) st.homes)))
        → b ≡ puts d at (record_bytes FN) → at ≡ 68 * count
        → s ≡ set_fenced (set_settled state st.fenced) (7 * st.next)
        → leaves code figure size log a s [] b ≡ settle_call settling
    unfolding settle_call settle_answer batch_fits settle_effect live_tags tags_of live_base
    settle-done code figure size at a s d b h r ea ed eb et es =
        let ra = rw (f, order.groups-same, order.homes_same) at ea in
        let rd = rw (f, order.groups-same, order.homes_same) at ed in
        done-by settling (settle_effect settling) _ code figure size log a s [] [] b
        (asked ∙ ask-yes _ 9 0 (le-leb (size_of (settle_effect settling)) (length batch) (omega (arith, settle-size))))
        r.0 r.1 (r.2 ∙ sym settle-length) refl
        (plan-area log area _ _ _ _ end number count plan-live area-long a ra)
        (es ∙ rw f) refl refl
        (plan-batch log area _ _ _ _ end number count plan-live area-long a d b batch at (FN ∷ []) ra rd et (eb ∙ rw (← batch-one FN)))
