-- Flush: what it writes, its answer and how it ends. Assumes nothing.
use mathlib.Core.Path.{◌≡◌, refl, sym, ap, ◌∙◌}
use mathlib.Core.Bool.{Bool, true, false, cond, not}
use mathlib.Core.List.{List, [], ◌∷◌}
use mathlib.Core.Logic.{◌≢◌}
use Prim.Native.Nat.{ℕ, ◌+◌, ◌*◌, ◌%◌, ◌^◌, ◌≤◌, ◌<◌}
use native.Mathlib.Omega.{arith}
use lib.Dec.{eqb, leb}
use lib.ListN.{length, length-append}
use borrow.Author.Tests.{leb-true, le-leb, lt-leb, eq-eqb, ne_eqb, not-true, not-false}
use Rattle.model.specs.Bytes.{puts}
use Rattle.model.specs.Layout.{group_at, group_count}
use Rattle.model.specs.Batch.{GW, FN, record_bytes, batch_bytes}
use Rattle.model.specs.declared.State.{State}
use Rattle.model.specs.State.{state_of, set_next, set_filled, set_fenced}
use Rattle.model.specs.Effects.{Given, flush_effect, flush_none, flush_part}
use Rattle.model.specs.Questions.{ask, ask_state, keeps_promises, batch_fits, flush_answer}
use Rattle.model.specs.Calls.{size_of, flush_call}
use Rattle.model_laws.proofs.bytes.ByteLaws.{puts-append}
use Rattle.model_laws.proofs.state.QuestionLaws.{ask-yes, ask-no, ask-passed}
use Rattle.model_laws.proofs.state.BatchLaws.{length-GW, length-FN, batch-one}
use Rattle.call_ask.specs.Lent.{lent, leaves}
use Rattle.call_ask.proofs.AnswerLaws.{Usable, usable-groups, state-usable, state-refuses, state-passes, state-only, refused-by}
use Rattle.base_state.specs.Order.{GroupsInOrder}
use Rattle.call_store.proofs.CallLaws.{state-first, length-slot, batch-two, ends}

-- ---- what it writes

pub part-written : (d d₁ d₂ : List ℕ) (slot at : ℕ) (group : List ℕ) → length group ≡ 512 → d₁ ≡ puts d 0 (record_bytes (GW slot group))
    → at ≡ 0 + 516 → d₂ ≡ puts d₁ at (record_bytes FN) → d₂ ≡ puts d 0 (batch_bytes (GW slot group ∷ FN ∷ []))
part-written d d₁ d₂ slot at group h e₁ ea e₂ = e₂ ∙ rw (e₁, ea, batch-two, puts-append, length-GW slot group h)

pub none_written : (d d₁ : List ℕ) → d₁ ≡ puts d 0 (record_bytes FN) → d₁ ≡ puts d 0 (batch_bytes (FN ∷ []))
none_written d d₁ e = e ∙ rw batch-one

pub part-size : (slot : ℕ) (group : List ℕ) → length group ≡ 512 → length (batch_bytes (GW slot group ∷ FN ∷ [])) ≡ 518
part-size slot group h = rw (batch-two, length-append, length-GW slot group h, length-FN)

pub none-size : length (batch_bytes (FN ∷ [])) ≡ 2
none-size = rw (batch-one, length-FN)

-- ---- its effect

abbrev given : List ℕ → List ℕ → List ℕ → List ℕ → Given
given l a s b = lent l a s [] b 0 0

effect-none : (g : Given) (st : State) → st ≡ state_of g.state → st.filled ≡ 0 → flush_effect g ≡ flush_none g st
unfolding flush_effect
effect-none g st e h = let k : eqb (state_of g.state).filled 0 ≡ true = eq-eqb _ 0 (ap (λ (x : State). x.filled) (sym e) ∙ h) in rw (e, k)

effect-part : (g : Given) (st : State) → st ≡ state_of g.state → st.filled ≢ 0 → flush_effect g ≡ flush_part g st
unfolding flush_effect
effect-part g st e h =
    let k : eqb (state_of g.state).filled 0 ≡ false = ne_eqb _ 0 (λ z. h (ap (λ (x : State). x.filled) e ∙ z)) in
    rw (e, k)

-- ---- what a flush that is not refused knows

pub record Facts (l s : List ℕ) (st : State) : Type 0 where
  pub state_fits : length s ≡ 1024
  pub some : 1 ≤ st.groups
  pub log : 64 + 512 * st.groups ≤ length l
  pub next : st.next < 2 ^ 60

facts : (l a s : List ℕ) (st : State) → Usable l a s → st ≡ state_of s → Facts l s st
facts l a s st u e =
    let o = u.order in
    let p : (state_of s).groups ≡ group_count (length l) = o.groups-same in
    let h : Facts l s (state_of s) = record {
      state_fits = u.state-length;
      some = omega (arith, u.groups-least);
      log = omega (arith, u.log-length);
      next = omega (arith, o.next-most, o.start-most, u.groups-most);
    } in
    rw e h

size-by : (l a s b : List ℕ) → Usable l a s → size_of (flush_effect (given l a s b)) ≡ cond (eqb (state_of s).filled 0) 2 518
unfolding flush_effect size_of
size-by l a s b u = go (eqb (state_of s).filled 0)
  where
    k : Facts l s (state_of s)
    k = facts l a s (state_of s) u refl

    go : (t : Bool) → length (batch_bytes (cond t (flush_none (given l a s b) (state_of s)) (flush_part (given l a s b) (state_of s))).records) ≡ cond t 2 518
    go true = unfold flush_none in none-size
    go false = unfold flush_part in part-size _ _ (length-slot l (state_of s).next (state_of s).groups k.some k.log)

-- ---- its answer

module _ (l a s b : List ℕ) where
  pub refuses : (r : ℕ) → r ≡ ask_state (lent l a s [] [] 0 0) 0 → r ≢ 0 → r ≡ flush_answer (given l a s b) (size_of (flush_effect (given l a s b)))
  unfolding flush_answer
  refuses r e h = state-refuses (given l a s b) r _ (e ∙ sym (state-only l a s [] b 0 0 0)) h

  zeroed : (r : ℕ) → r ≡ ask_state (lent l a s [] [] 0 0) 0 → r ≡ 0 → ask_state (given l a s b) 0 ≡ 0
  zeroed r e z = state-only l a s [] b 0 0 0 ∙ sym e ∙ z

  pub state-fits-asked : (r : ℕ) → r ≡ ask_state (lent l a s [] [] 0 0) 0 → r ≡ 0 → length s ≡ 1024
  state-fits-asked r e z = (state-usable (given l a s b) (zeroed r e z)).state-length

  pub grouped : (r : ℕ) (st : State) → r ≡ ask_state (lent l a s [] [] 0 0) 0 → r ≡ 0 → st ≡ state_of s → GroupsInOrder st
  grouped r st e z es = usable-groups l a s st (state-usable (given l a s b) (zeroed r e z)) es

  pub broken : (r : ℕ) (k : Bool) → r ≡ ask_state (lent l a s [] [] 0 0) 0 → r ≡ 0 → k ≡ keeps_promises s → not k ≡ true
      → 18 ≡ flush_answer (given l a s b) (size_of (flush_effect (given l a s b)))
  unfolding flush_answer
  broken r k e z ek h = sym (state-passes (given l a s b) _ (zeroed r e z) ∙ ask-no (keeps_promises s) 18 _ (sym ek ∙ not-true k h))

  asks : (r : ℕ) (st : State) (n : ℕ) (k : Bool) → r ≡ ask_state (lent l a s [] [] 0 0) 0 → r ≡ 0 → st ≡ state_of s
      → n ≡ cond (eqb st.filled 0) 2 (516 + 2) → k ≡ keeps_promises s → not k ≡ false
      → flush_answer (given l a s b) (size_of (flush_effect (given l a s b))) ≡ ask (leb n (length b)) 9 0
  unfolding flush_answer batch_fits
  asks r st n k e z es en ek h =
      let q : size_of (flush_effect (given l a s b)) ≡ n = size-by l a s b (state-usable (given l a s b) (zeroed r e z)) ∙ sym (en ∙ rw es) in
      state-passes (given l a s b) _ (zeroed r e z) ∙ ask-yes (keeps_promises s) 18 _ (sym ek ∙ not-false k h) ∙ rw q

  pub short : (r : ℕ) (st : State) (n : ℕ) (k : Bool) → r ≡ ask_state (lent l a s [] [] 0 0) 0 → r ≡ 0 → st ≡ state_of s
      → n ≡ cond (eqb st.filled 0) 2 (516 + 2) → k ≡ keeps_promises s → not k ≡ false
      → length b < n → 9 ≡ flush_answer (given l a s b) (size_of (flush_effect (given l a s b)))
  short r st n k e z es en ek p h = sym (asks r st n k e z es en ek p ∙ ask-no _ 9 0 (lt-leb n (length b) h))

  pub passes : (r : ℕ) (st : State) (n : ℕ) (k : Bool) → r ≡ ask_state (lent l a s [] [] 0 0) 0 → r ≡ 0 → st ≡ state_of s
      → n ≡ cond (eqb st.filled 0) 2 (516 + 2) → k ≡ keeps_promises s → not k ≡ false
      → n ≤ length b → 0 ≡ flush_answer (given l a s b) (size_of (flush_effect (given l a s b)))
  passes r st n k e z es en ek p h = sym (asks r st n k e z es en ek p ∙ ask-yes _ 9 0 (le-leb n (length b) h))

  -- ---- how it ends

  usable : (code : ℕ) → code ≡ flush_answer (given l a s b) (size_of (flush_effect (given l a s b))) → code ≡ 0 → Usable l a s
  unfolding flush_answer
  usable code e z = state-usable (given l a s b) (state-first (given l a s b) _ (sym e ∙ z)).0

  pub sized : (code : ℕ) → code ≡ flush_answer (given l a s b) (size_of (flush_effect (given l a s b))) → code ≡ 0 → length s ≡ 1024
  sized code e z = (usable code e z).state-length

  pub known : (code : ℕ) (st : State) → code ≡ flush_answer (given l a s b) (size_of (flush_effect (given l a s b))) → code ≡ 0 → st ≡ state_of s
      → Facts l s st
  known code st e z es = facts l a s st (usable code e z) es

  fits : (code : ℕ) (st : State) → code ≡ flush_answer (given l a s b) (size_of (flush_effect (given l a s b))) → code ≡ 0 → st ≡ state_of s
      → cond (eqb st.filled 0) 2 518 ≤ length b
  unfolding flush_answer batch_fits
  fits code st e z es =
      let q : size_of (flush_effect (given l a s b)) ≡ cond (eqb st.filled 0) 2 518 = size-by l a s b (usable code e z) ∙ rw es in
      let p = state-first (given l a s b) _ (sym e ∙ z) in
      let n : ℕ = size_of (flush_effect (given l a s b)) in
      let k = ask-passed (keeps_promises s) 17 _ p.1 in
      rw q at (leb-true n (length b) (ask-passed (leb n (length b)) 8 0 k.1).0)

  pub fits-none : (code : ℕ) (st : State) → code ≡ flush_answer (given l a s b) (size_of (flush_effect (given l a s b))) → code ≡ 0 → st ≡ state_of s
      → st.filled ≡ 0 → 2 ≤ length b
  fits-none code st e z es f = rw (eq-eqb st.filled 0 f) at (fits code st e z es)

  pub fits-part : (code : ℕ) (st : State) → code ≡ flush_answer (given l a s b) (size_of (flush_effect (given l a s b))) → code ≡ 0 → st ≡ state_of s
      → st.filled ≢ 0 → 518 ≤ length b
  fits-part code st e z es f = rw (ne_eqb st.filled 0 f) at (fits code st e z es)

  pub ends-refused : (code r figure size : ℕ) → code ≡ flush_answer (given l a s b) (size_of (flush_effect (given l a s b))) → code ≢ 0
      → (r ≡ code) × (figure ≡ 0) × (size ≡ 0) → leaves r figure size l a s [] b ≡ flush_call (given l a s b)
  unfolding flush_call
  ends-refused code r figure size e n q =
      refused-by (given l a s b) (flush_effect (given l a s b)) _ r figure size (q.0 ∙ e) (λ z. n (sym q.0 ∙ z)) q.1 q.2

  pub ends-none : (code : ℕ) (st : State) (s' b' : List ℕ) (r figure size : ℕ)
      → code ≡ flush_answer (given l a s b) (size_of (flush_effect (given l a s b))) → code ≡ 0 → st ≡ state_of s → st.filled ≡ 0
      → s' ≡ set_fenced s (7 * st.next) → b' ≡ puts b 0 (batch_bytes (FN ∷ [])) → (r ≡ 0) × (figure ≡ 0) × (size ≡ 2)
      → leaves r figure size l a s' [] b' ≡ flush_call (given l a s b)
  unfolding flush_call flush_none
  ends-none code st s' b' r figure size e z es f hs hb q =
      ends (given l a s b) (flush_effect (given l a s b)) (flush_none (given l a s b) st) _ r figure size l a s' [] [] b' (effect-none _ st es f)
      (sym e ∙ z) q.0 q.1 (q.2 ∙ sym none-size) refl refl hs refl refl hb

  pub ends-part : (code : ℕ) (st : State) (s' b' : List ℕ) (r figure size : ℕ)
      → code ≡ flush_answer (given l a s b) (size_of (flush_effect (given l a s b))) → code ≡ 0 → st ≡ state_of s → st.filled ≢ 0
      → s' ≡ set_fenced (set_filled (set_next s (st.next + 1)) 0) (7 * (st.next + 1))
      → b' ≡ puts b 0 (batch_bytes (GW (st.next % st.groups) (group_at l (st.next % st.groups)) ∷ FN ∷ []))
      → (r ≡ 0) × (figure ≡ 0) × (size ≡ 516 + 2) → leaves r figure size l a s' [] b' ≡ flush_call (given l a s b)
  unfolding flush_call flush_part
  ends-part code st s' b' r figure size e z es f hs hb q =
      let k = known code st e z es in
      ends (given l a s b) (flush_effect (given l a s b)) (flush_part (given l a s b) st) _ r figure size l a s' [] [] b' (effect-part _ st es f)
      (sym e ∙ z) q.0 q.1 (q.2 ∙ sym (part-size _ _ (length-slot l st.next st.groups k.some k.log))) refl refl hs refl refl hb
