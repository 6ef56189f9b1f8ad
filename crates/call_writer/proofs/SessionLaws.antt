-- Begin, reserve, abort and confirm: their questions one by one, and how they end. Assumes nothing.
use mathlib.Core.Path.{◌≡◌, refl, sym, ap, ◌∙◌}
use mathlib.Core.Bool.{Bool, true, false, not, ◌&&◌}
use mathlib.Core.List.{List, []}
use mathlib.Core.Logic.{◌≢◌}
use Prim.Native.Nat.{ℕ, ◌≤◌, ◌<◌}
use native.Mathlib.Omega.{arith}
use borrow.Author.Tests.{eqb-true, ltb-true, lt-ltb, le-ltb, not-true, not-false}
use lib.ListN.{length}
use Rattle.model.specs.declared.Writer.{Writer}
use Rattle.model.specs.declared.State.{State}
use Rattle.model.specs.State.{state_of, set_durable, writer_of, set_writer, set_promise, idle, begun, is_open_now}
use Rattle.model.specs.Effects.{Given, begin_effect, reserve_effect, abort_effect, confirm_effect}
use Rattle.model.specs.Questions.{ask, areas_right, state_right, state_in_order, writer_known, writer_open, may_promise, ask_state, begin_answer, reserve_answer, abort_answer, confirm_answer}
use Rattle.model.specs.Calls.{begin_call, reserve_call, abort_call, confirm_call}
use Rattle.model_laws.proofs.state.QuestionLaws.{ask-yes, ask-no, ask-passed, and-true, InUse, begin-ready, reserve-ready, abort-ready, confirm-ready}
use Rattle.base_state.specs.Order.{GroupsInOrder}
use Rattle.call_ask.specs.Lent.{lent, leaves_everything}
use Rattle.call_writer.specs.Writers.{ask_writer}
use Rattle.call_ask.proofs.AnswerLaws.{Usable, usable-groups, state-usable, state-refuses, state-passes, state-only, refused-by, state-by}

-- ---- the fourth question

known : (g : Given) → g.writer < 8 → writer_known g ≡ true
unfolding writer_known
known g h = lt-ltb g.writer 8 h

unknown : (g : Given) → 8 ≤ g.writer → writer_known g ≡ false
unfolding writer_known
unknown g h = le-ltb g.writer 8 h

module _ (l a s : List ℕ) (w r : ℕ) (e : r ≡ ask_state (lent l a s [] [] 0 0) 0) where
  same : r ≡ ask_state (lent l a s [] [] w 0) 0
  same = e ∙ sym (state-only l a s [] [] w 0 0)

  passes : (v : ℕ) → r ≡ 0 → ask_state (lent l a s [] [] w 0) v ≡ v
  passes v z = state-passes (lent l a s [] [] w 0) v (sym same ∙ z)

  pub writer-first : r ≢ 0 → r ≡ ask_writer (lent l a s [] [] w 0) 0
  unfolding ask_writer
  writer-first h = state-refuses (lent l a s [] [] w 0) r _ same h

  pub writer-unknown : r ≡ 0 → 8 ≤ w → 4 ≡ ask_writer (lent l a s [] [] w 0) 0
  unfolding ask_writer
  writer-unknown z h = sym (passes _ z ∙ ask-no _ 4 _ (unknown (lent l a s [] [] w 0) h))

  pub writer-known : r ≡ 0 → w < 8 → 0 ≡ ask_writer (lent l a s [] [] w 0) 0
  unfolding ask_writer
  writer-known z h = sym (passes _ z ∙ ask-yes _ 4 _ (known (lent l a s [] [] w 0) h))

-- ---- the questions of begin and abort

opened : (g : Given) (x : Writer) (b : Bool) → x ≡ writer_of g.state g.writer → b ≡ is_open_now x → b ≡ writer_open g
unfolding writer_open
opened g x b ex eb = eb ∙ ap is_open_now ex

three : (x y z : Bool) (r v : ℕ) → r ≡ ask x 1 (ask y 2 (ask z 4 0)) → r ≢ 0 → r ≡ ask x 1 (ask y 2 (ask z 4 v))
unfolding ask
three true true true r v e h = absurd (h e)
three true true false r v e h = e
three true false z r v e h = e
three false y z r v e h = e

all_three : (x y z : Bool) (v : ℕ) → ask x 1 (ask y 2 (ask z 4 0)) ≡ 0 → ask x 1 (ask y 2 (ask z 4 v)) ≡ v
unfolding ask
all_three true true true v e = refl
all_three true true false v e = absurd (omega arith)
all_three true false z v e = absurd (omega arith)
all_three false y z v e = absurd (omega arith)

refuses : (g : Given) (r v : ℕ) → r ≡ ask_writer g 0 → r ≢ 0 → r ≡ ask_writer g v
unfolding ask_writer ask_state
refuses g r v e h = three (areas_right g && state_right g) (state_in_order g) (writer_known g) r v e h

lets : (g : Given) (r v : ℕ) → r ≡ ask_writer g 0 → r ≡ 0 → ask_writer g v ≡ v
unfolding ask_writer ask_state
lets g r v e z = all_three (areas_right g && state_right g) (state_in_order g) (writer_known g) v (sym e ∙ z)

module _ (g : Given) (r : ℕ) (e : r ≡ ask_writer g 0) where
  pub begin-first : r ≢ 0 → r ≡ begin_answer g
  unfolding begin_answer ask_writer
  begin-first h = refuses g r _ e h

  pub abort-first : r ≢ 0 → r ≡ abort_answer g
  unfolding abort_answer ask_writer
  abort-first h = refuses g r _ e h

  module _ (x : Writer) (b : Bool) (z : r ≡ 0) (ex : x ≡ writer_of g.state g.writer) (eb : b ≡ is_open_now x) where
    pub begin-opened : b ≡ true → 6 ≡ begin_answer g
    unfolding begin_answer ask_writer
    begin-opened t = sym (lets g r _ e z ∙ ask-no _ 6 0 (ap not (sym (opened g x b ex eb) ∙ t)))

    pub begin-idle : b ≡ false → 0 ≡ begin_answer g
    unfolding begin_answer ask_writer
    begin-idle t = sym (lets g r _ e z ∙ ask-yes _ 6 0 (ap not (sym (opened g x b ex eb) ∙ t)))

    pub abort-idle : not b ≡ true → 7 ≡ abort_answer g
    unfolding abort_answer ask_writer
    abort-idle t = sym (lets g r _ e z ∙ ask-no _ 7 0 (sym (opened g x b ex eb) ∙ not-true b t))

    pub abort-opened : not b ≡ false → 0 ≡ abort_answer g
    unfolding abort_answer ask_writer
    abort-opened t = sym (lets g r _ e z ∙ ask-yes _ 7 0 (sym (opened g x b ex eb) ∙ not-false b t))

-- ---- the questions of reserve: those of begin, and one more

four : (x y z o : Bool) (r v : ℕ) → r ≡ ask x 1 (ask y 2 (ask z 4 (ask o 6 0))) → r ≢ 0 → r ≡ ask x 1 (ask y 2 (ask z 4 (ask o 6 v)))
unfolding ask
four true true true true r v e h = absurd (h e)
four true true true false r v e h = e
four true true false o r v e h = e
four true false z o r v e h = e
four false y z o r v e h = e

all-four : (x y z o : Bool) (v : ℕ) → ask x 1 (ask y 2 (ask z 4 (ask o 6 0))) ≡ 0
    → (ask x 1 (ask y 2 (ask z 4 (ask o 6 v))) ≡ v) × (ask x 1 (ask y 2 0) ≡ 0)
unfolding ask
all-four true true true true v e = (refl, refl)
all-four true true true false v e = absurd (omega arith)
all-four true true false o v e = absurd (omega arith)
all-four true false z o v e = absurd (omega arith)
all-four false y z o v e = absurd (omega arith)

module _ (g : Given) (n r : ℕ) (e : r ≡ begin_answer g) where
  pub reserve-first : r ≢ 0 → r ≡ reserve_answer g n
  unfolding begin_answer reserve_answer ask_state
  reserve-first h = four (areas_right g && state_right g) (state_in_order g) (writer_known g) (not (writer_open g)) r _ e h

  module _ (z : r ≡ 0) where
    begun-asks : (v : ℕ) → (ask (areas_right g && state_right g) 1 (ask (state_in_order g) 2 (ask (writer_known g) 4 (ask (not (writer_open g)) 6 v))) ≡ v)
        × (ask (areas_right g && state_right g) 1 (ask (state_in_order g) 2 0) ≡ 0)
    unfolding begin_answer ask_state
    begun-asks v = all-four (areas_right g && state_right g) (state_in_order g) (writer_known g) (not (writer_open g)) v (sym e ∙ z)

    pub reserve-usable : Usable g.log g.area g.state
    unfolding ask_state
    reserve-usable = state-usable g (begun-asks 0).1

    pub reserve-groups : (st : State) → st ≡ state_of g.state → (length g.state ≡ 1024) × GroupsInOrder st × (st ≡ state_of g.state)
    reserve-groups st es = (reserve-usable.state-length, usable-groups g.log g.area g.state st reserve-usable es, es)

    module _ (b : Bool) (eb : b ≡ may_promise g.state n) where
      pub reserve-beyond : not b ≡ true → 17 ≡ reserve_answer g n
      unfolding reserve_answer ask_state
      reserve-beyond t = sym ((begun-asks _).0 ∙ ask-no _ 17 0 (sym eb ∙ not-true b t))

      pub reserve-within : not b ≡ false → 0 ≡ reserve_answer g n
      unfolding reserve_answer ask_state
      reserve-within t = sym ((begun-asks _).0 ∙ ask-yes _ 17 0 (sym eb ∙ not-false b t))

-- ---- what an answer of 0 gives

state-sized : (g : Given) → InUse g → length g.state ≡ 1024
unfolding state_right
state-sized g u = eqb-true (length g.state) 1024 u.state_fits

writer-below : (g : Given) → writer_known g ≡ true → g.writer < 8
unfolding writer_known
writer-below g h = ltb-true g.writer 8 h

pub writer-fits : (g : Given) (r : ℕ) → r ≡ ask_writer g 0 → r ≡ 0 → (length g.state ≡ 1024) × (g.writer < 8)
unfolding ask_writer ask_state state_right
writer-fits g r e z =
    let a = ask-passed (areas_right g && state_right g) 0 (ask (state_in_order g) 2 (ask (writer_known g) 4 0)) (sym e ∙ z) in
    let b = ask-passed (state_in_order g) 1 (ask (writer_known g) 4 0) a.1 in
    let c = ask-passed (writer_known g) 3 0 b.1 in
    let d = and-true (areas_right g) (state_right g) a.0 in
    (eqb-true (length g.state) 1024 d.1, writer-below g c.0)

pub begin-fits : (g : Given) (r : ℕ) → r ≡ begin_answer g → r ≡ 0 → (length g.state ≡ 1024) × (g.writer < 8)
begin-fits g r e z =
    let h = begin-ready g (sym e ∙ z) in
    (state-sized g h.0, writer-below g h.1)

pub reserve-fits : (g : Given) (n r : ℕ) → r ≡ reserve_answer g n → r ≡ 0 → (length g.state ≡ 1024) × (g.writer < 8)
reserve-fits g n r e z =
    let h = reserve-ready g n (sym e ∙ z) in
    (state-sized g h.0, writer-below g h.1)

pub abort-fits : (g : Given) (r : ℕ) → r ≡ abort_answer g → r ≡ 0 → (length g.state ≡ 1024) × (g.writer < 8)
abort-fits g r e z =
    let h = abort-ready g (sym e ∙ z) in
    (state-sized g h.0, writer-below g h.1)

pub confirm-fits : (g : Given) (r : ℕ) → r ≡ ask_state g 0 → r ≡ 0 → length g.state ≡ 1024
unfolding confirm_answer
confirm-fits g r e z = state-sized g (confirm-ready g (sym e ∙ z))

-- ---- how they end

module _ (g : Given) (r : ℕ) (code figure size : ℕ) where
  pub begin-refused : r ≡ begin_answer g → r ≢ 0 → code ≡ r → figure ≡ 0 → size ≡ 0
      → leaves_everything code figure size g.log g.area g.state g.newest g.block g.batch ≡ begin_call g
  unfolding begin_call
  begin-refused e h c f n = refused-by g (begin_effect g) (begin_answer g) code figure size (c ∙ e) (λ z. h (sym c ∙ z)) f n

  pub reserve-refused : (k : ℕ) → r ≡ reserve_answer g k → r ≢ 0 → code ≡ r → figure ≡ 0 → size ≡ 0
      → leaves_everything code figure size g.log g.area g.state g.newest g.block g.batch ≡ reserve_call g k
  unfolding reserve_call
  reserve-refused k e h c f n = refused-by g (reserve_effect g k) (reserve_answer g k) code figure size (c ∙ e) (λ z. h (sym c ∙ z)) f n

  pub abort_refused : r ≡ abort_answer g → r ≢ 0 → code ≡ r → figure ≡ 0 → size ≡ 0
      → leaves_everything code figure size g.log g.area g.state g.newest g.block g.batch ≡ abort_call g
  unfolding abort_call
  abort_refused e h c f n = refused-by g (abort_effect g) (abort_answer g) code figure size (c ∙ e) (λ z. h (sym c ∙ z)) f n

  pub confirm-refused : r ≡ ask_state g 0 → r ≢ 0 → code ≡ r → figure ≡ 0 → size ≡ 0
      → leaves_everything code figure size g.log g.area g.state g.newest g.block g.batch ≡ confirm_call g
  unfolding confirm_call confirm_answer
  confirm-refused e h c f n = refused-by g (confirm_effect g) (ask_state g 0) code figure size (c ∙ e) (λ z. h (sym c ∙ z)) f n

  pub begin-done : (s : List ℕ) → r ≡ begin_answer g → r ≡ 0 → s ≡ set_writer g.state g.writer begun → code ≡ 0
      → figure ≡ 0 → size ≡ 0 → leaves_everything code figure size g.log g.area s g.newest g.block g.batch ≡ begin_call g
  unfolding begin_call begin_effect
  begin-done s e z es c f n =
      state-by g (set_writer g.state g.writer begun) (begin_answer g) 0 code figure size s (sym e ∙ z) c f n es

  pub reserve-done : (k : ℕ) (s₁ s : List ℕ) → r ≡ reserve_answer g k → r ≡ 0 → s₁ ≡ set_writer g.state g.writer begun
      → s ≡ set_promise s₁ g.writer k → code ≡ 0
      → figure ≡ 0 → size ≡ 0 → leaves_everything code figure size g.log g.area s g.newest g.block g.batch ≡ reserve_call g k
  unfolding reserve_call reserve_effect
  reserve-done k s₁ s e z e₁ es c f n =
      state-by g (set_promise (set_writer g.state g.writer begun) g.writer k) (reserve_answer g k) 0 code figure size s (sym e ∙ z) c f n
      (es ∙ rw e₁)

  pub abort-done : (s₁ s : List ℕ) → r ≡ abort_answer g → r ≡ 0 → s₁ ≡ set_writer g.state g.writer idle
      → s ≡ set_promise s₁ g.writer 0 → code ≡ 0
      → figure ≡ 0 → size ≡ 0 → leaves_everything code figure size g.log g.area s g.newest g.block g.batch ≡ abort_call g
  unfolding abort_call abort_effect
  abort-done s₁ s e z e₁ es c f n =
      state-by g (set_promise (set_writer g.state g.writer idle) g.writer 0) (abort_answer g) 0 code figure size s (sym e ∙ z) c f n
      (es ∙ rw e₁)

  pub confirm-done : (st : State) (s : List ℕ) → r ≡ ask_state g 0 → r ≡ 0 → st ≡ state_of g.state → s ≡ set_durable g.state st.fenced
      → code ≡ 0 → figure ≡ st.fenced → size ≡ 0 → leaves_everything code figure size g.log g.area s g.newest g.block g.batch ≡ confirm_call g
  unfolding confirm_call confirm_answer confirm_effect
  confirm-done st s e z et es c f n =
      let k : st.fenced ≡ (state_of g.state).fenced = ap (λ (t : State). t.fenced) et in
      state-by g (set_durable g.state (state_of g.state).fenced) (ask_state g 0) (state_of g.state).fenced code figure size s (sym e ∙ z)
      c
      (f ∙ k)
      n
      (es ∙ ap (set_durable g.state) k)
