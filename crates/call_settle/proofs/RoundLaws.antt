-- Rounds: whether one is under way, what a step's homes and records are, and how the two calls end. Assumes nothing.
use mathlib.Core.Path.{◌≡◌, refl, sym, ap, ◌∙◌}
use mathlib.Core.Logic.{◌≢◌}
use mathlib.Core.Bool.{Bool, true, false, cond, not, ◌&&◌}
use mathlib.Core.List.{List, [], ◌∷◌, ◌++◌, append-nil}
use Prim.Native.Nat.{ℕ, zero, suc, ◌+◌, ◌-◌, ◌*◌, ◌≤◌, ◌<◌}
use native.Mathlib.Omega.{arith}
use lib.Dec.{leb, ltb}
use lib.ListN.{length, get_or, take, length-append}
use borrow.Author.Tests.{le-leb, lt-leb, ltb-true, ltb-false}
use Rattle.model.specs.Bytes.{puts}
use Rattle.model.specs.Layout.{group_count, home_count, entry_at}
use Rattle.model.specs.Commit.{transactions}
use Rattle.model.specs.Batch.{FN, record_bytes, batch_bytes}
use Rattle.model.specs.declared.State.{State}
use Rattle.model.specs.State.{state_of, set_round, set_cursor, under_way, fixed_in}
use Rattle.model.specs.Effects.{Given, marked, home_writes, touched_from, restored_homes, live_tags, live_base, round_transactions, round_homes, round_ended, round_moved, step_homes, begin_round_effect, step_round_effect, tags_of}
use Rattle.model.specs.Questions.{ask, ask_state, batch_fits, in_round, begin_round_answer, step_round_answer}
use Rattle.model.specs.Calls.{size_of, begin_round_call, step_round_call}
use Rattle.model_laws.proofs.bytes.ByteLaws.{puts-append}
use Rattle.model_laws.proofs.state.BatchLaws.{batch-one, batch-append, length-FN}
use Rattle.model_laws.proofs.state.OrderLaws.{InOrder}
use Rattle.model_laws.proofs.state.QuestionLaws.{ask-yes, ask-no}
use Rattle.model_laws.proofs.trace.ReplayLaws.{length-block_at}
use Rattle.model_laws.proofs.trace.RestoreLaws.{length-restored}
use Rattle.base_batch.specs.Within.{Within}
use Rattle.base_batch.proofs.HomeLaws.{length-writes, within-append}
use Rattle.log_scan.specs.Walk.{closed_below}
use Rattle.call_ask.specs.Lent.{lent, leaves}
use Rattle.call_ask.proofs.AnswerLaws.{Usable, state-usable, state-only, state-refuses, state-passes, refused-by, done-by, state-by}
use Rattle.log_tables.specs.Plans.{remaining, StepMade}

-- ---- whether a round is under way

pub round-out : (log area state batch : List ℕ) (st : State) → st ≡ state_of state → st.round ≡ 0 → in_round (lent log area state [] batch 0 0) ≡ false
unfolding in_round under_way
round-out log area state batch st e n = lt-leb 1 (state_of state).round (omega (arith, ap (λ (x : State). x.round) e, n))

pub round-in : (log area state batch : List ℕ) (st : State) → st ≡ state_of state → st.round ≢ 0 → in_round (lent log area state [] batch 0 0) ≡ true
unfolding in_round under_way
round-in log area state batch st e n = le-leb 1 (state_of state).round (omega (arith, ap (λ (x : State). x.round) e, n))

-- ---- a round is begun

module _ (log area state : List ℕ) where
  abbrev g : Given
  g = lent log area state [] [] 0 0

  pub begin-refused : (v code figure size : ℕ) → v ≡ ask_state g 0 → v ≢ 0 → (code ≡ v) × (figure ≡ 0) × (size ≡ 0)
      → leaves code figure size log area state [] [] ≡ begin_round_call g
  unfolding begin_round_call begin_round_answer
  begin-refused v code figure size e h r =
      refused-by g (begin_round_effect g) _ code figure size (r.0 ∙ state-refuses g v _ e h) (λ z. h (sym r.0 ∙ z)) r.1 r.2

  module _ (v : ℕ) (st : State) (e : v ≡ ask_state g 0) (z : v ≡ 0) (f : st ≡ state_of state) where
    begin-asked : (k : ℕ) → ask_state g k ≡ k
    begin-asked k = state-passes g k (sym e ∙ z)

    pub begin-busy : (code figure size : ℕ) → st.round ≢ 0 → (code ≡ 21) × (figure ≡ 0) × (size ≡ 0)
        → leaves code figure size log area state [] [] ≡ begin_round_call g
    unfolding begin_round_call begin_round_answer
    begin-busy code figure size n r =
        refused-by g (begin_round_effect g) _ code figure size
        (r.0 ∙ sym (begin-asked _ ∙ ask-no _ 21 0 (ap not (round-in log area state [] st f n)))) (λ y. let w = r.0 in omega arith) r.1 r.2

    pub begin-done : (code figure size : ℕ) (s : List ℕ) → st.round ≡ 0 → (code ≡ 0) × (figure ≡ 0) × (size ≡ 0)
        → s ≡ set_cursor (set_round state (st.fenced + 1)) 0 → leaves code figure size log area s [] [] ≡ begin_round_call g
    unfolding begin_round_call begin_round_answer begin_round_effect
    begin-done code figure size s n r es =
        state-by g (set_cursor (set_round state ((state_of state).fenced + 1)) 0) _ 0 code figure size s
        (begin-asked _ ∙ ask-yes _ 21 0 (ap not (round-out log area state [] st f n))) r.0 r.1 r.2 (es ∙ rw f)

-- ---- a step's homes

within-below : (a : List ℕ) (f : ℕ → Bool) (n m : ℕ) → n ≤ m → 64 * m ≤ length a → Within a (marked f n)
unfolding marked
within-below a f zero m l k = tt
within-below a f (suc n) m l k = within-append a (marked f n) (cond (f n) (n ∷ []) []) (within-below a f n m (omega arith) k) (go (f n))
  where
    go : (b : Bool) → Within a (cond b (n ∷ []) [])
    go true = (omega arith, tt)
    go false = tt

within-take : (a : List ℕ) (k : ℕ) (hs : List ℕ) → Within a hs → Within a (take k hs)
within-take a zero hs w = tt
within-take a (suc k) [] w = tt
within-take a (suc k) (h ∷ hs) w = (w.0, within-take a k hs w.1)

-- the last step's records end with a fence
pub ended-two : (log : List ℕ) (groups homes start end cursor limit size next : ℕ) (more : Bool) (area batch a b : List ℕ)
    → StepMade log groups homes start end cursor limit size next more area batch a b → more ≡ false → 2 ≤ size
ended-two log groups homes start end cursor limit size next more area batch a b m t =
    let l : leb (length (remaining log groups homes start end cursor)) limit ≡ true =
    le-leb (length (remaining log groups homes start end cursor)) limit
    (ltb-false limit (length (remaining log groups homes start end cursor)) (sym m.left ∙ t)) in
    omega (arith, m.sized ∙ ap (λ (b : Bool). 68 * length (take limit (remaining log groups homes start end cursor)) + cond {A = ℕ} b 2 0) l)

module _ (log area state batch : List ℕ) (k : ℕ) where
  abbrev stepping : Given
  stepping = lent log area state [] batch 0 0

  pub step-refused : (v code figure size : ℕ) → v ≡ ask_state (lent log area state [] [] 0 0) 0 → v ≢ 0
      → (code ≡ v) × (figure ≡ 0) × (size ≡ 0) → leaves code figure size log area state [] batch ≡ step_round_call stepping k
  unfolding step_round_call step_round_answer
  step-refused v code figure size e h r =
      refused-by stepping (step_round_effect stepping k) _ code figure size
      (r.0 ∙ state-refuses stepping v _ (e ∙ sym (state-only log area state [] batch 0 0 0)) h) (λ z. h (sym r.0 ∙ z)) r.1 r.2

  module _ (v : ℕ) (st : State) (e : v ≡ ask_state (lent log area state [] [] 0 0) 0) (z : v ≡ 0) (f : st ≡ state_of state) where
    step-asked : (n : ℕ) → ask_state stepping n ≡ n
    step-asked n = state-passes stepping n (state-only log area state [] batch 0 0 0 ∙ sym e ∙ z)

    order : InOrder state (group_count (length log)) (home_count (length area))
    order = (state-usable (lent log area state [] [] 0 0) (sym e ∙ z)).order

    usable : Usable log area state
    usable = state-usable (lent log area state [] [] 0 0) (sym e ∙ z)

    refused-21 : (code figure size : ℕ) → (in_round stepping && leb 1 k) ≡ false → (code ≡ 21) × (figure ≡ 0) × (size ≡ 0)
        → leaves code figure size log area state [] batch ≡ step_round_call stepping k
    unfolding step_round_call step_round_answer
    refused-21 code figure size n r =
        refused-by stepping (step_round_effect stepping k) _ code figure size (r.0 ∙ sym (step-asked _ ∙ ask-no _ 21 _ n))
        (λ y. let w = r.0 in omega arith) r.1 r.2

    pub step-none : (code figure size : ℕ) → st.round ≡ 0 → (code ≡ 21) × (figure ≡ 0) × (size ≡ 0)
        → leaves code figure size log area state [] batch ≡ step_round_call stepping k
    step-none code figure size n r = refused-21 code figure size (rw (round-out log area state batch st f n)) r

    pub step-zero : (code figure size : ℕ) → st.round ≢ 0 → k ≡ 0 → (code ≡ 21) × (figure ≡ 0) × (size ≡ 0)
        → leaves code figure size log area state [] batch ≡ step_round_call stepping k
    step-zero code figure size n y r =
        refused-21 code figure size (rw (round-in log area state batch st f n, lt-leb 1 k (omega arith))) r

    module _ (end size next : ℕ) (more : Bool) (a d : List ℕ) (n : st.round ≢ 0) (o : k ≢ 0)
        (below : closed_below log st.groups st.homes st.start end
        ≡ transactions (entry_at log st.groups st.homes st.start) (7 * st.start) (st.round - 1 - 7 * st.start))
        (m : StepMade log st.groups st.homes st.start end st.cursor k size next more area batch a d) where
      abbrev due : List ℕ
      due = round_homes (lent log area state [] batch 0 0)

      abbrev brought : List ℕ
      brought =
          restored_homes log (group_count (length log)) (live_tags (lent log area state [] batch 0 0)) (round_transactions (lent log area state [] batch 0 0))
          (take k (round_homes (lent log area state [] batch 0 0))) area

      made : StepMade log (group_count (length log)) (home_count (length area)) (state_of state).start end (state_of state).cursor k size next more area batch a d
      made = rw (f, order.groups-same, order.homes_same) at m

      closed : closed_below log (group_count (length log)) (home_count (length area)) (state_of state).start end ≡ round_transactions stepping
      unfolding round_transactions live_tags tags_of live_base fixed_in
      closed = rw (f, order.groups-same, order.homes_same) at below

      due-is : remaining log (group_count (length log)) (home_count (length area)) (state_of state).start end (state_of state).cursor ≡ due
      unfolding round_homes live_tags tags_of
      due-is =
          ap
          (λ (ts : List (List ℕ)).
          touched_from (entry_at log (group_count (length log)) (home_count (length area)) (state_of state).start) ts (state_of state).cursor (home_count (length area)))
          closed

      sized : size ≡ 68 * length (take k due) + cond (leb (length due) k) 2 0
      sized = rw due-is at made.sized

      copied : size ≤ length batch → a ≡ brought
      unfolding live_tags tags_of
      copied h = rw (due-is, closed) at (made.copied h)

      written : size ≤ length batch → d ≡ puts batch 0 (batch_bytes (home_writes a (take k due)))
      written h = rw due-is at (made.written h)

      left : more ≡ ltb k (length due)
      left = rw due-is at made.left

      brought-size : length brought ≡ 64 * home_count (length area)
      brought-size =
          length-restored log (group_count (length log)) (home_count (length area)) _ _
          (λ p. length-block_at log (group_count (length log)) p (omega (arith, usable.groups-least)) usable.log-length) (take k due) area
          ∙ usable.area-length

      inside : Within brought (take k due)
      unfolding round_homes touched_from
      inside = within-take brought k _ (within-below brought _ (home_count (length area)) (home_count (length area)) (omega arith) (omega (arith, brought-size)))

      homes-size : length (batch_bytes (home_writes brought (take k due))) ≡ 68 * length (take k due)
      homes-size = length-writes brought (take k due) inside

      tail-size : (b : Bool) → length (batch_bytes (cond b (FN ∷ []) [])) ≡ cond b 2 0
      tail-size true = ap length (batch-one FN) ∙ length-FN
      tail-size false = unfold batch_bytes in refl

      records-size : length (batch_bytes (home_writes brought (take k due) ++ cond (leb (length due) k) (FN ∷ []) [])) ≡ size
      records-size =
          ap length (batch-append (home_writes brought (take k due)) (cond (leb (length due) k) (FN ∷ []) []))
          ∙ length-append (batch_bytes (home_writes brought (take k due))) (batch_bytes (cond (leb (length due) k) (FN ∷ []) []))
          ∙ omega (arith, homes-size, tail-size (leb (length due) k), sized)

      size_is : size_of (step_round_effect stepping k) ≡ size
      unfolding size_of step_round_effect step_homes
      size_is = records-size

      length-is : length (batch_bytes (step_round_effect stepping k).records) ≡ size
      unfolding step_round_effect step_homes
      length-is = records-size

      asked : ask_state stepping (ask (in_round stepping && leb 1 k) 21 (ask (batch_fits stepping (size_of (step_round_effect stepping k))) 9 0))
          ≡ ask (batch_fits stepping (size_of (step_round_effect stepping k))) 9 0
      asked = step-asked _ ∙ ask-yes _ 21 _ (rw (round-in log area state batch st f n, le-leb 1 k (omega (arith, o))))

      pub step-short : (code figure told : ℕ) (x y : List ℕ) → length batch < size → (code ≡ 9) × (figure ≡ 0) × (told ≡ 0)
          → x ≡ a → y ≡ d → leaves code figure told log x state [] y ≡ step_round_call stepping k
      unfolding step_round_call step_round_answer batch_fits
      step-short code figure told x y h r ex ey =
          rw (ex ∙ made.same_area h, ey ∙ made.same-batch h)
          (refused-by stepping (step_round_effect stepping k) _ code figure told
          (r.0 ∙ sym (asked ∙ ask-no _ 9 0 (lt-leb (size_of (step_round_effect stepping k)) (length batch) (omega (arith, size_is)))))
          (λ w. let u = r.0 in omega arith) r.1 r.2)

      fits : size ≤ length batch → ask (batch_fits stepping (size_of (step_round_effect stepping k))) 9 0 ≡ 0
      unfolding batch_fits
      fits h = ask-yes _ 9 0 (le-leb (size_of (step_round_effect stepping k)) (length batch) (omega (arith, size_is)))

      pub step-moved : (code figure told : ℕ) (x s y : List ℕ) → size ≤ length batch → more ≡ true
          → (code ≡ 0) × (figure ≡ 0) × (told ≡ size) → x ≡ a → s ≡ set_cursor state next → y ≡ d
          → leaves code figure told log x s [] y ≡ step_round_call stepping k
      unfolding step_round_call step_round_answer step_round_effect step_homes round_moved
      step-moved code figure told x s y h t r ex es ey =
          let l : leb (length due) k ≡ false = lt-leb (length due) k (ltb-true k (length due) (sym left ∙ t)) in
          let q : next ≡ get_or due (k - 1) 0 + 1 = rw due-is at (made.moved h t (omega (arith, o))) in
          done-by stepping (step_round_effect stepping k) _ code figure told log x s [] [] y (asked ∙ fits h)
          r.0 r.1 (r.2 ∙ sym length-is) refl (ex ∙ copied h) (es ∙ rw (q, l)) refl refl
          (ey ∙ written h ∙ rw (copied h, l, append-nil (home_writes brought (take k due))))

      pub step-ended : (code figure told at : ℕ) (x s y : List ℕ) → size ≤ length batch → more ≡ false
          → (code ≡ 0) × (figure ≡ 0) × (told ≡ size) → x ≡ a → s ≡ round_ended state st → y ≡ puts d at (record_bytes FN) → at + 2 ≡ size
          → leaves code figure told log x s [] y ≡ step_round_call stepping k
      unfolding step_round_call step_round_answer step_round_effect step_homes
      step-ended code figure told at x s y h t r ex es ey ea =
          let l : leb (length due) k ≡ true = le-leb (length due) k (ltb-false k (length due) (sym left ∙ t)) in
          let p : 0 + length (batch_bytes (home_writes brought (take k due))) ≡ at = omega (arith, homes-size, sized, ap (λ (b : Bool). cond {A = ℕ} b 2 0) l) in
          done-by stepping (step_round_effect stepping k) _ code figure told log x s [] [] y (asked ∙ fits h)
          r.0 r.1 (r.2 ∙ sym length-is) refl (ex ∙ copied h) (es ∙ rw (f, l)) refl refl
          (ey ∙ rw (written h, copied h, l, batch-append (home_writes brought (take k due)) (FN ∷ []), puts-append, p, batch-one FN))
