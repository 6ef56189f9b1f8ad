-- Demand 3 for the proved runner: its actions are the motions, and so DemandRunner's argument applies to them.
use Prim.Native.Nat.{ℕ, zero, suc, ◌/◌, ◌≤◌}
use mathlib.Core.Path.{◌≡◌, refl, sym, ap, ◌∙◌, subst}
use mathlib.Core.Logic.{inl}
use mathlib.Core.Bool.{Bool, true, false, cond, not, ◌&&◌, false≢true}
use mathlib.Core.List.{List, [], ◌∷◌, ◌++◌, append-nil, append_assoc}
use native.Mathlib.Omega.{arith}
use lib.ListN.{length}
use borrow.Author.Tests.{eq-eqb, ne_eqb}
use Rattle.model.specs.Batch.{Record, GW, HW, KW, FN, batch_bytes}
use Rattle.model.specs.State.{state_of}
use Rattle.model.specs.Effects.{Given, Effect}
use Rattle.model.specs.Calls.{Outcome, done, refused, outcome}
use Rattle.model.specs.Crash.{Memory, fences}
use Rattle.model.specs.History.{Call, call, World, empty_store, unopened, ends, step, is_opening, is_confirm, after_crash, Allowed}
use Rattle.theorems.proofs.invariant.Invariant.{Sizes, Invariant, Running}
use Rattle.theorems.proofs.steps.Beginning.{format-closed}
use Rattle.theorems.proofs.steps.FormatRuns.{after-format, sizes}
use Rattle.theorems.proofs.steps.RefusalLaws.{step-refused}
use Rattle.theorems.proofs.steps.Rows.{ends-row, row-lent}
use Rattle.theorems.proofs.demands.DemandThree.{keeps}
use Rattle.object.specs.Medium.{Grain, words, blocks}
use Rattle.object.specs.Alike.{torn, with_memory, tears, TearingAllowed}
use Rattle.object.specs.Order.{Motion, motions, Left}
use Rattle.object.specs.Runner.{Doing, calls, cuts, Carried}
use Rattle.object.proofs.TornHolds.{keeps-torn}
use Rattle.object.proofs.StretchesOf.{Stretches}
use Rattle.object.proofs.WordsHold.{event-words, torn-words, cut-words, format-words}
use Rattle.object_runner.specs.Next.{cursor}
use Rattle.object_runner.specs.Moves.{Hands, headed_at, headed_after, waiting_after, Due}
use Rattle.object_runner.specs.Always.{batch_of, records_of, next_of, headed_before, BatchDue}
use Rattle.object_runner.specs.Carries.{headed_for, least_after, left_under, AllCarried, RunnerCarries}
use Rattle.object_runner.proofs.MovesHold.{runner-moves}
use Rattle.object_runner.proofs.GoesOnHolds.{blocks-due, motions-go-on}
use Rattle.object_runner.proofs.WaitingLaws.{waiting-blocks}
use Rattle.object_runner.proofs.DueSteps.{headed_of, headed-next}
use Rattle.object_runner.proofs.DueHolds.{WaitsIf, Moment, running, call-due, call-waits}

-- the runner's number: on words that of the last fence, on blocks any that is not beyond the next group
abbrev HeadedOk : Grain → World → ℕ → Type 0
HeadedOk words w headed = headed ≡ headed_of w
HeadedOk blocks w headed = headed ≤ (state_of w.state).next

record Carrying (l : Grain) (G D : ℕ) (w : World) (headed : ℕ) (handed : List Motion) (least : ℕ) : Type 0 where
  holds : Invariant G D w
  stretches : Stretches G D w
  waits : WaitsIf G w
  handed_out : handed ≡ motions l [] w.pending
  number : w.ready ≡ true → HeadedOk l w headed
  carried : Carried l w least

blocks-headed : (headed next : ℕ) (rs : List Record) → headed_after blocks headed next rs ≡ headed
unfolding headed_after headed_at
blocks-headed headed next [] = refl
blocks-headed headed next (GW slot group ∷ rs) = blocks-headed headed next rs
blocks-headed headed next (HW home block ∷ rs) = blocks-headed headed next rs
blocks-headed headed next (KW header ∷ rs) = blocks-headed headed next rs
blocks-headed headed next (FN ∷ rs) = blocks-headed headed next rs

-- more has been carried out
carried-more : (l : Grain) (w : World) (least many : ℕ) → least ≤ many → Carried l w least → Carried l w many
carried-more l w least many h c =
    record { front = c.front; more = c.more; split = c.split; confirmed = c.confirmed; out = omega (arith, c.out) }

-- after an opening
ready_of : (b : Bool) → false ≡ not b → b ≡ true
ready_of true e = refl
ready_of false e = e

-- a refusal has no bytes, and leaves the strip
refused-size : (g : Given) (a n : ℕ) (e : Effect) → (outcome g a e).code ≡ suc n → (outcome g a e).size ≡ 0
unfolding outcome done refused
refused-size g zero n e h = absurd (omega (arith, h))
refused-size g (suc a) n e h = refl

refused-state : (g : Given) (a n : ℕ) (e : Effect) → (outcome g a e).code ≡ suc n → (outcome g a e).state ≡ g.state
unfolding outcome done refused
refused-state g zero n e h = absurd (omega (arith, h))
refused-state g (suc a) n e h = refl

-- for an empty batch the runner is done at once
hands-nothing : (l : Grain) (G D : ℕ) → Sizes G D → (next headed : ℕ) (log : List ℕ) → headed ≤ next → Hands l G D next [] log (cursor 0 headed 0) [] headed
unfolding batch_bytes motions headed_after
hands-nothing l G D z next headed log h = runner-moves l G D next headed log [] [] (omega (arith, z.low)) z.high z.homes h tt tt

-- what one call shows: the runner's actions for its batch, and where they leave it
record Handing (l : Grain) (G D : ℕ) (w : World) (headed : ℕ) (handed : List Motion) (least : ℕ) (c : Call) : Type 0 where
  actions : List Motion
  on : ℕ
  hands : Hands l G D (next_of (ends w c)) (batch_of (ends w c)) (ends w c).log (cursor 0 (headed_for c (ends w c) headed) 0) actions on
  goes_further : handed ++ actions ≡ motions l [] (step w (call c)).pending
  next : Carrying l G D (step w (call c)) on (handed ++ actions) (least_after c (ends w c) handed least)

module _ (l : Grain) (G D : ℕ) (z : Sizes G D) (w : World) (headed : ℕ) (handed : List Motion) (least : ℕ) (k : Carrying l G D w headed handed least) (c : Call)
    (a : Allowed w (call c)) where
  abbrev o : Outcome
  o = ends w c

  abbrev h₀ : ℕ
  h₀ = headed_for c (ends w c) headed

  runs : Carried l (step w (call c)) (least_after c (ends w c) handed least) → (ms : List Motion) (on : ℕ) → handed ++ ms ≡ motions l [] (step w (call c)).pending
      → ((step w (call c)).ready ≡ true → HeadedOk l (step w (call c)) on)
      → Carrying l G D (step w (call c)) on (handed ++ ms) (least_after c (ends w c) handed least)
  runs y ms on e n =
      record {
        holds = (keeps G D z w k.holds (call c) a).0;
        stretches = event-words G D z w k.holds k.stretches (call c) a;
        waits = call-waits G D z w k.holds k.waits c a;
        handed_out = e;
        number = n;
        carried = y;
      }

  -- ---- a done call

  module _ (h : (ends w c).code ≡ 0) where
    t : Moment G D w c
    t = call-due G D z w k.holds k.waits c a h

    d : BatchDue l G D w c
    d = t.due l

    abbrev rs : List Record
    rs = records_of (ends w c)

    number-now : is_opening c ≡ false → HeadedOk l w headed
    number-now q = k.number (ready_of w.ready (sym q ∙ a))

    -- on words the runner's number is that of the last fence
    words-number : l ≡ words → h₀ ≡ headed_before w c
    unfolding headed_for headed_before
    words-number e = go (is_opening c) refl
      where
        go : (b : Bool) → is_opening c ≡ b → cond b (next_of o) headed ≡ cond b (next_of o) ((state_of w.state).fenced / 7)
        go true q = refl
        go false q = subst (λ (g : Grain). HeadedOk g w headed) e (number-now q)

    -- on blocks it is not beyond the next group
    blocks-number : l ≡ blocks → h₀ ≤ next_of (ends w c)
    unfolding headed_for
    blocks-number e = go (is_opening c) refl
      where
        go : (b : Bool) → is_opening c ≡ b → cond b (next_of o) headed ≤ next_of o
        go true q = omega arith
        go false q =
            let x : headed ≤ (state_of w.state).next = subst (λ (g : Grain). HeadedOk g w headed) e (number-now q) in
            omega (arith, x, t.grows q)

    low : h₀ ≤ next_of (ends w c)
    low = go l refl
      where
        go : (g : Grain) → l ≡ g → h₀ ≤ next_of (ends w c)
        go words e = rw (words-number e) d.low
        go blocks e = blocks-number e

    due : Due l G (ends w c).log (next_of (ends w c)) h₀ (waiting_after l [] w.pending) rs
    due = go l refl
      where
        go : (g : Grain) → l ≡ g → Due l G (ends w c).log (next_of (ends w c)) h₀ (waiting_after l [] w.pending) rs
        go words e = rw (words-number e) d.due
        go blocks e =
            rw e (rw (waiting-blocks w.pending) (blocks-due G (next_of (ends w c)) h₀ (ends w c).log rs))

    abbrev ms : List Motion
    ms = motions l (waiting_after l [] w.pending) (records_of (ends w c))

    abbrev on : ℕ
    on = headed_after l (headed_for c (ends w c) headed) (next_of (ends w c)) (records_of (ends w c))

    hands_out : Hands l G D (next_of (ends w c)) (batch_of (ends w c)) (ends w c).log (cursor 0 h₀ 0) ms on
    hands_out =
        subst (λ (bs : List ℕ). Hands l G D (next_of (ends w c)) bs (ends w c).log (cursor 0 h₀ 0) ms on) (sym d.bytes)
        (runner-moves l G D (next_of (ends w c)) h₀ (ends w c).log (waiting_after l [] w.pending) rs (omega (arith, z.low)) z.high z.homes low d.fitting due)

    pending-is : (step w (call c)).pending ≡ w.pending ++ rs
    pending-is = ap (λ (x : World). x.pending) t.read ∙ ap (λ (x : List Record). w.pending ++ x) (sym t.records)

    goes_on : handed ++ ms ≡ motions l [] (step w (call c)).pending
    goes_on =
        ap (λ (x : List Motion). x ++ ms) k.handed_out ∙ sym (motions-go-on l w.pending rs) ∙ sym (ap (motions l []) pending-is)

    state-is : (step w (call c)).state ≡ (ends w c).state
    state-is = ap (λ (x : World). x.state) t.read ∙ sym t.state

    number-on : HeadedOk l (step w (call c)) on
    number-on = go l refl
      where
        go : (g : Grain) → l ≡ g → HeadedOk g (step w (call c)) on
        go words e =
            rw (e, words-number e) (d.headed ∙ sym (ap (λ (x : List ℕ). (state_of x).fenced / 7) state-is))
        go blocks e =
            let x : next_of (ends w c) ≡ (state_of (step w (call c)).state).next = unfold next_of in sym (ap (λ (x : List ℕ). (state_of x).next) state-is) in
            let y : on ≡ h₀ = rw e (blocks-headed h₀ (next_of (ends w c)) rs) in
            omega (arith, x, y, blocks-number e)

    passed_is : (step w (call c)).passed ≡ cond (is_confirm c) (fences w.pending) w.passed
    passed_is = ap (λ (x : World). x.passed) t.read

    carried_on : Carried l (step w (call c)) (least_after c (ends w c) handed least)
    unfolding least_after
    carried_on = rw (h, eq-eqb 0 0 refl) (go (is_confirm c) refl)
      where
        go : (b : Bool) → is_confirm c ≡ b → Carried l (step w (call c)) (cond (b && true) (length handed) least)
        go true q =
            record {
              front = w.pending;
              more = rs;
              split = pending-is;
              confirmed = rw (passed_is, q) (omega arith);
              out = rw k.handed_out (omega arith);
            }
        go false q =
            let y = k.carried in
            record {
              front = y.front;
              more = y.more ++ rs;
              split = pending-is ∙ ap (λ (x : List Record). x ++ rs) y.split ∙ append_assoc y.front y.more rs;
              confirmed = rw (passed_is, q) y.confirmed;
              out = y.out;
            }

    done-hands : Handing l G D w headed handed least c
    done-hands =
        record { actions = ms; on = on; hands = hands_out; goes_further = goes_on; next = runs carried_on ms on goes_on (λ x. number-on) }

  -- ---- a refused call: nothing to write, and nothing has changed

  module _ (n : ℕ) (h : (ends w c).code ≡ suc n) where
    same-world : step w (call c) ≡ w
    same-world = step-refused w c n h

    nothing : batch_of (ends w c) ≡ []
    unfolding batch_of
    nothing =
        let e : (ends w c).size ≡ 0 = ap (λ (x : Outcome). x.size) (ends-row w c) ∙ refused-size _ _ n _ (sym (ap (λ (x : Outcome). x.code) (ends-row w c)) ∙ h) in
        rw e

    low-refused : h₀ ≤ next_of (ends w c)
    unfolding headed_for next_of
    low-refused = go (is_opening c) refl
      where
        go : (b : Bool) → is_opening c ≡ b → cond b (state_of (ends w c).state).next headed ≤ (state_of (ends w c).state).next
        go true q = omega arith
        go false q =
            let e : (ends w c).state ≡ w.state =
            ap (λ (x : Outcome). x.state) (ends-row w c) ∙ refused-state _ _ n _ (sym (ap (λ (x : Outcome). x.code) (ends-row w c)) ∙ h) ∙ (row-lent w c q).state in
            rw e (below l refl (k.number (ready_of w.ready (sym q ∙ a))))
          where
            below : (g : Grain) → l ≡ g → HeadedOk g w headed → headed ≤ (state_of w.state).next
            below words e x =
                let r : Running G D w = running G D w k.holds (ready_of w.ready (sym q ∙ a)) in
                omega (arith, x, headed-next G D w r)
            below blocks e x = x

    same-carried : Carried l (step w (call c)) (least_after c (ends w c) handed least)
    unfolding least_after
    same-carried = rw (same-world, h, ne_eqb (suc n) 0 (λ e. omega (arith, e))) (go (is_confirm c))
      where
        go : (b : Bool) → Carried l w (cond (b && false) (length handed) least)
        go true = k.carried
        go false = k.carried

    refused-hands : Handing l G D w headed handed least c
    refused-hands =
        record {
          actions = [];
          on = h₀;
          hands =
              subst (λ (bs : List ℕ). Hands l G D (next_of (ends w c)) bs (ends w c).log (cursor 0 h₀ 0) [] h₀) (sym nothing)
              (hands-nothing l G D z (next_of (ends w c)) h₀ (ends w c).log low-refused);
          goes_further = goes;
          next = runs same-carried [] h₀ goes number-on;
        }
      where
        goes : handed ++ [] ≡ motions l [] (step w (call c)).pending
        goes = append-nil handed ∙ k.handed_out ∙ sym (ap (λ (x : World). motions l [] x.pending) same-world)

        number-on : (step w (call c)).ready ≡ true → HeadedOk l (step w (call c)) h₀
        number-on = rw same-world (λ x. go x (is_opening c) refl)
          where
            go : w.ready ≡ true → (b : Bool) → is_opening c ≡ b → HeadedOk l w h₀
            go x true q = absurd (false≢true (sym (ap not x) ∙ sym a ∙ q))
            go x false q = let e : h₀ ≡ headed = unfold headed_for in rw q in subst (HeadedOk l w) (sym e) (k.number x)

  call-hands : Handing l G D w headed handed least c
  call-hands = go (ends w c).code refl
    where
      go : (n : ℕ) → (ends w c).code ≡ n → Handing l G D w headed handed least c
      go zero h = done-hands h
      go (suc n) h = refused-hands n h

-- ---- cuts, and every history

module _ (l : Grain) (G D : ℕ) (z : Sizes G D) where
  -- nothing has been handed out since a cut
  begun : (w : World) → Invariant G D w → Stretches G D w → w.pending ≡ [] → w.passed ≡ 0 → w.ready ≡ false → Carrying l G D w 0 [] 0
  begun w i s p q n =
      record {
        holds = i;
        stretches = s;
        waits = λ x. absurd (false≢true (sym n ∙ x));
        handed_out = sym (ap (motions l []) p ∙ (unfold motions in refl));
        number = λ x. absurd (false≢true (sym n ∙ x));
        carried = record { front = []; more = []; split = p; confirmed = rw q (omega arith); out = unfold motions in (omega arith) };
      }

  all-carried : (ds : List Doing) (w : World) (headed : ℕ) (handed : List Motion) (least : ℕ) → Carrying l G D w headed handed least
      → AllCarried l G D w headed handed least ds
  all-carried [] w headed handed least k = tt
  all-carried (calls c ∷ ds) w headed handed least k = λ a.
      let x = call-hands l G D z w headed handed least k c a in
      ((keeps G D z w k.holds (call c) a).1, x.actions, x.on, x.hands, x.goes_further, all-carried ds _ _ _ _ x.next)
  all-carried (cuts many chosen ∷ ds) w headed handed least k = λ x.
      let y = carried-more l w least many x k.carried in
      let i = k.holds in
      let s = k.stretches in
      let q = cut-words G D z w i s l many chosen in
      let low : fences y.front ≤ q.passed = q.least y.front y.more y.split y.out in
      let t = torn q.passed q.chosen (Left l w many chosen) in
      let a : TearingAllowed G w t = (omega (arith, y.confirmed), q.most, q.alike) in
      let n = keeps-torn G D z w i t a in
      let e : left_under l w.memory handed many chosen ≡ Left l w many chosen = ap (λ (m : List Motion). left_under l w.memory m many chosen) k.handed_out in (
        q.passed,
        q.chosen,
        q.most,
        q.least,
        n.1,
        subst (λ (m : Memory). AllCarried l G D (tears w (torn q.passed q.chosen m)) 0 [] 0 ds) (sym e)
            (all-carried ds (tears w t) 0 [] 0 (begun (tears w t) n.0 (torn-words G D z w i s t a) (unfold tears with_memory after_crash in refl) (unfold tears with_memory after_crash in refl) (unfold tears with_memory after_crash in refl))),
      )

pub runner-carries : RunnerCarries
runner-carries l G D f ds =
    rw (after-format f)
    (all-carried l G D (sizes f) ds (empty_store G D) 0 [] 0
    (begun l G D (sizes f) (empty_store G D) (inl (format-closed G D (sizes f))) (format-words G D (sizes f)) (unfold empty_store unopened in refl) (unfold empty_store unopened in refl)
    (unfold empty_store unopened in refl)))
