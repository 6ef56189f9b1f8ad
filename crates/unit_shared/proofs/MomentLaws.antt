-- A call on a unit leaves what its step in a history leaves. Assumes nothing.
use Prim.Native.Nat.{ℕ, zero, suc, ◌*◌}
use mathlib.Core.Path.{◌≡◌, refl, sym, ap, ◌∙◌, subst}
use mathlib.Core.Bool.{cond}
use mathlib.Core.List.{List, [], ◌++◌, append-nil}
use native.Mathlib.Omega.{arith}
use lib.Dec.{eqb}
use lib.ListN.{take}
use borrow.Author.Tests.{ne_eqb}
use Rattle.model.specs.Bytes.{zeros}
use Rattle.model.specs.Batch.{read_batch, read_records}
use Rattle.model.specs.Calls.{Outcome}
use Rattle.model.specs.History.{World, lent}
use Rattle.acts.specs.Units.{transacts, transact_ends, revise_ends, act, acted, left_under as left_in}
use Rattle.unit_events.proofs.PromisesHold.{refusals-stay}
use Rattle.unit_events.specs.Folded.{offers, first, read_for, event_answer, storing, acts_of, answered, stepped}
use Rattle.unit_shared.specs.Unit.{UnitOutcome, Judged, as_judged, untouched, left_under, revised, transacted, stored, after_reading, event}
use Rattle.unit_shared.specs.Moments.{lent_in, Leaves, EventStands, SetStands}

none_read : (w : World) (batch : List ℕ) → w.pending ++ read_batch (take 0 batch) ≡ w.pending
unfolding read_batch read_records
none_read w batch = append-nil w.pending

-- a refusal, where the world stays
leaves_none : (w v : World) (batch : List ℕ) (code : ℕ) → v ≡ w → Leaves w v (untouched (lent_in w batch) code 0)
unfolding untouched
leaves_none w v batch code e =
    record {
      log = ap (λ (u : World). u.log) e;
      area = ap (λ (u : World). u.area) e;
      state = ap (λ (u : World). u.state) e;
      newest = ap (λ (u : World). u.newest) e;
      pending = ap (λ (u : World). u.pending) e ∙ sym (none_read w batch);
    }

-- a transaction
leaves_all : (w : World) (writer home : ℕ) (blocks batch : List ℕ)
    → Leaves w (act w (transacts writer home blocks batch)) (transacted (lent_in w batch) writer home blocks)
unfolding act left_in transact_ends lent transacted left_under
leaves_all w writer home blocks batch = record { log = refl; area = refl; state = refl; newest = refl; pending = refl }

module _ {E : Type 0} (home n : ℕ) (judge : List ℕ → E → ℕ) (apply : List ℕ → E → List ℕ) (w : World) (writer : ℕ) (e : E) (batch : List ℕ) where
  abbrev o : Outcome
  o = read_for home n judge apply w writer

  abbrev rule : List ℕ → Judged
  rule blocks = as_judged (judge blocks e) (apply blocks e)

  abbrev call : UnitOutcome
  call = event (lent_in w batch) writer home n rule

  -- the read comes first, and leaves the world
  step_is : stepped home n judge apply w (offers writer e batch)
      ≡ acted w (cond (eqb (event_answer home n judge apply w writer e) 0) (storing home n judge apply writer o.block e batch) [])
  unfolding stepped acts_of acted
  step_is = ap (λ (v : World). acted v (cond (eqb (event_answer home n judge apply w writer e) 0) (storing home n judge apply writer o.block e batch) [])) ((refusals-stay w).revising writer home (zeros (64 * n)))

  call-is : call ≡ after_reading (lent_in w batch) writer home rule o
  unfolding event revised read_for revise_ends lent
  call-is = refl

  pub refused-step : (k : ℕ) → event_answer home n judge apply w writer e ≡ suc k → stepped home n judge apply w (offers writer e batch) ≡ w
  unfolding acted
  refused-step k h = step_is ∙ rw (h, ne_eqb (suc k) 0 (λ z. omega arith))

  done-step : event_answer home n judge apply w writer e ≡ 0
      → stepped home n judge apply w (offers writer e batch) ≡ act w (transacts writer home (apply o.block e) batch)
  unfolding acted storing
  done-step h = step_is ∙ rw h

  transact-code : (transacted (lent_in w batch) writer home (apply o.block e)).code ≡ (transact_ends w writer home (apply o.block e) batch).code
  unfolding transacted left_under transact_ends lent
  transact-code = refl

  answered-refused : (k : ℕ) → event_answer home n judge apply w writer e ≡ suc k
      → (untouched (lent_in w batch) (suc k) 0).code ≡ answered home n judge apply w writer e batch
  unfolding untouched answered first
  answered-refused k h = rw (h, ne_eqb (suc k) 0 (λ z. omega arith))

  answered-done : event_answer home n judge apply w writer e ≡ 0
      → (transacted (lent_in w batch) writer home (apply o.block e)).code ≡ answered home n judge apply w writer e batch
  unfolding answered first
  answered-done h = transact-code ∙ rw h

  unread : (k : ℕ) → o.code ≡ suc k → EventStands home n judge apply w writer e batch
  unread k h =
      let v : event_answer home n judge apply w writer e ≡ suc k = unfold event_answer first in rw (h, ne_eqb (suc k) 0 (λ z. omega arith)) in
      let c : call ≡ untouched (lent_in w batch) (suc k) 0 = call-is ∙ (unfold after_reading in rw (h, ne_eqb (suc k) 0 (λ z. omega arith))) in
      record {
        leaves = subst (Leaves w (stepped home n judge apply w (offers writer e batch))) (sym c) (leaves_none w _ batch (suc k) (refused-step k v));
        code = ap (λ (l : UnitOutcome). l.code) c ∙ answered-refused k v;
      }

  turned_down : (k : ℕ) → o.code ≡ 0 → judge o.block e ≡ suc k → EventStands home n judge apply w writer e batch
  turned_down k h j =
      let v : event_answer home n judge apply w writer e ≡ suc k = unfold event_answer first in rw (h, j) in
      let c : call ≡ untouched (lent_in w batch) (suc k) 0 = call-is ∙ (unfold after_reading stored in rw (h, j, ne_eqb (suc k) 0 (λ z. omega arith))) in
      record {
        leaves = subst (Leaves w (stepped home n judge apply w (offers writer e batch))) (sym c) (leaves_none w _ batch (suc k) (refused-step k v));
        code = ap (λ (l : UnitOutcome). l.code) c ∙ answered-refused k v;
      }

  taken : o.code ≡ 0 → judge o.block e ≡ 0 → EventStands home n judge apply w writer e batch
  taken h j =
      let v : event_answer home n judge apply w writer e ≡ 0 = unfold event_answer first in rw (h, j) in
      let c : call ≡ transacted (lent_in w batch) writer home (apply o.block e) = call-is ∙ (unfold after_reading stored in rw (h, j)) in
      record {
        leaves =
            subst (Leaves w (stepped home n judge apply w (offers writer e batch))) (sym c)
            (subst (λ (u : World). Leaves w u (transacted (lent_in w batch) writer home (apply o.block e))) (sym (done-step v)) (leaves_all w writer home (apply o.block e) batch));
        code = ap (λ (l : UnitOutcome). l.code) c ∙ answered-done v;
      }

  pub event-stands : EventStands home n judge apply w writer e batch
  event-stands = go o.code (judge o.block e) refl refl
    where
      go : (c k : ℕ) → o.code ≡ c → judge o.block e ≡ k → EventStands home n judge apply w writer e batch
      go zero zero h j = taken h j
      go zero (suc k) h j = turned_down k h j
      go (suc c) k h j = unread c h

  pub set-stands : SetStands home n judge apply w writer e batch
  unfolding stepped acts_of acted storing
  set-stands = leaves_all w writer home (apply (zeros (64 * n)) e) batch
