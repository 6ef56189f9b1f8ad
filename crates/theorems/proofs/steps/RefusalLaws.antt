-- A refused call leaves everything as it was: the world, and of what it was lent every byte. Assumes nothing.
use mathlib.Core.Path.{◌≡◌, refl, sym, ap, ◌∙◌}
use mathlib.Core.Bool.{Bool, true, false}
use mathlib.Core.List.{List, [], append-nil}
use Prim.Native.Nat.{ℕ, zero, suc}
use native.Mathlib.Omega.{arith}
use lib.ListN.{take}
use Rattle.model.specs.Batch.{read_batch, read_records}
use Rattle.model.specs.Effects.{Given, Effect}
use Rattle.model.specs.Calls.{Outcome, refused, done, outcome}
use Rattle.model.specs.History.{Call, call, World, ends, is_opening, after_refused, after_call, step}
use Rattle.theorems.proofs.steps.Rows.{row_of, ends-row, row-lent}

-- a number other than 0 refuses
outcome-refused : (g : Given) (a k : ℕ) (e : Effect) → (outcome g a e).code ≡ suc k → outcome g a e ≡ refused g (suc k)
unfolding outcome done refused
outcome-refused g zero k e h = absurd (omega (arith, h))
outcome-refused g (suc a) k e h = rw h

-- no record is read off a batch of no bytes
nothing_read : (batch : List ℕ) → read_batch (take 0 batch) ≡ []
unfolding read_batch read_records
nothing_read batch = refl

-- a refused call leaves the world as it is: the strip and the copies that it was lent are the world's, and an opening's are dropped
pub left-as-lent : (w : World) (c : Call) (k : ℕ) → (ends w c).code ≡ suc k → after_refused w c (ends w c) ≡ w
left-as-lent w c k h =
    ap (after_refused w c) (ends-row w c ∙ outcome-refused _ _ k _ (ap (λ (o : Outcome). o.code) (sym (ends-row w c)) ∙ h)) ∙ go (is_opening c) refl
  where
    g : Given
    g = (row_of w c).given

    go : (b : Bool) → is_opening c ≡ b → after_refused w c (refused g (suc k)) ≡ w
    go true e = unfold after_refused refused in rw (e, nothing_read g.batch, append-nil w.pending)
    go false e =
        let l = row-lent w c e in
        unfold after_refused refused in rw (e, l.state, l.newest, l.log, l.area, nothing_read g.batch, append-nil w.pending)

pub step-refused : (w : World) (c : Call) (k : ℕ) → (ends w c).code ≡ suc k → step w (call c) ≡ w
unfolding step after_call
step-refused w c k h = ap (λ (n : ℕ). after_call w c (ends w c) n) h ∙ left-as-lent w c k h
