-- How a call ends and what the world is then.
use mathlib.Core.Path.{◌≡◌, refl, ap, ◌∙◌}
use mathlib.Core.Bool.{true, cond}
use mathlib.Core.List.{◌++◌}
use Prim.Native.Nat.{ℕ, zero, suc, ◌≤◌}
use native.Mathlib.Omega.{arith}
use lib.ListN.{length, take}
use Rattle.model.specs.Batch.{batch_bytes, read_batch}
use Rattle.model.specs.Effects.{Given, Effect}
use Rattle.model.specs.Calls.{refused, done, size_of, outcome}
use Rattle.model.specs.Crash.{fences}
use Rattle.model.specs.History.{Call, call, World, ends, feed, is_confirm, after_done, after_call, step}
use Rattle.model_laws.proofs.state.BatchLaws.{AllFormed, read-batch, taken}

-- the answer's number is the verdict
pub outcome-code : (g : Given) (a : ℕ) (e : Effect) → (outcome g a e).code ≡ a
unfolding outcome done refused
outcome-code g zero e = refl
outcome-code g (suc k) e = refl

pub outcome-done : (g : Given) (a : ℕ) (e : Effect) → a ≡ 0 → outcome g a e ≡ done g e
unfolding outcome
outcome-done g zero e h = refl
outcome-done g (suc k) e h = absurd (omega arith)

-- the records that a driver reads off a batch are those of the effect
pub records-read : (g : Given) (e : Effect) → AllFormed e.records → size_of e ≤ length g.batch
    → read_batch (take (done g e).size (done g e).batch) ≡ e.records
unfolding done size_of
records-read g e f h =
    ap read_batch (taken (batch_bytes e.records) g.batch h) ∙ read-batch e.records f

-- the world after a done call with an effect
abbrev pub after : World → Call → Effect → World
after w c e =
    record {
      homes = w.homes;
      state = e.state;
      newest = e.newest;
      log = e.log;
      area = e.area;
      memory = w.memory;
      pending = w.pending ++ e.records;
      passed = cond (is_confirm c) (fences w.pending) w.passed;
      ready = true;
      book = feed w.book c e.figure;
    }

after-done : (w : World) (c : Call) (g : Given) (e : Effect) → read_batch (take (done g e).size (done g e).batch) ≡ e.records
    → after_call w c (done g e) (done g e).code ≡ after w c e
unfolding after_call after_done done
after-done w c g e r = rw r

pub step-done : (w : World) (c : Call) (g : Given) (a : ℕ) (e : Effect) → ends w c ≡ outcome g a e → a ≡ 0 → AllFormed e.records
    → size_of e ≤ length g.batch → step w (call c) ≡ after w c e
unfolding step
step-done w c g a e h z f l = rw (h ∙ outcome-done g a e z) (after-done w c g e (records-read g e f l))
