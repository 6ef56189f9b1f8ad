-- The history of specs/examples/Witnesses meets the premises of demands 2 and 3, which therefore say something of it.
use mathlib.Core.Path.{◌≡◌, refl, sym, ◌∙◌}
use mathlib.Core.Bool.{Bool, true, false, not, false≢true}
use mathlib.Core.List.{List, [], ◌∷◌}
use Prim.Native.Nat.{ℕ}
use lib.Dec.{leb}
use lib.ListN.{length, take, drop, replicate, length-replicate}
use borrow.Author.Tests.{leb-true}
use Rattle.model.specs.Bytes.{same}
use Rattle.model.specs.Layout.{header}
use Rattle.model.specs.Calls.{format_call}
use Rattle.model.specs.Crash.{fences}
use Rattle.model.specs.DemandThree.{AllHold}
use Rattle.model.specs.DemandTwo.{LiveThroughout}
use Rattle.model.specs.NewestTrue.{NewestThroughout}
use Rattle.model.specs.History.{Event, call, crash, World, Formatting, after_format, empty_store, ends, is_opening, after_call, step, Allowed, AllAllowed}
use Rattle.model.specs.examples.Trials.{answer_of}
use Rattle.model.specs.examples.Witnesses.{used_before, used_copies, alike, allowed, history, answered, goes_onto, goes_so, goes_as_listed}
use Rattle.model_laws.proofs.state.QuestionLaws.{and-true}
use Rattle.model_laws.proofs.bytes.ByteLaws.{length-puts}
use Rattle.model_laws.proofs.bytes.LayoutLaws.{three}
use Rattle.theorems.proofs.steps.FormatRuns.{after-format}
use Rattle.model.proofs.examples.Computing.{all-definitions}
use Rattle.model_tables.proofs.HistoryHolds.{goes-as-listed}
use Rattle.theorems.proofs.demands.DemandThree.{demand3}
use Rattle.theorems.proofs.demands.DemandTwo.{demand2}
use Rattle.theorems.proofs.newest.NewestHolds.{newest-kept}

-- the test for the premises is right
alike-true : (a b : Bool) → alike a b ≡ true → a ≡ b
unfolding alike
alike-true true b e = sym e
alike-true false true e = absurd (false≢true e)
alike-true false false e = refl

allowed-true : (w : World) (e : Event) → allowed w e ≡ true → Allowed w e
unfolding allowed
allowed-true w (call c) h = alike-true (is_opening c) (not w.ready) h
allowed-true w (crash passed chosen) h =
    let k = and-true (leb w.passed passed) (leb passed (fences w.pending)) h in
    (leb-true w.passed passed k.0, leb-true passed (fences w.pending) k.1)

-- a history that goes as listed meets the premises
goes-allowed : (w : World) (es : List Event) (answers : List ℕ) (asked : World → Bool) → goes_onto w es answers asked ≡ true → AllAllowed w es
unfolding goes_onto step
goes-allowed w [] answers asked h = tt
goes-allowed w (call c ∷ es) answers asked h =
    let next : World = after_call w c (ends w c) (ends w c).code in
    let k = three (allowed w (call c)) (same (answer_of (ends w c)) (take 3 answers)) (goes_onto next es (drop 3 answers) asked) h in
    (allowed-true w (call c) k.0, goes-allowed next es (drop 3 answers) asked k.2)
goes-allowed w (crash passed chosen ∷ es) answers asked h =
    let k = and-true (allowed w (crash passed chosen)) (goes_onto (step w (crash passed chosen)) es answers asked) h in
    (allowed-true w (crash passed chosen) k.0, goes-allowed (step w (crash passed chosen)) es answers asked k.1)

-- a format that is done, of sizes 4 and 8
format-done : (format_call used_copies).code ≡ 0
unfolding all-definitions
format-done = refl

log-used : length used_before.log ≡ 2112
unfolding used_before
log-used = length-puts (replicate 2112 255) 0 (header 8 4 8) ∙ length-replicate {A = ℕ} 2112 255

pub format : Formatting 4 8
unfolding used_before used_copies
format =
    record {
      memory = used_before;
      given = used_copies;
      log_size = log-used;
      area_size = length-replicate {A = ℕ} 512 255;
      log_copy = log-used;
      area_copy = length-replicate {A = ℕ} 512 255;
      done = format-done;
    }

-- the premises are met after that format, so the demands say something of the history
met : AllAllowed (after_format format) history
unfolding goes_as_listed goes_so
met = rw (after-format format) (goes-allowed (empty_store 4 8) history answered _ goes-as-listed)

pub all-hold-there : AllHold (after_format format) history
all-hold-there = demand3 4 8 format history met

pub kept_there : NewestThroughout (after_format format) history
kept_there = newest-kept 4 8 format history met

pub live-there : LiveThroughout (after_format format) history
live-there = demand2 4 8 format history met
