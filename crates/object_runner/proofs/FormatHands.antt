-- The runner's actions for a format's batch are its motions.
use Prim.Native.Nat.{ℕ, zero, suc, ◌≤◌}
use mathlib.Core.Path.{◌≡◌, sym, ap, ◌∙◌, subst}
use mathlib.Core.List.{List, [], ◌∷◌, ◌++◌}
use native.Mathlib.Omega.{arith}
use Rattle.model.specs.Layout.{group_count, home_count, header}
use Rattle.model.specs.Batch.{Record, GW, HW, KW, FN, batch_bytes}
use Rattle.model.specs.Effects.{Given, Effect, blank_writes, zero_homes, formatted, format_effect}
use Rattle.model.specs.Questions.{format_answer}
use Rattle.model.specs.Calls.{done, size_of, format_call}
use Rattle.model.specs.History.{Formatting}
use Rattle.model_laws.proofs.bytes.ByteLaws.{length-zeros}
use Rattle.model_laws.proofs.bytes.EmptyLaws.{length-unused_group}
use Rattle.model_laws.proofs.bytes.LayoutLaws.{length-header, groups-in, homes_in}
use Rattle.model_laws.proofs.state.LoggingLaws.{fits}
use Rattle.model_laws.proofs.state.QuestionLaws.{format-ready}
use Rattle.model_laws.proofs.trace.TraceLaws.{All}
use Rattle.theorems.proofs.steps.DoneLaws.{outcome-code, outcome-done}
use Rattle.theorems.proofs.steps.FormatRuns.{sizes, format-records}
use Rattle.object.specs.Medium.{Grain}
use Rattle.object.specs.Order.{motions}
use Rattle.object.proofs.ChopLaws.{all_append}
use Rattle.object.proofs.FormatCuts.{Unparted, unparted-blanks, unparted-zeros}
use Rattle.object_runner.specs.Next.{cursor}
use Rattle.object_runner.specs.Moves.{Hands, Fitting}
use Rattle.object_runner.specs.Always.{batch_of}
use Rattle.object_runner.specs.Carries.{RunnerFormats}
use Rattle.object_runner.proofs.MovesHold.{runner-moves}
use Rattle.object_runner.proofs.DueHolds.{batch-done, due-none, headed-none}

fitting-append : (G D : ℕ) (rs ss : List Record) → Fitting G D rs → Fitting G D ss → Fitting G D (rs ++ ss)
fitting-append G D [] ss f g = g
fitting-append G D (GW slot group ∷ rs) ss f g = (f.0, fitting-append G D rs ss f.1 g)
fitting-append G D (HW home block ∷ rs) ss f g = (f.0, fitting-append G D rs ss f.1 g)
fitting-append G D (KW header ∷ rs) ss f g = (f.0, fitting-append G D rs ss f.1 g)
fitting-append G D (FN ∷ rs) ss f g = fitting-append G D rs ss f g

fitting-blanks : (G D n : ℕ) → n ≤ G → Fitting G D (blank_writes G 0 n)
unfolding blank_writes
fitting-blanks G D zero h = tt
fitting-blanks G D (suc n) h =
    fitting-append G D (blank_writes G 0 n) _ (fitting-blanks G D n (omega arith)) ((omega arith, length-unused_group G 0 n), tt)

fitting-zeros : (G D n : ℕ) → n ≤ D → Fitting G D (zero_homes n)
unfolding zero_homes
fitting-zeros G D zero h = tt
fitting-zeros G D (suc n) h = fitting-append G D (zero_homes n) _ (fitting-zeros G D n (omega arith)) ((omega arith, length-zeros 64), tt)

fitting-format : (G D : ℕ) → Fitting G D (formatted G D)
unfolding formatted
fitting-format G D = (
  length-zeros 64,
  fitting-append G D (blank_writes G 0 G) _ (fitting-blanks G D G (omega arith))
      (fitting-append G D (zero_homes D) _ (fitting-zeros G D D (omega arith)) (length-header 0 G D, tt)),
)

unparted-format : (l : Grain) (G D : ℕ) → All (Unparted l) (formatted G D)
unfolding formatted
unparted-format l G D = (
  tt,
  (
    tt,
    all_append (Unparted l) (blank_writes G 0 G) _ (unparted-blanks l G 0 G) (all_append (Unparted l) (zero_homes D) _ (unparted-zeros l D) (tt, (tt, (tt, tt)))),
  ),
)

module _ {G D : ℕ} (f : Formatting G D) where
  abbrev g : Given
  g = f.given

  abbrev e : Effect
  e = format_effect f.given

  answered : format_answer g (size_of e) ≡ 0
  answered = sym (outcome-code g (format_answer g (size_of e)) e) ∙ (unfold format_call in f.done)

  ended : format_call g ≡ done g e
  unfolding format_call
  ended = outcome-done g (format_answer g (size_of e)) e answered

  records-are : e.records ≡ formatted G D
  unfolding format_effect
  records-are = rw (ap group_count f.log_copy ∙ groups-in G, ap home_count f.area_copy ∙ homes_in D)

  bytes-are : batch_of (format_call g) ≡ batch_bytes (formatted G D)
  bytes-are = ap batch_of ended ∙ batch-done g e (fits g (size_of e) (format-ready g (size_of e) answered).1) ∙ ap batch_bytes records-are

pub runner-formats : RunnerFormats
runner-formats l G D f next log =
    rw (bytes-are f, format-records f)
    (subst (Hands l G D next (batch_bytes (formatted G D)) log (cursor 0 next 0) (motions l [] (formatted G D))) (headed-none l G next log (formatted G D))
    (runner-moves l G D next next log [] (formatted G D) (omega (arith, (sizes f).low)) (sizes f).high (sizes f).homes (omega arith) (fitting-format G D)
    (due-none l G next log (formatted G D) (unparted-format l G D))))
