-- Openings: what they answer, what they leave, and that the invariant holds after them.
use mathlib.Core.Path.{◌≡◌, refl, sym, ap, ◌∙◌}
use mathlib.Core.Logic.{inl, inr}
use mathlib.Core.Bool.{true}
use mathlib.Core.List.{List, [], ◌∷◌}
use Prim.Native.Nat.{ℕ, ◌+◌, ◌*◌, ◌^◌, ◌≤◌, ◌<◌}
use native.Mathlib.Omega.{arith}
use lib.ListN.{length}
use borrow.Author.Tests.{leb-true}
use Rattle.model.specs.Layout.{group_count, header_start, home_at}
use Rattle.model.specs.Batch.{FN}
use Rattle.model.specs.Effects.{Given, Effect, open_effect, open_start, blank_writes, home_writes}
use Rattle.model.specs.Questions.{open_answer, start_fits}
use Rattle.model.specs.Calls.{Outcome, outcome, done, size_of, open_call}
use Rattle.model.specs.Book.{homes_after}
use Rattle.model.specs.DemandThree.{Opened}
use Rattle.model.specs.History.{opening, call, World, loaded, ends, step}
use Rattle.model_laws.proofs.bytes.ByteLaws.{length_part}
use Rattle.model_laws.proofs.bytes.LayoutLaws.{groups-in, length-header}
use Rattle.model_laws.proofs.state.BatchLaws.{AllFormed, formed-append}
use Rattle.model_laws.proofs.state.QuestionLaws.{open-ready}
use Rattle.model_laws.proofs.trace.HomeLaws.{In}
use Rattle.model_laws.proofs.trace.OpeningLaws.{formed-blanks}
use Rattle.theorems.proofs.steps.DoneLaws.{outcome-code, outcome-done}
use Rattle.theorems.proofs.invariant.OpenLaws.{hs, new_start, touched-below, restored-size}
use Rattle.theorems.proofs.steps.OpenStep.{opens-with, open-effect, open-runs}
use Rattle.theorems.proofs.steps.Beginning.{open-answers}
use Rattle.theorems.proofs.steps.CallRuns.{by_answer}
use Rattle.theorems.proofs.invariant.Invariant.{Sizes, Closed, Invariant}
use Rattle.model_laws.proofs.state.LoggingLaws.{fits}

pub homes-formed : (D : ℕ) (area hs : List ℕ) → D ≤ 65535 → length area ≡ 64 * D → ((h : ℕ) → In h hs → h < D) → AllFormed (home_writes area hs)
unfolding home_writes home_at
homes-formed D area [] d l b = tt
homes-formed D area (x ∷ hs) d l b =
    let k : x < D = b x (inl refl) in
    ((omega arith, length_part area (64 * x) 64 (omega arith)), homes-formed D area hs d l (λ h i. b h (inr i)))

module _ (G D : ℕ) (z : Sizes G D) (w : World) (c : Closed G D w) (state newest batch : List ℕ) where
  abbrev g : Given
  g = loaded w state newest batch

  effect_is : open_effect g ≡ opens-with G D z w c
  effect_is = open-effect G D z w c state newest batch

  pub open-formed : AllFormed (open_effect g).records
  open-formed =
      let X = homes_after D w.book.commits in
      let o = c.opens in
      rw effect_is
      (formed-append (home_writes X (hs G D z w.memory X o)) _
      (homes-formed D X (hs G D z w.memory X o) z.homes (restored-size G D z w.memory X o) (touched-below G D z w.memory X o))
      (tt, (length-header _ G D, (tt, formed-append (blank_writes G _ G) (FN ∷ []) (formed-blanks G _ G z.high) (tt, tt)))))

  start_is : open_start g ≡ header_start w.memory.log + G
  unfolding open_start loaded
  start_is = rw (ap group_count c.opens.log_size ∙ groups-in G)

  start-ok : start_fits (open_start g) ≡ true → new_start G D z w.memory (homes_after D w.book.commits) c.opens ≤ 2 ^ 47
  unfolding start_fits
  start-ok h = let q = leb-true (open_start g) (2 ^ 47) h in omega (arith, start_is)

  pub open-keeps : Invariant G D (step w (call (opening state newest batch)))
  unfolding ends open_call
  open-keeps =
      by_answer (Invariant G D) w (opening state newest batch) g (open_answer g (open_start g) (size_of (open_effect g))) (open_effect g) refl (inl c)
      (λ a. let k = open-ready g (open_start g) (size_of (open_effect g)) a in
      record {
        formed = open-formed;
        fit = fits g (size_of (open_effect g)) k.3;
        next = inr (rw effect_is (open-runs G D z w c state newest batch (start-ok k.2)));
      })

  -- "every opening that does not answer 1, 9 or 10 is done, and leaves a data copy equal byte for byte to the homes after the longest run"
  pub open-holds : Opened w (ends w (opening state newest batch))
  unfolding ends open_call
  open-holds =
      let a : ℕ = open_answer g (open_start g) (size_of (open_effect g)) in
      let e : (outcome g a (open_effect g)).code ≡ a = outcome-code g a (open_effect g) in
      record {
        answer = rw e (open-answers G D w (homes_after D w.book.commits) state newest batch (open_start g) (size_of (open_effect g)) c.opens);
        restored = λ h.
            ap (λ (o : Outcome). o.area) (outcome-done g a (open_effect g) (sym e ∙ h))
            ∙ (unfold done in (ap (λ (x : Effect). x.area) effect_is ∙ ap (λ (d : ℕ). homes_after d w.book.commits) (sym c.homes)));
      }
