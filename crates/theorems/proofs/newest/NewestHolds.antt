-- The newest positions are true at every moment after a done opening, and a read, which uses them, gives what it gave while it searched the log.
use Prim.Native.Nat.{ℕ, ◌+◌, ◌*◌, ◌≤◌, ◌<◌}
use mathlib.Core.Path.{◌≡◌, sym, ap, ◌∙◌, subst}
use mathlib.Core.Logic.{inl, inr}
use mathlib.Core.Bool.{true, false≢true}
use mathlib.Core.List.{List, [], ◌∷◌}
use lib.ListN.{length}
use Rattle.model.specs.Layout.{home_at}
use Rattle.model.specs.State.{list_home}
use Rattle.model.specs.Newest.{kept_as}
use Rattle.model.specs.Book.{homes_after}
use Rattle.model.specs.History.{Event, World, empty_store, unopened, step, Allowed, AllAllowed}
use Rattle.model.specs.NewestTrue.{NewestTrue, NewestThroughout, NewestKept}
use Rattle.theorems.proofs.invariant.Invariant.{Sizes, Running, Invariant}
use Rattle.theorems.proofs.steps.FormatRuns.{from-format}
use Rattle.theorems.proofs.steps.Beginning.{format-closed}
use Rattle.theorems.proofs.demands.DemandThree.{keeps}
use Rattle.theorems.proofs.rights.ListedSteps.{Listed, listed-keeps}
use Rattle.theorems.proofs.newest.NewestFollows.{Placed, NewestAlong, along-keeps, along-begins}
use Rattle.theorems.proofs.newest.NewestShown.{kept-is, newest-is, block-shown, shown-same}
use Rattle.theorems.proofs.rights.SignSteps.{Signed, signed-keeps}

module _ (G D : ℕ) (z : Sizes G D) (w : World) (r : Running G D w) (p : Placed G D w) where
  pub kept-holds : length w.newest ≡ 8 * D → Listed D w.state w.newest → Signed D w → NewestTrue w
  kept-holds e listed signed =
      let d : w.homes ≡ D = r.copies.homes in
      record {
        size = rw d e;
        positions = λ h l. kept-is G D z w r p h (subst (λ (n : ℕ). h < n) d l) ∙ ap kept_as (sym (newest-is G D z w r p [] 0 h));
        blocks = λ h l.
            let i : h < D = subst (λ (n : ℕ). h < n) d l in
            block-shown G D z w r p h i
            ∙ ap (λ (n : ℕ). home_at (homes_after n w.book.commits) h) (sym d);
        listed = λ m. listed (subst (λ (n : ℕ). list_home + 4 ≤ n) d m);
        sign = λ m. rw d (signed (subst (λ (n : ℕ). list_home + 4 ≤ n) d m));
        same = λ v h l. shown-same G D z w r p [] v h (subst (λ (n : ℕ). h < n) d l);
      }

-- ---- every history

-- the positions go along in the newest strip, and in the state strip for the list's homes, with the list's sign
abbrev pub NewestNow : ℕ → ℕ → World → Type 0
NewestNow G D w = NewestAlong G D w × (w.ready ≡ true → Listed D w.state w.newest) × (w.ready ≡ true → Signed D w)

module _ (G D : ℕ) (z : Sizes G D) where
  pub kept-ready : (w : World) → Invariant G D w → NewestNow G D w → w.ready ≡ true → NewestTrue w
  kept-ready w (inl k) a h = absurd (false≢true (sym k.ready ∙ h))
  kept-ready w (inr r) a h = kept-holds G D z w r (a.0.2 h) (a.0.1.newest h) (a.1 h) (a.2 h)

  pub now-keeps : (w : World) → Invariant G D w → NewestNow G D w → (e : Event) → Allowed w e → NewestNow G D (step w e)
  now-keeps w i k e h = (
    along-keeps G D z w i k.0 e h,
    listed-keeps G D z w i k.0.1.newest k.1 e h,
    signed-keeps G D z w i k.0 k.1 k.2 e h,
  )

  pub now-begins : NewestNow G D (empty_store G D)
  now-begins = (along-begins G D z, (λ h. absurd (false≢true (unfold empty_store unopened in h))), λ h. absurd (false≢true (unfold empty_store unopened in h)))

  kept-throughout : (es : List Event) (w : World) → Invariant G D w → NewestNow G D w → AllAllowed w es → NewestThroughout w es
  kept-throughout [] w i k a = kept-ready w i k
  kept-throughout (e ∷ es) w i k a =
      (kept-ready w i k, kept-throughout es (step w e) (keeps G D z w i e a.0).0 (now-keeps w i k e a.0) a.1)

pub newest-kept : NewestKept
newest-kept =
    from-format NewestThroughout
    (λ G D z es a. kept-throughout G D z es (empty_store G D) (inl (format-closed G D z)) (now-begins G D z) a)
