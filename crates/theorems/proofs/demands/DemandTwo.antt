-- Demand 2, whole: at every moment of every history under the premises what the calls write reads back as the book has it, and every done call yields
-- what the book says.
use mathlib.Core.Path.{◌≡◌, sym, ◌∙◌}
use mathlib.Core.Logic.{inl, inr}
use mathlib.Core.Bool.{true, false≢true}
use mathlib.Core.List.{List, [], ◌∷◌}
use Prim.Native.Nat.{ℕ}
use Rattle.model.specs.DemandTwo.{Live, LiveThroughout, Demand2}
use Rattle.model.specs.History.{Event, World, empty_store, step, AllAllowed}
use Rattle.theorems.proofs.invariant.Invariant.{Sizes, Invariant}
use Rattle.theorems.proofs.steps.FormatRuns.{from-format}
use Rattle.theorems.proofs.steps.Beginning.{format-closed}
use Rattle.theorems.proofs.demands.LiveHolds.{live-holds}
use Rattle.theorems.proofs.demands.DemandThree.{keeps}
use Rattle.theorems.proofs.demands.YieldsAll.{Owing, owing-keeps, event-yields, format-owing}
use Rattle.theorems.proofs.newest.NewestFollows.{NewestAlong, along-keeps, along-begins}
use Rattle.theorems.proofs.newest.NewestShown.{shown-current}

module _ (G D : ℕ) (z : Sizes G D) where
  live-ready : (w : World) → Invariant G D w → NewestAlong G D w → w.ready ≡ true → Live w
  live-ready w (inl k) a h = absurd (false≢true (sym k.ready ∙ h))
  live-ready w (inr r) a h = live-holds G D z w r (shown-current G D z w r (a.2 h))

  live-throughout : (es : List Event) (w : World) → Invariant G D w → Owing w → NewestAlong G D w → AllAllowed w es → LiveThroughout w es
  live-throughout [] w i o k a = live-ready w i k
  live-throughout (e ∷ es) w i o k a = (
    live-ready w i k,
    event-yields G D z w i o (live-ready w i k) e a.0,
    live-throughout es (step w e) (keeps G D z w i e a.0).0 (owing-keeps G D z w i o e a.0) (along-keeps G D z w i k e a.0) a.1,
  )

pub demand2 : Demand2
demand2 =
    from-format LiveThroughout
    (λ G D z es a. live-throughout G D z es (empty_store G D) (inl (format-closed G D z)) (format-owing G D) (along-begins G D z) a)
