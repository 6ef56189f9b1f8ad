-- Places are accounted for at every moment, and a log with no open transaction drains. Assumes nothing.
use Prim.Native.Nat.{ℕ}
use mathlib.Core.Path.{◌≡◌, sym, ◌∙◌}
use mathlib.Core.Logic.{inl, inr}
use mathlib.Core.Bool.{true, false≢true}
use mathlib.Core.List.{List, [], ◌∷◌}
use Rattle.model.specs.History.{Event, World, unopened, empty_store, step, AllAllowed}
use Rattle.abstract_store.specs.Store.{Store, new_store, follow}
use Rattle.abstract_store.specs.Places.{Fate, enter_event, PlacesTold, AccountedThroughout, PlacesAccounted}
use Rattle.theorems.proofs.invariant.Invariant.{Sizes, Invariant}
use Rattle.theorems.proofs.steps.Beginning.{format-closed}
use Rattle.theorems.proofs.steps.FormatRuns.{sizes, after-format}
use Rattle.theorems.proofs.demands.DemandThree.{keeps}
use Rattle.theorems.proofs.store.StoreAgrees.{Agrees}
use Rattle.theorems.proofs.store.StoreFollows.{follows, empty-agrees}
use Rattle.theorems.proofs.places.PlacesFollow.{LedBy, accounts, held_back, led-keeps}
use Rattle.theorems.proofs.places.LogDrains.{drain}

-- ---- every history

module _ (G D : ℕ) (z : Sizes G D) where
  told-all : (w : World) → Invariant G D w → (s : Store) → Agrees G D w s → (fs : List Fate) → (w.ready ≡ true → LedBy s fs) → w.ready ≡ true → PlacesTold w s fs
  told-all w (inl k) s a fs l h = absurd (false≢true (sym k.ready ∙ h))
  told-all w (inr r) s a fs l h =
      record {
        accounted = accounts G D z w r s a fs (l h);
        drains = drain G D z w r s a;
        held_back_by = held_back G D z w r s a fs (l h);
      }

  throughout : (es : List Event) (w : World) (s : Store) (fs : List Fate) → Invariant G D w → Agrees G D w s → (w.ready ≡ true → LedBy s fs) → AllAllowed w es
      → AccountedThroughout w s fs es
  throughout [] w s fs i a l h = told-all w i s a fs l
  throughout (e ∷ es) w s fs i a l h = (
    told-all w i s a fs l,
    throughout es (step w e) (follow s w e) (enter_event s w e fs) (keeps G D z w i e h.0).0 (follows G D z w i s a e h.0)
        (led-keeps G D z w i s a fs l e h.0) h.1,
  )

pub places-accounted : PlacesAccounted
places-accounted G D f es h =
    let z : Sizes G D = sizes f in
    rw (after-format f)
    (throughout G D z es (empty_store G D) (new_store G D) [] (inl (format-closed G D z)) (empty-agrees G D z)
    (λ e. absurd (false≢true (unfold empty_store unopened in e))) (rw (after-format f) at h))
