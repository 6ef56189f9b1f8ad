-- The strip's numbers are the abstract store's at every moment after a done opening. Assumes nothing.
use Prim.Native.Nat.{ℕ}
use mathlib.Core.Path.{◌≡◌, sym, ◌∙◌}
use mathlib.Core.Logic.{inl, inr}
use mathlib.Core.Bool.{true, false≢true}
use mathlib.Core.List.{List, [], ◌∷◌}
use Rattle.model.specs.History.{Event, World, empty_store, step, AllAllowed}
use Rattle.abstract_store.specs.Store.{Store, new_store, follow}
use Rattle.theorems.specs.StateNumbers.{StateTold, StateThroughout, StateKept}
use Rattle.theorems.proofs.invariant.Invariant.{Sizes, Running, Invariant}
use Rattle.theorems.proofs.steps.FormatRuns.{sizes, after-format}
use Rattle.theorems.proofs.steps.Beginning.{format-closed}
use Rattle.theorems.proofs.demands.DemandThree.{keeps}
use Rattle.theorems.proofs.store.StoreAgrees.{Agrees, next-is, filled_is}
use Rattle.theorems.proofs.store.StoreFollows.{follows, empty-agrees}

module _ (G D : ℕ) (z : Sizes G D) where
  running-told : (w : World) (r : Running G D w) (s : Store) → Agrees G D w s → StateTold w s
  running-told w r s a =
      let n = a.numbers r.ready in
      let o = r.copies.order in
      record {
        groups = o.groups-same ∙ sym a.groups;
        homes = o.homes_same ∙ sym a.homes;
        start = sym n.start;
        next = sym (next-is G D z w r s a);
        filled = sym (filled_is G D z w r s a);
        settled = sym n.settled;
        fenced = sym n.fenced;
        durable = sym n.durable;
        last = sym n.last;
        round = sym n.round;
        cursor = sym n.cursor;
        promises = λ v l. sym (a.promises r.ready v l);
      }

  told-now : (w : World) → Invariant G D w → (s : Store) → Agrees G D w s → w.ready ≡ true → StateTold w s
  told-now w (inl c) s a e = absurd (false≢true (sym c.ready ∙ e))
  told-now w (inr r) s a e = running-told w r s a

  throughout : (es : List Event) (w : World) (s : Store) → Invariant G D w → Agrees G D w s → AllAllowed w es → StateThroughout w s es
  throughout [] w s i a h = told-now w i s a
  throughout (e ∷ es) w s i a h =
      (told-now w i s a, throughout es (step w e) (follow s w e) (keeps G D z w i e h.0).0 (follows G D z w i s a e h.0) h.1)

pub state-kept : StateKept
state-kept G D f es h =
    let z : Sizes G D = sizes f in
    rw (after-format f) (throughout G D z es (empty_store G D) (new_store G D) (inl (format-closed G D z)) (empty-agrees G D z) (rw (after-format f) at h))
