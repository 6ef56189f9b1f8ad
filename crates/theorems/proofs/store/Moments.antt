-- What the invariant and the abstract store say of a world that a history reaches once an opening is done. Assumes nothing.
use Prim.Native.Nat.{ℕ}
use mathlib.Core.Path.{◌≡◌, sym, ◌∙◌, subst}
use mathlib.Core.Logic.{inl, inr}
use mathlib.Core.Bool.{true, false≢true}
use mathlib.Core.List.{List, [], ◌∷◌}
use Rattle.model.specs.Book.{Book}
use Rattle.model.specs.History.{Event, World, empty_store, step, after, AllAllowed}
use Rattle.abstract_store.specs.Store.{Store, new_store, follow}
use Rattle.model_laws.proofs.trace.TraceLaws.{All}
use Rattle.theorems.specs.Isolation.{followed}
use Rattle.theorems.proofs.invariant.Invariant.{Sizes, Running, Invariant}
use Rattle.theorems.proofs.invariant.TouchLaws.{CommitFits, commits-fit}
use Rattle.theorems.proofs.steps.FormatRuns.{sizes, after-format}
use Rattle.theorems.proofs.steps.Beginning.{format-closed}
use Rattle.theorems.proofs.demands.DemandThree.{keeps}
use Rattle.theorems.proofs.store.StoreAgrees.{Agrees}
use Rattle.theorems.proofs.store.StoreFollows.{follows, empty-agrees}
use Rattle.theorems.proofs.store.Reached.{Reached}

module _ (G D : ℕ) (z : Sizes G D) where
  along : (es : List Event) (w : World) (s : Store) → Invariant G D w → Agrees G D w s → AllAllowed w es
      → Invariant G D (after w es) × Agrees G D (after w es) (followed s w es)
  unfolding after followed
  along [] w s i a h = (i, a)
  along (e ∷ es) w s i a h = along es (step w e) (follow s w e) (keeps G D z w i e h.0).0 (follows G D z w i s a e h.0) h.1

  running-of : (w : World) → Invariant G D w → w.ready ≡ true → Running G D w
  running-of w (inl k) e = absurd (false≢true (sym k.ready ∙ e))
  running-of w (inr r) e = r

pub record Moment (w : World) (s : Store) : Type 0 where
  pub groups : ℕ
  pub homes : ℕ
  pub sizes : Sizes groups homes
  pub running : Running groups homes w
  pub agrees : Agrees groups homes w s

pub moment : (w : World) (s : Store) → Reached w s → w.ready ≡ true → Moment w s
moment w s r ready =
    let G : ℕ = r.groups in
    let D : ℕ = r.homes in
    let z : Sizes G D = sizes r.format in
    let k = along G D z r.events (empty_store G D) (new_store G D) (inl (format-closed G D z)) (empty-agrees G D z)
    (rw (after-format r.format) at r.allowed) in
    let there : after (empty_store G D) r.events ≡ w = rw (after-format r.format) at r.world in
    let beside : followed (new_store G D) (empty_store G D) r.events ≡ s = rw (after-format r.format) at r.store in
    let i : Invariant G D w = subst (Invariant G D) there k.0 in
    record {
      groups = G;
      homes = D;
      sizes = z;
      running = running-of G D z w i ready;
      agrees = subst (Agrees G D w) beside (subst (λ (v : World). Agrees G D v (followed (new_store G D) (empty_store G D) r.events)) there k.1);
    }

-- the blocks of all commits have 64 bytes, and their homes are there
pub fits-then : (w : World) (s : Store) → Moment w s → All (CommitFits s.homes) s.book.commits
fits-then w s m =
    let r = m.running in
    subst (λ (n : ℕ). All (CommitFits n) s.book.commits) (sym m.agrees.homes)
    (subst (λ (b : Book). All (CommitFits m.homes) b.commits) (sym m.agrees.book)
    (commits-fit m.homes r.b r.tr r.old w.book.commits r.copies.sound r.commits))
