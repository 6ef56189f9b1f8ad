-- Isolation over torn crashes: as over others (crates/theorems/proofs/isolation/AlikeFaithful), since after torn crashes too a world is faithful to its abstract
-- store.
use Prim.Native.Nat.{ℕ}
use mathlib.Core.Path.{sym, ◌∙◌, subst}
use Rattle.model.specs.Book.{Book}
use Rattle.model.specs.History.{Event, call, World, Formatting, after_format, step, Allowed}
use Rattle.abstract_store.specs.Store.{Store, new_store, follow}
use Rattle.model_laws.proofs.trace.TraceLaws.{All}
use Rattle.theorems.proofs.invariant.Invariant.{Sizes}
use Rattle.theorems.proofs.invariant.TouchLaws.{CommitFits}
use Rattle.theorems.proofs.steps.FormatRuns.{sizes, after-format}
use Rattle.theorems.proofs.isolation.AlikeFaithful.{Faithful, told-kept}
use Rattle.object.specs.Alike.{plain, tears, torn_after}
use Rattle.object.specs.TornClaims.{follow_torn, followed_torn, IsolationTorn}
use Rattle.object.proofs.TornClaims.{homes-of, Standing, stands, live_now, answers-now, fit-now, stands_after, stands-there}

module _ (G D : ℕ) (z : Sizes G D) where
  faithful : (w : World) (s : Store) → Standing G D z w s → Faithful w s
  faithful w s k =
      record {
        answers = λ c a. answers-now G D z w s k (plain (call c)) a;
        fits = λ h.
            subst (λ (n : ℕ). All (CommitFits n) s.book.commits) (sym k.agrees.homes)
            (subst (λ (b : Book). All (CommitFits D) b.commits) (sym k.agrees.book) (fit-now G D z w s k h));
        live = live_now G D z w s k;
        book = k.agrees.book;
        homes = k.agrees.homes ∙ sym (homes-of G D z w k.invariant);
      }

  on : (w : World) (s : Store) (e : Event) → Standing G D z w s → Allowed w e → Standing G D z (step w e) (follow s w e)
  on w s e k a = unfold tears follow_torn in stands G D z w s k (plain e) a

-- both formats leave the same world
stands-other : (G D : ℕ) (f g : Formatting G D) → Standing G D (sizes f) (after_format g) (new_store G D)
stands-other G D f g = rw (after-format g) (rw (after-format f) at (stands-there G D f))

pub isolation-torn : IsolationTorn
isolation-torn G D f g before other cs ds writer hidden a b p q f-ready g-ready k e d =
    let w : World = torn_after (after_format f) before in
    let v : World = torn_after (after_format g) other in
    let s : Store = followed_torn (new_store G D) (after_format f) before in
    let t : Store = followed_torn (new_store G D) (after_format g) other in
    told-kept (Standing G D (sizes f)) (faithful G D (sizes f)) (on G D (sizes f)) hidden writer cs ds w v s t
    (stands_after G D (sizes f) before (after_format f) (new_store G D) (stands-there G D f) a)
    (stands_after G D (sizes f) other (after_format g) (new_store G D) (stands-other G D f g) b) p q f-ready g-ready k e d
