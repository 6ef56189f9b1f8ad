-- Every call of every history answers what the abstract store says, and an opening finds what the abstract store says comes back. Assumes nothing.
use Prim.Native.Nat.{ℕ}
use mathlib.Core.Path.{◌≡◌, ap, ◌∙◌}
use mathlib.Core.Logic.{inl, inr}
use mathlib.Core.Bool.{true, not, false≢true}
use mathlib.Core.List.{List, [], ◌∷◌}
use Rattle.model.specs.History.{Call, opening, confirm, change, service, Event, call, crash, World, empty_store, ends, is_opening, step, Allowed, AllAllowed}
use Rattle.abstract_store.specs.Store.{Store, new_store, reply_of, reply, follow, found_in_memory, AnswersAt, AnswersThroughout, Answers}
use Rattle.model.specs.NewestTrue.{NewestTrue}
use Rattle.theorems.proofs.invariant.Invariant.{Sizes, Closed, Invariant}
use Rattle.theorems.proofs.steps.FormatRuns.{sizes, after-format}
use Rattle.theorems.proofs.steps.Beginning.{format-closed}
use Rattle.theorems.proofs.demands.DemandThree.{keeps}
use Rattle.theorems.proofs.store.StoreAgrees.{Agrees}
use Rattle.theorems.proofs.store.ServiceAnswers.{open-answers}
use Rattle.theorems.proofs.rights.RightsHold.{rights-at}
use Rattle.theorems.proofs.store.CallAnswers.{call-answers}
use Rattle.theorems.proofs.store.StoreFollows.{follows, empty-agrees}
use Rattle.theorems.proofs.newest.NewestHolds.{NewestNow, kept-ready, now-keeps, now-begins}

module _ (G D : ℕ) (z : Sizes G D) where
  opening-answers : (w : World) → Closed G D w → (s : Store) → Agrees G D w s → (c : Call) → is_opening c ≡ true → reply_of (ends w c) ≡ reply s c
  unfolding is_opening
  opening-answers w k s a (opening state newest batch) e = open-answers G D z w k s a state newest batch
  opening-answers w k s a confirm e = absurd (false≢true e)
  opening-answers w k s a (change c) e = absurd (false≢true e)
  opening-answers w k s a (service c) e = absurd (false≢true e)

  pub answers_at : (w : World) → Invariant G D w → (w.ready ≡ true → NewestTrue w) → (s : Store) → Agrees G D w s → (e : Event) → Allowed w e → AnswersAt w s e
  answers_at w (inl k) p s a (call c) h = opening-answers w k s a c (h ∙ ap not k.ready)
  answers_at w (inr r) p s a (call c) h = call-answers G D z w r s a c (h ∙ ap not r.ready) (rights-at G D z w r s a (p r.ready) c)
  answers_at w i p s a (crash passed chosen) h = tt

  found-now : (w : World) (s : Store) → Agrees G D w s → found_in_memory s.groups s.homes w.memory ≡ s.back
  found-now w s a = rw (a.groups, a.homes) a.found

  throughout : (es : List Event) (w : World) (s : Store) → Invariant G D w → NewestNow G D w → Agrees G D w s → AllAllowed w es → AnswersThroughout w s es
  throughout [] w s i p a h = found-now w s a
  throughout (e ∷ es) w s i p a h = (
    found-now w s a,
    answers_at w i (kept-ready G D z w i p) s a e h.0,
    throughout es (step w e) (follow s w e) (keeps G D z w i e h.0).0 (now-keeps G D z w i p e h.0) (follows G D z w i s a e h.0) h.1,
  )

pub answers-hold : Answers
answers-hold G D f es h =
    let z : Sizes G D = sizes f in
    rw (after-format f)
    (throughout G D z es (empty_store G D) (new_store G D) (inl (format-closed G D z)) (now-begins G D z) (empty-agrees G D z) (rw (after-format f) at h))
