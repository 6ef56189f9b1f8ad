-- Every call of every history with calls on several homes answers what the abstract store says. Assumes nothing.
use Prim.Native.Nat.{ℕ, ◌-◌, ◌<◌}
use mathlib.Core.Path.{◌≡◌, sym, ap, ◌∙◌, subst}
use mathlib.Core.Logic.{inl, inr}
use mathlib.Core.Bool.{true, not, false≢true}
use mathlib.Core.List.{List, [], ◌∷◌}
use Rattle.model.specs.State.{promised, free_places, writer_of, is_open_now, list_sign}
use Rattle.model.specs.Effects.{homes}
use Rattle.model.specs.Rights.{may_read, right_to_read, read_list}
use Rattle.model.specs.Questions.{writer_open, read_allowed}
use Rattle.model.specs.NewestTrue.{NewestTrue}
use Rattle.model.specs.History.{Event, World, Formatting, empty_store, after_format, lent, step, after, AllAllowed}
use Rattle.abstract_store.specs.Store.{Store, new_store, places_left, free_left, is_idle, list_of, follow}
use Rattle.acts.specs.Units.{expand_all}
use Rattle.acts.specs.Replies.{Agreeing, ManyAnswer}
use Rattle.acts.proofs.RepliesHold.{agreeing-answer}
use Rattle.theorems.specs.Isolation.{followed}
use Rattle.theorems.specs.ActsAnswer.{store_after, Answering, ActsAnswer}
use Rattle.model_laws.proofs.state.OrderLaws.{order-in}
use Rattle.theorems.proofs.invariant.Invariant.{Sizes, Running, Invariant}
use Rattle.theorems.proofs.steps.FormatRuns.{sizes, after-format}
use Rattle.theorems.proofs.steps.Beginning.{format-closed}
use Rattle.theorems.proofs.demands.DemandThree.{keeps}
use Rattle.theorems.proofs.store.StoreAgrees.{Agrees, filled_is, position-is, newest-right, open_is, promised-is, places-are, double-not}
use Rattle.theorems.proofs.store.StoreFollows.{follows, empty-agrees}
use Rattle.theorems.proofs.store.AnswersHold.{answers_at}
use Rattle.theorems.proofs.newest.NewestHolds.{NewestNow, kept-ready, now-keeps, now-begins}
use Rattle.theorems.proofs.rights.RightsHold.{read_right}
use Rattle.theorems.proofs.rights.ListRights.{rights-same}
use Rattle.theorems.proofs.many.ActsHold.{expanded}
use Rattle.theorems.proofs.many.FetchReads.{list_same}

module _ (G D : ℕ) (z : Sizes G D) where
  module _ (w : World) (r : Running G D w) (s : Store) (a : Agrees G D w s) (k : NewestTrue w) where
    free-is : free_places w.state ≡ free_left s
    unfolding free_places free_left
    free-is =
        ap (λ (x : ℕ). x - promised w.state 8) (sym (places-are G D z w r s a)) ∙ ap (λ (x : ℕ). places_left s - x) (sym (promised-is G D z w r s a))

    idle-is : (v : ℕ) → v < 8 → not (is_open_now (writer_of w.state v)) ≡ is_idle (s.book.tasks v)
    idle-is v l =
        let e : is_open_now (writer_of w.state v) ≡ not (is_idle (s.book.tasks v)) = (unfold writer_open lent in open_is G D z w r s a [] [] v 0 l) in
        ap not e ∙ double-not G D z w r s a (is_idle (s.book.tasks v))

    reads-are : (blocks batch : List ℕ) (v h x : ℕ)
        → right_to_read (list_sign w.state) (homes (lent w blocks batch v h)) (read_list (lent w blocks batch v h)) v x ≡ may_read s.homes (list_of s) v x
    reads-are blocks batch v h x =
        ap (λ (ls : List ℕ). right_to_read (list_sign w.state) (homes (lent w blocks batch v h)) ls v x) (list_same w blocks blocks batch batch v v h x)
        ∙ (unfold read_allowed lent in read_right G D z w r s a k blocks batch v x)

    pub agreeing : Agreeing w s
    agreeing =
        let c = r.copies in
        record {
          groups_least = rw a.groups z.low;
          groups_most = rw a.groups z.high;
          homes_least = rw a.homes z.some-home;
          homes_most = rw a.homes z.homes;
          state = c.state_size;
          newest = rw a.homes (a.newest r.ready);
          log = rw a.groups c.log_size;
          area = rw a.homes c.area_size;
          order = rw (a.groups, a.homes) (order-in w.state G D c.order);
          next = sym (position-is G D z w r s a);
          filled = sym (filled_is G D z w r s a);
          free = free-is;
          writers = idle-is;
          stores = λ blocks batch v h x. rights-same w s blocks batch v h x a.book (a.homes ∙ sym c.homes) k (newest-right G D z w r s a blocks batch v h);
          reads = reads-are;
        }

  -- ---- a moment of a history of events

  record Moment (w : World) (s : Store) : Type 0 where
    invariant : Invariant G D w
    newest : NewestNow G D w
    agrees : Agrees G D w s

  moment-after : (es : List Event) (w : World) (s : Store) → Moment w s → AllAllowed w es → Moment (after w es) (followed s w es)
  unfolding after followed
  moment-after [] w s m ok = m
  moment-after (e ∷ es) w s m ok =
      moment-after es (step w e) (follow s w e)
      (record {
        invariant = (keeps G D z w m.invariant e ok.0).0;
        newest = now-keeps G D z w m.invariant m.newest e ok.0;
        agrees = follows G D z w m.invariant s m.agrees e ok.0;
      }) ok.1

  many-there : (w : World) (s : Store) → Invariant G D w → (w.ready ≡ true → NewestTrue w) → Agrees G D w s → w.ready ≡ true
      → (v h : ℕ) (blocks batch : List ℕ) → ManyAnswer w s v h blocks batch
  many-there w s (inl c) k a ready = absurd (false≢true (sym c.ready ∙ ready))
  many-there w s (inr r) k a ready = agreeing-answer w s (agreeing w r s a (k ready))

  answering : (w : World) (s : Store) → Moment w s → Answering w s
  answering w s m =
      let k = kept-ready G D z w m.invariant m.newest in
      record {
        events = answers_at G D z w m.invariant k s m.agrees;
        many = many-there w s m.invariant k m.agrees;
      }

  first-moment : Moment (empty_store G D) (new_store G D)
  first-moment = record { invariant = inl (format-closed G D z); newest = now-begins G D z; agrees = empty-agrees G D z }

events-answer : (G D : ℕ) (f : Formatting G D) (es : List Event) → AllAllowed (after_format f) es
    → Answering (after (after_format f) es) (followed (new_store G D) (after_format f) es)
events-answer G D f es ok =
    let z : Sizes G D = sizes f in
    rw (after-format f) (answering G D z _ _ (moment-after G D z es (empty_store G D) (new_store G D) (first-moment G D z) (rw (after-format f) at ok)))

pub acts-answer : ActsAnswer
unfolding store_after
acts-answer G D f acts ok =
    let x = expanded G D f acts ok in
    subst (λ (w : World). Answering w (followed (new_store G D) (after_format f) (expand_all (after_format f) acts))) x.1 (events-answer G D f (expand_all (after_format f) acts) x.0)
