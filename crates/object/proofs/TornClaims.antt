-- Demand 2 and the answers over torn crashes: the invariants that the old claims rest on hold after a torn crash too.
use Prim.Native.Nat.{ℕ, ◌*◌, ◌<◌}
use mathlib.Core.Path.{◌≡◌, refl, sym, ap, ◌∙◌, subst, fun_ext}
use mathlib.Core.Logic.{inl, inr}
use mathlib.Core.Bool.{Bool, true, false≢true}
use mathlib.Core.List.{List, [], ◌∷◌}
use native.Mathlib.Omega.{arith}
use Rattle.model.specs.Layout.{header_start, entry_at}
use Rattle.model.specs.Commit.{transactions}
use Rattle.model.specs.declared.Tag.{Tag}
use Rattle.model.specs.Crash.{Memory, persist}
use Rattle.model.specs.DemandTwo.{Live, contents, each_contents}
use Rattle.model.specs.History.{crash, World, Formatting, after_format, empty_store, step, after_crash}
use Rattle.abstract_store.specs.Store.{Store, new_store, follow, found_in_memory}
use Rattle.model_laws.proofs.trace.TraceLaws.{All}
use Rattle.theorems.proofs.invariant.Invariant.{Sizes, Invariant}
use Rattle.theorems.proofs.invariant.TouchLaws.{CommitFits, commits-fit}
use Rattle.theorems.proofs.steps.Beginning.{format-closed}
use Rattle.theorems.proofs.steps.FormatRuns.{after-format, sizes}
use Rattle.theorems.proofs.demands.LiveHolds.{live-holds}
use Rattle.theorems.proofs.demands.YieldsAll.{Owing, owing-keeps, event-yields, format-owing}
use Rattle.theorems.proofs.newest.NewestShown.{shown-current}
use Rattle.theorems.proofs.newest.NewestHolds.{NewestNow, kept-ready, now-keeps, now-begins}
use Rattle.theorems.proofs.store.StoreAgrees.{Agrees}
use Rattle.theorems.proofs.store.StoreFollows.{follows, empty-agrees}
use Rattle.theorems.proofs.store.AnswersHold.{answers_at}
use Rattle.object.specs.Alike.{Alike, Tearing, plain, torn, with_memory, tears, torn_after, TearingAllowed, AllTearingsAllowed}
use Rattle.object.specs.TornClaims.{TearingYields, LiveTorn, Demand2Torn, follow_torn, followed_torn, TearingAnswers, FoundBack, AnswersThroughTorn, AnswersTorn}
use Rattle.object.proofs.AlikeLaws.{start-same, SameBlock, entry-same, blocks-found}
use Rattle.object.proofs.TornHolds.{keeps-torn}

-- the commit rule finds the same in memories that are alike
module _ (G D : ℕ) (g : 0 < G) (a b : Memory) (k : Alike G D a b) where
  abbrev tags : ℕ → Tag
  tags = entry_at b.log G D (header_start b.log)

  contents-same : (ps : List ℕ) → All (SameBlock G D g a b k) ps → contents tags a.log G ps ≡ contents tags b.log G ps
  unfolding contents
  contents-same [] h = refl
  contents-same (p ∷ ps) h = rw (h.0, contents-same ps h.1)

  each_same : (ts : List (List ℕ)) → All (All (SameBlock G D g a b k)) ts → each_contents tags a.log G ts ≡ each_contents tags b.log G ts
  unfolding each_contents
  each_same [] h = refl
  each_same (t ∷ ts) h = rw (contents-same t h.0, each_same ts h.1)

  found-same : header_start a.log ≡ header_start b.log → found_in_memory G D a ≡ found_in_memory G D b
  unfolding found_in_memory
  found-same e =
      rw e
      (ap (λ (t : ℕ → Tag). each_contents t a.log G (transactions t (7 * header_start b.log) (7 * G))) (fun_ext (entry-same G D g a b k))
      ∙ each_same (transactions tags (7 * header_start b.log) (7 * G)) (blocks-found G D g a b k))

module _ (G D : ℕ) (z : Sizes G D) where
  -- a torn crash leaves a world in which no opening is done
  not-ready : (w : World) (passed : ℕ) (chosen : ℕ → Bool) (left : Memory) → (tears w (torn passed chosen left)).ready ≡ true → ⊥
  unfolding tears with_memory after_crash
  not-ready w passed chosen left e = false≢true e

  owing-torn : (w : World) → Invariant G D w → Owing w → (t : Tearing) → TearingAllowed G w t → Owing (tears w t)
  owing-torn w i o (plain e) a = unfold tears in owing-keeps G D z w i o e a
  owing-torn w i o (torn passed chosen left) a = λ h. absurd (not-ready w passed chosen left h)

  crash-agrees : (w : World) (s : Store) (passed : ℕ) (chosen : ℕ → Bool) (left : Memory)
      → Agrees G D (after_crash w passed chosen) (follow s w (crash passed chosen)) → Alike G D left (persist passed chosen w.pending w.memory)
      → Agrees G D (with_memory (after_crash w passed chosen) left) (follow s w (crash passed chosen))
  unfolding with_memory after_crash
  crash-agrees w s passed chosen left a k =
      let m : Memory = persist passed chosen w.pending w.memory in
      let e : header_start left.log ≡ header_start m.log = start-same G D left m k in
      record {
        groups = a.groups;
        homes = a.homes;
        head = a.head ∙ sym e;
        found = found-same G D (omega (arith, z.low)) left m k e ∙ a.found;
        book = a.book;
        numbers = λ h. absurd (false≢true h);
        newest = λ h. absurd (false≢true h);
        promises = λ h. absurd (false≢true h);
      }

  pub homes-of : (w : World) → Invariant G D w → w.homes ≡ D
  homes-of w (inl c) = c.homes
  homes-of w (inr r) = r.copies.homes

  agrees-torn : (w : World) → Invariant G D w → (s : Store) → Agrees G D w s → (t : Tearing) → TearingAllowed G w t
      → Agrees G D (tears w t) (follow_torn s w t)
  unfolding tears follow_torn
  agrees-torn w i s a (plain e) h = follows G D z w i s a e h
  agrees-torn w i s a (torn passed chosen left) h =
      crash-agrees w s passed chosen left (unfold step in follows G D z w i s a (crash passed chosen) (h.0, h.1))
      (subst (λ (d : ℕ). Alike G d left (persist passed chosen w.pending w.memory)) (homes-of w i) h.2)

  now-torn : (w : World) → Invariant G D w → NewestNow G D w → (t : Tearing) → TearingAllowed G w t → NewestNow G D (tears w t)
  now-torn w i k (plain e) h = unfold tears in now-keeps G D z w i k e h
  now-torn w i k (torn passed chosen left) h = (
    (follow_torn k.0.0 w (torn passed chosen left), agrees-torn w i k.0.0 k.0.1 (torn passed chosen left) h, λ q. absurd (not-ready w passed chosen left q)),
    (λ q. absurd (not-ready w passed chosen left q)),
    λ q. absurd (not-ready w passed chosen left q),
  )

  -- what holds at every moment
  pub record Standing (w : World) (s : Store) : Type 0 where
    pub invariant : Invariant G D w
    pub owing : Owing w
    pub now : NewestNow G D w
    pub agrees : Agrees G D w s

  pub stands : (w : World) (s : Store) → Standing w s → (t : Tearing) → TearingAllowed G w t → Standing (tears w t) (follow_torn s w t)
  stands w s k t a =
      record {
        invariant = (keeps-torn G D z w k.invariant t a).0;
        owing = owing-torn w k.invariant k.owing t a;
        now = now-torn w k.invariant k.now t a;
        agrees = agrees-torn w k.invariant s k.agrees t a;
      }

  pub live_now : (w : World) (s : Store) → Standing w s → w.ready ≡ true → Live w
  live_now w s k = go k.invariant
    where
      go : Invariant G D w → w.ready ≡ true → Live w
      go (inl c) h = absurd (false≢true (sym c.ready ∙ h))
      go (inr r) h = live-holds G D z w r (shown-current G D z w r (k.now.0.2 h))

  yields-now : (w : World) (s : Store) → Standing w s → (t : Tearing) → TearingAllowed G w t → TearingYields w t
  yields-now w s k (plain e) a = event-yields G D z w k.invariant k.owing (live_now w s k) e a
  yields-now w s k (torn passed chosen left) a = tt

  found-now : (w : World) (s : Store) → Standing w s → FoundBack w s
  found-now w s k = rw (k.agrees.groups, k.agrees.homes) k.agrees.found

  pub answers-now : (w : World) (s : Store) → Standing w s → (t : Tearing) → TearingAllowed G w t → TearingAnswers w s t
  answers-now w s k (plain e) a = answers_at G D z w k.invariant (kept-ready G D z w k.invariant k.now) s k.agrees e a
  answers-now w s k (torn passed chosen left) a = tt

  pub fit-now : (w : World) (s : Store) → Standing w s → w.ready ≡ true → All (CommitFits D) w.book.commits
  fit-now w s k = go k.invariant
    where
      go : Invariant G D w → w.ready ≡ true → All (CommitFits D) w.book.commits
      go (inl c) h = absurd (false≢true (sym c.ready ∙ h))
      go (inr r) h = commits-fit D r.b r.tr r.old w.book.commits r.copies.sound r.commits

  -- ---- along a history

  live-torn : (ts : List Tearing) (w : World) (s : Store) → Standing w s → AllTearingsAllowed G w ts → LiveTorn w ts
  live-torn [] w s k a = live_now w s k
  live-torn (t ∷ ts) w s k a = (live_now w s k, yields-now w s k t a.0, live-torn ts (tears w t) (follow_torn s w t) (stands w s k t a.0) a.1)

  answers-torn : (ts : List Tearing) (w : World) (s : Store) → Standing w s → AllTearingsAllowed G w ts → AnswersThroughTorn w s ts
  answers-torn [] w s k a = found-now w s k
  answers-torn (t ∷ ts) w s k a =
      (found-now w s k, answers-now w s k t a.0, answers-torn ts (tears w t) (follow_torn s w t) (stands w s k t a.0) a.1)

  pub stands_after : (ts : List Tearing) (w : World) (s : Store) → Standing w s → AllTearingsAllowed G w ts → Standing (torn_after w ts) (followed_torn s w ts)
  unfolding torn_after followed_torn
  stands_after [] w s k a = k
  stands_after (t ∷ ts) w s k a = stands_after ts (tears w t) (follow_torn s w t) (stands w s k t a.0) a.1

  stands-first : Standing (empty_store G D) (new_store G D)
  stands-first =
      record {
        invariant = inl (format-closed G D z);
        owing = format-owing G D;
        now = now-begins G D z;
        agrees = empty-agrees G D z;
      }

-- ---- from every format on

pub stands-there : (G D : ℕ) (f : Formatting G D) → Standing G D (sizes f) (after_format f) (new_store G D)
stands-there G D f = rw (after-format f) (stands-first G D (sizes f))

pub demand2-torn : Demand2Torn
demand2-torn G D f ts a = live-torn G D (sizes f) ts (after_format f) (new_store G D) (stands-there G D f) a

pub answers-torn-hold : AnswersTorn
answers-torn-hold G D f ts a = answers-torn G D (sizes f) ts (after_format f) (new_store G D) (stands-there G D f) a
