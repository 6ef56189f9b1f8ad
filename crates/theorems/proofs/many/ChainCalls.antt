-- One call more of a transact, and what it leaves and is told: the world, its records and their bytes. Assumes nothing.
use Prim.Native.Nat.{ℕ, ◌+◌}
use mathlib.Core.Path.{◌≡◌, refl, sym, ap, ◌∙◌, subst}
use mathlib.Core.Bool.{true, cond}
use mathlib.Core.List.{List, [], ◌∷◌, ◌++◌, append_assoc}
use native.Mathlib.Omega.{arith}
use lib.Dec.{eqb}
use lib.ListN.{length, take, length-append}
use borrow.Author.Tests.{eq-eqb}
use Rattle.model.specs.Batch.{batch_bytes, read_batch}
use Rattle.model.specs.Effects.{Given, Effect, new_state, tags_of, live_base, log_held, log_closing, store_first, store_again, store_other, kept_commit, commit_held, abort_effect, store_effect, commit_effect}
use Rattle.model.specs.Questions.{store_answer, commit_answer}
use Rattle.model.specs.Calls.{done, outcome, size_of, store_call, commit_call}
use Rattle.acts.specs.Many.{lent_on, and_then}
use Rattle.model.specs.Book.{Book}
use Rattle.model.specs.Book as book
use Rattle.model.specs.History.{Call, store, commit, Event, call, crash, World, lent, ends, change_ends, feed, feed_change, is_confirm, step, after as played}
use Rattle.abstract_store.specs.Store.{Store, after_reply, reply_of, follow}
use Rattle.abstract_store.specs.Store as abstract
use Rattle.acts.specs.Units.{left_under, roomy}
use Rattle.model_laws.proofs.state.BatchLaws.{AllFormed, batch-append}
use Rattle.acts.proofs.ManyLaws.{store-fits, commit-fits}
use Rattle.theorems.proofs.steps.DoneLaws.{outcome-code, outcome-done, after, step-done}
use Rattle.theorems.proofs.steps.FormedLaws.{store-formed, commit-formed}
use Rattle.model_laws.proofs.state.LoggingLaws.{fits}

-- the world with what an effect leaves, and a book
abbrev pub stepped : World → Effect → Book → World
stepped w e b =
    record {
      homes = w.homes;
      state = e.state;
      newest = e.newest;
      log = e.log;
      area = e.area;
      memory = w.memory;
      pending = w.pending ++ e.records;
      passed = w.passed;
      ready = true;
      book = b;
    }

pub follow-done : (w : World) (s : Store) (c : Call) → (ends w c).code ≡ 0 → follow s w (call c) ≡ abstract.after_done s c (ends w c).figure
unfolding follow after_reply reply_of
follow-done w s c e = rw (eq-eqb (ends w c).code 0 e)

pub one-played : (w : World) (e : Event) → played w (e ∷ []) ≡ step w e
unfolding played
one-played w e = refl

-- what a store and a commit do does not hang on the batch that they are lent
store-aside : (w : World) (g : Given) (e : Effect) (b : Book) (home : ℕ) (block batch : List ℕ)
    → store_effect (lent (stepped w e b) block batch g.writer home) ≡ store_effect (lent_on g e home block)
unfolding store_effect store_first store_again store_other new_state log_held lent lent_on
store-aside w g e b home block batch = refl

commit-aside : (w : World) (g : Given) (e : Effect) (b : Book) (batch : List ℕ)
    → commit_effect (lent (stepped w e b) [] batch g.writer 0) ≡ commit_effect (lent_on g e 0 [])
unfolding commit_effect commit_held abort_effect new_state log_closing kept_commit tags_of live_base lent lent_on
commit-aside w g e b batch = refl

pub left-done : (w : World) (g : Given) (e : Effect) (b : ℕ → Book) → w.ready ≡ true → read_batch (take (done g e).size (done g e).batch) ≡ e.records
    → left_under w (done g e) (cond (eqb (done g e).code 0) (b (done g e).figure) w.book) ≡ stepped w e (b e.figure)
unfolding left_under done
left-done w g e b ready same = rw (same, ready)

pub done-size : (g : Given) (a : ℕ) (e : Effect) → a ≡ 0 → ((outcome g a e).size ≡ size_of e) × ((outcome g a e).figure ≡ e.figure)
done-size g a e z = rw (outcome-done g a e z) (unfold done size_of in (refl, refl))

-- ---- one call more

module _ (w : World) (g : Given) (e : Effect) (b : Book) where
  pub store-steps : (home : ℕ) (block : List ℕ) → (ends (stepped w e b) (store g.writer home block roomy)).code ≡ 0
      → step (stepped w e b) (call (store g.writer home block roomy))
      ≡ stepped w (and_then g e (store_effect (lent_on g e home block))) (book.store b g.writer home block)
  unfolding ends change_ends store_call
  store-steps home block z =
      let u : World = stepped w e b in
      let c : Call = store g.writer home block roomy in
      let x : Given = lent u block roomy g.writer home in
      let a : ℕ = store_answer x (size_of (store_effect x)) in
      let k : a ≡ 0 = sym (outcome-code x a (store_effect x)) ∙ z in
      step-done u c x a (store_effect x) refl k (store-formed x (size_of (store_effect x)) k) (fits x (size_of (store_effect x)) (store-fits x (size_of (store_effect x)) k))
      ∙ ap (after u c) (store-aside w g e b home block roomy) ∙ same (store_effect (lent_on g e home block))
    where
      same : (f : Effect) → after (stepped w e b) (store g.writer home block roomy) f ≡ stepped w (and_then g e f) (book.store b g.writer home block)
      same f = unfold and_then feed feed_change is_confirm in rw (append_assoc w.pending e.records f.records)

  pub store-formed-on : (home : ℕ) (block : List ℕ) → (ends (stepped w e b) (store g.writer home block roomy)).code ≡ 0
      → AllFormed (store_effect (lent_on g e home block)).records
  unfolding ends change_ends store_call
  store-formed-on home block z =
      let x : Given = lent (stepped w e b) block roomy g.writer home in
      let a : ℕ = store_answer x (size_of (store_effect x)) in
      subst (λ (f : Effect). AllFormed f.records) (store-aside w g e b home block roomy)
      (store-formed x (size_of (store_effect x)) (sym (outcome-code x a (store_effect x)) ∙ z))

  pub commit-steps : (ends (stepped w e b) (commit g.writer roomy)).code ≡ 0
      → step (stepped w e b) (call (commit g.writer roomy))
      ≡ stepped w (and_then g e (commit_effect (lent_on g e 0 []))) (book.commit b g.writer (commit_effect (lent_on g e 0 [])).figure)
  unfolding ends change_ends commit_call
  commit-steps z =
      let u : World = stepped w e b in
      let c : Call = commit g.writer roomy in
      let x : Given = lent u [] roomy g.writer 0 in
      let a : ℕ = commit_answer x (size_of (commit_effect x)) in
      let k : a ≡ 0 = sym (outcome-code x a (commit_effect x)) ∙ z in
      step-done u c x a (commit_effect x) refl k (commit-formed x (size_of (commit_effect x)) k) (fits x (size_of (commit_effect x)) (commit-fits x (size_of (commit_effect x)) k))
      ∙ ap (after u c) (commit-aside w g e b roomy) ∙ same (commit_effect (lent_on g e 0 []))
    where
      same : (f : Effect) → after (stepped w e b) (commit g.writer roomy) f ≡ stepped w (and_then g e f) (book.commit b g.writer f.figure)
      same f = unfold and_then feed feed_change is_confirm in rw (append_assoc w.pending e.records f.records)

  pub commit-formed-on : (ends (stepped w e b) (commit g.writer roomy)).code ≡ 0 → AllFormed (commit_effect (lent_on g e 0 [])).records
  unfolding ends change_ends commit_call
  commit-formed-on z =
      let x : Given = lent (stepped w e b) [] roomy g.writer 0 in
      let a : ℕ = commit_answer x (size_of (commit_effect x)) in
      subst (λ (f : Effect). AllFormed f.records) (commit-aside w g e b roomy)
      (commit-formed x (size_of (commit_effect x)) (sym (outcome-code x a (commit_effect x)) ∙ z))

  -- their records' bytes, and the commit's figure
  pub store-sized : (home : ℕ) (block : List ℕ) → (ends (stepped w e b) (store g.writer home block roomy)).code ≡ 0
      → (ends (stepped w e b) (store g.writer home block roomy)).size ≡ size_of (store_effect (lent_on g e home block))
  unfolding ends change_ends store_call
  store-sized home block z =
      let x : Given = lent (stepped w e b) block roomy g.writer home in
      let a : ℕ = store_answer x (size_of (store_effect x)) in
      (done-size x a (store_effect x) (sym (outcome-code x a (store_effect x)) ∙ z)).0 ∙ ap size_of (store-aside w g e b home block roomy)

  pub commit-sized : (ends (stepped w e b) (commit g.writer roomy)).code ≡ 0
      → ((ends (stepped w e b) (commit g.writer roomy)).size ≡ size_of (commit_effect (lent_on g e 0 [])))
      × ((ends (stepped w e b) (commit g.writer roomy)).figure ≡ (commit_effect (lent_on g e 0 [])).figure)
  unfolding ends change_ends commit_call
  commit-sized z =
      let x : Given = lent (stepped w e b) [] roomy g.writer 0 in
      let a : ℕ = commit_answer x (size_of (commit_effect x)) in
      let k = done-size x a (commit_effect x) (sym (outcome-code x a (commit_effect x)) ∙ z) in
      (k.0 ∙ ap size_of (commit-aside w g e b roomy), k.1 ∙ ap (λ (f : Effect). f.figure) (commit-aside w g e b roomy))

-- ---- the bytes of records that the calls of some events write

unfoldable pub sizes : World → List Event → ℕ
sizes w [] = 0
sizes w (call c ∷ es) = (ends w c).size + sizes (step w (call c)) es
sizes w (crash passed chosen ∷ es) = sizes (step w (crash passed chosen)) es

pub sizes-append : (es fs : List Event) (w : World) → sizes w (es ++ fs) ≡ sizes w es + sizes (played w es) fs
unfolding sizes played
sizes-append [] fs w = omega arith
sizes-append (call c ∷ es) fs w = omega (arith, sizes-append es fs (step w (call c)))
sizes-append (crash passed chosen ∷ es) fs w = sizes-append es fs (step w (crash passed chosen))

pub one_size : (w : World) (c : Call) → sizes w (call c ∷ []) ≡ (ends w c).size
unfolding sizes
one_size w c = omega arith

pub size-then : (g : Given) (a b : Effect) → size_of (and_then g a b) ≡ size_of a + size_of b
unfolding size_of and_then
size-then g a b = ap length (batch-append a.records b.records) ∙ length-append (batch_bytes a.records) (batch_bytes b.records)
