-- Histories with calls on several homes are histories of the events that they stand for; and what a done fetch or revise gives, in the book's terms.
-- Assumes nothing.
use Prim.Native.Nat.{ℕ, zero, suc}
use mathlib.Core.Path.{◌≡◌, refl, sym, ap, ◌∙◌, subst}
use mathlib.Core.Bool.{Bool, true, false, cond}
use mathlib.Core.List.{List, [], ◌∷◌, append-nil}
use lib.Dec.{eqb}
use lib.ListN.{take}
use borrow.Author.Tests.{eqb-true, eqb-false, ne_eqb}
use Rattle.model.specs.Batch.{batch_bytes, read_batch, read_records}
use Rattle.model.specs.Effects.{Given, Effect, homes}
use Rattle.model.specs.Calls.{refused, done, outcome, size_of}
use Rattle.acts.specs.Many.{fetch_effect, fetch_answer, revise_answer, fetch_call, revise_call, transact_effect, transact_answer, transact_call}
use Rattle.model.specs.Book.{Book}
use Rattle.model.specs.History.{Event, World, Formatting, after_format, lent, step, after, AllAllowed}
use Rattle.abstract_store.specs.Store.{Store, new_store}
use Rattle.acts.specs.Units.{Act, plain, transacts, fetches, revises, transact_ends, fetch_ends, revise_ends, feed_transact, left_under, act, acted, ActAllowed, AllActsAllowed, chain, expand, expand_all, ActsExpand}
use Rattle.theorems.proofs.steps.DoneLaws.{outcome-code}
use Rattle.theorems.proofs.store.Reached.{Reached, begins, after-append, allowed-append, goes_on}
use Rattle.theorems.proofs.many.ManyRuns.{transact-chain}

-- ---- a refused call, and one that reads only, leaves the world as it is

nothing_read : (batch : List ℕ) → read_batch (take 0 batch) ≡ []
unfolding read_batch read_records
nothing_read batch = refl

refused-left : (w : World) (blocks batch : List ℕ) (v h k : ℕ) → left_under w (refused (lent w blocks batch v h) k) w.book ≡ w
unfolding left_under refused lent
refused-left w blocks batch v h k = rw (nothing_read batch, append-nil w.pending)

fetch-done-left : (w : World) (blocks : List ℕ) (v h : ℕ) → left_under w (done (lent w blocks [] v h) (fetch_effect (lent w blocks [] v h))) w.book ≡ w
unfolding left_under done fetch_effect lent batch_bytes
fetch-done-left w blocks v h = rw (nothing_read _, append-nil w.pending)

fetch-left : (w : World) (blocks : List ℕ) (v h a : ℕ) → left_under w (outcome (lent w blocks [] v h) a (fetch_effect (lent w blocks [] v h))) w.book ≡ w
unfolding outcome
fetch-left w blocks v h zero = fetch-done-left w blocks v h
fetch-left w blocks v h (suc k) = refused-left w blocks [] v h (suc k)

transact-left : (w : World) (blocks batch : List ℕ) (v h a : ℕ) (e : Effect) (b : ℕ → Book) → ((outcome (lent w blocks batch v h) a e).code ≡ 0 → ⊥)
    → left_under w (outcome (lent w blocks batch v h) a e)
    (cond (eqb (outcome (lent w blocks batch v h) a e).code 0) (b (outcome (lent w blocks batch v h) a e).figure) w.book)
    ≡ w
transact-left w blocks batch v h zero e b n = absurd (n (outcome-code (lent w blocks batch v h) 0 e))
transact-left w blocks batch v h (suc k) e b n =
    rw (ne_eqb (outcome (lent w blocks batch v h) (suc k) e).code 0 n) (unfold outcome in refused-left w blocks batch v h (suc k))

pub refused-stays : (w : World) (v h : ℕ) (blocks batch : List ℕ) → ((transact_ends w v h blocks batch).code ≡ 0 → ⊥) → act w (transacts v h blocks batch) ≡ w
unfolding act transact_ends transact_call
refused-stays w v h blocks batch n =
    let g : Given = lent w blocks batch v h in
    transact-left w blocks batch v h (transact_answer g (size_of (transact_effect g))) (transact_effect g) (feed_transact w.book v h blocks) n

pub fetch-stays : (w : World) (v h : ℕ) (blocks : List ℕ) → act w (fetches v h blocks) ≡ w
unfolding act fetch_ends fetch_call
fetch-stays w v h blocks = fetch-left w blocks v h (fetch_answer (lent w blocks [] v h))

pub revise-stays : (w : World) (v h : ℕ) (blocks : List ℕ) → act w (revises v h blocks) ≡ w
unfolding act revise_ends revise_call
revise-stays w v h blocks = fetch-left w blocks v h (revise_answer (lent w blocks [] v h))

-- ---- expansion

none-expands : (w u : World) → u ≡ w → AllAllowed w [] × (after w [] ≡ u)
unfolding after
none-expands w u e = (tt, sym e)

pub act-expands : (w : World) (s : Store) (a : Act) → Reached w s → ActAllowed w a → AllAllowed w (expand w a) × (after w (expand w a) ≡ act w a)
unfolding expand
act-expands w s (plain e) r ok = ((ok, tt), (unfold after act in refl))
act-expands w s (transacts v h blocks batch) r ok = go (eqb code 0) refl
  where
    code : ℕ
    code = (transact_ends w v h blocks batch).code

    go : (d : Bool) → eqb code 0 ≡ d
        → AllAllowed w (cond d (chain v h blocks) []) × (after w (cond d (chain v h blocks) []) ≡ act w (transacts v h blocks batch))
    go true e = transact-chain w s r ok v h blocks batch (eqb-true code 0 e)
    go false e = none-expands w (act w (transacts v h blocks batch)) (refused-stays w v h blocks batch (eqb-false code 0 e))
act-expands w s (fetches v h blocks) r ok = none-expands w (act w (fetches v h blocks)) (fetch-stays w v h blocks)
act-expands w s (revises v h blocks) r ok = none-expands w (act w (revises v h blocks)) (revise-stays w v h blocks)

-- a world that some history reaches
abbrev pub Somewhere : World → Type 0
Somewhere w = (s : Store) × Reached w s

pub goes-all : (es : List Event) (w : World) → Somewhere w → AllAllowed w es → Somewhere (after w es)
unfolding after
goes-all [] w r a = r
goes-all (e ∷ es) w (s, r) a = goes-all es (step w e) (_, goes_on w s e r a.0) a.1

pub act-somewhere : (w : World) (a : Act) → Somewhere w → ActAllowed w a → Somewhere (act w a)
act-somewhere w a (s, r) ok = let x = act-expands w s a r ok in subst Somewhere x.1 (goes-all (expand w a) w (s, r) x.0)

acts-expand : (acts : List Act) (w : World) → Somewhere w → AllActsAllowed w acts
    → AllAllowed w (expand_all w acts) × (after w (expand_all w acts) ≡ acted w acts)
unfolding expand_all acted
acts-expand [] w r a = (tt, (unfold after in refl))
acts-expand (c ∷ more) w r a =
    let x = act-expands w r.0 c r.1 a.0 in
    let y = acts-expand more (act w c) (act-somewhere w c r a.0) a.1 in (
      allowed-append (expand w c) (expand_all (act w c) more) w x.0 (subst (λ (u : World). AllAllowed u (expand_all (act w c) more)) (sym x.1) y.0),
      after-append (expand w c) (expand_all (act w c) more) w ∙ ap (λ (u : World). after u (expand_all (act w c) more)) x.1 ∙ y.1,
    )

pub acts-somewhere : (acts : List Act) (w : World) → Somewhere w → AllActsAllowed w acts → Somewhere (acted w acts)
unfolding acted
acts-somewhere [] w r a = r
acts-somewhere (c ∷ more) w r a = acts-somewhere more (act w c) (act-somewhere w c r a.0) a.1

pub expanded : ActsExpand
expanded groups homes f acts a = acts-expand acts (after_format f) (new_store groups homes, begins f) a

-- what holds of every history of events holds of the events that a history of acts stands for
pub holds-of-acts : (Claim : ℕ → ℕ → World → List Event → Type 0)
    → ((groups homes : ℕ) (f : Formatting groups homes) (es : List Event) → AllAllowed (after_format f) es → Claim groups homes (after_format f) es)
    → (groups homes : ℕ) (f : Formatting groups homes) (acts : List Act) → AllActsAllowed (after_format f) acts
    → Claim groups homes (after_format f) (expand_all (after_format f) acts)
holds-of-acts Claim h groups homes f acts a = h groups homes f (expand_all (after_format f) acts) (expanded groups homes f acts a).0
