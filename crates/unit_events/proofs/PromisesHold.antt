-- The store's promises to events. Assumes nothing.
use Prim.Native.Nat.{ℕ, zero, suc, ◌+◌, ◌/◌, ◌≤◌, ◌<◌}
use mathlib.Core.Path.{◌≡◌, sym, ◌∙◌}
use mathlib.Core.Bool.{true}
use mathlib.Core.List.{List, append-nil}
use lib.ListN.{length}
use Rattle.model.specs.Batch.{read_batch, read_records}
use Rattle.model.specs.State.{list_sign}
use Rattle.model.specs.Effects.{Given, Effect, homes, store_effect}
use Rattle.model.specs.Questions.{store_answer}
use Rattle.model.specs.Rights.{read_list, may_store, right_to_store}
use Rattle.model.specs.Calls.{refused, outcome, size_of, store_call}
use Rattle.model.specs.History.{store, call, World, after_format, lent, ends, change_ends, is_opening, after_call, after_refused, step}
use Rattle.abstract_store.specs.Store.{Store, new_store, list_of, reply_change, reply}
use Rattle.acts.specs.Many.{blocks_lent, may_store_all, transact_effect, transact_answer, transact_call}
use Rattle.acts.specs.Units.{plain, transact_ends, act, acted}
use Rattle.model_laws.proofs.state.QuestionLaws.{ask-passed}
use Rattle.acts.proofs.ManyLaws.{each_of, transact-ready}
use Rattle.theorems.proofs.steps.DoneLaws.{outcome-code}
use Rattle.theorems.proofs.store.Reached.{Reached, begins, call-code, kept_then, same-book, same-homes}
use Rattle.theorems.proofs.rights.ListRights.{rights-same}
use Rattle.theorems.proofs.many.StoreMany.{told-code}
use Rattle.theorems.proofs.many.ActsHold.{refused-stays, fetch-stays, revise-stays, Somewhere, acts-somewhere}
use Rattle.unit_events.specs.Promises.{RefusalsStay, list_in, RightsHad, RightsAlwaysHad}

-- a refused store leaves the world as it is
store-left : (w : World) (v h : ℕ) (block batch : List ℕ) (a : ℕ) (e : Effect) → ((outcome (lent w block batch v h) a e).code ≡ 0 → ⊥)
    → after_call w (store v h block batch) (outcome (lent w block batch v h) a e) (outcome (lent w block batch v h) a e).code ≡ w
unfolding outcome after_call after_refused refused is_opening lent read_batch read_records
store-left w v h block batch zero e n = absurd (n (outcome-code (lent w block batch v h) 0 e))
store-left w v h block batch (suc k) e n = rw (append-nil w.pending)

store-stays : (w : World) (v h : ℕ) (block batch : List ℕ) → ((ends w (store v h block batch)).code ≡ 0 → ⊥) → act w (plain (call (store v h block batch))) ≡ w
unfolding act step ends change_ends store_call
store-stays w v h block batch n =
    let g : Given = lent w block batch v h in
    store-left w v h block batch (store_answer g (size_of (store_effect g))) (store_effect g) n

-- a done transact has homes
transact-some : (w : World) (v h : ℕ) (blocks batch : List ℕ) → (transact_ends w v h blocks batch).code ≡ 0 → 1 ≤ length blocks / 64
unfolding transact_ends transact_call blocks_lent lent
transact-some w v h blocks batch z =
    let g : Given = lent w blocks batch v h in
    (transact-ready g (size_of (transact_effect g)) (sym (outcome-code g (transact_answer g (size_of (transact_effect g))) (transact_effect g)) ∙ z)).lent.some

pub refusals-stay : RefusalsStay
refusals-stay w =
    record {
      stores = store-stays w;
      transactions = refused-stays w;
      fetching = fetch-stays w;
      revising = revise-stays w;
      some = transact-some w;
    }

module _ (w : World) (s : Store) (r : Reached w s) (ready : w.ready ≡ true) where
  list_same : (v x : ℕ) → may_store s.homes (list_of s) v x ≡ may_store w.homes (list_in w) v x
  unfolding list_of list_in
  list_same v x = rw (same-book w s r, same-homes w s r)

  -- a done store has the right
  store-may : (v h : ℕ) (block batch : List ℕ) → (ends w (store v h block batch)).code ≡ 0 → may_store w.homes (list_in w) v h ≡ true
  unfolding reply reply_change is_opening
  store-may v h block batch z =
      let e : (reply s (store v h block batch)).code ≡ 0 = sym (call-code w s (store v h block batch) r (rw ready)) ∙ z in
      let a = ask-passed _ 0 _ (sym (told-code _ _ _) ∙ e) in
      let b = ask-passed _ 3 _ a.1 in
      let c = ask-passed _ 4 _ b.1 in
      sym (list_same v h) ∙ (ask-passed (may_store s.homes (list_of s) v h) 18 _ c.1).0

  -- a done transact has it for all its homes
  transact-may : (v h : ℕ) (blocks batch : List ℕ) → (transact_ends w v h blocks batch).code ≡ 0 → (k : ℕ) → k < length blocks / 64
      → may_store w.homes (list_in w) v (h + k) ≡ true
  unfolding transact_ends transact_call may_store_all blocks_lent lent
  transact-may v h blocks batch z k l =
      let g : Given = lent w blocks batch v h in
      let t = transact-ready g (size_of (transact_effect g)) (sym (outcome-code g (transact_answer g (size_of (transact_effect g))) (transact_effect g)) ∙ z) in
      sym (list_same v (h + k))
      ∙ sym (rights-same w s blocks batch v h (h + k) (same-book w s r) (same-homes w s r) (kept_then w s r ready) t.lent.newest)
      ∙ each_of (right_to_store (list_sign w.state) (homes g) (read_list g) v) h (length blocks / 64) t.allowed k l

had-there : (w : World) → Somewhere w → RightsHad w
had-there w (s, r) =
    record {
      stores = λ v h block batch ready z. store-may w s r ready v h block batch z;
      transactions = λ v h blocks batch ready z k l. transact-may w s r ready v h blocks batch z k l;
    }

pub rights-always-had : RightsAlwaysHad
rights-always-had groups homes f acts ok = had-there (acted (after_format f) acts) (acts-somewhere acts (after_format f) (new_store groups homes, begins f) ok)
