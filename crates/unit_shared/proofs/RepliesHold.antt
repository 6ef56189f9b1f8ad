-- What calls on a unit answer, from what fetch, revise and transact answer. Assumes nothing.
use Prim.Native.Nat.{ℕ, zero, suc, ◌+◌, ◌*◌, ◌≤◌, ◌<◌}
use mathlib.Core.Path.{◌≡◌, refl, sym, ap, ◌∙◌, subst}
use mathlib.Core.Logic.{◌≢◌}
use mathlib.Core.Bool.{Bool, true, false, cond}
use mathlib.Core.List.{List, [], ◌∷◌}
use native.Mathlib.Omega.{arith}
use lib.Dec.{eqb, leb, ltb}
use lib.ListN.{length}
use borrow.Author.Tests.{eq-eqb, ne_eqb, le-leb, lt-leb}
use Rattle.model.specs.Bytes.{zeros}
use Rattle.model.specs.Questions.{ask}
use Rattle.model.specs.History.{World, Formatting, after_format, lent}
use Rattle.model_laws.proofs.bytes.ByteLaws.{length-zeros}
use Rattle.abstract_store.specs.Store.{Store, next_of, Reply, told, reply_of}
use Rattle.acts.specs.Units.{Act, revises, transacts, act, acted, AllActsAllowed, fetch_ends, revise_ends, transact_ends}
use Rattle.acts.specs.Replies.{many_blocks, whole_blocks, may_store_each, may_read_each, ask_named, ask_blocks, transact_bytes, ask_entries, reply_fetch, reply_revise, reply_transact}
use Rattle.theorems.proofs.many.StoreMany.{told-code}
use Rattle.theorems.proofs.many.ActsAnswerHolds.{acts-answer}
use Rattle.unit_events.specs.Folded.{Step, acts, offers, sets, first, read_for, event_answer, storing, acts_of, stepped, ran, StepAllowed, AllStepsAllowed}
use Rattle.unit_events.proofs.FoldedHolds.{acted-append, allowed-append}
use Rattle.unit_events.proofs.PromisesHold.{refusals-stay}
use Rattle.unit_shared.specs.Unit.{UnitOutcome, untouched, left_under, fetched, revised, transacted}
use Rattle.unit_shared.specs.Moments.{lent_in}
use Rattle.unit_shared.specs.Refusals.{Refusal}
use Rattle.unit_shared.specs.Replies.{ask_read, reply_stored, reply_event, told_by, Answered, all_acts, store_next_to}

-- ---- the first refusal

first-none : (x : ℕ) → first 0 x ≡ x
unfolding first
first-none x = refl

first_some : (k x : ℕ) → first (suc k) x ≡ suc k
unfolding first
first_some k x = rw (ne_eqb (suc k) 0 (λ z. omega arith))

ask-first : (b : Bool) (k x y rest : ℕ) → x ≡ first y rest → ask b (suc k) x ≡ first (ask b (suc k) y) rest
unfolding ask
ask-first true k x y rest e = e
ask-first false k x y rest e = sym (first_some k rest)

-- what a refusal tells, and what a call that is refused tells
told-untouched : (w : World) (batch : List ℕ) (k f s : ℕ) → told_by (untouched (lent_in w batch) (suc k) 0) ≡ told (suc k) f s
unfolding told_by untouched told
told-untouched w batch k f s = refl

pub told-refused : (w : World) (batch : List ℕ) (x : UnitOutcome) (k f s : ℕ) → x.code ≡ suc k → (x.code ≢ 0 → Refusal (lent_in w batch) 0 x) → told_by x ≡ told (suc k) f s
unfolding told_by told
told-refused w batch x k f s e r =
    let q = r (λ z. absurd (omega (arith, e, z))) in
    rw (e, q.figure, q.size)

-- how an event's call ends: the read's refusal, its own, or the transaction of its blocks
pub record EventEnds (w : World) (batch : List ℕ) (writer home n own : ℕ) (x : UnitOutcome) : Type 0 where
  pub unread : (revised (lent_in w batch) writer home n).code ≢ 0 → x.code ≡ (revised (lent_in w batch) writer home n).code
  pub refusal : x.code ≢ 0 → Refusal (lent_in w batch) 0 x
  pub refused : (revised (lent_in w batch) writer home n).code ≡ 0 → own ≢ 0 → x ≡ untouched (lent_in w batch) own 0
  pub stored :
      (revised (lent_in w batch) writer home n).code ≡ 0 →
      own ≡ 0 →
      (blocks : List ℕ) × ((length blocks ≡ 64 * n) × (x ≡ transacted (lent_in w batch) writer home blocks))

module _ (w : World) (s : Store) (m : Answered w s) (writer home n : ℕ) (some : 1 ≤ n) (few : n ≤ 7) where
  -- blocks that fill the homes
  blocks-many : (blocks : List ℕ) → length blocks ≡ 64 * n → many_blocks blocks ≡ n
  unfolding many_blocks
  blocks-many blocks e = rw e (omega arith)

  blocks-whole : (blocks : List ℕ) → length blocks ≡ 64 * n → whole_blocks blocks ≡ true
  unfolding whole_blocks
  blocks-whole blocks e = rw (blocks-many blocks e, e, eq-eqb (64 * n) (64 * n) refl, le-leb 1 n some, le-leb n 7 few)

  asked : (blocks : List ℕ) → length blocks ≡ 64 * n → (next : ℕ) → ask_blocks s writer home blocks next ≡ ask_named s writer home n next
  unfolding ask_blocks
  asked blocks e next = rw (blocks-whole blocks e, blocks-many blocks e) (unfold ask in refl)

  fetched-ends : (batch : List ℕ) → (fetched (lent_in w batch) writer home n).code ≡ (fetch_ends w writer home (zeros (64 * n))).code
  unfolding fetched fetch_ends lent
  fetched-ends batch = refl

  fetch-code : (blocks : List ℕ) → (fetch_ends w writer home blocks).code ≡ (reply_fetch s writer home blocks).code
  unfolding reply_of
  fetch-code blocks = ap (λ (r : Reply). r.code) (m writer home blocks []).fetch

  fetch-number : (blocks : List ℕ) → length blocks ≡ 64 * n → (reply_fetch s writer home blocks).code ≡ ask_read s writer home n
  unfolding reply_fetch ask_read
  fetch-number blocks e = told-code _ _ _ ∙ asked blocks e _ ∙ rw (blocks-many blocks e)

  pub fetched-code : (batch : List ℕ) → (fetched (lent_in w batch) writer home n).code ≡ ask_read s writer home n
  fetched-code batch = fetched-ends batch ∙ fetch-code (zeros (64 * n)) ∙ fetch-number (zeros (64 * n)) (length-zeros (64 * n))

  -- the number of an event's reading
  abbrev reading : ℕ
  reading = ask_named s writer home n (ask (may_store_each s writer home n) 19 (ask (may_read_each s writer home n) 20 0))

  revised-ends : (batch : List ℕ) → (revised (lent_in w batch) writer home n).code ≡ (revise_ends w writer home (zeros (64 * n))).code
  unfolding revised revise_ends lent
  revised-ends batch = refl

  revise-code : (blocks : List ℕ) → (revise_ends w writer home blocks).code ≡ (reply_revise s writer home blocks).code
  unfolding reply_of
  revise-code blocks = ap (λ (r : Reply). r.code) (m writer home blocks []).revise

  revise-number : (blocks : List ℕ) → length blocks ≡ 64 * n → (reply_revise s writer home blocks).code ≡ reading
  unfolding reply_revise
  revise-number blocks e = told-code _ _ _ ∙ asked blocks e _ ∙ rw (blocks-many blocks e)

  revised-code : (batch : List ℕ) → (revised (lent_in w batch) writer home n).code ≡ reading
  revised-code batch = revised-ends batch ∙ revise-code (zeros (64 * n)) ∙ revise-number (zeros (64 * n)) (length-zeros (64 * n))

  transacted-ends : (blocks batch : List ℕ) → told_by (transacted (lent_in w batch) writer home blocks) ≡ reply_of (transact_ends w writer home blocks batch)
  unfolding told_by transacted left_under transact_ends lent reply_of
  transacted-ends blocks batch = refl

  transact-reply : (blocks batch : List ℕ) → length blocks ≡ 64 * n → reply_transact s writer home blocks batch ≡ reply_stored s writer home n batch
  unfolding reply_transact reply_stored
  transact-reply blocks batch e = rw (asked blocks e _, blocks-many blocks e)

  pub transacted-told : (blocks batch : List ℕ) → length blocks ≡ 64 * n → told_by (transacted (lent_in w batch) writer home blocks) ≡ reply_stored s writer home n batch
  transacted-told blocks batch e = transacted-ends blocks batch ∙ (m writer home blocks batch).transact ∙ transact-reply blocks batch e

  -- what follows the reading is asked once that is done
  number_is : (rest : ℕ) → ask_named s writer home n (ask (may_store_each s writer home n) 19 (ask (may_read_each s writer home n) 20 rest)) ≡ first reading rest
  unfolding ask_named
  number_is rest =
      ask-first _ 3 _ _ rest (ask-first _ 4 _ _ rest (ask-first _ 18 _ _ rest (ask-first _ 19 _ _ rest (sym (first-none rest)))))

  -- a transaction behind a done reading
  stored-number : (rest : ℕ) → reading ≡ 0 → ask_named s writer home n (ask (may_store_each s writer home n) 19 rest) ≡ rest
  unfolding ask_named ask
  stored-number rest z = all (ltb writer 8) (leb (home + n) s.homes) (may_store_each s writer home n) (may_read_each s writer home n) z
    where
      all : (a b c d : Bool) → ask a 4 (ask b 5 (ask c 19 (ask d 20 0))) ≡ 0 → ask a 4 (ask b 5 (ask c 19 rest)) ≡ rest
      all true true true d e = refl
      all true true false d e = absurd (omega arith)
      all true false c d e = absurd (omega arith)
      all false b c d e = absurd (omega arith)

  pub event-told : (batch : List ℕ) (own : ℕ) (x : UnitOutcome) → EventEnds w batch writer home n own x → told_by x ≡ reply_event s writer home n own batch
  unfolding reply_event
  event-told batch own x e = rw (number_is (first own (ask_entries s writer n batch))) (go reading own refl refl)
    where
      go : (r o : ℕ) → reading ≡ r → own ≡ o → told_by x ≡ told (first r (first o (ask_entries s writer n batch))) (next_of s + n) (transact_bytes s n)
      go (suc r) o p q =
          rw (first_some r (first o (ask_entries s writer n batch)))
          (told-refused w batch x r _ _ (e.unread (λ z. absurd (omega (arith, p, revised-code batch, z))) ∙ revised-code batch ∙ p) e.refusal)
      go zero (suc o) p q =
          rw (first-none (first (suc o) (ask_entries s writer n batch)), first_some o (ask_entries s writer n batch))
          (ap told_by (e.refused (revised-code batch ∙ p) (λ z. absurd (omega (arith, q, z)))) ∙ ap (λ (k : ℕ). told_by (untouched (lent_in w batch) k 0)) q ∙ told-untouched w batch o _ _)
      go zero zero p q =
          rw (first-none (first 0 (ask_entries s writer n batch)), first-none (ask_entries s writer n batch))
          (let b = e.stored (revised-code batch ∙ p) q in
          ap told_by b.1.1 ∙ transacted-told b.0 batch b.1.0
          ∙ (unfold reply_stored in rw (stored-number (ask_entries s writer n batch) p)))

  -- a store with too few homes for the unit reads none of it
  pub named-few : s.homes < home + n → (next : ℕ) → ask_named s writer home n next ≢ 0
  unfolding ask_named ask
  named-few l next = rw (lt-leb (home + n) s.homes l) (go (ltb writer 8))
    where
      go : (d : Bool) → ask d 4 5 ≢ 0
      go true z = omega arith
      go false z = omega arith

  pub few-unread : s.homes < home + n → (batch : List ℕ) → (revised (lent_in w batch) writer home n).code ≢ 0
  few-unread l batch z = named-few l _ (sym (revised-code batch) ∙ z)

  pub few-unfetched : s.homes < home + n → (batch : List ℕ) → (fetched (lent_in w batch) writer home n).code ≢ 0
  unfolding ask_read
  few-unfetched l batch z = named-few l _ (sym (fetched-code batch) ∙ z)

-- ---- steps are acts

module _ {E : Type 0} (home n : ℕ) (judge : List ℕ → E → ℕ) (apply : List ℕ → E → List ℕ) where
  pub step-allowed : (w : World) (s : Step E) → StepAllowed home n judge apply w s → AllActsAllowed w (acts_of home n judge apply w s)
  unfolding acts_of storing
  step-allowed w (acts a) ok = (ok, tt)
  step-allowed w (offers v e batch) ok = (ok, go (eqb (event_answer home n judge apply w v e) 0))
    where
      look : Act
      look = revises v home (zeros (64 * n))

      same : act w look ≡ w
      same = (refusals-stay w).revising v home (zeros (64 * n))

      go : (d : Bool) → AllActsAllowed (act w look) (cond d (transacts v home (apply (read_for home n judge apply w v).block e) batch ∷ []) [])
      go true = subst (λ (u : World). AllActsAllowed u (transacts v home (apply (read_for home n judge apply w v).block e) batch ∷ [])) (sym same) (ok, tt)
      go false = tt
  step-allowed w (sets v e batch) ok = (ok, tt)

  steps-are : (ss : List (Step E)) (w : World) → AllStepsAllowed home n judge apply w ss
      → AllActsAllowed w (all_acts home n judge apply w ss) × (acted w (all_acts home n judge apply w ss) ≡ ran home n judge apply w ss)
  unfolding all_acts ran stepped
  steps-are [] w ok = (tt, (unfold acted in refl))
  steps-are (s ∷ ss) w ok =
      let xs : List Act = acts_of home n judge apply w s in
      let u : World = acted w xs in
      let k = steps-are ss u ok.1 in
      (allowed-append xs (all_acts home n judge apply u ss) w (step-allowed w s ok.0) k.0, acted-append xs (all_acts home n judge apply u ss) w ∙ k.1)

  pub answered-there : {groups homes : ℕ} (f : Formatting groups homes) (ss : List (Step E)) → AllStepsAllowed home n judge apply (after_format f) ss
      → (ran home n judge apply (after_format f) ss).ready ≡ true
      → Answered (ran home n judge apply (after_format f) ss) (store_next_to home n judge apply f ss)
  unfolding store_next_to
  answered-there {groups} {homes} f ss ok ready =
      let k = steps-are ss (after_format f) ok in
      let a = acts-answer groups homes f (all_acts home n judge apply (after_format f) ss) k.0 in
      subst (λ (w : World). w.ready ≡ true → Answered w (store_next_to home n judge apply f ss)) k.1 (unfold store_next_to in a.many) ready
