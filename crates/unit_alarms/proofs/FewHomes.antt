-- Where there is a home for the gravest and too few for events: all events are refused, and where nobody else stores to that home it holds zeros. Assumes nothing.
use Prim.Native.Nat.{ℕ, zero, suc, ◌+◌, ◌*◌, ◌/◌, ◌≤◌, ◌<◌}
use mathlib.Core.Path.{◌≡◌, refl, sym, ap, ◌∙◌, subst}
use mathlib.Core.Logic.{◌≢◌, inl, inr}
use mathlib.Core.Bool.{true}
use mathlib.Core.List.{List, [], ◌∷◌, ◌++◌}
use native.Mathlib.Omega.{arith}
use borrow.Author.Tests.{ne_eqb}
use lib.ListN.{length, length-replicate}
use Rattle.model.specs.Bytes.{zeros}
use Rattle.model.specs.Calls.{Outcome}
use Rattle.model.specs.History.{begins, reserves, aborts, stores, commits, flushes, opening, confirm, change, service, Event as Happening, call, crash, World, Formatting, unopened, after_format, ends, after_done, after_refused, after_call, after_crash, step, lent}
use Rattle.abstract_store.specs.Store.{Store, new_store, next_of, Reply}
use Rattle.acts.specs.Units.{Act, plain, transacts, fetches, revises, fetch_ends, revise_ends, transact_ends, left_under, act, acted, ActAllowed, AllActsAllowed, Apart}
use Rattle.model.specs.Questions.{ask}
use Rattle.acts.specs.Replies.{may_store_each, ask_named, transact_bytes, ask_entries}
use Rattle.theorems.specs.ActsAnswer.{store_after}
use Rattle.theorems.proofs.many.StoreMany.{told-code}
use Rattle.theorems.proofs.many.ActsAnswerHolds.{acts-answer}
use Rattle.theorems.proofs.store.Reached as reached
use Rattle.theorems.proofs.store.Reached.{same-homes}
use Rattle.theorems.proofs.isolation.IsolatedActsHold.{reached-acts}
use Rattle.unit_events.specs.Homes.{alarm_home, alarm_homes}
use Rattle.unit_events.specs.Offered.{held_after}
use Rattle.unit_events.specs.Folded.{Step, acts, offers, sets, first, noted, read_for, event_answer, storing, acts_of, stepped, ran, notes, AllStepsAllowed, SparedByAct, SparedBySteps}
use Rattle.unit_events.proofs.FoldedHolds.{acted-append, allowed-append, events-folded}
use Rattle.unit_events.proofs.PromisesHold.{refusals-stay}
use Rattle.unit_shared.specs.Unit.{left_under as outcome_of, fetched, revised, transacted}
use Rattle.unit_shared.specs.Moments.{lent_in}
use Rattle.unit_shared.specs.Replies.{Answered, reply_stored, told_by}
use Rattle.unit_shared.proofs.MomentLaws.{refused-step}
use Rattle.unit_shared.proofs.RepliesHold.{few-unread, named-few, transacted-told}
use Rattle.unit_alarms_list.specs.Events.{Event}
use Rattle.unit_alarms_list.specs.Guarantees.{held_with, Typed}
use Rattle.unit_alarms_list.specs.Stored.{judged}
use Rattle.unit_alarms_list.proofs.StoredHolds.{filling}

-- ---- no act changes the number of homes

step-homes : (w : World) (e : Happening) → (step w e).homes ≡ w.homes
unfolding step
step-homes w (call c) = go (ends w c).code
  where
    go : (k : ℕ) → (after_call w c (ends w c) k).homes ≡ w.homes
    go zero = unfold after_call after_done in refl
    go (suc k) = unfold after_call after_refused in refl
step-homes w (crash passed chosen) = unfold after_crash in refl

act-homes : (w : World) (a : Act) → (act w a).homes ≡ w.homes
unfolding act left_under
act-homes w (plain e) = step-homes w e
act-homes w (transacts v h blocks batch) = refl
act-homes w (fetches v h blocks) = refl
act-homes w (revises v h blocks) = refl

pub acted-homes : (xs : List Act) (w : World) → (acted w xs).homes ≡ w.homes
unfolding acted
acted-homes [] w = refl
acted-homes (x ∷ xs) w = acted-homes xs (act w x) ∙ act-homes w x

-- a unit of the first home alone that nothing is offered to
abbrev silent : List ℕ → ⊥ → ℕ
silent b e = 0

abbrev kept : List ℕ → ⊥ → List ℕ
kept b e = b

abbrev Any : ⊥ → Type 0
Any e = Unit {0}

nothing : (es : List ⊥) → es ≡ []
nothing [] = refl
nothing (e ∷ es) = absurd e

none-held : held_after kept (zeros (64 * 1)) [] ≡ zeros 64
unfolding held_after
none-held = refl

one_block : length (zeros (64 * 1)) ≡ 64 * 1
unfolding zeros
one_block = length-replicate {A = ℕ} (64 * 1) 0

fetch-is : (u : World) (writer : ℕ) (batch : List ℕ) → fetched (lent_in u batch) writer alarm_home 1 ≡ fetch_ends u writer alarm_home (zeros (64 * 1))
unfolding fetched fetch_ends lent
fetch-is u writer batch = refl

-- what spares six homes spares the first
fewer : (h m : ℕ) → Apart alarm_home alarm_homes h m → Apart alarm_home 1 h m
fewer h m (inl l) = inl l
fewer h m (inr l) = inr (omega arith)

module _ {groups homes : ℕ} (f : Formatting groups homes) (few : homes < alarm_home + alarm_homes) where
  -- a world that acts reach
  record Somewhen (w : World) : Type 0 where
    past : List Act
    allowed : AllActsAllowed (after_format f) past
    world : acted (after_format f) past ≡ w

  abbrev beside : {w : World} → Somewhen w → Store
  beside m = store_after f m.past

  answered-by : (w : World) (m : Somewhen w) → w.ready ≡ true → Answered w (beside m)
  answered-by w m = subst (λ (u : World). u.ready ≡ true → Answered u (beside m)) m.world (acts-answer groups homes f m.past m.allowed).many

  too_few : (w : World) (m : Somewhen w) → (beside m).homes < alarm_home + alarm_homes
  unfolding store_after
  too_few w m =
      let r = reached-acts m.past (after_format f) (new_store groups homes) (reached.begins f) m.allowed in
      let e : (beside m).homes ≡ homes = same-homes _ _ r ∙ acted-homes m.past (after_format f) ∙ (unfold after_format unopened in refl) in
      omega (arith, e)

  one_more : (w : World) (a : Act) → Somewhen w → ActAllowed w a → Somewhen (act w a)
  unfolding acted
  one_more w a m ok =
      record {
        past = m.past ++ (a ∷ []);
        allowed = allowed-append m.past (a ∷ []) (after_format f) m.allowed (subst (λ (u : World). AllActsAllowed u (a ∷ [])) (sym m.world) (ok, tt));
        world = acted-append m.past (a ∷ []) (after_format f) ∙ ap (λ (u : World). act u a) m.world;
      }

  module _ (w : World) (m : Somewhen w) (ready : w.ready ≡ true) (v : ℕ) (e : Event) (batch : List ℕ) where
    offer-stays : stepped alarm_home alarm_homes judged held_with w (offers v e batch) ≡ w
    offer-stays = go (event_answer alarm_home alarm_homes judged held_with w v e) refl
      where
        unread : (read_for alarm_home alarm_homes judged held_with w v).code ≢ 0
        unread = unfold read_for revise_ends revised lent in few-unread w (beside m) (answered-by w m ready) v alarm_home alarm_homes (omega arith) (omega arith) (too_few w m) batch

        asked : event_answer alarm_home alarm_homes judged held_with w v e ≢ 0
        asked = unfold event_answer first in rw (ne_eqb (read_for alarm_home alarm_homes judged held_with w v).code 0 unread) unread

        go : (k : ℕ) → event_answer alarm_home alarm_homes judged held_with w v e ≡ k → stepped alarm_home alarm_homes judged held_with w (offers v e batch) ≡ w
        go zero h = absurd (asked h)
        go (suc k) h = refused-step alarm_home alarm_homes judged held_with w v e batch k h

    set-refused : (blocks : List ℕ) → length blocks ≡ 64 * alarm_homes → (transact_ends w v alarm_home blocks batch).code ≢ 0
    set-refused blocks l z =
        named-few w (beside m) (answered-by w m ready) v alarm_home alarm_homes (omega arith) (omega arith) (too_few w m) next (sym code ∙ done)
      where
        next : ℕ
        next = ask (may_store_each (beside m) v alarm_home alarm_homes) 19 (ask_entries (beside m) v alarm_homes batch)

        reply : told_by (transacted (lent_in w batch) v alarm_home blocks) ≡ reply_stored (beside m) v alarm_home alarm_homes batch
        reply = transacted-told w (beside m) (answered-by w m ready) v alarm_home alarm_homes (omega arith) (omega arith) blocks batch l

        code : (reply_stored (beside m) v alarm_home alarm_homes batch).code ≡ ask_named (beside m) v alarm_home alarm_homes next
        code = unfold reply_stored in told-code (ask_named (beside m) v alarm_home alarm_homes next) (next_of (beside m) + alarm_homes) (transact_bytes (beside m) alarm_homes)

        done : (reply_stored (beside m) v alarm_home alarm_homes batch).code ≡ 0
        done = sym (ap (λ (x : Reply). x.code) reply) ∙ (unfold told_by transacted outcome_of transact_ends lent in z)

    set-stays : judged (zeros (64 * alarm_homes)) e ≡ 0 → stepped alarm_home alarm_homes judged held_with w (sets v e batch) ≡ w
    unfolding stepped acts_of storing acted
    set-stays j =
        (refusals-stay w).transactions v alarm_home (held_with (zeros (64 * alarm_homes)) e) batch
        (set-refused (held_with (zeros (64 * alarm_homes)) e) (filling (zeros (64 * alarm_homes)) e j))

  -- the history as its acts alone
  record Seen (w : World) (ss : List (Step Event)) : Type 0 where
    steps : List (Step ⊥)
    allowed : AllStepsAllowed alarm_home 1 silent kept w steps
    spared : SparedBySteps alarm_home 1 silent kept Any w steps
    world : ran alarm_home 1 silent kept w steps ≡ ran alarm_home alarm_homes judged held_with w ss

  spares : (w : World) (a : Act) → SparedByAct alarm_home alarm_homes judged held_with w a → SparedByAct alarm_home 1 silent kept w a
  spares w (plain (call (opening state newest batch))) k = λ z. tt
  spares w (plain (call confirm)) k = λ z. tt
  spares w (plain (call (change (begins v)))) k = λ z. tt
  spares w (plain (call (change (reserves v places)))) k = λ z. tt
  spares w (plain (call (change (aborts v)))) k = λ z. tt
  spares w (plain (call (change (stores v h block batch)))) k = λ z. fewer h 1 (k z)
  spares w (plain (call (change (commits v batch)))) k = λ z. tt
  spares w (plain (call (change (flushes batch)))) k = λ z. tt
  spares w (plain (call (service c))) k = λ z. tt
  spares w (plain (crash passed chosen)) k = λ z. tt
  spares w (transacts v h blocks batch) k = λ z. fewer h (length blocks / 64) (k z)
  spares w (fetches v h blocks) k = tt
  spares w (revises v h blocks) k = tt

  along : (ss : List (Step Event)) (w : World) → Somewhen w → AllStepsAllowed alarm_home alarm_homes judged held_with w ss
      → SparedBySteps alarm_home alarm_homes judged held_with Typed w ss → Seen w ss
  unfolding ran
  along [] w m ok k = record { steps = []; allowed = tt; spared = tt; world = refl }
  along (acts a ∷ ss) w m ok k =
      let one : stepped alarm_home alarm_homes judged held_with w (acts a) ≡ act w a = (unfold stepped acts_of acted in refl) in
      let two : stepped alarm_home 1 silent kept w (acts a) ≡ act w a = (unfold stepped acts_of acted in refl) in
      let x = along ss (act w a) (one_more w a m ok.0) (subst (λ (u : World). AllStepsAllowed alarm_home alarm_homes judged held_with u ss) one ok.1)
      (subst (λ (u : World). SparedBySteps alarm_home alarm_homes judged held_with Typed u ss) one k.1) in
      record {
        steps = acts a ∷ x.steps;
        allowed = (ok.0, subst (λ (u : World). AllStepsAllowed alarm_home 1 silent kept u x.steps) (sym two) x.allowed);
        spared = (spares w a k.0, subst (λ (u : World). SparedBySteps alarm_home 1 silent kept Any u x.steps) (sym two) x.spared);
        world =
            ap (λ (u : World). ran alarm_home 1 silent kept u x.steps) two ∙ x.world
            ∙ ap (λ (u : World). ran alarm_home alarm_homes judged held_with u ss) (sym one);
      }
  along (offers v e batch ∷ ss) w m ok k =
      let same : stepped alarm_home alarm_homes judged held_with w (offers v e batch) ≡ w = offer-stays w m ok.0 v e batch in
      let x = along ss w m (subst (λ (u : World). AllStepsAllowed alarm_home alarm_homes judged held_with u ss) same ok.1)
      (subst (λ (u : World). SparedBySteps alarm_home alarm_homes judged held_with Typed u ss) same k.1) in
      record {
        steps = x.steps;
        allowed = x.allowed;
        spared = x.spared;
        world = x.world ∙ ap (λ (u : World). ran alarm_home alarm_homes judged held_with u ss) (sym same);
      }
  along (sets v e batch ∷ ss) w m ok k =
      let same : stepped alarm_home alarm_homes judged held_with w (sets v e batch) ≡ w = set-stays w m ok.0 v e batch (k.0.1 (zeros (64 * alarm_homes))).0 in
      let x = along ss w m (subst (λ (u : World). AllStepsAllowed alarm_home alarm_homes judged held_with u ss) same ok.1)
      (subst (λ (u : World). SparedBySteps alarm_home alarm_homes judged held_with Typed u ss) same k.1) in
      record {
        steps = x.steps;
        allowed = x.allowed;
        spared = x.spared;
        world = x.world ∙ ap (λ (u : World). ran alarm_home alarm_homes judged held_with u ss) (sym same);
      }

  -- a done reading of the first home gives zeros
  pub zeros-there : alarm_home + 1 ≤ homes → (ss : List (Step Event)) → AllStepsAllowed alarm_home alarm_homes judged held_with (after_format f) ss
      → SparedBySteps alarm_home alarm_homes judged held_with Typed (after_format f) ss
      → (ran alarm_home alarm_homes judged held_with (after_format f) ss).ready ≡ true → (writer : ℕ) (batch : List ℕ)
      → (fetched (lent_in (ran alarm_home alarm_homes judged held_with (after_format f) ss) batch) writer alarm_home 1).code ≡ 0
      → (fetched (lent_in (ran alarm_home alarm_homes judged held_with (after_format f) ss) batch) writer alarm_home 1).block ≡ zeros 64
  zeros-there one ss ok k ready writer batch =
      subst (λ (u : World). u.ready ≡ true → (fetched (lent_in u batch) writer alarm_home 1).code ≡ 0 → (fetched (lent_in u batch) writer alarm_home 1).block ≡ zeros 64)
      x.world told ready
    where
      x : Seen (after_format f) ss
      x = along ss (after_format f) (record { past = []; allowed = tt; world = (unfold acted in refl) }) ok k

      u : World
      u = ran alarm_home 1 silent kept (after_format f) x.steps

      told : u.ready ≡ true → (fetched (lent_in u batch) writer alarm_home 1).code ≡ 0 → (fetched (lent_in u batch) writer alarm_home 1).block ≡ zeros 64
      told r z =
          let g = events-folded alarm_home 1 silent kept Any (omega arith) (λ b e. absurd e) groups homes one f x.steps x.allowed x.spared in
          let es : List ⊥ = noted (notes alarm_home 1 silent kept (after_format f) x.steps) in
          let read : (fetch_ends u writer alarm_home (zeros (64 * 1))).block ≡ held_after kept (zeros (64 * 1)) es =
          g.fetched writer (zeros (64 * 1)) r one_block (sym (ap (λ (o : Outcome). o.code) (fetch-is u writer batch)) ∙ z) in
          ap (λ (o : Outcome). o.block) (fetch-is u writer batch) ∙ read ∙ ap (held_after kept (zeros (64 * 1))) (nothing es) ∙ none-held
