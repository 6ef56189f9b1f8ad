-- Under a list of rights that keeps a unit's homes for its own writers nobody else's store is done there. Assumes nothing.
use Prim.Native.Nat.{ℕ, ◌+◌, ◌-◌, ◌*◌, ◌/◌, ◌≤◌, ◌<◌}
use mathlib.Core.Path.{◌≡◌, refl, sym, ap, ◌∙◌, subst}
use mathlib.Core.Logic.{◌⊎◌, inl, inr}
use mathlib.Core.Bool.{Bool, true, false, cond, not, false≢true}
use mathlib.Core.List.{List, [], ◌∷◌, ◌++◌}
use native.Mathlib.Decide.{dec_lt}
use native.Mathlib.Omega.{arith}
use lib.Dec.{eqb}
use lib.ListN.{length}
use Rattle.model.specs.Bytes.{zeros}
use Rattle.model.specs.Rights.{may_store}
use Rattle.model.specs.History.{Change, begins, reserves, aborts, stores, commits, flushes, opening, confirm, change, service, call, crash, World, Formatting, after_format, ends, is_opening}
use Rattle.acts.specs.Units.{Act, plain, transacts, fetches, revises, transact_ends, act, acted, ActAllowed, AllActsAllowed, Apart, SparedByChange}
use Rattle.unit_events.specs.Folded.{Step, acts, offers, sets, read_for, event_answer, storing, acts_of, stepped, StepAllowed, AllStepsAllowed, SparedByAct, SparedBySteps}
use Rattle.unit_events.specs.Promises.{list_in, RightsHad}
use Rattle.unit_events.specs.Guarded.{KeepsFor, OwnApartChange, OwnApart, GuardedSteps, ListSpares}
use Rattle.unit_events.proofs.PromisesHold.{refusals-stay, rights-always-had}
use Rattle.unit_events.proofs.FoldedHolds.{acted-append, allowed-append}

-- ranges that have no home in common are apart
no-common : (home n h m : ℕ) → 1 ≤ n → 1 ≤ m → ((k : ℕ) → k < m → home ≤ h + k → h + k < home + n → ⊥) → Apart home n h m
no-common home n h m some many none = go (dec_lt home (h + m)) (dec_lt h (home + n)) (dec_lt h home)
  where
    go : Dec (home < h + m) → Dec (h < home + n) → Dec (h < home) → Apart home n h m
    go (no l) b c = inl (omega arith)
    go (yes l) (no b) c = inr (omega arith)
    go (yes l) (yes b) (yes c) = absurd (none (home - h) (omega arith) (omega arith) (omega arith))
    go (yes l) (yes b) (no c) = absurd (none 0 (omega arith) (omega arith) (omega arith))

module _ (w : World) (had : RightsHad w) (ready : w.ready ≡ true) where
  module _ (home n : ℕ) (p : 1 ≤ n) (own : ℕ → Bool) (keeps : KeepsFor own home n w) where
    none-there : (v x : ℕ) → own v ≡ false → may_store w.homes (list_in w) v x ≡ true → home ≤ x → x < home + n → ⊥
    none-there v x f m low high = false≢true (sym (keeps v x f low high) ∙ m)

    change-guarded : (c : Change) → OwnApartChange own home n c → (ends w (change c)).code ≡ 0 → SparedByChange home n c
    change-guarded (begins v) o z = tt
    change-guarded (reserves v places) o z = tt
    change-guarded (aborts v) o z = tt
    change-guarded (stores v h block batch) o z = go (own v) refl
      where
        at : (k : ℕ) → k < 1 → h + k ≡ h
        at k l = omega arith

        go : (b : Bool) → own v ≡ b → Apart home n h 1
        go true q = o q
        go false q =
            no-common home n h 1 p (omega arith) (λ k l low high. none-there v h q (had.stores v h block batch ready z) (omega (arith, at k l)) (omega (arith, at k l)))
    change-guarded (commits v batch) o z = tt
    change-guarded (flushes batch) o z = tt

    transact-guarded : (v h : ℕ) (blocks batch : List ℕ) → (own v ≡ true → Apart home n h (length blocks / 64))
        → (transact_ends w v h blocks batch).code ≡ 0 → Apart home n h (length blocks / 64)
    transact-guarded v h blocks batch o z = go (own v) refl
      where
        go : (b : Bool) → own v ≡ b → Apart home n h (length blocks / 64)
        go true q = o q
        go false q =
            no-common home n h (length blocks / 64) p ((refusals-stay w).some v h blocks batch z) (λ k l low high. none-there v (h + k) q (had.transactions v h blocks batch ready z k l) low high)

module _ {E : Type 0} (home n : ℕ) (judge : List ℕ → E → ℕ) (apply : List ℕ → E → List ℕ) (own : ℕ → Bool) (Fit : E → Type 0) (p : 1 ≤ n) where
  act-guarded : (w : World) (a : Act) → RightsHad w → ActAllowed w a → KeepsFor own home n w → OwnApart own home n a → SparedByAct home n judge apply w a
  unfolding is_opening
  act-guarded w (plain (call (opening state newest batch))) r ok keeps o = λ z. tt
  act-guarded w (plain (call confirm)) r ok keeps o = λ z. tt
  act-guarded w (plain (call (change c))) r ok keeps o = change-guarded w r (in-era w ok) home n p own keeps c o
    where
      in-era : (u : World) → false ≡ not u.ready → u.ready ≡ true
      in-era u e = go u.ready e
        where
          go : (b : Bool) → false ≡ not b → b ≡ true
          go true q = refl
          go false q = absurd (false≢true q)
  act-guarded w (plain (call (service c))) r ok keeps o = λ z. tt
  act-guarded w (plain (crash passed chosen)) r ok keeps o = λ z. tt
  act-guarded w (transacts v h blocks batch) r ok keeps o = transact-guarded w r ok home n p own keeps v h blocks batch o
  act-guarded w (fetches v h blocks) r ok keeps o = tt
  act-guarded w (revises v h blocks) r ok keeps o = tt

  -- a world that a history of acts reaches, and the next
  record Reaches (w : World) : Type 0 where
    groups : ℕ
    homes : ℕ
    format : Formatting groups homes
    history : List Act
    allowed : AllActsAllowed (after_format format) history
    world : acted (after_format format) history ≡ w

  had-at : (w : World) → Reaches w → RightsHad w
  had-at w r = subst RightsHad r.world (rights-always-had r.groups r.homes r.format r.history r.allowed)

  goes_on : (w : World) (more : List Act) → Reaches w → AllActsAllowed w more → Reaches (acted w more)
  goes_on w more r ok =
      let w₀ : World = after_format r.format in
      record {
        groups = r.groups;
        homes = r.homes;
        format = r.format;
        history = r.history ++ more;
        allowed = allowed-append r.history more w₀ r.allowed (subst (λ (v : World). AllActsAllowed v more) (sym r.world) ok);
        world = acted-append r.history more w₀ ∙ ap (λ (v : World). acted v more) r.world;
      }

  step-reaches : (w : World) (s : Step E) → Reaches w → StepAllowed home n judge apply w s → Reaches (stepped home n judge apply w s)
  unfolding stepped acts_of
  step-reaches w (acts a) r ok = goes_on w (a ∷ []) r (ok, tt)
  step-reaches w (offers v e batch) r ok = goes_on w _ r (ok, rest (eqb (event_answer home n judge apply w v e) 0))
    where
      look : Act
      look = revises v home (zeros (64 * n))

      still : (act w look).ready ≡ true
      still = ap (λ (u : World). u.ready) ((refusals-stay w).revising v home (zeros (64 * n))) ∙ ok

      rest : (d : Bool) → AllActsAllowed (act w look) (cond d (storing home n judge apply v (read_for home n judge apply w v).block e batch) [])
      rest true = unfold storing in (still, tt)
      rest false = tt
  step-reaches w (sets v e batch) r ok = unfold storing in goes_on w (transacts v home (apply (zeros (64 * n)) e) batch ∷ []) r (ok, tt)

  all-spared : (ss : List (Step E)) (w : World) → Reaches w → AllStepsAllowed home n judge apply w ss → GuardedSteps home n judge apply own Fit w ss
      → SparedBySteps home n judge apply Fit w ss
  all-spared [] w r ok g = tt
  all-spared (acts a ∷ ss) w r ok g =
      (either g.0, all-spared ss (stepped home n judge apply w (acts a)) (step-reaches w (acts a) r ok.0) ok.1 g.1)
    where
      either : (KeepsFor own home n w × OwnApart own home n a) ⊎ SparedByAct home n judge apply w a → SparedByAct home n judge apply w a
      either (inl k) = act-guarded w a (had-at w r) ok.0 k.0 k.1
      either (inr k) = k
  all-spared (offers v e batch ∷ ss) w r ok g =
      (g.0, all-spared ss (stepped home n judge apply w (offers v e batch)) (step-reaches w (offers v e batch) r ok.0) ok.1 g.1)
  all-spared (sets v e batch ∷ ss) w r ok g =
      (g.0, all-spared ss (stepped home n judge apply w (sets v e batch)) (step-reaches w (sets v e batch) r ok.0) ok.1 g.1)

pub list-spares : {E : Type 0} (home n : ℕ) (judge : List ℕ → E → ℕ) (apply : List ℕ → E → List ℕ) (own : ℕ → Bool) (Fit : E → Type 0)
    → ListSpares home n judge apply own Fit
list-spares home n judge apply own Fit p groups homes f ss ok g = all-spared home n judge apply own Fit p ss (after_format f) (record { groups = groups; homes = homes; format = f; history = []; allowed = tt; world = (unfold acted in refl) }) ok g
