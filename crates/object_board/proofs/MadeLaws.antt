-- The calls that the machine makes by number are those of histories.
use Prim.Native.Nat.{ℕ, zero, suc, ◌≤◌}
use mathlib.Core.Path.{◌≡◌, refl, sym, ap, subst}
use mathlib.Core.Bool.{false}
use mathlib.Core.List.{List, []}
use mathlib.Core.Option.{none, some}
use native.Mathlib.Omega.{arith}
use lib.ListN.{length, take}
use borrow.Author.Tests.{ne_eqb, le-leb, lt-leb}
use Rattle.model.specs.Batch.{batch_bytes}
use Rattle.model.specs.Effects.{Given, Effect, new_state, reserve_effect, confirm_effect, begin_round_effect}
use Rattle.model.specs.Calls.{Outcome, refused, done, outcome, open_call, reserve_call, store_call, commit_call, flush_call, confirm_call, settle_call, trim_call, begin_round_call, step_round_call}
use Rattle.model.specs.Facts.{left_with}
use Rattle.model.specs.History.{World, Call, opening, confirm, reserve, store, commit, flush, settle, begin_round, step_round, trim, ends, change_ends, service_ends, is_opening, loaded}
use Rattle.model.specs.History as history
use Rattle.model_laws.proofs.bytes.ByteLaws.{length-puts}
use Rattle.theorems.proofs.facts.AsideHolds.{lent_alike}
use Rattle.call_ask.specs.Lent.{lent_all}
use Rattle.object_machine.specs.Calls.{beside_batch, beside_state, beside_all, opens, reserves, stores, commits, flushes, confirms, settles, round_begins, round_steps, trims, nothing, writers_call, room_call, most_homes}
use Rattle.object_machine.specs.Next.{makes}
use Rattle.object_board.specs.Board.{call_of}

-- what a call leaves, as the machine sees it and as a history has it
pub record SameEnd (o p : Outcome) (long : ℕ) : Type 0 where
  pub code : o.code ≡ p.code
  pub figure : o.figure ≡ p.figure
  pub size : o.size ≡ p.size
  pub log : o.log ≡ p.log
  pub area : o.area ≡ p.area
  pub state : o.state ≡ p.state
  pub newest : o.newest ≡ p.newest
  pub bytes : take o.size o.batch ≡ take p.size p.batch
  pub room : length o.batch ≡ long
  pub within : length p.batch ≤ long

-- no call: all is as it was
pub record Still (o : Outcome) (g : Given) : Type 0 where
  pub size : o.size ≡ 0
  pub log : o.log ≡ g.log
  pub area : o.area ≡ g.area
  pub state : o.state ≡ g.state
  pub newest : o.newest ≡ g.newest
  pub batch : o.batch ≡ g.batch

pub outcome-room : (g : Given) (a : ℕ) (e : Effect) → length (outcome g a e).batch ≡ length g.batch
unfolding outcome done refused
outcome-room g zero e = length-puts g.batch 0 (batch_bytes e.records)
outcome-room g (suc k) e = refl

pub outcome-empty : (g : Given) (a : ℕ) (e : Effect) → e.records ≡ [] → (outcome g a e).size ≡ 0
unfolding outcome done refused batch_bytes
outcome-empty g zero e h = rw h
outcome-empty g (suc k) e h = refl

refused-still : (g : Given) (code : ℕ) → Still (refused g code) g
unfolding refused
refused-still g code = record { size = refl; log = refl; area = refl; state = refl; newest = refl; batch = refl }

module _ (w : World) (block batch : List ℕ) (v home : ℕ) where
  abbrev g : Given
  g = lent_all w.log w.area w.state w.newest block batch v home

  beside-batch : (o : Outcome) (c : Call) → ends w c ≡ left_with w.newest o → length o.batch ≡ length batch → SameEnd (beside_batch g o) (ends w c) (length batch)
  unfolding beside_batch left_with
  beside-batch o c e r =
      let long : length (ends w c).batch ≤ length batch = omega (arith, ap (λ (x : Outcome). length x.batch) e, r) in
      record {
        code = rw e;
        figure = rw e;
        size = rw e;
        log = rw e;
        area = rw e;
        state = rw e;
        newest = rw e;
        bytes = rw e;
        room = r;
        within = long;
      }

  beside-state : (o : Outcome) (c : Call) → ends w c ≡ left_with w.newest o → o.size ≡ 0 → length o.batch ≡ 0 → SameEnd (beside_state g o) (ends w c) (length batch)
  unfolding beside_state left_with
  beside-state o c e s r =
      let long : length (ends w c).batch ≤ length batch = omega (arith, ap (λ (x : Outcome). length x.batch) e, r) in
      record {
        code = rw e;
        figure = rw e;
        size = rw e;
        log = rw e;
        area = rw e;
        state = rw e;
        newest = rw e;
        bytes = rw (e, s);
        room = refl;
        within = long;
      }

  beside-all : (o : Outcome) (c : Call) → ends w c ≡ o → length o.batch ≡ length batch → SameEnd (beside_all g o) (ends w c) (length batch)
  unfolding beside_all
  beside-all o c e r =
      let long : length (ends w c).batch ≤ length batch = omega (arith, ap (λ (x : Outcome). length x.batch) e, r) in
      record {
        code = rw e;
        figure = rw e;
        size = rw e;
        log = rw e;
        area = rw e;
        state = rw e;
        newest = rw e;
        bytes = rw e;
        room = r;
        within = long;
      }

  store-made : SameEnd (stores g) (ends w (store v home block batch)) (length batch)
  unfolding stores store_call
  store-made = beside-batch _ _ (lent_alike.calls w (store v home block batch)) (outcome-room _ _ _)

  flush-made : SameEnd (flushes g) (ends w (flush batch)) (length batch)
  unfolding flushes flush_call
  flush-made = beside-batch _ _ (lent_alike.calls w (flush batch)) (outcome-room _ _ _)

  settle-made : SameEnd (settles g) (ends w (settle batch)) (length batch)
  unfolding settles settle_call
  settle-made = beside-batch _ _ (lent_alike.calls w (settle batch)) (outcome-room _ _ _)

  step-made : (n : ℕ) → SameEnd (round_steps g n) (ends w (step_round n batch)) (length batch)
  unfolding round_steps step_round_call
  step-made n = beside-batch _ _ (lent_alike.calls w (step_round n batch)) (outcome-room _ _ _)

  reserve-made : (n : ℕ) → SameEnd (reserves g n) (ends w (reserve v n)) (length batch)
  unfolding reserves reserve_call reserve_effect new_state
  reserve-made n = beside-state _ _ (lent_alike.calls w (reserve v n)) (outcome-empty _ _ _ refl) (outcome-room _ _ _)

  confirm-made : SameEnd (confirms g) (ends w confirm) (length batch)
  unfolding confirms confirm_call confirm_effect new_state
  confirm-made = beside-state _ _ (lent_alike.calls w confirm) (outcome-empty _ _ _ refl) (outcome-room _ _ _)

  round-made : SameEnd (round_begins g) (ends w begin_round) (length batch)
  unfolding round_begins begin_round_call begin_round_effect new_state
  round-made = beside-state _ _ (lent_alike.calls w begin_round) (outcome-empty _ _ _ refl) (outcome-room _ _ _)

  commit-made : SameEnd (commits g) (ends w (commit v batch)) (length batch)
  unfolding commits commit_call ends change_ends history.lent
  commit-made = beside-all _ (commit v batch) refl (outcome-room _ _ _)

  trim-made : SameEnd (trims g) (ends w (trim batch)) (length batch)
  unfolding trims trim_call ends service_ends history.lent
  trim-made = beside-all _ (trim batch) refl (outcome-room _ _ _)

-- by number
pub data Made (w : World) (g : Given) (n k : ℕ) : Type 0 where
  unmade : call_of k g n ≡ none → Still (makes k g n) g → Made w g n k
  made : (c : Call) → call_of k g n ≡ some c → is_opening c ≡ false → SameEnd (makes k g n) (ends w c) (length g.batch) → Made w g n k

module _ (w : World) (block batch : List ℕ) (v home n : ℕ) where
  abbrev given : Given
  given = lent_all w.log w.area w.state w.newest block batch v home

  uncalled : (k : ℕ) → 13 ≤ k → call_of k given n ≡ none
  unfolding call_of
  uncalled k l =
      rw (ne_eqb k 1 (λ q. omega (arith, q)), ne_eqb k 2 (λ q. omega (arith, q)), ne_eqb k 3 (λ q. omega (arith, q)), ne_eqb k 4 (λ q. omega (arith, q)), ne_eqb k 5 (λ q. omega (arith, q)), ne_eqb k 6 (λ q. omega (arith, q)), ne_eqb k 7 (λ q. omega (arith, q)), ne_eqb k 8 (λ q. omega (arith, q)), ne_eqb k 9 (λ q. omega (arith, q)), ne_eqb k 10 (λ q. omega (arith, q)), ne_eqb k 11 (λ q. omega (arith, q)))

  nothing-made : (k : ℕ) → 13 ≤ k → makes k given n ≡ refused given 0
  unfolding makes room_call nothing
  nothing-made k l =
      rw (le-leb 1 k (omega arith), lt-leb k 6 (omega arith), ne_eqb k 12 (λ q. omega (arith, q)), ne_eqb k 7 (λ q. omega (arith, q)), ne_eqb k 8 (λ q. omega (arith, q)), ne_eqb k 9 (λ q. omega (arith, q)), ne_eqb k 10 (λ q. omega (arith, q)), ne_eqb k 11 (λ q. omega (arith, q)))

  beyond : (k : ℕ) → 13 ≤ k → Made w given n k
  beyond k l = unmade (uncalled k l) (subst (λ (o : Outcome). Still o given) (sym (nothing-made k l)) (refused-still given 0))

  pub made_by : (k : ℕ) → (k ≡ 1 → ⊥) → Made w given n k
  unfolding makes call_of writers_call room_call is_opening nothing
  made_by zero h = unmade refl (refused-still given 0)
  made_by (suc zero) h = absurd (h refl)
  made_by (suc (suc zero)) h = made (reserve v n) refl refl (reserve-made w block batch v home n)
  made_by (suc (suc (suc zero))) h = made (store v home block batch) refl refl (store-made w block batch v home)
  made_by (suc (suc (suc (suc zero)))) h = made (commit v batch) refl refl (commit-made w block batch v home)
  made_by (suc (suc (suc (suc (suc zero))))) h = made (flush batch) refl refl (flush-made w block batch v home)
  made_by (suc (suc (suc (suc (suc (suc zero)))))) h = made confirm refl refl (confirm-made w block batch v home)
  made_by (suc (suc (suc (suc (suc (suc (suc zero))))))) h = made (settle batch) refl refl (settle-made w block batch v home)
  made_by (suc (suc (suc (suc (suc (suc (suc (suc zero)))))))) h = made begin_round refl refl (round-made w block batch v home)
  made_by (suc (suc (suc (suc (suc (suc (suc (suc (suc zero))))))))) h = made (step_round most_homes batch) refl refl (step-made w block batch v home most_homes)
  made_by (suc (suc (suc (suc (suc (suc (suc (suc (suc (suc zero)))))))))) h = made (step_round n batch) refl refl (step-made w block batch v home n)
  made_by (suc (suc (suc (suc (suc (suc (suc (suc (suc (suc (suc zero))))))))))) h = made (trim batch) refl refl (trim-made w block batch v home)
  made_by (suc (suc (suc (suc (suc (suc (suc (suc (suc (suc (suc (suc zero)))))))))))) h = unmade refl (refused-still given 68)
  made_by (suc (suc (suc (suc (suc (suc (suc (suc (suc (suc (suc (suc (suc k))))))))))))) h = beyond _ (omega arith)

-- an opening, lent the copies that the loads have filled
pub open_made : (w : World) (state newest block batch : List ℕ) (v home n : ℕ)
    → SameEnd (makes 1 (lent_all w.memory.log w.memory.area state newest block batch v home) n) (ends w (opening state newest batch)) (length batch)
unfolding makes writers_call opens beside_all ends open_call loaded
open_made w state newest block batch v home n =
    let long : length (ends w (opening state newest batch)).batch ≡ length batch = outcome-room (loaded w state newest batch) _ _ in
    record {
      code = refl;
      figure = refl;
      size = refl;
      log = refl;
      area = refl;
      state = refl;
      newest = refl;
      bytes = refl;
      room = long;
      within = omega (arith, long);
    }
