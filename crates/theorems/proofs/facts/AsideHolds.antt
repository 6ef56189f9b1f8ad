-- The calls that are not lent the newest positions neither look at them nor change them; so they end in a history as their contracts say. Assumes nothing.
use mathlib.Core.Path.{◌≡◌, refl, ap, ◌∙◌}
use mathlib.Core.Bool.{Bool, true, false, cond}
use mathlib.Core.List.{List, []}
use Prim.Native.Nat.{ℕ, zero, suc, ◌+◌}
use lib.Dec.{eqb}
use Rattle.model.specs.State.{state_of, next_position, writer_of, holds, list_home, listed_of}
use Rattle.model.specs.declared.Writer.{Writer}
use Rattle.model.specs.Effects.{Given, Effect, new_state, format_effect, begin_effect, reserve_effect, abort_effect, log_held, store_first, store_again, store_other, store_effect, flush_part, flush_none, flush_effect, confirm_effect, tags_of, live_tags, live_base, settle_effect, begin_round_effect, round_transactions, round_homes, step_homes, step_round_effect}
use Rattle.model.specs.Questions.{areas_right, state_right, block_right, state_in_order, writer_known, is_home_known, store_allowed, writer_open, room, store_logs, batch_fits, in_round, ask_state, ask_block, format_answer, begin_answer, reserve_answer, abort_answer, store_answer, flush_answer, confirm_answer, settle_answer, begin_round_answer, step_round_answer}
use Rattle.model.specs.Calls.{refused, done, size_of, outcome, format_call, begin_call, reserve_call, abort_call, store_call, flush_call, confirm_call, settle_call, begin_round_call, step_round_call}
use Rattle.model.specs.Rights.{for_home, store_list}
use Rattle.model.specs.Facts.{lent_with, left_with, AsideIn, Aside}
use Rattle.model.specs.History.{World, Call, opening, confirm, Change, change, begins, reserves, aborts, stores, commits, flushes, Service, service, settles, round_begins, round_steps, trims, reads, lent, ends, change_ends, service_ends}
use Rattle.abstract_store.specs.Usage.{committed_entries, usage_of, usage_if, usage_call}
use Rattle.theorems.specs.Lent.{asked, ChangeAsAsked, ServiceAsAsked, AsAsked, LentAlike}
use Rattle.model_laws.proofs.state.RightLaws.{shown_by, list-by}

-- an effect with other newest positions
unfoldable effect_with : List ℕ → Effect → Effect
effect_with newest e =
    record {
      figure = e.figure;
      state = e.state;
      newest = newest;
      log = e.log;
      area = e.area;
      block = e.block;
      records = e.records;
    }

-- a call whose effect and answer are the same but for them
beside : (g : Given) (n : List ℕ) (a a' : ℕ) (e e' : Effect) → e' ≡ effect_with n e → a' ≡ a → outcome (lent_with n g) a' e' ≡ left_with n (outcome g a e)
unfolding outcome lent_with left_with effect_with
beside g n zero a' e e' p q = rw (p, q) (unfold done in refl)
beside g n (suc k) a' e e' p q = rw (p, q) (unfold refused in refl)

-- one whose answer asks for the length of its batch
module _ (g : Given) (n : List ℕ) (answer : Given → ℕ → ℕ) (e e' : Effect) (p : e' ≡ effect_with n e) where
  sized : ((size : ℕ) → answer (lent_with n g) size ≡ answer g size) → answer (lent_with n g) (size_of e') ≡ answer g (size_of e)
  sized q = q (size_of e') ∙ ap (λ (x : Effect). answer g (size_of x)) p ∙ (unfold size_of effect_with in refl)

  beside-sized : ((size : ℕ) → answer (lent_with n g) size ≡ answer g size)
      → outcome (lent_with n g) (answer (lent_with n g) (size_of e')) e' ≡ left_with n (outcome g (answer g (size_of e)) e)
  beside-sized q = beside g n (answer g (size_of e)) (answer (lent_with n g) (size_of e')) e e' p (sized q)

-- ---- what they do

store_beside : (g : Given) (n : List ℕ) → store_effect (lent_with n g) ≡ effect_with n (store_effect g)
unfolding store_effect lent_with
store_beside g n = go (holds (writer_of g.state g.writer)) (eqb (writer_of g.state g.writer).home g.home)
  where
    u : Given
    u = lent_with n g

    r : Writer
    r = writer_of g.state g.writer

    go : (a b : Bool)
        → cond a (cond b (store_again u) (store_other u r (next_position (state_of g.state)))) (store_first u)
        ≡ effect_with n (cond a (cond b (store_again g) (store_other g r (next_position (state_of g.state)))) (store_first g))
    go true true = unfold store_again new_state effect_with lent_with in refl
    go true false = unfold store_other log_held effect_with lent_with in refl
    go false b = unfold store_first new_state effect_with lent_with in refl

flush-beside : (g : Given) (n : List ℕ) → flush_effect (lent_with n g) ≡ effect_with n (flush_effect g)
unfolding flush_effect lent_with
flush-beside g n = go (eqb (state_of g.state).filled 0)
  where
    u : Given
    u = lent_with n g

    go : (d : Bool) → cond d (flush_none u (state_of g.state)) (flush_part u (state_of g.state))
        ≡ effect_with n (cond d (flush_none g (state_of g.state)) (flush_part g (state_of g.state)))
    go true = unfold flush_none effect_with lent_with in refl
    go false = unfold flush_part effect_with lent_with in refl

-- ---- call by call

format-aside : AsideIn format_call
unfolding format_call
format-aside g n =
    beside-sized g n format_answer (format_effect g) (format_effect (lent_with n g)) (unfold format_effect effect_with lent_with in refl)
    (λ size. unfold format_answer areas_right batch_fits lent_with in refl)

begin-aside : AsideIn begin_call
unfolding begin_call
begin-aside g n =
    beside g n (begin_answer g) (begin_answer (lent_with n g)) (begin_effect g) (begin_effect (lent_with n g))
    (unfold begin_effect new_state effect_with lent_with in refl)
    (unfold begin_answer ask_state areas_right state_right state_in_order writer_known writer_open lent_with in refl)

reserve-aside : (k : ℕ) → AsideIn (λ g. reserve_call g k)
unfolding reserve_call
reserve-aside k g n =
    beside g n (reserve_answer g k) (reserve_answer (lent_with n g) k) (reserve_effect g k) (reserve_effect (lent_with n g) k)
    (unfold reserve_effect new_state effect_with lent_with in refl)
    (unfold reserve_answer ask_state areas_right state_right state_in_order writer_known writer_open lent_with in refl)

abort-aside : AsideIn abort_call
unfolding abort_call
abort-aside g n =
    beside g n (abort_answer g) (abort_answer (lent_with n g)) (abort_effect g) (abort_effect (lent_with n g))
    (unfold abort_effect new_state effect_with lent_with in refl)
    (unfold abort_answer ask_state areas_right state_right state_in_order writer_known writer_open lent_with in refl)

-- the list that store goes by is found without them
allowed-aside : (g : Given) (n : List ℕ) → store_allowed (lent_with n g) ≡ store_allowed g
unfolding store_allowed store_list lent_with
allowed-aside g n = rw (list-by (lent_with n g) g (listed_of g.state) (listed_of g.state) 4 (λ i l. unfold for_home lent_with in shown_by (for_home g (list_home + i)) n g.block g.batch g.writer (listed_of g.state i)))

store-aside : AsideIn store_call
unfolding store_call
store-aside g n =
    beside-sized g n store_answer (store_effect g) (store_effect (lent_with n g)) (store_beside g n)
    (λ size. unfold store_answer ask_block areas_right state_right block_right state_in_order writer_known is_home_known writer_open store_logs room batch_fits lent_with in rw (allowed-aside g n))

flush-aside : AsideIn flush_call
unfolding flush_call
flush-aside g n =
    beside-sized g n flush_answer (flush_effect g) (flush_effect (lent_with n g)) (flush-beside g n)
    (λ size. unfold flush_answer ask_state areas_right state_right state_in_order batch_fits lent_with in refl)

confirm-aside : AsideIn confirm_call
unfolding confirm_call
confirm-aside g n =
    beside g n (confirm_answer g) (confirm_answer (lent_with n g)) (confirm_effect g) (confirm_effect (lent_with n g))
    (unfold confirm_effect new_state effect_with lent_with in refl)
    (unfold confirm_answer ask_state areas_right state_right state_in_order lent_with in refl)

settle-aside : AsideIn settle_call
unfolding settle_call
settle-aside g n =
    beside-sized g n settle_answer (settle_effect g) (settle_effect (lent_with n g))
    (unfold settle_effect live_tags tags_of live_base effect_with lent_with in refl)
    (λ size. unfold settle_answer in_round ask_state areas_right state_right state_in_order batch_fits lent_with in refl)

begin-round-aside : AsideIn begin_round_call
unfolding begin_round_call
begin-round-aside g n =
    beside g n (begin_round_answer g) (begin_round_answer (lent_with n g)) (begin_round_effect g) (begin_round_effect (lent_with n g))
    (unfold begin_round_effect new_state effect_with lent_with in refl)
    (unfold begin_round_answer in_round ask_state areas_right state_right state_in_order lent_with in refl)

step-round-aside : (k : ℕ) → AsideIn (λ g. step_round_call g k)
unfolding step_round_call
step-round-aside k g n =
    beside-sized g n (λ h size. step_round_answer h k size) (step_round_effect g k) (step_round_effect (lent_with n g) k)
    (unfold step_round_effect step_homes round_homes round_transactions live_tags tags_of live_base effect_with lent_with in refl)
    (λ size. unfold step_round_answer in_round ask_state areas_right state_right state_in_order batch_fits lent_with in refl)

pub aside : Aside
aside k = (format-aside, (begin-aside, (reserve-aside k, (abort-aside, (store-aside, (flush-aside, (confirm-aside, (settle-aside, (begin-round-aside, (step-round-aside k, tt))))))))))

-- ---- in a history

change-asked : (w : World) (c : Change) → ChangeAsAsked w c
unfolding ends change_ends lent
change-asked w (begins v) = unfold lent_with in begin-aside (asked w [] [] v 0) w.newest
change-asked w (reserves v n) = unfold lent_with in reserve-aside n (asked w [] [] v 0) w.newest
change-asked w (aborts v) = unfold lent_with in abort-aside (asked w [] [] v 0) w.newest
change-asked w (stores v h block batch) = unfold lent_with in store-aside (asked w block batch v h) w.newest
change-asked w (commits v batch) = tt
change-asked w (flushes batch) = unfold lent_with in flush-aside (asked w [] batch 0 0) w.newest

service-asked : (w : World) (c : Service) → ServiceAsAsked w c
unfolding ends service_ends lent
service-asked w (settles batch) = unfold lent_with in settle-aside (asked w [] batch 0 0) w.newest
service-asked w round_begins = unfold lent_with in begin-round-aside (asked w [] [] 0 0) w.newest
service-asked w (round_steps n batch) = unfold lent_with in step-round-aside n (asked w [] batch 0 0) w.newest
service-asked w (trims batch) = tt
service-asked w (reads v h block) = tt

call-asked : (w : World) (c : Call) → AsAsked w c
unfolding ends lent
call-asked w (opening state newest batch) = tt
call-asked w confirm = unfold lent_with in confirm-aside (asked w [] [] 0 0) w.newest
call-asked w (change c) = change-asked w c
call-asked w (service c) = service-asked w c

usage-aside : (g : Given) (n : List ℕ) → usage_call (lent_with n g) ≡ usage_call g
unfolding usage_call usage_if
usage-aside g n =
    go (ask_state g 0) (ask_state (lent_with n g) 0) (unfold ask_state areas_right state_right state_in_order lent_with in refl)
  where
    go : (a b : ℕ) → b ≡ a → usage_if b (lent_with n g) ≡ usage_if a g
    go zero b e = rw e (unfold usage_of committed_entries live_tags tags_of live_base lent_with in refl)
    go (suc k) b e = rw e refl

pub lent_alike : LentAlike
unfolding lent lent_with
lent_alike = record { calls = call-asked; usage = λ w. usage-aside (asked w [] [] 0 0) w.newest }
