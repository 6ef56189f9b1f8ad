-- A refused call leaves everything that it was lent as it was, field by field, and its number is one of those that refuse. Assumes nothing.
use mathlib.Core.Path.{◌≡◌, refl}
use mathlib.Core.Logic.{◌⊎◌, inl, inr}
use mathlib.Core.Bool.{Bool, true, false, ◌||◌}
use Prim.Native.Nat.{ℕ, zero, suc}
use native.Mathlib.Omega.{arith}
use lib.Dec.{eqb}
use borrow.Author.Tests.{ne_eqb}
use Rattle.model.specs.Effects.{Given, Effect}
use Rattle.model.specs.Questions.{ask, ask_state, ask_block, ask_newest, ask_both, format_answer, open_answer, begin_answer, reserve_answer, abort_answer, store_answer, commit_answer, flush_answer, confirm_answer, settle_answer, trim_answer, read_answer, begin_round_answer, step_round_answer}
use Rattle.model.specs.Calls.{refused, done, outcome, format_call, open_call, begin_call, reserve_call, abort_call, store_call, commit_call, flush_call, confirm_call, settle_call, trim_call, read_call, begin_round_call, step_round_call}
use Rattle.model.specs.Refusals.{refuses, Untouched, DoneOrUntouched, Refusals}
use Rattle.acts.specs.Many.{ask_homes, fetch_answer, revise_answer, transact_answer, fetch_call, revise_call, transact_call}
use Rattle.acts.specs.ManyRefusals.{ManyRefusals}

-- an answer is 0 or one of the numbers that refuse
abbrev Known : ℕ → Type 0
Known k = (eqb k 0 || refuses k) ≡ true

-- by the answer
by_number : (g : Given) (a : ℕ) (e : Effect) → Known a → ((outcome g a e).code ≡ 0) ⊎ Untouched g (outcome g a e)
unfolding outcome done refused
by_number g zero e l = inl refl
by_number g (suc k) e l =
    inr (record { number = rw (ne_eqb (suc k) 0 (λ x. omega arith)) at l; figure = refl; size = refl; state = refl; newest = refl; log = refl; area = refl; block = refl; batch = refl })

-- a question whose number refuses, before answers that are known
known : (b : Bool) (k v : ℕ) → Known k → Known v → Known (ask b k v)
unfolding ask
known true k v m l = l
known false k v m l = m

state-known : (g : Given) (v : ℕ) → Known v → Known (ask_state g v)
unfolding ask_state refuses
state-known g v l = known _ 1 _ refl (known _ 2 v refl l)

block-known : (g : Given) (v : ℕ) → Known v → Known (ask_block g v)
unfolding ask_block refuses
block-known g v l = known _ 1 _ refl (known _ 2 v refl l)

newest-known : (g : Given) (v : ℕ) → Known v → Known (ask_newest g v)
unfolding ask_newest refuses
newest-known g v l = known _ 1 _ refl (known _ 2 v refl l)

both-known : (g : Given) (v : ℕ) → Known v → Known (ask_both g v)
unfolding ask_both refuses
both-known g v l = known _ 1 _ refl (known _ 2 v refl l)

format-untouched : DoneOrUntouched format_call
unfolding format_call format_answer refuses
format-untouched g = by_number g _ _ (known _ 1 _ refl (known _ 9 0 refl refl))

open-untouched : DoneOrUntouched open_call
unfolding open_call open_answer refuses
open-untouched g = by_number g _ _ (known _ 1 _ refl (known _ 3 _ refl (known _ 10 _ refl (known _ 9 0 refl refl))))

begin-untouched : DoneOrUntouched begin_call
unfolding begin_call begin_answer refuses
begin-untouched g = by_number g _ _ (state-known g _ (known _ 4 _ refl (known _ 6 0 refl refl)))

reserve-untouched : (n : ℕ) → DoneOrUntouched (λ g. reserve_call g n)
unfolding reserve_call reserve_answer refuses
reserve-untouched n g = by_number g _ _ (state-known g _ (known _ 4 _ refl (known _ 6 _ refl (known _ 17 0 refl refl))))

abort-untouched : DoneOrUntouched abort_call
unfolding abort_call abort_answer refuses
abort-untouched g = by_number g _ _ (state-known g _ (known _ 4 _ refl (known _ 7 0 refl refl)))

store-untouched : DoneOrUntouched store_call
unfolding store_call store_answer refuses
store-untouched g =
    by_number g _ _ (block-known g _ (known _ 4 _ refl (known _ 5 _ refl (known _ 19 _ refl (known _ 7 _ refl (known _ 8 _ refl (known _ 9 0 refl refl)))))))

commit-untouched : DoneOrUntouched commit_call
unfolding commit_call commit_answer refuses
commit-untouched g = by_number g _ _ (newest-known g _ (known _ 4 _ refl (known _ 7 _ refl (known _ 8 _ refl (known _ 9 0 refl refl)))))

flush-untouched : DoneOrUntouched flush_call
unfolding flush_call flush_answer refuses
flush-untouched g = by_number g _ _ (state-known g _ (known _ 18 _ refl (known _ 9 0 refl refl)))

confirm-untouched : DoneOrUntouched confirm_call
unfolding confirm_call confirm_answer
confirm-untouched g = by_number g _ _ (state-known g 0 refl)

settle-untouched : DoneOrUntouched settle_call
unfolding settle_call settle_answer refuses
settle-untouched g = by_number g _ _ (state-known g _ (known _ 21 _ refl (known _ 9 0 refl refl)))

begin-round-untouched : DoneOrUntouched begin_round_call
unfolding begin_round_call begin_round_answer refuses
begin-round-untouched g = by_number g _ _ (state-known g _ (known _ 21 0 refl refl))

step-round-untouched : (n : ℕ) → DoneOrUntouched (λ g. step_round_call g n)
unfolding step_round_call step_round_answer refuses
step-round-untouched n g = by_number g _ _ (state-known g _ (known _ 21 _ refl (known _ 9 0 refl refl)))

trim-untouched : DoneOrUntouched trim_call
unfolding trim_call trim_answer refuses
trim-untouched g = by_number g _ _ (newest-known g _ (known _ 10 _ refl (known _ 9 0 refl refl)))

read-untouched : DoneOrUntouched read_call
unfolding read_call read_answer refuses
read-untouched g = by_number g _ _ (both-known g _ (known _ 4 _ refl (known _ 5 _ refl (known _ 20 0 refl refl))))

pub refusals : Refusals
refusals n =
    (format-untouched, (open-untouched, (begin-untouched, (reserve-untouched n, (abort-untouched, (store-untouched, (commit-untouched, (flush-untouched, (confirm-untouched, (settle-untouched, (begin-round-untouched, (step-round-untouched n, (trim-untouched, (read-untouched, tt))))))))))))))

-- ---- calls on several homes

homes-known : (g : Given) (v : ℕ) → Known v → Known (ask_homes g v)
unfolding ask_homes refuses
homes-known g v l = known _ 1 _ refl (known _ 2 _ refl (known _ 4 _ refl (known _ 5 v refl l)))

fetch-untouched : DoneOrUntouched fetch_call
unfolding fetch_call fetch_answer refuses
fetch-untouched g = by_number g _ _ (homes-known g _ (known _ 20 0 refl refl))

revise-untouched : DoneOrUntouched revise_call
unfolding revise_call revise_answer refuses
revise-untouched g = by_number g _ _ (homes-known g _ (known _ 19 _ refl (known _ 20 0 refl refl)))

transact-untouched : DoneOrUntouched transact_call
unfolding transact_call transact_answer refuses
transact-untouched g = by_number g _ _ (homes-known g _ (known _ 19 _ refl (known _ 6 _ refl (known _ 8 _ refl (known _ 9 0 refl refl)))))

pub many-refusals : ManyRefusals
many-refusals = (fetch-untouched, (revise-untouched, (transact-untouched, tt)))
