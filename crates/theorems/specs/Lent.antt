-- What the contracts lend, and what histories lend. A history hands every call but the first the newest positions that the last call left; the contracts of
-- crates/kagutin lend them to open, commit, trim, read and the calls on several homes alone. Every other call ends in a history as its contract says, with
-- the newest positions untouched.
use Rattle.std.specs.Prelude.{ℕ, ◌≡◌, List, []}
use Rattle.model.specs.Effects.{Given}
use Rattle.model.specs.Calls.{begin_call, reserve_call, abort_call, store_call, flush_call, confirm_call, settle_call, begin_round_call, step_round_call}
use Rattle.model.specs.Facts.{left_with}
use Rattle.model.specs.History.{World, Call, opening, confirm, Change, change, begins, reserves, aborts, stores, commits, flushes, Service, service, settles, round_begins, round_steps, trims, reads, ends}
use Rattle.abstract_store.specs.Usage.{usage_call, told_at}

-- what the contract of a call that is lent no newest positions has it lent
abbrev pub asked : World → List ℕ → List ℕ → ℕ → ℕ → Given
asked w block batch writer home =
    record { state = w.state; newest = []; log = w.log; area = w.area; block = block; batch = batch; writer = writer; home = home }

abbrev pub ChangeAsAsked : World → Change → Type 0
ChangeAsAsked w (begins writer) = ends w (change (begins writer)) ≡ left_with w.newest (begin_call (asked w [] [] writer 0))
ChangeAsAsked w (reserves writer places) =
    ends w (change (reserves writer places)) ≡ left_with w.newest (reserve_call (asked w [] [] writer 0) places)
ChangeAsAsked w (aborts writer) = ends w (change (aborts writer)) ≡ left_with w.newest (abort_call (asked w [] [] writer 0))
ChangeAsAsked w (stores writer home block batch) =
    ends w (change (stores writer home block batch)) ≡ left_with w.newest (store_call (asked w block batch writer home))
ChangeAsAsked w (commits writer batch) = Unit {0}
ChangeAsAsked w (flushes batch) = ends w (change (flushes batch)) ≡ left_with w.newest (flush_call (asked w [] batch 0 0))

abbrev pub ServiceAsAsked : World → Service → Type 0
ServiceAsAsked w (settles batch) = ends w (service (settles batch)) ≡ left_with w.newest (settle_call (asked w [] batch 0 0))
ServiceAsAsked w round_begins = ends w (service round_begins) ≡ left_with w.newest (begin_round_call (asked w [] [] 0 0))
ServiceAsAsked w (round_steps homes batch) =
    ends w (service (round_steps homes batch)) ≡ left_with w.newest (step_round_call (asked w [] batch 0 0) homes)
ServiceAsAsked w (trims batch) = Unit {0}
ServiceAsAsked w (reads writer home block) = Unit {0}

abbrev pub AsAsked : World → Call → Type 0
AsAsked w (opening state newest batch) = Unit {0}
AsAsked w confirm = ends w confirm ≡ left_with w.newest (confirm_call (asked w [] [] 0 0))
AsAsked w (change c) = ChangeAsAsked w c
AsAsked w (service c) = ServiceAsAsked w c

-- for every call, and for usage, which changes nothing and stands in no history
pub record LentAlike : Type 0 where
  pub calls : (w : World) (c : Call) → AsAsked w c
  pub usage : (w : World) → told_at w ≡ usage_call (asked w [] [] 0 0)
