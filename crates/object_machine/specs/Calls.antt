-- The store's calls by number, as the machine makes them. What a call is not lent stays as it is.
use Rattle.std.specs.Prelude.{ℕ, ◌-◌, ◌^◌, cond, [], eqb}
use Rattle.model.specs.Effects.{Given}
use Rattle.model.specs.Calls.{Outcome, refused, open_call, reserve_call, store_call, commit_call, flush_call, confirm_call, settle_call, trim_call, begin_round_call, step_round_call}
use Rattle.call_ask.specs.Lent.{lent_all, leaves_everything, lent}

-- a call that is lent no newest positions and no block; and one that is lent no batch either
unfoldable pub beside_batch : Given → Outcome → Outcome
beside_batch g o = leaves_everything o.code o.figure o.size o.log o.area o.state g.newest g.block o.batch

unfoldable pub beside_state : Given → Outcome → Outcome
beside_state g o = leaves_everything o.code o.figure o.size o.log o.area o.state g.newest g.block g.batch

-- one that is lent no block
unfoldable pub beside_all : Given → Outcome → Outcome
beside_all g o = leaves_everything o.code o.figure o.size o.log o.area o.state o.newest g.block o.batch

unfoldable pub opens : Given → Outcome
opens g = beside_all g (open_call (lent_all g.log g.area g.state g.newest [] g.batch 0 0))

unfoldable pub reserves : Given → ℕ → Outcome
reserves g n = beside_state g (reserve_call (lent g.log g.area g.state [] [] g.writer 0) n)

unfoldable pub stores : Given → Outcome
stores g = beside_batch g (store_call (lent g.log g.area g.state g.block g.batch g.writer g.home))

unfoldable pub commits : Given → Outcome
commits g = beside_all g (commit_call (lent_all g.log g.area g.state g.newest [] g.batch g.writer 0))

unfoldable pub flushes : Given → Outcome
flushes g = beside_batch g (flush_call (lent g.log g.area g.state [] g.batch 0 0))

unfoldable pub confirms : Given → Outcome
confirms g = beside_state g (confirm_call (lent g.log g.area g.state [] [] 0 0))

unfoldable pub settles : Given → Outcome
settles g = beside_batch g (settle_call (lent g.log g.area g.state [] g.batch 0 0))

unfoldable pub round_begins : Given → Outcome
round_begins g = beside_state g (begin_round_call (lent g.log g.area g.state [] [] 0 0))

unfoldable pub round_steps : Given → ℕ → Outcome
round_steps g n = beside_batch g (step_round_call (lent g.log g.area g.state [] g.batch 0 0) n)

unfoldable pub trims : Given → Outcome
trims g = beside_all g (trim_call (lent_all g.log g.area g.state g.newest [] g.batch 0 0))

-- no call: done, with no figure and no batch
unfoldable pub nothing : Given → Outcome
nothing g = refused g 0

-- all homes that a round has left
abbrev pub most_homes : ℕ
most_homes = 2 ^ 64 - 1

-- calls of writers, of opening and of syncing; a store to the list of rights that was not allowed is answered 68
unfoldable pub writers_call : ℕ → Given → ℕ → Outcome
writers_call k g n =
    cond (eqb k 1) (opens g)
    (cond (eqb k 2) (reserves g n)
    (cond (eqb k 3) (stores g)
    (cond (eqb k 4) (commits g)
    (cond (eqb k 5) (flushes g)
    (cond (eqb k 6) (confirms g) (refused g 68))))))

-- calls that make room
unfoldable pub room_call : ℕ → Given → ℕ → Outcome
room_call k g n =
    cond (eqb k 7) (settles g)
    (cond (eqb k 8) (round_begins g)
    (cond (eqb k 9) (round_steps g most_homes)
    (cond (eqb k 10) (round_steps g n)
    (cond (eqb k 11) (trims g) (nothing g)))))
