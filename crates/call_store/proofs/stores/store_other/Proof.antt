-- `call_store::store_other` meets its contract. Assumes nothing.
use Rattle.call_store.proofs.LogLaws.{stored-used}
use borrow.Author.Rules.{rules}
use Rattle.call_store.proofs.stores.store_other.Statement.{statement}
use Rattle.call_store.proofs.stores.store_other.Tie as tie

promise-left-requires : tie.Need-promise_left-left-requires
promise-left-requires c κs = search rules

hold-next-requires : tie.Need-hold_next-size-requires
hold-next-requires c κs = search rules

set-promise-requires : tie.Need-set_promise-requires
set-promise-requires c κs = search rules

same_length : tie.Need-shape_of-log
same_length c = search rules

same-length-2 : tie.Need-shape_of-state
same-length-2 c = search rules

same-length-3 : tie.Need-shape_of-batch
same-length-3 c = search rules

returns : tie.Need-returns
returns c =
    stored-used _ _ _ _ _ _ _ _ _ _ _ _ _ _ c.promise_left-left.ensures c.hold_next-size.ensures c.set_promise.ensures

pub store_other_spec : {M : Type 1} → statement M
store_other_spec =
    tie.close
    (tie.spec promise-left-requires hold-next-requires set-promise-requires same_length same-length-2 same-length-3 returns)
