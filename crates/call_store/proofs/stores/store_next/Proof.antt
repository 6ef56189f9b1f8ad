-- `call_store::store_next` meets its contract. Assumes nothing.
use Rattle.call_store.proofs.LogLaws.{next-at, stored_at}
use borrow.Author.Rules.{rules}
use Rattle.call_store.proofs.stores.store_next.Statement.{statement}
use Rattle.call_store.proofs.stores.store_next.Tie as tie

state-requires : tie.Need-state-st-requires
state-requires c κs = search rules

writer-requires : tie.Need-writer-r-requires
writer-requires c κs = search rules

store-other-requires : tie.Need-store_other-requires
store-other-requires c κs =
    next-at _ _ _ c.args.block.now _ _ _ _ c.state-st.ensures c.writer-r.ensures c.requires

same_length : tie.Need-shape_of-log
same_length c = search rules

same-length-2 : tie.Need-shape_of-state
same-length-2 c = search rules

same-length-3 : tie.Need-shape_of-batch
same-length-3 c = search rules

returns : tie.Need-returns
returns c =
    stored_at _ _ _ _ _ _ _ _ _ _ _ _ c.state-st.ensures c.writer-r.ensures c.store_other.ensures

pub store_next_spec : {M : Type 1} → statement M
store_next_spec =
    tie.close
    (tie.spec
    state-requires
    writer-requires
    store-other-requires
    same_length
    same-length-2
    same-length-3
    returns)
