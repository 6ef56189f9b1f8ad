-- `call_store::store_first` meets its contract. Assumes nothing.
use Rattle.call_store.proofs.LogLaws.{none-logged, stored-first}
use borrow.Author.Rules.{rules}
use Rattle.call_store.proofs.stores.store_first.Statement.{statement}
use Rattle.call_store.proofs.stores.store_first.Tie as tie

hold-requires : tie.Need-hold-requires
hold-requires c κs = let p = c.requires in (p.0, p.1, none-logged _ p.3)

set-held-requires : tie.Need-set_held-requires
set-held-requires c κs = search rules

same_length : tie.Need-shape_of-state
same_length c = search rules

returns : tie.Need-returns
returns c =
    stored-first _ _ _ _ _ _ _ c.requires.3 c.hold.ensures c.set_held.ensures

pub store_first_spec : {M : Type 1} → statement M
store_first_spec = tie.close (tie.spec hold-requires set-held-requires same_length returns)
