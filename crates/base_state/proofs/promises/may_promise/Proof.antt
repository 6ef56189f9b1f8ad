-- `base_state::may_promise` meets its contract. Assumes nothing.
use borrow.Author.Rules.{rules}
use Rattle.base_state.proofs.PromiseSums.{may_none, may-some}
use Rattle.base_state.proofs.promises.may_promise.Statement.{statement}
use Rattle.base_state.proofs.promises.may_promise.Tie as tie

returns : tie.Need-returns-then-n-eq0
returns c = may_none _ _ c.if-n-eq0.true

free-places-requires : tie.Need-free_places-requires
free-places-requires c κs = search rules

returns-2 : tie.Need-returns
returns-2 c = may-some _ _ _ c.if-n-eq0.false c.free_places.ensures

pub may_promise_spec : {M : Type 1} → statement M
may_promise_spec = tie.close (tie.spec returns free-places-requires returns-2)
