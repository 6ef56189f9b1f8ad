-- `call_ask::state_answer` meets its contract: each return follows the tests that led to it. Assumes nothing.
use mathlib.Core.Bool.{not}
use mathlib.Core.Path.{ap}
use native.Mathlib.Omega.{arith}
use lib.ListN.{length}
use Rattle.call_ask.proofs.LengthTests.{sizes, state-lengths-no, state-order-no, state-all}
use borrow.Author.Rules.{rules}
use Rattle.call_ask.proofs.state_answer.Statement.{statement}
use Rattle.call_ask.proofs.state_answer.Tie as tie

lengths-right-requires : tie.Need-lengths_right-requires
lengths-right-requires c κs = search rules

returns : tie.Need-returns-then-not-lengths_right
returns c = state-lengths-no _ _ _ c.lengths_right.ensures (ap not c.if-not-lengths_right.true)

log-groups-requires : tie.Need-log_groups-groups-requires
log-groups-requires c κs = search rules

data-homes-requires : tie.Need-data_homes-homes-requires
data-homes-requires c κs = search rules

whole-in-order-requires : tie.Need-whole_in_order-requires
whole-in-order-requires c κs =
    let a = c.args in
    let s = sizes (length a.log.now) (length a.area.now) (length a.state.now) _ c.lengths_right.ensures (ap not c.if-not-lengths_right.false) in
    omega arith

returns-2 : tie.Need-returns-then-not-whole_in_order
returns-2 c =
    state-order-no _ _ _ _ _ _ c.lengths_right.ensures (ap not c.if-not-lengths_right.false) c.log_groups-groups.ensures
    c.data_homes-homes.ensures
    c.whole_in_order.ensures
    (ap not c.if-not-whole_in_order.true)

returns-3 : tie.Need-returns
returns-3 c =
    state-all _ _ _ _ _ _ c.lengths_right.ensures (ap not c.if-not-lengths_right.false) c.log_groups-groups.ensures
    c.data_homes-homes.ensures
    c.whole_in_order.ensures
    (ap not c.if-not-whole_in_order.false)

pub state_answer_spec : {M : Type 1} → statement M
state_answer_spec =
    tie.close
    (tie.spec
    lengths-right-requires
    returns
    log-groups-requires
    data-homes-requires
    whole-in-order-requires
    returns-2
    returns-3)
