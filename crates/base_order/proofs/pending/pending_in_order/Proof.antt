-- `base_order::pending_in_order` meets its contract: each return follows the tests that led to it. Assumes nothing.
use mathlib.Core.Path.{ap}
use mathlib.Core.Bool.{not}
use borrow.Author.Rules.{rules}
use Rattle.base_order.proofs.OrderTests.{answered-no, answered-yes}
use Rattle.base_order.proofs.AskedLaws.{pending-no, pending-sum}
use Rattle.base_order.proofs.pending.pending_in_order.Statement.{statement}
use Rattle.base_order.proofs.pending.pending_in_order.Tie as tie

state-requires : tie.Need-state-st-requires
state-requires c κs = search rules

round-in-order-requires : tie.Need-round_in_order-requires
round-in-order-requires c κs = search rules

returns : tie.Need-returns-then-not-round_in_order
returns c = pending-no _ _ c.state-st.ensures (answered-no c.round_in_order.ensures (ap not c.if-not-round_in_order.true))

asked-of-four-requires : tie.Need-asked_of_four-requires
asked-of-four-requires c κs = search rules

asked-of-four-requires-2 : tie.Need-asked_of_four-requires-2
asked-of-four-requires-2 c κs = search rules

add-result : tie.Need-overflow_add-result
add-result c = search rules

places-requires : tie.Need-places-requires
places-requires c κs =
    rw c.state-st.ensures c.requires.1

returns-2 : tie.Need-returns
returns-2 c =
    pending-sum _ _ c.state-st.ensures _ _ _ (answered-yes c.round_in_order.ensures (ap not c.if-not-round_in_order.false))
    c.asked_of_four.ensures.0 c.asked_of_four-2.ensures.0 c.places.ensures

pub pending_in_order_spec : {M : Type 1} → statement M
pending_in_order_spec =
    tie.close
    (tie.spec
    state-requires
    round-in-order-requires
    returns
    asked-of-four-requires
    asked-of-four-requires-2
    add-result
    places-requires
    returns-2)
