-- `call_many::transact` meets its contract. Assumes nothing.
use mathlib.Core.Path.{refl}
use native.Mathlib.Omega.{arith}
use Rattle.call_commit.proofs.ClosingLaws.{closing-own, committed-own}
use Rattle.call_many.proofs.TransactLaws.{transact-refused, chain-is, room-is, held, stored-size, transact-done}
use borrow.Author.Rules.{rules}
use Rattle.call_many.proofs.transacts.transact.Statement.{statement}
use Rattle.call_many.proofs.transacts.transact.Tie as tie

transact-answer-requires : tie.Need-transact_answer-code-requires
transact-answer-requires c κs = search rules

refused-requires : tie.Need-refused-requires
refused-requires c κs = search rules

same_length : tie.Need-shape_of-log-then-code-ne0
same_length c = search rules

same-length-2 : tie.Need-shape_of-state-then-code-ne0
same-length-2 c = search rules

same-length-3 : tie.Need-shape_of-newest-then-code-ne0
same-length-3 c = search rules

same-length-4 : tie.Need-shape_of-batch-then-code-ne0
same-length-4 c = search rules

returns : tie.Need-returns-then-code-ne0
returns c =
    transact-refused _ _ _ _ _ _ _ _ _ c.transact_answer-code.ensures _ _ _ c.if-code-ne0.true c.refused.ensures

store-all-requires : tie.Need-store_all-stored-requires
store-all-requires c κs =
    (chain-is _ _ _ _ _ _ _ _ _ c.transact_answer-code.ensures c.if-code-ne0.false, room-is _ _ _ _ _ _ _ _ _ c.transact_answer-code.ensures c.if-code-ne0.false)

state-requires : tie.Need-state-st-requires
state-requires c κs =
    let k = chain-is _ _ _ _ _ _ _ _ _ c.transact_answer-code.ensures c.if-code-ne0.false in omega (arith, k.state_fits, c.store_all-stored.auto)

next-position-requires : tie.Need-next_position-ticket-requires
next-position-requires c κs =
    let k = held _ _ _ _ _ _ _ _ _ c.transact_answer-code.ensures c.if-code-ne0.false _ _ _ _ _ _ c.store_all-stored.ensures c.state-st.ensures refl in
    let m = k.0 in
    omega (arith, m.high, m.room, m.few, m.filled)

add-ticket : tie.Need-overflow_add-ticket
add-ticket c =
    let k = held _ _ _ _ _ _ _ _ _ c.transact_answer-code.ensures c.if-code-ne0.false _ _ _ _ _ _ c.store_all-stored.ensures c.state-st.ensures refl in
    omega (arith, k.1.high, c.next_position-ticket.ensures)

commit-next-requires : tie.Need-commit_next-size-requires
commit-next-requires c κs =
    closing-own _ _ _ c.args.newest.now c.args.area.now _ _ _ c.state-st.ensures refl
    (held _ _ _ _ _ _ _ _ _ c.transact_answer-code.ensures c.if-code-ne0.false _ _ _ _ _ _ c.store_all-stored.ensures c.state-st.ensures refl)

add_done : tie.Need-overflow_add-stored
add_done c =
    omega (arith, stored-size _ _ _ _ _ _ _ _ _ c.transact_answer-code.ensures c.if-code-ne0.false _ _ _ _ _ _ c.store_all-stored.ensures c.state-st.ensures refl _ _ _ _ _ (committed-own _ _ _ _ _ _ _ _ c.state-st.ensures refl _ _ _ _ _ c.commit_next-size.ensures))

done-requires : tie.Need-done-requires
done-requires c κs = search rules

same-length-5 : tie.Need-shape_of-log
same-length-5 c = omega (arith, c.commit_next-size.auto, c.store_all-stored.auto)

same-length-6 : tie.Need-shape_of-state
same-length-6 c = search rules

same-length-7 : tie.Need-shape_of-newest
same-length-7 c = search rules

same-length-8 : tie.Need-shape_of-batch
same-length-8 c = search rules

returns-2 : tie.Need-returns
returns-2 c =
    transact-done _ _ _ _ _ _ _ _ _ c.transact_answer-code.ensures c.if-code-ne0.false _ _ _ _ _ _ c.store_all-stored.ensures c.state-st.ensures refl _ _ _ _ _ _ _ _ _ c.next_position-ticket.ensures (committed-own _ _ _ _ _ _ _ _ c.state-st.ensures refl _ _ _ _ _ c.commit_next-size.ensures) c.done.ensures

pub transact_spec : {M : Type 1} → statement M
transact_spec = tie.close (tie.spec transact-answer-requires refused-requires same_length same-length-2 same-length-3 same-length-4 returns store-all-requires state-requires next-position-requires add-ticket commit-next-requires add_done done-requires same-length-5 same-length-6 same-length-7 same-length-8 returns-2)
