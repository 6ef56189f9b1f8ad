-- `call_commit::commit` meets its contract. Assumes nothing.
use mathlib.Core.Bool.{not}
use mathlib.Core.Path.{ap}
use native.Mathlib.Omega.{arith}
use Rattle.call_commit.proofs.ClosingLaws.{closing-own, committed-own}
use Rattle.call_commit.proofs.CommitLaws.{ends-refused, known, ends-none, held, ends_held}
use borrow.Author.Rules.{rules}
use Rattle.call_commit.proofs.commit.Statement.{statement}
use Rattle.call_commit.proofs.commit.Tie as tie

commit-answer-requires : tie.Need-commit_answer-code-requires
commit-answer-requires c κs = search rules

refused-requires : tie.Need-refused-requires
refused-requires c κs = search rules

same_length : tie.Need-shape_of-log-then-code-ne0
same_length c = search rules

same-length-2 : tie.Need-shape_of-state-then-code-ne0
same-length-2 c = search rules

same-length-3 : tie.Need-shape_of-newest-then-code-ne0
same-length-3 c = search rules

same-length-4 : tie.Need-shape_of-batch-then-code-ne0
same-length-4 c = search rules

returns : tie.Need-returns-then-code-ne0
returns c = ends-refused _ _ _ _ _ _ _ c.commit_answer-code.ensures _ _ _ c.if-code-ne0.true c.refused.ensures

writer-requires : tie.Need-writer-r-requires
writer-requires c κs = let k = known _ _ _ _ _ _ _ c.commit_answer-code.ensures c.if-code-ne0.false in (k.0, k.1)

holds-requires : tie.Need-holds-requires
holds-requires c κs = search rules

commit-none-requires : tie.Need-commit_none-requires
commit-none-requires c κs =
    let k = known _ _ _ _ _ _ _ c.commit_answer-code.ensures c.if-code-ne0.false in (k.0, k.1)

done-requires : tie.Need-done-requires
done-requires c κs = search rules

same-length-5 : tie.Need-shape_of-log-then-not-holds
same-length-5 c = search rules

same-length-6 : tie.Need-shape_of-state-then-not-holds
same-length-6 c = search rules

same-length-7 : tie.Need-shape_of-newest-then-not-holds
same-length-7 c = search rules

same-length-8 : tie.Need-shape_of-batch-then-not-holds
same-length-8 c = search rules

returns-2 : tie.Need-returns-then-not-holds
returns-2 c =
    ends-none _ _ _ _ _ _ _ c.commit_answer-code.ensures c.if-code-ne0.false _ _ _ _ _ _ c.writer-r.ensures c.holds.ensures (ap not c.if-not-holds.true)
    c.commit_none.ensures c.done.ensures

state-requires : tie.Need-state-st-requires
state-requires c κs =
    (known _ _ _ _ _ _ _ c.commit_answer-code.ensures c.if-code-ne0.false).0

next-position-requires : tie.Need-next_position-ticket-requires
next-position-requires c κs =
    let k = held _ _ _ _ _ _ _ c.commit_answer-code.ensures c.if-code-ne0.false _ _ _ c.writer-r.ensures c.holds.ensures (ap not c.if-not-holds.false) c.state-st.ensures in
    let m = k.0 in
    omega (arith, m.high, m.room, m.few, m.filled)

add-ticket : tie.Need-overflow_add-ticket
add-ticket c =
    let k = held _ _ _ _ _ _ _ c.commit_answer-code.ensures c.if-code-ne0.false _ _ _ c.writer-r.ensures c.holds.ensures (ap not c.if-not-holds.false) c.state-st.ensures in
    omega (arith, k.1.high, c.next_position-ticket.ensures)

commit-next-requires : tie.Need-commit_next-size-requires
commit-next-requires c κs =
    closing-own _ _ _ c.args.newest.now c.args.area.now _ _ _ c.state-st.ensures c.writer-r.ensures
    (held _ _ _ _ _ _ _ c.commit_answer-code.ensures c.if-code-ne0.false _ _ _ c.writer-r.ensures c.holds.ensures (ap not c.if-not-holds.false) c.state-st.ensures)

done-requires-2 : tie.Need-done-requires-2
done-requires-2 c κs = search rules

same-length-9 : tie.Need-shape_of-log
same-length-9 c = search rules

same-length-10 : tie.Need-shape_of-state
same-length-10 c = search rules

same-length-11 : tie.Need-shape_of-newest
same-length-11 c = search rules

same-length-12 : tie.Need-shape_of-batch
same-length-12 c = search rules

returns-3 : tie.Need-returns
returns-3 c =
    ends_held _ _ _ _ _ _ _ c.commit_answer-code.ensures c.if-code-ne0.false _ _ _ _ _ _ _ _ _ _ _ _ c.writer-r.ensures c.holds.ensures (ap not c.if-not-holds.false)
    c.state-st.ensures c.next_position-ticket.ensures (committed-own _ _ _ _ _ _ _ _ c.state-st.ensures c.writer-r.ensures _ _ _ _ _ c.commit_next-size.ensures) c.done-2.ensures

pub commit_spec : {M : Type 1} → statement M
commit_spec =
    tie.close
    (tie.spec
    commit-answer-requires
    refused-requires
    same_length
    same-length-2
    same-length-3
    same-length-4
    returns
    writer-requires
    holds-requires
    commit-none-requires
    done-requires
    same-length-5
    same-length-6
    same-length-7
    same-length-8
    returns-2
    state-requires
    next-position-requires
    add-ticket
    commit-next-requires
    done-requires-2
    same-length-9
    same-length-10
    same-length-11
    same-length-12
    returns-3)
