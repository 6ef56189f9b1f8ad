-- `call_flush::flush` meets its contract. Assumes nothing.
use Rattle.call_flush.proofs.FlushLaws.{sized, known, fits-none, fits-part, ends-refused, ends-none, ends-part}
use borrow.Author.Rules.{rules}
use Rattle.call_flush.proofs.flush.Statement.{statement}
use Rattle.call_flush.proofs.flush.Tie as tie

flush-answer-requires : tie.Need-flush_answer-code-requires
flush-answer-requires c κs = search rules

refused-requires : tie.Need-refused-requires
refused-requires c κs = search rules

same_length : tie.Need-shape_of-state-then-code-ne0
same_length c = search rules

same-length-2 : tie.Need-shape_of-batch-then-code-ne0
same-length-2 c = search rules

returns : tie.Need-returns-then-code-ne0
returns c = ends-refused _ _ _ _ _ _ _ _ c.flush_answer-code.ensures c.if-code-ne0.true c.refused.ensures

state-requires : tie.Need-state-st-requires
state-requires c κs = sized _ _ _ _ _ c.flush_answer-code.ensures c.if-code-ne0.false

flush-none-requires : tie.Need-flush_none-requires
flush-none-requires c κs =
    let k = known _ _ _ _ _ _ c.flush_answer-code.ensures c.if-code-ne0.false c.state-st.ensures in
    let f = fits-none _ _ _ _ _ _ c.flush_answer-code.ensures c.if-code-ne0.false c.state-st.ensures c.if-st-eq0.true in
    (k.state_fits, f, k.next)

done-requires : tie.Need-done-requires
done-requires c κs = search rules

same-length-3 : tie.Need-shape_of-state-then-st-eq0
same-length-3 c = search rules

same-length-4 : tie.Need-shape_of-batch-then-st-eq0
same-length-4 c = search rules

returns-2 : tie.Need-returns-then-st-eq0
returns-2 c =
    ends-none _ _ _ _ _ _ _ _ _ _ _ c.flush_answer-code.ensures c.if-code-ne0.false c.state-st.ensures c.if-st-eq0.true
    c.flush_none.ensures.0 c.flush_none.ensures.1 c.done.ensures

flush-part-requires : tie.Need-flush_part-requires
flush-part-requires c κs =
    let k = known _ _ _ _ _ _ c.flush_answer-code.ensures c.if-code-ne0.false c.state-st.ensures in
    let f = fits-part _ _ _ _ _ _ c.flush_answer-code.ensures c.if-code-ne0.false c.state-st.ensures c.if-st-eq0.false in
    (k.state_fits, f, k.some, k.log, k.next)

add_done : tie.Need-overflow_add-done
add_done c = search rules

done-requires-2 : tie.Need-done-requires-2
done-requires-2 c κs = search rules

same-length-5 : tie.Need-shape_of-state
same-length-5 c = search rules

same-length-6 : tie.Need-shape_of-batch
same-length-6 c = search rules

returns-3 : tie.Need-returns
returns-3 c =
    ends-part _ _ _ _ _ _ _ _ _ _ _ c.flush_answer-code.ensures c.if-code-ne0.false c.state-st.ensures c.if-st-eq0.false
    c.flush_part.ensures.0 c.flush_part.ensures.1 c.done-2.ensures

pub flush_spec : {M : Type 1} → statement M
flush_spec =
    tie.close
    (tie.spec
    flush-answer-requires
    refused-requires
    same_length
    same-length-2
    returns
    state-requires
    flush-none-requires
    done-requires
    same-length-3
    same-length-4
    returns-2
    flush-part-requires
    add_done
    done-requires-2
    same-length-5
    same-length-6
    returns-3)
