-- `call_writer::confirm` meets its contract: refused by its answer, or done by the one change of the strip. Assumes nothing.
use Rattle.call_writer.proofs.SessionLaws.{confirm-fits, confirm-refused, confirm-done}
use borrow.Author.Rules.{rules}
use Rattle.call_writer.proofs.confirm.Statement.{statement}
use Rattle.call_writer.proofs.confirm.Tie as tie

state-answer-requires : tie.Need-state_answer-answer-requires
state-answer-requires c κs = search rules

refused-requires : tie.Need-refused-requires
refused-requires c κs = search rules

same_length : tie.Need-shape_of-state-then-answer-ne0
same_length c = search rules

returns : tie.Need-returns-then-answer-ne0
returns c =
    let d = c.refused.ensures in
    confirm-refused _ _ _ _ _ c.state_answer-answer.ensures c.if-answer-ne0.true d.0 d.1 d.2

state-requires : tie.Need-state-fenced-requires
state-requires c κs = confirm-fits _ _ c.state_answer-answer.ensures c.if-answer-ne0.false

set-durable-requires : tie.Need-set_durable-requires
set-durable-requires c κs =
    confirm-fits _ _ c.state_answer-answer.ensures c.if-answer-ne0.false

done-requires : tie.Need-done-requires
done-requires c κs = search rules

same-length-2 : tie.Need-shape_of-state
same-length-2 c = search rules

returns-2 : tie.Need-returns
returns-2 c =
    let d = c.done.ensures in
    confirm-done _ _ _ _ _ _ _ c.state_answer-answer.ensures c.if-answer-ne0.false c.state-fenced.ensures
    c.set_durable.ensures
    d.0
    d.1
    d.2

pub confirm_spec : {M : Type 1} → statement M
confirm_spec =
    tie.close
    (tie.spec
    state-answer-requires
    refused-requires
    same_length
    returns
    state-requires
    set-durable-requires
    done-requires
    same-length-2
    returns-2)
