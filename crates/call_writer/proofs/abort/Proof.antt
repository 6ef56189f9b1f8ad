-- `call_writer::abort` meets its contract: refused by its answer, or done by two changes of the strip. Assumes nothing.
use native.Mathlib.Omega.{arith}
use Rattle.call_writer.proofs.SessionLaws.{abort-fits, abort_refused, abort-done}
use borrow.Author.Rules.{rules}
use Rattle.call_writer.proofs.abort.Statement.{statement}
use Rattle.call_writer.proofs.abort.Tie as tie

abort-answer-requires : tie.Need-abort_answer-answer-requires
abort-answer-requires c κs = search rules

refused-requires : tie.Need-refused-requires
refused-requires c κs = search rules

same_length : tie.Need-shape_of-state-then-answer-ne0
same_length c = search rules

returns : tie.Need-returns-then-answer-ne0
returns c =
    let d = c.refused.ensures in
    abort_refused _ _ _ _ _ c.abort_answer-answer.ensures c.if-answer-ne0.true d.0 d.1 d.2

abort-requires : tie.Need-abort-requires
abort-requires c κs = omega (arith, abort-fits _ _ c.abort_answer-answer.ensures c.if-answer-ne0.false)

set-promise-requires : tie.Need-set_promise-requires
set-promise-requires c κs =
    omega (arith, abort-fits _ _ c.abort_answer-answer.ensures c.if-answer-ne0.false)

done-requires : tie.Need-done-requires
done-requires c κs = search rules

same-length-2 : tie.Need-shape_of-state
same-length-2 c = search rules

returns-2 : tie.Need-returns
returns-2 c =
    let d = c.done.ensures in
    abort-done _ _ _ _ _ _ _ c.abort_answer-answer.ensures c.if-answer-ne0.false c.abort.ensures
    c.set_promise.ensures d.0 d.1 d.2

pub abort_spec : {M : Type 1} → statement M
abort_spec =
    tie.close
    (tie.spec
    abort-answer-requires
    refused-requires
    same_length
    returns
    abort-requires
    set-promise-requires
    done-requires
    same-length-2
    returns-2)
