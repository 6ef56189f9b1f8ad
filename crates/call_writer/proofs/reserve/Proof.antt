-- `call_writer::reserve` meets its contract: refused by its answer, or done by two changes of the strip. Assumes nothing.
use native.Mathlib.Omega.{arith}
use Rattle.call_writer.proofs.SessionLaws.{reserve-fits, reserve-refused, reserve-done}
use borrow.Author.Rules.{rules}
use Rattle.call_writer.proofs.reserve.Statement.{statement}
use Rattle.call_writer.proofs.reserve.Tie as tie

reserve-answer-requires : tie.Need-reserve_answer-answer-requires
reserve-answer-requires c κs = search rules

refused-requires : tie.Need-refused-requires
refused-requires c κs = search rules

same_length : tie.Need-shape_of-state-then-answer-ne0
same_length c = search rules

returns : tie.Need-returns-then-answer-ne0
returns c =
    let d = c.refused.ensures in
    reserve-refused _ _ _ _ _ _ c.reserve_answer-answer.ensures c.if-answer-ne0.true d.0 d.1 d.2

begin-requires : tie.Need-begin-requires
begin-requires c κs = omega (arith, reserve-fits _ _ _ c.reserve_answer-answer.ensures c.if-answer-ne0.false)

set-promise-requires : tie.Need-set_promise-requires
set-promise-requires c κs =
    omega (arith, reserve-fits _ _ _ c.reserve_answer-answer.ensures c.if-answer-ne0.false)

done-requires : tie.Need-done-requires
done-requires c κs = search rules

same-length-2 : tie.Need-shape_of-state
same-length-2 c = search rules

returns-2 : tie.Need-returns
returns-2 c =
    let d = c.done.ensures in
    reserve-done _ _ _ _ _ _ _ _ c.reserve_answer-answer.ensures c.if-answer-ne0.false c.begin.ensures
    c.set_promise.ensures d.0 d.1 d.2

pub reserve_spec : {M : Type 1} → statement M
reserve_spec =
    tie.close
    (tie.spec
    reserve-answer-requires
    refused-requires
    same_length
    returns
    begin-requires
    set-promise-requires
    done-requires
    same-length-2
    returns-2)
