-- `call_writer::begin` meets its contract: refused by its answer, or done by the one change of the strip. Assumes nothing.
use native.Mathlib.Omega.{arith}
use Rattle.call_writer.proofs.SessionLaws.{begin-fits, begin-refused, begin-done}
use borrow.Author.Rules.{rules}
use Rattle.call_writer.proofs.begin.Statement.{statement}
use Rattle.call_writer.proofs.begin.Tie as tie

begin-answer-requires : tie.Need-begin_answer-answer-requires
begin-answer-requires c κs = search rules

refused-requires : tie.Need-refused-requires
refused-requires c κs = search rules

same_length : tie.Need-shape_of-state-then-answer-ne0
same_length c = search rules

returns : tie.Need-returns-then-answer-ne0
returns c =
    let d = c.refused.ensures in
    begin-refused _ _ _ _ _ c.begin_answer-answer.ensures c.if-answer-ne0.true d.0 d.1 d.2

begin-requires : tie.Need-begin-requires
begin-requires c κs = omega (arith, begin-fits _ _ c.begin_answer-answer.ensures c.if-answer-ne0.false)

done-requires : tie.Need-done-requires
done-requires c κs = search rules

same-length-2 : tie.Need-shape_of-state
same-length-2 c = search rules

returns-2 : tie.Need-returns
returns-2 c =
    let d = c.done.ensures in
    begin-done _ _ _ _ _ _ c.begin_answer-answer.ensures c.if-answer-ne0.false c.begin.ensures d.0 d.1 d.2

pub begin_spec : {M : Type 1} → statement M
begin_spec =
    tie.close
    (tie.spec
    begin-answer-requires
    refused-requires
    same_length
    returns
    begin-requires
    done-requires
    same-length-2
    returns-2)
