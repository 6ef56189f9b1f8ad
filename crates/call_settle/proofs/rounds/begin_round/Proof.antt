-- `call_settle::begin_round` meets its contract: refused by the first questions or by 21, or done by two changes of the strip. Assumes nothing.
use mathlib.Core.Path.{◌∙◌}
use native.Mathlib.Omega.{arith}
use Rattle.call_settle.proofs.RoundLaws.{begin-refused, begin-busy, begin-done}
use Rattle.call_settle.proofs.SettleLaws.{state-length, numbers}
use borrow.Author.Rules.{rules}
use Rattle.call_settle.proofs.rounds.begin_round.Statement.{statement}
use Rattle.call_settle.proofs.rounds.begin_round.Tie as tie

state-answer-requires : tie.Need-state_answer-code-requires
state-answer-requires c κs = search rules

refused-requires : tie.Need-refused-requires
refused-requires c κs = search rules

same_length : tie.Need-shape_of-state-then-code-ne0
same_length c = search rules

returns : tie.Need-returns-then-code-ne0
returns c = begin-refused _ _ _ _ _ _ _ c.state_answer-code.ensures c.if-code-ne0.true c.refused.ensures

state-requires : tie.Need-state-st-requires
state-requires c κs = omega (arith, state-length _ _ _ _ c.state_answer-code.ensures c.if-code-ne0.false)

refused-requires-2 : tie.Need-refused-requires-then-st-ne0
refused-requires-2 c κs = search rules

same-length-2 : tie.Need-shape_of-state-then-st-ne0
same-length-2 c = search rules

returns-2 : tie.Need-returns-then-st-ne0
returns-2 c = begin-busy _ _ _ _ _ c.state_answer-code.ensures c.if-code-ne0.false c.state-st.ensures _ _ _ c.if-st-ne0.true c.refused-then-st-ne0.ensures

add-set-round : tie.Need-overflow_add-st
add-set-round c = omega (arith, numbers _ _ _ _ _ c.state_answer-code.ensures c.if-code-ne0.false c.state-st.ensures)

set-round-requires : tie.Need-set_round-requires
set-round-requires c κs = omega (arith, state-length _ _ _ _ c.state_answer-code.ensures c.if-code-ne0.false)

set-cursor-requires : tie.Need-set_cursor-requires
set-cursor-requires c κs = omega (arith, state-length _ _ _ _ c.state_answer-code.ensures c.if-code-ne0.false)

done-requires : tie.Need-done-requires
done-requires c κs = search rules

same-length-3 : tie.Need-shape_of-state
same-length-3 c = search rules

returns-3 : tie.Need-returns
returns-3 c =
    begin-done _ _ _ _ _ c.state_answer-code.ensures c.if-code-ne0.false c.state-st.ensures _ _ _ _ c.if-st-ne0.false c.done.ensures
    (c.set_cursor.ensures ∙ rw c.set_round.ensures)

pub begin_round_spec : {M : Type 1} → statement M
begin_round_spec =
    tie.close
    (tie.spec
    state-answer-requires
    refused-requires
    same_length
    returns
    state-requires
    refused-requires-2
    same-length-2
    returns-2
    add-set-round
    set-round-requires
    set-cursor-requires
    done-requires
    same-length-3
    returns-3)
