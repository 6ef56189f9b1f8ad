-- `call_settle::settle` meets its contract: a refusal leaves all as it was, and what is done is what the definition says. Assumes nothing.
use mathlib.Core.Path.{refl, ◌∙◌}
use native.Mathlib.Omega.{arith}
use Rattle.log_tables.proofs.PlanLaws.{planned}
use Rattle.call_settle.proofs.SettleLaws.{state-length, numbers, settle-searchable, settle-refused, settle-busy, settle-short, settle-done}
use borrow.Author.Rules.{rules}
use Rattle.call_settle.proofs.settling.settle.Statement.{statement}
use Rattle.call_settle.proofs.settling.settle.Tie as tie

state-answer-requires : tie.Need-state_answer-code-requires
state-answer-requires c κs = search rules

refused-requires : tie.Need-refused-requires
refused-requires c κs = search rules

same_length : tie.Need-shape_of-area-then-code-ne0
same_length c = search rules

same-length-2 : tie.Need-shape_of-state-then-code-ne0
same-length-2 c = search rules

returns : tie.Need-returns-then-code-ne0
returns c = settle-refused _ _ _ _ _ _ _ _ c.state_answer-code.ensures c.if-code-ne0.true c.refused.ensures

state-requires : tie.Need-state-st-requires
state-requires c κs = omega (arith, state-length _ _ _ _ c.state_answer-code.ensures c.if-code-ne0.false)

refused-requires-2 : tie.Need-refused-requires-then-st-ne0
refused-requires-2 c κs = search rules

same-length-3 : tie.Need-shape_of-area-then-st-ne0
same-length-3 c = search rules

same-length-4 : tie.Need-shape_of-state-then-st-ne0
same-length-4 c = search rules

returns-2 : tie.Need-returns-then-st-ne0
returns-2 c = settle-busy _ _ _ _ _ _ _ _ _ c.state_answer-code.ensures c.if-code-ne0.false c.state-st.ensures c.if-st-ne0.true c.refused-then-st-ne0.ensures

mul-n : tie.Need-overflow_mul-n
mul-n c = omega (arith, numbers _ _ _ _ _ c.state_answer-code.ensures c.if-code-ne0.false c.state-st.ensures)

sub-n : tie.Need-overflow_sub-n
sub-n c = omega (arith, numbers _ _ _ _ _ c.state_answer-code.ensures c.if-code-ne0.false c.state-st.ensures)

bring-back-requires : tie.Need-bring_back-size-requires
bring-back-requires c κs =
    let n = numbers _ _ _ _ _ c.state_answer-code.ensures c.if-code-ne0.false c.state-st.ensures in
    (settle-searchable _ _ _ _ n, n.area-length, omega arith)

refused-requires-3 : tie.Need-refused-requires-then-batch-size
refused-requires-3 c κs = search rules

same-length-5 : tie.Need-shape_of-area-then-batch-size
same-length-5 c = search rules

same-length-6 : tie.Need-shape_of-state-then-batch-size
same-length-6 c = search rules

same-length-7 : tie.Need-shape_of-batch-then-batch-size
same-length-7 c = search rules

returns-3 : tie.Need-returns-then-batch-size
returns-3 c =
    let n = numbers _ _ _ _ _ c.state_answer-code.ensures c.if-code-ne0.false c.state-st.ensures in
    let s = settle-searchable _ _ _ _ n in
    let b = c.bring_back-size in
    let p = planned _ _ _ _ _ _ _ _ s b.ensures.0.ends b.ensures.0.numbered refl in
    settle-short _ _ _ _ _ _ _ _ _ c.state_answer-code.ensures c.if-code-ne0.false c.state-st.ensures c.if-st-ne0.false p _ _ _ _ _
    (omega (arith, c.if-batch-size.true, b.ensures.1.0, b.auto)) c.refused-then-batch-size.ensures (b.ensures.1.1.same_area (omega (arith, c.if-batch-size.true, b.auto)))
    (b.ensures.1.1.same-batch (omega (arith, c.if-batch-size.true, b.auto)))

sub-fence : tie.Need-overflow_sub-size
sub-fence c = omega (arith, c.bring_back-size.ensures.1.0)

fence-requires : tie.Need-fence-requires
fence-requires c κs = omega (arith, c.if-batch-size.false, c.bring_back-size.ensures.1.0)

settle-state-requires : tie.Need-settle_state-requires
settle-state-requires c κs = omega (arith, numbers _ _ _ _ _ c.state_answer-code.ensures c.if-code-ne0.false c.state-st.ensures)

done-requires : tie.Need-done-requires
done-requires c κs = search rules

same-length-8 : tie.Need-shape_of-area
same-length-8 c = search rules

same-length-9 : tie.Need-shape_of-state
same-length-9 c = search rules

same-length-10 : tie.Need-shape_of-batch
same-length-10 c = search rules

returns-4 : tie.Need-returns
returns-4 c =
    let n = numbers _ _ _ _ _ c.state_answer-code.ensures c.if-code-ne0.false c.state-st.ensures in
    let s = settle-searchable _ _ _ _ n in
    let b = c.bring_back-size in
    let d = c.done.ensures in
    let p = planned _ _ _ _ _ _ _ _ s b.ensures.0.ends b.ensures.0.numbered refl in
    settle-done _ _ _ _ _ _ _ _ _ c.state_answer-code.ensures c.if-code-ne0.false c.state-st.ensures c.if-st-ne0.false p _ _ _ _ _ _ _ _
    (omega (arith, c.if-batch-size.false, b.ensures.1.0, b.auto)) (d.0, d.1, d.2 ∙ b.ensures.1.0) (b.ensures.1.1.copied (omega (arith, c.if-batch-size.false, b.auto)))
    (b.ensures.1.1.written (omega (arith, c.if-batch-size.false, b.auto))) c.fence.ensures.1 (omega (arith, b.ensures.1.0)) c.settle_state.ensures

pub settle_spec : {M : Type 1} → statement M
settle_spec =
    tie.close
    (tie.spec
    state-answer-requires
    refused-requires
    same_length
    same-length-2
    returns
    state-requires
    refused-requires-2
    same-length-3
    same-length-4
    returns-2
    mul-n
    sub-n
    bring-back-requires
    refused-requires-3
    same-length-5
    same-length-6
    same-length-7
    returns-3
    sub-fence
    fence-requires
    settle-state-requires
    done-requires
    same-length-8
    same-length-9
    same-length-10
    returns-4)
