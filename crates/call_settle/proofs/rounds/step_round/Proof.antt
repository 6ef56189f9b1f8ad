-- `call_settle::step_round` meets its contract: a refusal leaves all as it was, and what is done is what the definition says. Assumes nothing.
use mathlib.Core.Path.{refl}
use Prim.Native.Nat.{◌≤◌}
use native.Mathlib.Omega.{arith}
use Rattle.log_tables.proofs.PlanLaws.{below_end}
use Rattle.call_settle.proofs.RoundLaws.{ended-two, step-refused, step-none, step-zero, step-short, step-moved, step-ended}
use Rattle.call_settle.proofs.SettleLaws.{state-length, numbers, round-searchable}
use borrow.Author.Rules.{rules}
use Rattle.call_settle.proofs.rounds.step_round.Statement.{statement}
use Rattle.call_settle.proofs.rounds.step_round.Tie as tie

state-answer-requires : tie.Need-state_answer-code-requires
state-answer-requires c κs = search rules

refused-requires : tie.Need-refused-requires
refused-requires c κs = search rules

same_length : tie.Need-shape_of-area-then-code-ne0
same_length c = search rules

same-length-2 : tie.Need-shape_of-state-then-code-ne0
same-length-2 c = search rules

returns : tie.Need-returns-then-code-ne0
returns c = step-refused _ _ _ _ _ _ _ _ _ c.state_answer-code.ensures c.if-code-ne0.true c.refused.ensures

state-requires : tie.Need-state-st-requires
state-requires c κs = omega (arith, state-length _ _ _ _ c.state_answer-code.ensures c.if-code-ne0.false)

refused-requires-2 : tie.Need-refused-requires-then-st-eq0
refused-requires-2 c κs = search rules

same-length-3 : tie.Need-shape_of-area-then-st-eq0
same-length-3 c = search rules

same-length-4 : tie.Need-shape_of-state-then-st-eq0
same-length-4 c = search rules

returns-2 : tie.Need-returns-then-st-eq0
returns-2 c = step-none _ _ _ _ _ _ _ c.state_answer-code.ensures c.if-code-ne0.false c.state-st.ensures _ _ _ c.if-st-eq0.true c.refused-then-st-eq0.ensures

refused-requires-3 : tie.Need-refused-requires-then-homes-eq0
refused-requires-3 c κs = search rules

same-length-5 : tie.Need-shape_of-area-then-homes-eq0
same-length-5 c = search rules

same-length-6 : tie.Need-shape_of-state-then-homes-eq0
same-length-6 c = search rules

returns-3 : tie.Need-returns-then-homes-eq0
returns-3 c =
    step-zero _ _ _ _ _ _ _ c.state_answer-code.ensures c.if-code-ne0.false c.state-st.ensures _ _ _ c.if-st-eq0.false c.if-homes-eq0.true c.refused-then-homes-eq0.ensures

sub-n : tie.Need-overflow_sub-n
sub-n c = omega (arith, c.if-st-eq0.false)

mul-n : tie.Need-overflow_mul-n
mul-n c = omega (arith, numbers _ _ _ _ _ c.state_answer-code.ensures c.if-code-ne0.false c.state-st.ensures)

sub-n-2 : tie.Need-overflow_sub-n-2
sub-n-2 c = let n = numbers _ _ _ _ _ c.state_answer-code.ensures c.if-code-ne0.false c.state-st.ensures in omega (arith, n.start-round c.if-st-eq0.false)

step-requires : tie.Need-step-made-requires
step-requires c κs =
    let n = numbers _ _ _ _ _ c.state_answer-code.ensures c.if-code-ne0.false c.state-st.ensures in
    (round-searchable _ _ _ _ n, n.area-length, omega (arith, c.if-homes-eq0.false))

refused-requires-4 : tie.Need-refused-requires-then-batch-size
refused-requires-4 c κs = search rules

same-length-7 : tie.Need-shape_of-area-then-batch-size
same-length-7 c = search rules

same-length-8 : tie.Need-shape_of-state-then-batch-size
same-length-8 c = search rules

same-length-9 : tie.Need-shape_of-batch-then-batch-size
same-length-9 c = search rules

returns-4 : tie.Need-returns-then-batch-size
returns-4 c =
    let b = below_end _ _ _ _ _ _ c.step-made.ensures.0.ends in
    step-short _ _ _ _ _ _ _ c.state_answer-code.ensures c.if-code-ne0.false c.state-st.ensures _ _ _ _ _ _ c.if-st-eq0.false c.if-homes-eq0.false b c.step-made.ensures.1
    _ _ _ _ _ (omega (arith, c.if-batch-size.true, c.step-made.auto)) c.refused-then-batch-size.ensures refl refl

set-cursor-requires : tie.Need-set_cursor-requires
set-cursor-requires c κs = omega (arith, state-length _ _ _ _ c.state_answer-code.ensures c.if-code-ne0.false)

done-requires : tie.Need-done-requires
done-requires c κs = search rules

same-length-10 : tie.Need-shape_of-area-then-made
same-length-10 c = search rules

same-length-11 : tie.Need-shape_of-state-then-made
same-length-11 c = search rules

same-length-12 : tie.Need-shape_of-batch-then-made
same-length-12 c = search rules

returns-5 : tie.Need-returns-then-made
returns-5 c =
    let b = below_end _ _ _ _ _ _ c.step-made.ensures.0.ends in
    step-moved _ _ _ _ _ _ _ c.state_answer-code.ensures c.if-code-ne0.false c.state-st.ensures _ _ _ _ _ _ c.if-st-eq0.false c.if-homes-eq0.false b c.step-made.ensures.1
    _ _ _ _ _ _ (omega (arith, c.if-batch-size.false, c.step-made.auto)) c.if-made.true c.done.ensures refl c.set_cursor.ensures refl

sub-fence : tie.Need-overflow_sub-size
sub-fence c = omega (arith, two c)
  where
    two : (c : tie.After-fence-arg-1) → 2 ≤ c.step-made.result.size
    two c = ended-two _ _ _ _ _ _ _ _ _ _ _ _ _ _ c.step-made.ensures.1 c.if-made.false

fence-requires : tie.Need-fence-requires
fence-requires c κs = omega (arith, c.if-batch-size.false, ended-two _ _ _ _ _ _ _ _ _ _ _ _ _ _ c.step-made.ensures.1 c.if-made.false, c.step-made.auto)

end-round-requires : tie.Need-end_round-requires
end-round-requires c κs =
    let n = numbers _ _ _ _ _ c.state_answer-code.ensures c.if-code-ne0.false c.state-st.ensures in
    (n.state-length, omega (arith, n), omega (arith, c.if-st-eq0.false))

done-requires-2 : tie.Need-done-requires-2
done-requires-2 c κs = search rules

same-length-13 : tie.Need-shape_of-area
same-length-13 c = search rules

same-length-14 : tie.Need-shape_of-state
same-length-14 c = search rules

same-length-15 : tie.Need-shape_of-batch
same-length-15 c = search rules

returns-6 : tie.Need-returns
returns-6 c =
    let b = below_end _ _ _ _ _ _ c.step-made.ensures.0.ends in
    step-ended _ _ _ _ _ _ _ c.state_answer-code.ensures c.if-code-ne0.false c.state-st.ensures _ _ _ _ _ _ c.if-st-eq0.false c.if-homes-eq0.false b c.step-made.ensures.1
    _ _ _ _ _ _ _ (omega (arith, c.if-batch-size.false, c.step-made.auto)) c.if-made.false c.done-2.ensures refl c.end_round.ensures c.fence.ensures.1
    (omega (arith, ended-two _ _ _ _ _ _ _ _ _ _ _ _ _ _ c.step-made.ensures.1 c.if-made.false))

pub step_round_spec : {M : Type 1} → statement M
step_round_spec =
    tie.close
    (tie.spec
    state-answer-requires
    refused-requires
    same_length
    same-length-2
    returns
    state-requires
    refused-requires-2
    same-length-3
    same-length-4
    returns-2
    refused-requires-3
    same-length-5
    same-length-6
    returns-3
    sub-n
    mul-n
    sub-n-2
    step-requires
    refused-requires-4
    same-length-7
    same-length-8
    same-length-9
    returns-4
    set-cursor-requires
    done-requires
    same-length-10
    same-length-11
    same-length-12
    returns-5
    sub-fence
    fence-requires
    end-round-requires
    done-requires-2
    same-length-13
    same-length-14
    same-length-15
    returns-6)
