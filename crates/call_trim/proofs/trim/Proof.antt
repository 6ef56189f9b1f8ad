-- `call_trim::trim` meets its contract. Assumes nothing.
use mathlib.Core.Path.{sym, ap, ◌∙◌}
use native.Mathlib.Omega.{arith}
use borrow.Author.Rules.{rules}
use Rattle.model.specs.declared.State.{State}
use Rattle.call_ask.proofs.NewestAnswers.{newest-only, newest-usable, newest-fits}
use Rattle.call_trim.proofs.TrimmingLaws.{numbers, start-only, trim-refused, start-refused, not-moved, batch-refused, start-moved}
use Rattle.call_trim.proofs.trim.Statement.{statement}
use Rattle.call_trim.proofs.trim.Tie as tie

newest-answer-requires : tie.Need-newest_answer-code-requires
newest-answer-requires c κs = search rules

refused-requires : tie.Need-refused-requires
refused-requires c κs = search rules

same_length : tie.Need-shape_of-log-then-code-ne0
same_length c = search rules

same-length-2 : tie.Need-shape_of-state-then-code-ne0
same-length-2 c = search rules

same-length-3 : tie.Need-shape_of-newest-then-code-ne0
same-length-3 c = search rules

returns : tie.Need-returns-then-code-ne0
returns c =
    let r = c.refused.ensures in
    trim-refused _ _ _ _ _ (c.newest_answer-code.ensures ∙ sym (newest-only _ _ _ _ _ _ _ _ _)) c.if-code-ne0.true r.0 r.1 r.2

state-requires : tie.Need-state-st-requires
state-requires c κs = (newest-usable _ (sym c.newest_answer-code.ensures ∙ c.if-code-ne0.false)).0.state-length

new-start-requires : tie.Need-new_start-start-requires
new-start-requires c κs =
    ((newest-usable _ (sym c.newest_answer-code.ensures ∙ c.if-code-ne0.false)).0, c.state-st.ensures)

refused-requires-2 : tie.Need-refused-requires-then-start-gt-MAX_START
refused-requires-2 c κs = search rules

same-length-4 : tie.Need-shape_of-log-then-start-gt-MAX_START
same-length-4 c = search rules

same-length-5 : tie.Need-shape_of-state-then-start-gt-MAX_START
same-length-5 c = search rules

same-length-6 : tie.Need-shape_of-newest-then-start-gt-MAX_START
same-length-6 c = search rules

returns-2 : tie.Need-returns-then-start-gt-MAX_START
returns-2 c =
    let r = c.refused-then-start-gt-MAX_START.ensures in
    start-refused _ _ _ _ _ (newest-only _ _ _ _ _ _ _ _ _ ∙ sym c.newest_answer-code.ensures ∙ c.if-code-ne0.false) (c.new_start-start.ensures ∙ sym (start-only _ _ _ _ _ _ _ _)) (omega arith) r.0 r.1 r.2

done-requires : tie.Need-done-requires
done-requires c κs = search rules

same-length-7 : tie.Need-shape_of-log-then-start-st
same-length-7 c = search rules

same-length-8 : tie.Need-shape_of-state-then-start-st
same-length-8 c = search rules

same-length-9 : tie.Need-shape_of-newest-then-start-st
same-length-9 c = search rules

returns-3 : tie.Need-returns-then-start-st
returns-3 c =
    let r = c.done.ensures in
    not-moved _ _ _ _ _ (newest-only _ _ _ _ _ _ _ _ _ ∙ sym c.newest_answer-code.ensures ∙ c.if-code-ne0.false) (c.new_start-start.ensures ∙ sym (start-only _ _ _ _ _ _ _ _)) (omega (arith, c.if-start-gt-MAX_START.false)) (c.if-start-st.true ∙ ap (λ (s : State). s.start) c.state-st.ensures) r.0 r.1 r.2

refused-requires-3 : tie.Need-refused-requires-then-batch-lt68
refused-requires-3 c κs = search rules

same-length-10 : tie.Need-shape_of-log-then-batch-lt68
same-length-10 c = search rules

same-length-11 : tie.Need-shape_of-state-then-batch-lt68
same-length-11 c = search rules

same-length-12 : tie.Need-shape_of-newest-then-batch-lt68
same-length-12 c = search rules

returns-4 : tie.Need-returns-then-batch-lt68
returns-4 c =
    let r = c.refused-then-batch-lt68.ensures in
    batch-refused _ _ _ _ _ (newest-only _ _ _ _ _ _ _ _ _ ∙ sym c.newest_answer-code.ensures ∙ c.if-code-ne0.false) (c.new_start-start.ensures ∙ sym (start-only _ _ _ _ _ _ _ _)) (omega (arith, c.if-start-gt-MAX_START.false)) (λ z. c.if-start-st.false (z ∙ ap (λ (s : State). s.start) (sym c.state-st.ensures)))
    c.if-batch-lt68.true r.0 r.1 r.2

move-start-requires : tie.Need-move_start-requires
move-start-requires c κs =
    let u = (newest-usable _ (sym c.newest_answer-code.ensures ∙ c.if-code-ne0.false)) in
    let m = numbers _ _ _ _ u.0 c.state-st.ensures in
    let k = newest-fits _ _ _ _ _ u.0 c.state-st.ensures u.1 in
    omega (arith, u.0.log-length, u.0.state-length, k, m, c.if-start-gt-MAX_START.false, c.if-batch-lt68.false)

done-requires-2 : tie.Need-done-requires-2
done-requires-2 c κs = search rules

same-length-13 : tie.Need-shape_of-log
same-length-13 c = search rules

same-length-14 : tie.Need-shape_of-state
same-length-14 c = search rules

same-length-15 : tie.Need-shape_of-newest
same-length-15 c = search rules

same-length-16 : tie.Need-shape_of-batch
same-length-16 c = search rules

returns-5 : tie.Need-returns
returns-5 c =
    let r = c.done-2.ensures in
    let e = c.move_start.ensures in
    start-moved _ _ _ _ _ _ _ _ _ _ (newest-usable _ (sym c.newest_answer-code.ensures ∙ c.if-code-ne0.false)).0 (newest-only _ _ _ _ _ _ _ _ _ ∙ sym c.newest_answer-code.ensures ∙ c.if-code-ne0.false) c.state-st.ensures (c.new_start-start.ensures ∙ sym (start-only _ _ _ _ _ _ _ _)) (omega (arith, c.if-start-gt-MAX_START.false)) c.if-start-st.false c.if-batch-lt68.false
    r.0 r.1 r.2 e.0 e.1 e.2 e.3

pub trim_spec : {M : Type 1} → statement M
trim_spec =
    tie.close
    (tie.spec
    newest-answer-requires
    refused-requires
    same_length
    same-length-2
    same-length-3
    returns
    state-requires
    new-start-requires
    refused-requires-2
    same-length-4
    same-length-5
    same-length-6
    returns-2
    done-requires
    same-length-7
    same-length-8
    same-length-9
    returns-3
    refused-requires-3
    same-length-10
    same-length-11
    same-length-12
    returns-4
    move-start-requires
    done-requires-2
    same-length-13
    same-length-14
    same-length-15
    same-length-16
    returns-5)
