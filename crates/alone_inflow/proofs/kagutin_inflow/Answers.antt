-- Question by question, in the order of the code.
use Rattle.std.proofs.Common.{sym, ◌∙◌}
use mir.Syntax.{w64}
use mir.ValLaws.{to_z-of_z}
use Rattle.alone_inflow.specs.Inflow.{given}
use Rattle.alone_inflow.proofs.CallLaws.{refusal, refused_none, refused-large, refused-before, refused-after, refused-pumped, done-inflow, completion}
use Rattle.alone_inflow.proofs.kagutin_inflow.Goals as goal
use Rattle.alone_inflow.proofs.kagutin_inflow.Goals.{then-area-lt1-via-then-area-lt1, then-area-lt1-via-else-area-lt1+then-area-gt1000000, then-area-lt1-via-else-area-lt1+else-area-gt1000000+then-low_before-high_before, then-area-lt1-via-else-area-lt1+else-area-gt1000000+else-low_before-high_before+then-low_after-high_after, then-area-lt1-via-else-area-lt1+else-area-gt1000000+else-low_before-high_before+else-low_after-high_after+then-low_pumped-high_pumped}

pub returns-then-area-lt1 : goal.returns-then-area-lt1
returns-then-area-lt1 c =
    let a = c.args in
    let g = given a.area a.low_before a.high_before a.low_after a.high_after a.low_pumped a.high_pumped in
    refusal c.refused.ensures ∙ sym (elim c.then-area-lt1.branch [
      | then-area-lt1-via-then-area-lt1 w ↦ refused_none g w.if-area-lt1.true
      | then-area-lt1-via-else-area-lt1+then-area-gt1000000 w ↦ refused-large g w.if-area-lt1.false w.if-area-gt1000000.true
      | then-area-lt1-via-else-area-lt1+else-area-gt1000000+then-low_before-high_before w ↦ refused-before g w.if-area-lt1.false w.if-area-gt1000000.false w.if-low_before-high_before.true
      | then-area-lt1-via-else-area-lt1+else-area-gt1000000+else-low_before-high_before+then-low_after-high_after w ↦ refused-after g w.if-area-lt1.false w.if-area-gt1000000.false w.if-low_before-high_before.false w.if-low_after-high_after.true
      | then-area-lt1-via-else-area-lt1+else-area-gt1000000+else-low_before-high_before+else-low_after-high_after+then-low_pumped-high_pumped w ↦ refused-pumped g w.if-area-lt1.false w.if-area-gt1000000.false w.if-low_before-high_before.false w.if-low_after-high_after.false w.if-low_pumped-high_pumped.true
    ])

pub returns : goal.returns
returns c =
    let a = c.args in
    let low = c.inflow-least in
    let high = c.inflow-most in
    completion (given a.area a.low_before a.high_before a.low_after a.high_after a.low_pumped a.high_pumped)
    (to_z-of_z w64 low.result (record { sfits = low.type_inv }) ∙ low.ensures) (to_z-of_z w64 high.result (record { sfits = high.type_inv }) ∙ high.ensures)
    (done-inflow (given a.area a.low_before a.high_before a.low_after a.high_after a.low_pumped a.high_pumped) c.if-area-lt1.false c.if-area-gt1000000.false c.if-low_before-high_before.false c.if-low_after-high_after.false c.if-low_pumped-high_pumped.false)
