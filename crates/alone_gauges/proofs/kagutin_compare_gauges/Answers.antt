-- Question by question, in the order of the code.
use Rattle.std.proofs.Common.{arith, sym, ◌∙◌}
use Rattle.alone_gauges.proofs.CallLaws.{refusal, refused-first, refused-second, refused-room, done-report, counted-sum, counted-short, completion}
use Rattle.alone_gauges.proofs.kagutin_compare_gauges.Goals as goal

pub returns-then-not-acceptable : goal.returns-then-not-acceptable
returns-then-not-acceptable c =
    let a = c.args in
    refusal a.report.now c.of_none.ensures ∙ sym (refused-first a.first.now a.second.now a.report.now a.tolerance (sym c.acceptable.ensures ∙ c.if-not-acceptable.true))

pub returns-then-not-acceptable-2 : goal.returns-then-not-acceptable-2
returns-then-not-acceptable-2 c =
    let a = c.args in
    refusal a.report.now c.of_none-then-not-acceptable-2.ensures
    ∙ sym (refused-second a.first.now a.second.now a.report.now a.tolerance (sym c.acceptable.ensures ∙ c.if-not-acceptable.false) (sym c.acceptable-2.ensures ∙ c.if-not-acceptable-2.true))

pub overflow_add-lines : goal.overflow_add-lines
overflow_add-lines c = search (arith, counted-short _ _ _ c.tally-counts.ensures.counted)

pub overflow_add-lines-2 : goal.overflow_add-lines-2
overflow_add-lines-2 c = search (arith, counted-short _ _ _ c.tally-counts.ensures.counted)

pub overflow_add-lines-3 : goal.overflow_add-lines-3
overflow_add-lines-3 c = search (arith, counted-short _ _ _ c.tally-counts.ensures.counted)

pub overflow_mul-lines : goal.overflow_mul-lines
overflow_mul-lines c = search (arith, counted-short _ _ _ c.tally-counts.ensures.counted)

pub returns-then-report-lines : goal.returns-then-report-lines
returns-then-report-lines c =
    let a = c.args in
    let e = sym c.acceptable.ensures ∙ c.if-not-acceptable.false in
    let f = sym c.acceptable-2.ensures ∙ c.if-not-acceptable-2.false in
    let counted = rw c.from-tolerance.ensures at c.tally-counts.ensures.counted in
    let n = counted-sum a.tolerance a.first.now a.second.now counted in
    refusal a.report.now c.of_none-then-report-lines.ensures
    ∙ sym (refused-room a.first.now a.second.now a.report.now a.tolerance e f (omega (arith, c.if-report-lines.true, n)))

pub write_lines-requires : goal.write_lines-requires
write_lines-requires c =
    let a = c.args in
    let n = counted-sum _ a.first.now a.second.now c.tally-counts.ensures.counted in
    (sym c.acceptable.ensures ∙ c.if-not-acceptable.false, sym c.acceptable-2.ensures ∙ c.if-not-acceptable-2.false, omega (arith, c.if-report-lines.false, n))

pub returns : goal.returns
returns c =
    let a = c.args in
    let e = sym c.acceptable.ensures ∙ c.if-not-acceptable.false in
    let f = sym c.acceptable-2.ensures ∙ c.if-not-acceptable-2.false in
    let counted = rw c.from-tolerance.ensures at c.tally-counts.ensures.counted in
    let written = rw c.from-tolerance.ensures at c.write_lines.ensures in
    let n = counted-sum a.tolerance a.first.now a.second.now counted in
    rw c.tally-counts.ensures.done
    (completion a.report.now counted written
    ∙ sym (done-report a.first.now a.second.now a.report.now a.tolerance e f (omega (arith, c.if-report-lines.false, n))))
