-- The lower minute comes first; of equal ones, one line tells both.
use Rattle.std.proofs.Common.{arith, ap₂, ◌∙◌}
use Rattle.alone_gauges.specs.Report.{kind_of}
use Rattle.alone_gauges.proofs.MergeLaws.{later, ended, step-first, step-second, step_both}
use Rattle.alone_gauges.proofs.merge.next_line.Goals as goal

pub returns-then-j-second : goal.returns-then-j-second
returns-then-j-second c =
    let t = c.two_bytes-minute in
    step-first c.args.tolerance c.requires.0 c.requires.1 (omega arith) _ t.ensures.0 t.ensures.1 (ended _ _ c.if-j-second.true _)

pub returns-then-i-first : goal.returns-then-i-first
returns-then-i-first c =
    let t = c.two_bytes-later in
    step-second c.args.tolerance c.requires.0 c.requires.1 (omega arith) _ t.ensures.0 t.ensures.1 (ended _ _ c.if-i-first.true _)

pub returns-then-minute-later : goal.returns-then-minute-later
returns-then-minute-later c =
    let t = c.two_bytes-minute-2 in
    step-first c.args.tolerance c.requires.0 c.requires.1 (omega arith) _ t.ensures.0 t.ensures.1 (later c.requires.1 (omega arith) _ (omega arith))

pub returns-then-later-minute : goal.returns-then-later-minute
returns-then-later-minute c =
    let t = c.two_bytes-later in
    step-second c.args.tolerance c.requires.0 c.requires.1 (omega arith) _ t.ensures.0 t.ensures.1 (later c.requires.0 (omega arith) _ (omega arith))

pub returns : goal.returns
returns c =
    let t = c.two_bytes-minute-2 in
    step_both c.args.tolerance c.requires.0 c.requires.1 (omega arith) (omega arith) _ _ t.ensures.0 (omega arith) t.ensures.1
    (c.kind_of-kind.ensures ∙ ap₂ (kind_of c.args.tolerance) c.two_bytes.ensures.0 c.two_bytes-2.ensures.0)
