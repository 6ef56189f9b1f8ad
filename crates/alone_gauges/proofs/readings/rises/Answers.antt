-- Rows asked one by one.
use Rattle.std.proofs.Common.{◌≡◌, ◌+◌, ◌*◌, arith, sym, ap, ◌∙◌}
use Rattle.alone_gauges.specs.Readings.{rising}
use Rattle.alone_gauges.proofs.ReadingLaws.{rest_all}
use Rattle.alone_gauges.proofs.MergeLaws.{rising-over, rising-under, rising-ended}
use Rattle.alone_gauges.proofs.readings.rises.Goals as goal

pub loop-i-init : goal.loop-i-init
loop-i-init c = (omega arith, ap (rising 0) (rest_all c.args.s.now))

pub returns-then-minute-lowest : goal.returns-then-minute-lowest
returns-then-minute-lowest c =
    let l = c.loop-i in
    sym (rising-under c.args.s.now (4 * l.i) l.lowest _ (omega arith) c.two_bytes-minute.ensures.0 c.if-minute-lowest.true) ∙ l.invariant.1

pub loop-i-preserved : goal.loop-i-preserved
loop-i-preserved c =
    let l = c.loop-i in
    let next : 4 * (l.i + 1) ≡ 4 * l.i + 4 = omega arith in
    (omega arith, rw next (sym (rising-over c.args.s.now (4 * l.i) l.lowest _ (omega arith) c.two_bytes-minute.ensures.0 c.if-minute-lowest.false) ∙ l.invariant.1))

pub returns : goal.returns
returns c =
    let l = c.loop-i in
    sym (rising-ended c.args.s.now (4 * l.i) l.lowest (omega arith)) ∙ l.invariant.1
