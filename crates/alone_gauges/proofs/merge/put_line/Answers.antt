-- The three bytes, one after the other.
use Rattle.std.proofs.Common.{sym}
use Rattle.alone_gauges.specs.Kind.{kind_number}
use Rattle.alone_gauges.proofs.OutputLaws.{put-bytes}
use Rattle.alone_gauges.proofs.merge.put_line.Goals as goal

pub returns : goal.returns
returns c =
    let a = c.args in
    rw c.number.ensures (sym (put-bytes a.output.now a.at a.minute (kind_number a.kind)))
