-- The first stop from the index on is at it, or behind it (proofs/TextLaws.antt).
use Rattle.std.proofs.Common.{rules}
use Rattle.prog_lines.proofs.TextLaws.{index-here, index_on, index-end}
use Rattle.prog_lines.proofs.text.until.Goals as goal

pub returns-then-text-i : goal.returns-then-text-i
returns-then-text-i c = search (rules, index-here)

pub loop-i-preserved : goal.loop-i-preserved
loop-i-preserved c = search (rules, index_on)

pub returns : goal.returns
returns c = search (rules, index-end)
