-- `call_read::read` meets its contract. Assumes nothing.
use mathlib.Core.Path.{sym, ◌∙◌}
use borrow.Author.Rules.{rules}
use Rattle.call_read.proofs.ReadLaws.{ready, read-refused, read_done}
use Rattle.call_read.proofs.read.Statement.{statement}
use Rattle.call_read.proofs.read.Tie as tie

read-answer-requires : tie.Need-read_answer-code-requires
read-answer-requires c κs = search rules

refused-requires : tie.Need-refused-requires
refused-requires c κs = search rules

same_length : tie.Need-shape_of-block-then-code-ne0
same_length c = search rules

returns : tie.Need-returns-then-code-ne0
returns c = let r = c.refused.ensures in read-refused _ _ _ _ _ c.read_answer-code.ensures c.if-code-ne0.true r.0 r.1 r.2

show-requires : tie.Need-show-requires
show-requires c κs = ready _ (sym c.read_answer-code.ensures ∙ c.if-code-ne0.false)

done-requires : tie.Need-done-requires
done-requires c κs = search rules

same-length-2 : tie.Need-shape_of-block
same-length-2 c = search rules

returns-2 : tie.Need-returns
returns-2 c =
    let d = c.done.ensures in read_done _ _ _ _ _ _ c.read_answer-code.ensures c.if-code-ne0.false d.0 d.1 d.2 c.show.ensures

pub read_spec : {M : Type 1} → statement M
read_spec =
    tie.close
    (tie.spec
    read-answer-requires
    refused-requires
    same_length
    returns
    show-requires
    done-requires
    same-length-2
    returns-2)
