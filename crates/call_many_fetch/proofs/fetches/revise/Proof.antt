-- `call_many_fetch::revise` meets its contract. Assumes nothing.
use Rattle.call_many_fetch.proofs.FetchLaws.{revise-refused, revise-lent, revise-done}
use borrow.Author.Rules.{rules}
use Rattle.call_many_fetch.proofs.fetches.revise.Statement.{statement}
use Rattle.call_many_fetch.proofs.fetches.revise.Tie as tie

revise-answer-requires : tie.Need-revise_answer-code-requires
revise-answer-requires c κs = search rules

refused-requires : tie.Need-refused-requires
refused-requires c κs = search rules

same_length : tie.Need-shape_of-blocks-then-code-ne0
same_length c = search rules

returns : tie.Need-returns-then-code-ne0
returns c =
    revise-refused _ _ _ _ _ _ _ _ c.revise_answer-code.ensures _ _ _ c.if-code-ne0.true c.refused.ensures

show-all-requires : tie.Need-show_all-requires
show-all-requires c κs =
    revise-lent _ _ _ _ _ _ _ _ c.revise_answer-code.ensures c.if-code-ne0.false

done-requires : tie.Need-done-requires
done-requires c κs = search rules

same-length-2 : tie.Need-shape_of-blocks
same-length-2 c = search rules

returns-2 : tie.Need-returns
returns-2 c =
    revise-done _ _ _ _ _ _ _ _ c.revise_answer-code.ensures _ _ _ _ c.if-code-ne0.false c.show_all.ensures c.done.ensures

pub revise_spec : {M : Type 1} → statement M
revise_spec =
    tie.close
    (tie.spec
    revise-answer-requires
    refused-requires
    same_length
    returns
    show-all-requires
    done-requires
    same-length-2
    returns-2)
