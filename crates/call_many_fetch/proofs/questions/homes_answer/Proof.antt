-- `call_many_fetch::homes_answer` meets its contract. Assumes nothing.
use mathlib.Core.Bool.{not}
use mathlib.Core.Path.{ap}
use Rattle.call_many_fetch.proofs.QuestionLaws.{blocks-no, first-no, writer-no, homes-no, homes-yes}
use borrow.Author.Rules.{rules}
use native.Mathlib.Omega.{arith}
use Rattle.call_many_fetch.proofs.questions.homes_answer.Statement.{statement}
use Rattle.call_many_fetch.proofs.questions.homes_answer.Tie as tie

blocks-right-requires : tie.Need-blocks_right-requires
blocks-right-requires c κs = search rules

returns : tie.Need-returns-then-not-blocks_right
returns c =
    blocks-no _ _ _ _ _ _ _ _ c.blocks_right.ensures (ap not c.if-not-blocks_right.true)

newest-answer-requires : tie.Need-newest_answer-asked-requires
newest-answer-requires c κs = search rules

returns-2 : tie.Need-returns-then-asked-ne0
returns-2 c =
    first-no _ _ _ _ _ _ _ _ c.blocks_right.ensures (ap not c.if-not-blocks_right.false) _ c.newest_answer-asked.ensures c.if-asked-ne0.true

returns-3 : tie.Need-returns-then-writer-ge8
returns-3 c =
    writer-no _ _ _ _ _ c.args.writer _ _ c.blocks_right.ensures (ap not c.if-not-blocks_right.false) _ c.newest_answer-asked.ensures c.if-asked-ne0.false (omega arith)

data-homes-requires : tie.Need-data_homes-requires
data-homes-requires c κs = search rules

homes-known-requires : tie.Need-homes_known-requires
homes-known-requires c κs = search rules

returns-4 : tie.Need-returns-then-not-homes_known
returns-4 c =
    homes-no _ _ _ _ _ c.args.writer _ _ c.blocks_right.ensures (ap not c.if-not-blocks_right.false) _ c.newest_answer-asked.ensures c.if-asked-ne0.false _ _ (omega arith) c.data_homes.ensures c.homes_known.ensures (ap not c.if-not-homes_known.true)

returns-5 : tie.Need-returns
returns-5 c =
    homes-yes _ _ _ _ _ c.args.writer _ _ c.blocks_right.ensures (ap not c.if-not-blocks_right.false) _ c.newest_answer-asked.ensures c.if-asked-ne0.false _ _ (omega arith) c.data_homes.ensures c.homes_known.ensures (ap not c.if-not-homes_known.false)

pub homes_answer_spec : {M : Type 1} → statement M
homes_answer_spec =
    tie.close
    (tie.spec
    blocks-right-requires
    returns
    newest-answer-requires
    returns-2
    returns-3
    data-homes-requires
    homes-known-requires
    returns-4
    returns-5)
