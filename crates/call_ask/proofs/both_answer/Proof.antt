-- `call_ask::both_answer` meets its contract: a wrong length is refused, else the other questions answer. Assumes nothing.
use mathlib.Core.Path.{sym, ◌∙◌}
use borrow.Author.Rules.{rules}
use native.Mathlib.Omega.{arith}
use Rattle.call_ask.proofs.NewestAnswers.{homes-few, both-unasked, newest-length, newest-other, both-asks, both-stops}
use Rattle.call_ask.proofs.both_answer.Statement.{statement}
use Rattle.call_ask.proofs.both_answer.Tie as tie

data-homes-requires : tie.Need-data_homes-requires
data-homes-requires c κs = search rules

mul-if1 : tie.Need-overflow_mul-data_homes
mul-if1 c = omega (arith, homes-few _ _ c.data_homes.ensures)

returns : tie.Need-returns-then-newest-data_homes
returns c = sym (both-stops _ _ (newest-other _ _ c.data_homes.ensures c.if-newest-data_homes.true))

block-answer-requires : tie.Need-block_answer-requires
block-answer-requires c κs = search rules

returns-2 : tie.Need-returns
returns-2 c =
    c.block_answer.ensures ∙ both-unasked _ _ _ _ _ _ ∙ sym (both-asks _ _ (newest-length _ _ c.data_homes.ensures c.if-newest-data_homes.false))

pub both_answer_spec : {M : Type 1} → statement M
both_answer_spec = tie.close (tie.spec data-homes-requires mul-if1 returns block-answer-requires returns-2)
