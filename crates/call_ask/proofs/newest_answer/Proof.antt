-- `call_ask::newest_answer` meets its contract: a wrong length is refused, else the other questions answer. Assumes nothing.
use mathlib.Core.Path.{sym, ◌∙◌}
use borrow.Author.Rules.{rules}
use native.Mathlib.Omega.{arith}
use Rattle.call_ask.proofs.NewestAnswers.{homes-few, newest-unasked, newest-length, newest-other, newest-asks, newest-stops}
use Rattle.call_ask.proofs.newest_answer.Statement.{statement}
use Rattle.call_ask.proofs.newest_answer.Tie as tie

data-homes-requires : tie.Need-data_homes-requires
data-homes-requires c κs = search rules

mul-if1 : tie.Need-overflow_mul-data_homes
mul-if1 c = omega (arith, homes-few _ _ c.data_homes.ensures)

returns : tie.Need-returns-then-newest-data_homes
returns c = sym (newest-stops _ _ (newest-other _ _ c.data_homes.ensures c.if-newest-data_homes.true))

state-answer-requires : tie.Need-state_answer-requires
state-answer-requires c κs = search rules

returns-2 : tie.Need-returns
returns-2 c =
    c.state_answer.ensures ∙ newest-unasked _ _ _ _ _ ∙ sym (newest-asks _ _ (newest-length _ _ c.data_homes.ensures c.if-newest-data_homes.false))

pub newest_answer_spec : {M : Type 1} → statement M
newest_answer_spec = tie.close (tie.spec data-homes-requires mul-if1 returns state-answer-requires returns-2)
