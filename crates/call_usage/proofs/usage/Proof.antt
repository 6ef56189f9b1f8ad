-- `call_usage::usage` meets its contract: refused by the first two questions, or told. Assumes nothing.
use mathlib.Core.Path.{sym, ◌∙◌}
use Rattle.call_ask.proofs.AnswerLaws.{state-usable}
use Rattle.call_usage.proofs.UsageLaws.{usage-refused, usage-done}
use borrow.Author.Rules.{rules}
use Rattle.call_usage.proofs.usage.Statement.{statement}
use Rattle.call_usage.proofs.usage.Tie as tie

state-answer-requires : tie.Need-state_answer-code-requires
state-answer-requires c κs = search rules

refused-requires : tie.Need-refused-requires
refused-requires c κs = search rules

returns : tie.Need-returns-then-code-ne0
returns c = usage-refused _ _ _ c.state_answer-code.ensures c.if-code-ne0.true c.refused.ensures

told-requires : tie.Need-told-requires
told-requires c κs = state-usable _ (sym c.state_answer-code.ensures ∙ c.if-code-ne0.false)

returns-2 : tie.Need-returns
returns-2 c = usage-done _ _ _ c.state_answer-code.ensures c.if-code-ne0.false c.told.ensures

pub usage_spec : {M : Type 1} → statement M
usage_spec = tie.close (tie.spec state-answer-requires refused-requires returns told-requires returns-2)
