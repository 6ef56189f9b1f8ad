-- `call_writer::reserve_answer` meets its contract: each return follows the tests that led to it. Assumes nothing.
use mathlib.Core.Bool.{not}
use mathlib.Core.Path.{ap}
use borrow.Author.Rules.{rules}
use Rattle.call_writer.proofs.SessionLaws.{reserve-first, reserve-usable, reserve-groups, reserve-beyond, reserve-within}
use Rattle.call_writer.proofs.reserve_answer.Statement.{statement}
use Rattle.call_writer.proofs.reserve_answer.Tie as tie

begin-answer-requires : tie.Need-begin_answer-first-requires
begin-answer-requires c κs = search rules

returns : tie.Need-returns-then-first-ne0
returns c = reserve-first _ _ _ c.begin_answer-first.ensures c.if-first-ne0.true

state-requires : tie.Need-state-requires
state-requires c κs = (reserve-usable _ 0 _ c.begin_answer-first.ensures c.if-first-ne0.false).state-length

may-promise-requires : tie.Need-may_promise-requires
may-promise-requires c κs = reserve-groups _ 0 _ c.begin_answer-first.ensures c.if-first-ne0.false _ c.state.ensures

returns-2 : tie.Need-returns-then-not-may_promise
returns-2 c = reserve-beyond _ _ _ c.begin_answer-first.ensures c.if-first-ne0.false _ c.may_promise.ensures (ap not c.if-not-may_promise.true)

returns-3 : tie.Need-returns
returns-3 c = reserve-within _ _ _ c.begin_answer-first.ensures c.if-first-ne0.false _ c.may_promise.ensures (ap not c.if-not-may_promise.false)

pub reserve_answer_spec : {M : Type 1} → statement M
reserve_answer_spec = tie.close (tie.spec begin-answer-requires returns state-requires may-promise-requires returns-2 returns-3)
