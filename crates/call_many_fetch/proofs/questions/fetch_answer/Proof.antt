-- `call_many_fetch::fetch_answer` meets its contract. Assumes nothing.
use mathlib.Core.Bool.{not}
use mathlib.Core.Path.{ap}
use Rattle.call_many_fetch.proofs.FetchLaws.{fetch-first, asks-rights, fetch-no, fetch-yes}
use borrow.Author.Rules.{rules}
use Rattle.call_many_fetch.proofs.questions.fetch_answer.Statement.{statement}
use Rattle.call_many_fetch.proofs.questions.fetch_answer.Tie as tie

homes-answer-requires : tie.Need-homes_answer-asked-requires
homes-answer-requires c κs = search rules

returns : tie.Need-returns-then-asked-ne0
returns c =
    fetch-first _ _ _ _ _ _ _ _ c.homes_answer-asked.ensures c.if-asked-ne0.true

may-read-all-requires : tie.Need-may_read_all-requires
may-read-all-requires c κs =
    asks-rights _ _ _ _ _ _ _ _ c.homes_answer-asked.ensures c.if-asked-ne0.false

returns-2 : tie.Need-returns-then-not-may_read_all
returns-2 c =
    fetch-no _ _ _ _ _ _ _ _ c.homes_answer-asked.ensures c.if-asked-ne0.false _ c.may_read_all.ensures (ap not c.if-not-may_read_all.true)

returns-3 : tie.Need-returns
returns-3 c =
    fetch-yes _ _ _ _ _ _ _ _ c.homes_answer-asked.ensures c.if-asked-ne0.false _ c.may_read_all.ensures (ap not c.if-not-may_read_all.false)

pub fetch_answer_spec : {M : Type 1} → statement M
fetch_answer_spec =
    tie.close (tie.spec homes-answer-requires returns may-read-all-requires returns-2 returns-3)
