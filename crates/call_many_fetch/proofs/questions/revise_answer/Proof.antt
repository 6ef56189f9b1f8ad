-- `call_many_fetch::revise_answer` meets its contract. Assumes nothing.
use mathlib.Core.Bool.{not}
use mathlib.Core.Path.{ap}
use Rattle.call_many_fetch.proofs.FetchLaws.{revise-first, asks-rights, revise-no, revise-reads-no, revise-yes}
use borrow.Author.Rules.{rules}
use Rattle.call_many_fetch.proofs.questions.revise_answer.Statement.{statement}
use Rattle.call_many_fetch.proofs.questions.revise_answer.Tie as tie

homes-answer-requires : tie.Need-homes_answer-asked-requires
homes-answer-requires c κs = search rules

returns : tie.Need-returns-then-asked-ne0
returns c =
    revise-first _ _ _ _ _ _ _ _ c.homes_answer-asked.ensures c.if-asked-ne0.true

may-store-all-requires : tie.Need-may_store_all-requires
may-store-all-requires c κs =
    asks-rights _ _ _ _ _ _ _ _ c.homes_answer-asked.ensures c.if-asked-ne0.false

returns-2 : tie.Need-returns-then-not-may_store_all
returns-2 c =
    revise-no _ _ _ _ _ _ _ _ c.homes_answer-asked.ensures c.if-asked-ne0.false _ c.may_store_all.ensures (ap not c.if-not-may_store_all.true)

may-read-all-requires : tie.Need-may_read_all-requires
may-read-all-requires c κs =
    asks-rights _ _ _ _ _ _ _ _ c.homes_answer-asked.ensures c.if-asked-ne0.false

returns-3 : tie.Need-returns-then-not-may_read_all
returns-3 c =
    revise-reads-no _ _ _ _ _ _ _ _ c.homes_answer-asked.ensures c.if-asked-ne0.false _ c.may_store_all.ensures (ap not c.if-not-may_store_all.false) _ c.may_read_all.ensures (ap not c.if-not-may_read_all.true)

returns-4 : tie.Need-returns
returns-4 c =
    revise-yes _ _ _ _ _ _ _ _ c.homes_answer-asked.ensures c.if-asked-ne0.false _ c.may_store_all.ensures (ap not c.if-not-may_store_all.false) _ c.may_read_all.ensures (ap not c.if-not-may_read_all.false)

pub revise_answer_spec : {M : Type 1} → statement M
revise_answer_spec =
    tie.close
    (tie.spec
    homes-answer-requires
    returns
    may-store-all-requires
    returns-2
    may-read-all-requires
    returns-3
    returns-4)
