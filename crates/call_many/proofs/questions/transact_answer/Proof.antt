-- `call_many::transact_answer` meets its contract. Assumes nothing.
use mathlib.Core.Bool.{not}
use mathlib.Core.Path.{ap}
use Rattle.call_ask.proofs.AnswerLaws.{usable-groups}
use Rattle.call_many.proofs.TransactLaws.{transact-first, asks-rights, asks-room, stores-no, open_no, room-asks}
use borrow.Author.Rules.{rules}
use Rattle.call_many.proofs.questions.transact_answer.Statement.{statement}
use Rattle.call_many.proofs.questions.transact_answer.Tie as tie

homes-answer-requires : tie.Need-homes_answer-asked-requires
homes-answer-requires c κs = search rules

returns : tie.Need-returns-then-asked-ne0
returns c =
    transact-first _ _ _ _ _ _ _ _ _ c.homes_answer-asked.ensures c.if-asked-ne0.true

may-store-all-requires : tie.Need-may_store_all-requires
may-store-all-requires c κs =
    asks-rights _ _ _ _ _ c.args.batch.now _ _ _ c.homes_answer-asked.ensures c.if-asked-ne0.false

returns-2 : tie.Need-returns-then-not-may_store_all
returns-2 c =
    stores-no _ _ _ _ _ _ _ _ _ c.homes_answer-asked.ensures c.if-asked-ne0.false _ c.may_store_all.ensures (ap not c.if-not-may_store_all.true)

writer-requires : tie.Need-writer-requires
writer-requires c κs =
    let k = asks-rights _ _ _ _ _ c.args.batch.now _ _ _ c.homes_answer-asked.ensures c.if-asked-ne0.false in (k.0.state-length, k.2)

is-open-requires : tie.Need-is_open-requires
is-open-requires c κs = search rules

returns-3 : tie.Need-returns-then-is_open
returns-3 c =
    open_no _ _ _ _ _ _ _ _ _ c.homes_answer-asked.ensures c.if-asked-ne0.false _ c.may_store_all.ensures (ap not c.if-not-may_store_all.false) _ _ c.writer.ensures c.is_open.ensures c.if-is_open.true

state-requires : tie.Need-state-requires
state-requires c κs =
    let k = asks-rights _ _ _ _ _ c.args.batch.now _ _ _ c.homes_answer-asked.ensures c.if-asked-ne0.false in k.0.state-length

log-all-answer-requires : tie.Need-log_all_answer-requires
log-all-answer-requires c κs =
    let k = asks-rights _ _ _ _ _ c.args.batch.now _ _ _ c.homes_answer-asked.ensures c.if-asked-ne0.false in
    let f = asks-room _ _ _ _ _ c.args.batch.now _ _ _ c.homes_answer-asked.ensures c.if-asked-ne0.false in
    (k.0.state-length, usable-groups _ _ _ _ k.0 c.state.ensures, c.state.ensures, f.0, f.1)

returns-4 : tie.Need-returns
returns-4 c =
    room-asks _ _ _ _ _ _ _ _ _ c.homes_answer-asked.ensures c.if-asked-ne0.false _ c.may_store_all.ensures (ap not c.if-not-may_store_all.false) _ _ c.writer.ensures c.is_open.ensures _ _ c.if-is_open.false c.state.ensures c.log_all_answer.ensures

pub transact_answer_spec : {M : Type 1} → statement M
transact_answer_spec =
    tie.close
    (tie.spec
    homes-answer-requires
    returns
    may-store-all-requires
    returns-2
    writer-requires
    is-open-requires
    returns-3
    state-requires
    log-all-answer-requires
    returns-4)
