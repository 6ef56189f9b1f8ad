-- `call_store::store_answer` meets its contract. Assumes nothing.
use mathlib.Core.Bool.{not}
use mathlib.Core.Path.{refl, ap}
use borrow.Author.Rules.{rules}
use Rattle.call_store.proofs.StoreLaws.{refuses, lent-use, writer-no, home-no, right-no, open_no, first-yes, again-yes, other-asks}
use Rattle.call_ask.proofs.AnswerLaws.{usable-groups}
use native.Mathlib.Omega.{arith}
use Rattle.call_store.proofs.stores.store_answer.Statement.{statement}
use Rattle.call_store.proofs.stores.store_answer.Tie as tie

block-answer-requires : tie.Need-block_answer-asked-requires
block-answer-requires c κs = search rules

returns : tie.Need-returns-then-asked-ne0
returns c = refuses _ _ _ _ _ _ _ _ c.block_answer-asked.ensures c.if-asked-ne0.true

returns-2 : tie.Need-returns-then-writer-ge8
returns-2 c = let a = c.args in writer-no _ _ _ _ _ a.writer a.home _ c.block_answer-asked.ensures c.if-asked-ne0.false (omega arith)

data-homes-requires : tie.Need-data_homes-requires
data-homes-requires c κs = search rules

returns-3 : tie.Need-returns-then-home-data_homes
returns-3 c = let a = c.args in home-no _ _ _ _ _ a.writer a.home _ c.block_answer-asked.ensures c.if-asked-ne0.false _ (omega arith) c.data_homes.ensures (omega arith)

may-store-requires : tie.Need-may_store-requires
may-store-requires c κs = let a = c.args in let u = lent-use a.log.now a.area.now a.state.now a.block.now a.batch.now a.writer a.home _ c.block_answer-asked.ensures c.if-asked-ne0.false in (u, omega arith)

returns-4 : tie.Need-returns-then-not-may_store
returns-4 c = let a = c.args in right-no _ _ _ _ _ a.writer a.home _ c.block_answer-asked.ensures c.if-asked-ne0.false _ _ (omega arith) c.data_homes.ensures (omega arith) c.may_store.ensures (ap not c.if-not-may_store.true)

writer-requires : tie.Need-writer-r-requires
writer-requires c κs = let a = c.args in let u = lent-use a.log.now a.area.now a.state.now a.block.now a.batch.now a.writer a.home _ c.block_answer-asked.ensures c.if-asked-ne0.false in (u.state-length, omega arith)

is-open-requires : tie.Need-is_open-requires
is-open-requires c κs = search rules

returns-5 : tie.Need-returns-then-not-is_open
returns-5 c = let a = c.args in open_no _ _ _ _ _ a.writer a.home _ c.block_answer-asked.ensures c.if-asked-ne0.false _ _ _ _ (omega arith) c.data_homes.ensures (omega arith) c.may_store.ensures (ap not c.if-not-may_store.false) c.writer-r.ensures c.is_open.ensures (ap not c.if-not-is_open.true)

holds-requires : tie.Need-holds-requires
holds-requires c κs = search rules

returns-6 : tie.Need-returns-then-not-holds
returns-6 c = let a = c.args in first-yes _ _ _ _ _ a.writer a.home _ c.block_answer-asked.ensures c.if-asked-ne0.false _ _ _ _ (omega arith) c.data_homes.ensures (omega arith) c.may_store.ensures (ap not c.if-not-may_store.false) c.writer-r.ensures c.is_open.ensures _ (ap not c.if-not-is_open.false) c.holds.ensures (ap not c.if-not-holds.true)

returns-7 : tie.Need-returns-then-r-home
returns-7 c = let a = c.args in again-yes _ _ _ _ _ a.writer a.home _ c.block_answer-asked.ensures c.if-asked-ne0.false _ _ _ _ (omega arith) c.data_homes.ensures (omega arith) c.may_store.ensures (ap not c.if-not-may_store.false) c.writer-r.ensures c.is_open.ensures _ (ap not c.if-not-is_open.false) c.holds.ensures (ap not c.if-not-holds.false) c.if-r-home.true

log-answer-requires : tie.Need-log_answer-requires
log-answer-requires c κs = let a = c.args in let u = lent-use a.log.now a.area.now a.state.now a.block.now a.batch.now a.writer a.home _ c.block_answer-asked.ensures c.if-asked-ne0.false in (u.state-length, omega (arith, c.if-writer-ge8.false), usable-groups _ _ _ _ u refl)

returns-8 : tie.Need-returns
returns-8 c = let a = c.args in other-asks _ _ _ _ _ a.writer a.home _ c.block_answer-asked.ensures c.if-asked-ne0.false _ _ _ _ (omega arith) c.data_homes.ensures (omega arith) c.may_store.ensures (ap not c.if-not-may_store.false) c.writer-r.ensures c.is_open.ensures _ _ _ (ap not c.if-not-is_open.false) c.holds.ensures (ap not c.if-not-holds.false) c.if-r-home.false refl c.log_answer.ensures

pub store_answer_spec : {M : Type 1} → statement M
store_answer_spec =
    tie.close
    (tie.spec
    block-answer-requires
    returns
    returns-2
    data-homes-requires
    returns-3
    may-store-requires
    returns-4
    writer-requires
    is-open-requires
    returns-5
    holds-requires
    returns-6
    returns-7
    log-answer-requires
    returns-8)
