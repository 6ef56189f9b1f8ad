-- `call_commit::commit_answer` meets its contract. Assumes nothing.
use mathlib.Core.Bool.{not}
use mathlib.Core.Path.{refl, ap}
use native.Mathlib.Omega.{arith}
use Rattle.call_ask.proofs.AnswerLaws.{usable-groups}
use Rattle.call_commit.proofs.CommitLaws.{refuses, lent-use, writer-no, open_no, none-yes, held_asks}
use borrow.Author.Rules.{rules}
use Rattle.call_commit.proofs.commit_answer.Statement.{statement}
use Rattle.call_commit.proofs.commit_answer.Tie as tie

newest-answer-requires : tie.Need-newest_answer-asked-requires
newest-answer-requires c κs = search rules

returns : tie.Need-returns-then-asked-ne0
returns c = refuses _ _ _ _ _ _ _ c.newest_answer-asked.ensures c.if-asked-ne0.true

returns-2 : tie.Need-returns-then-writer-ge8
returns-2 c =
    writer-no _ _ _ _ _ c.args.writer _ c.newest_answer-asked.ensures c.if-asked-ne0.false (omega arith)

writer-requires : tie.Need-writer-r-requires
writer-requires c κs =
    let a = c.args in
    let u = lent-use a.log.now a.area.now a.state.now a.newest.now a.batch.now a.writer _ c.newest_answer-asked.ensures c.if-asked-ne0.false in
    (u.state-length, omega arith)

is-open-requires : tie.Need-is_open-requires
is-open-requires c κs = search rules

returns-3 : tie.Need-returns-then-not-is_open
returns-3 c =
    open_no _ _ _ _ _ c.args.writer _ c.newest_answer-asked.ensures c.if-asked-ne0.false _ _ (omega arith) c.writer-r.ensures
    c.is_open.ensures (ap not c.if-not-is_open.true)

holds-requires : tie.Need-holds-requires
holds-requires c κs = search rules

returns-4 : tie.Need-returns-then-not-holds
returns-4 c =
    none-yes _ _ _ _ _ c.args.writer _ c.newest_answer-asked.ensures c.if-asked-ne0.false _ _ (omega arith) c.writer-r.ensures
    c.is_open.ensures _ (ap not c.if-not-is_open.false) c.holds.ensures (ap not c.if-not-holds.true)

log-answer-requires : tie.Need-log_answer-requires
log-answer-requires c κs =
    let a = c.args in
    let u = lent-use a.log.now a.area.now a.state.now a.newest.now a.batch.now a.writer _ c.newest_answer-asked.ensures c.if-asked-ne0.false in
    (u.state-length, omega (arith, c.if-writer-ge8.false), usable-groups _ _ _ _ u refl)

returns-5 : tie.Need-returns
returns-5 c =
    held_asks _ _ _ _ _ c.args.writer _ c.newest_answer-asked.ensures c.if-asked-ne0.false _ _ (omega arith) c.writer-r.ensures
    c.is_open.ensures _ _ _ (ap not c.if-not-is_open.false) c.holds.ensures (ap not c.if-not-holds.false) refl c.log_answer.ensures

pub commit_answer_spec : {M : Type 1} → statement M
commit_answer_spec =
    tie.close
    (tie.spec
    newest-answer-requires
    returns
    returns-2
    writer-requires
    is-open-requires
    returns-3
    holds-requires
    returns-4
    log-answer-requires
    returns-5)
