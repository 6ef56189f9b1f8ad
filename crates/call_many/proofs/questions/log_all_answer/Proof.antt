-- `call_many::log_all_answer` meets its contract. Assumes nothing.
use mathlib.Core.Bool.{not}
use mathlib.Core.Path.{ap}
use Rattle.call_many_fetch.proofs.QuestionLaws.{room-no, room-part, room-short, room-full}
use borrow.Author.Rules.{rules}
use native.Mathlib.Omega.{arith}
use Rattle.call_many.proofs.questions.log_all_answer.Statement.{statement}
use Rattle.call_many.proofs.questions.log_all_answer.Tie as tie

may-promise-requires : tie.Need-may_promise-requires
may-promise-requires c κs = search rules

returns : tie.Need-returns-then-not-may_promise
returns c =
    room-no _ _ _ _ _ c.requires.3 c.may_promise.ensures (ap not c.if-not-may_promise.true)

add-if2 : tie.Need-overflow_add-st
add-if2 c = search rules

returns-2 : tie.Need-returns-then-st-n-lt7
returns-2 c =
    room-part _ c.args.n c.args.st.filled _ _ c.requires.3 c.may_promise.ensures (ap not c.if-not-may_promise.false) (omega arith)

returns-3 : tie.Need-returns-then-batch-lt516
returns-3 c =
    room-short _ c.args.n c.args.st.filled c.args.batch _ c.requires.3 c.may_promise.ensures (ap not c.if-not-may_promise.false) (omega arith) (omega arith)

returns-4 : tie.Need-returns
returns-4 c =
    room-full _ c.args.n c.args.st.filled c.args.batch _ c.requires.3 c.may_promise.ensures (ap not c.if-not-may_promise.false) (omega arith) (omega arith)

pub log_all_answer_spec : {M : Type 1} → statement M
log_all_answer_spec =
    tie.close (tie.spec may-promise-requires returns add-if2 returns-2 returns-3 returns-4)
