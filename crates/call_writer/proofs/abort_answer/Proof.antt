-- `call_writer::abort_answer` meets its contract: each return follows the tests that led to it. Assumes nothing.
use mathlib.Core.Bool.{not}
use mathlib.Core.Path.{ap}
use native.Mathlib.Omega.{arith}
use borrow.Author.Rules.{rules}
use Rattle.call_writer.proofs.SessionLaws.{writer-fits, abort-first, abort-idle, abort-opened}
use Rattle.call_writer.proofs.abort_answer.Statement.{statement}
use Rattle.call_writer.proofs.abort_answer.Tie as tie

writer-answer-requires : tie.Need-writer_answer-first-requires
writer-answer-requires c κs = search rules

returns : tie.Need-returns-then-first-ne0
returns c = abort-first _ _ c.writer_answer-first.ensures c.if-first-ne0.true

writer-requires : tie.Need-writer-requires
writer-requires c κs = omega (arith, writer-fits _ _ c.writer_answer-first.ensures c.if-first-ne0.false)

is-open-requires : tie.Need-is_open-requires
is-open-requires c κs = search rules

returns-2 : tie.Need-returns-then-not-is_open
returns-2 c =
    abort-idle _ _ c.writer_answer-first.ensures _ _ c.if-first-ne0.false c.writer.ensures c.is_open.ensures
    (ap not c.if-not-is_open.true)

returns-3 : tie.Need-returns
returns-3 c =
    abort-opened _ _ c.writer_answer-first.ensures _ _ c.if-first-ne0.false c.writer.ensures c.is_open.ensures
    (ap not c.if-not-is_open.false)

pub abort_answer_spec : {M : Type 1} → statement M
abort_answer_spec =
    tie.close
    (tie.spec writer-answer-requires returns writer-requires is-open-requires returns-2 returns-3)
