-- `call_writer::writer_answer` meets its contract: each return follows the tests that led to it. Assumes nothing.
use borrow.Author.Rules.{rules}
use Rattle.call_writer.proofs.SessionLaws.{writer-first, writer-unknown, writer-known}
use Rattle.call_writer.proofs.writer_answer.Statement.{statement}
use Rattle.call_writer.proofs.writer_answer.Tie as tie

state-answer-requires : tie.Need-state_answer-first-requires
state-answer-requires c κs = search rules

returns : tie.Need-returns-then-first-ne0
returns c = writer-first _ _ _ _ _ c.state_answer-first.ensures c.if-first-ne0.true

returns-2 : tie.Need-returns-then-writer-ge8
returns-2 c = writer-unknown _ _ _ _ _ c.state_answer-first.ensures c.if-first-ne0.false c.if-writer-ge8.true

returns-3 : tie.Need-returns
returns-3 c = writer-known _ _ _ _ _ c.state_answer-first.ensures c.if-first-ne0.false c.if-writer-ge8.false

pub writer_answer_spec : {M : Type 1} → statement M
writer_answer_spec =
    tie.close (tie.spec state-answer-requires returns returns-2 returns-3)
