-- `call_read::read_answer` meets its contract. Assumes nothing.
use borrow.Author.Rules.{rules}
use Rattle.call_read.proofs.ReadLaws.{first-refuse, writer-refused, home-refused, right-refused, none-refused}
use Rattle.call_rights.proofs.RightsLaws.{read_only}
use Rattle.call_ask.proofs.NewestAnswers.{both-only, both-usable}
use mathlib.Core.Path.{sym, ◌∙◌}
use native.Mathlib.Omega.{arith}
use Rattle.call_read.proofs.read_answer.Statement.{statement}
use Rattle.call_read.proofs.read_answer.Tie as tie

both-answer-requires : tie.Need-both_answer-code-requires
both-answer-requires c κs = search rules

returns : tie.Need-returns-then-code-ne0
returns c = first-refuse _ _ (c.both_answer-code.ensures ∙ sym (both-only _ _ _ _ _ _ _ _ _)) c.if-code-ne0.true

returns-2 : tie.Need-returns-then-writer-ge8
returns-2 c = writer-refused _ (both-only _ _ _ _ _ _ _ _ _ ∙ sym c.both_answer-code.ensures ∙ c.if-code-ne0.false) (omega arith)

data-homes-requires : tie.Need-data_homes-requires
data-homes-requires c κs = search rules

returns-3 : tie.Need-returns-then-home-data_homes
returns-3 c = home-refused _ (both-only _ _ _ _ _ _ _ _ _ ∙ sym c.both_answer-code.ensures ∙ c.if-code-ne0.false) (omega arith) (omega arith)

may-read-requires : tie.Need-may_read-requires
may-read-requires c κs = let u = both-usable _ (sym c.both_answer-code.ensures ∙ c.if-code-ne0.false) in (u.0, omega arith, u.2)

returns-4 : tie.Need-returns-then-not-may_read
returns-4 c = right-refused _ (both-only _ _ _ _ _ _ _ _ _ ∙ sym c.both_answer-code.ensures ∙ c.if-code-ne0.false) (omega arith) (omega arith) _ (c.may_read.ensures ∙ sym (read_only _ _ _ _ _ _ _ _)) c.if-not-may_read.true

returns-5 : tie.Need-returns
returns-5 c = none-refused _ (both-only _ _ _ _ _ _ _ _ _ ∙ sym c.both_answer-code.ensures ∙ c.if-code-ne0.false) (omega arith) (omega arith) _ (c.may_read.ensures ∙ sym (read_only _ _ _ _ _ _ _ _)) c.if-not-may_read.false

pub read_answer_spec : {M : Type 1} → statement M
read_answer_spec =
    tie.close
    (tie.spec
    both-answer-requires
    returns
    returns-2
    data-homes-requires
    returns-3
    may-read-requires
    returns-4
    returns-5)
