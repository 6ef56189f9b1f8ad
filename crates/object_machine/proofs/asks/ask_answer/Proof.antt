-- `object_machine::asks::ask_answer` meets its contract. Assumes nothing.
use borrow.Author.Tests.{eq-eqb, ne_eqb}
use mathlib.Core.Path.{◌∙◌, sym}
use Rattle.object_machine.specs.Next.{ask_answer}
use borrow.Author.Rules.{rules}
use Rattle.object_machine.proofs.asks.ask_answer.Statement.{statement}
use Rattle.object_machine.proofs.asks.ask_answer.Tie as tie

known-requires : tie.Need-known-requires
known-requires c κs = search rules

returns : tie.Need-returns-then-not-known
unfolding ask_answer
returns c = rw (sym c.known.ensures ∙ c.if-not-known.true)

returns-2 : tie.Need-returns-then-c-ne0
unfolding ask_answer
returns-2 c = rw (sym c.known.ensures ∙ c.if-not-known.false, ne_eqb _ 0 c.if-c-ne0.true)

returns-3 : tie.Need-returns-then-stage-eq19
unfolding ask_answer
returns-3 c = rw (sym c.known.ensures ∙ c.if-not-known.false, eq-eqb _ 0 c.if-c-ne0.false, eq-eqb _ 19 c.if-stage-eq19.true)

shut-requires : tie.Need-shut-requires
shut-requires c κs = search rules

returns-4 : tie.Need-returns
unfolding ask_answer
returns-4 c = rw (sym c.known.ensures ∙ c.if-not-known.false, eq-eqb _ 0 c.if-c-ne0.false, ne_eqb _ 19 c.if-stage-eq19.false) c.shut.ensures

pub ask_answer_spec : {M : Type 1} → statement M
ask_answer_spec = tie.close (tie.spec known-requires returns returns-2 returns-3 shut-requires returns-4)
