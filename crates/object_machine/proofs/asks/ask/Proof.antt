-- `object_machine::asks::ask` meets its contract. Assumes nothing.
use borrow.Author.Tests.{eq-eqb, ne_eqb}
use Rattle.object_machine.specs.Next.{ask_call, asks}
use borrow.Author.Rules.{rules}
use Rattle.object_machine.proofs.asks.ask.Statement.{statement}
use Rattle.object_machine.proofs.asks.ask.Tie as tie

done-requires : tie.Need-done-requires
done-requires c κs = search rules

returns : tie.Need-returns-then-control-ne256
unfolding ask_call asks
returns c = rw (ne_eqb _ 256 c.if-control-ne256.true, ← c.done.ensures)

read-control-requires : tie.Need-read_control-c-requires
read-control-requires c κs = search rules

ask-answer-requires : tie.Need-ask_answer-code-requires
ask-answer-requires c κs = search rules

refusal-requires : tie.Need-refusal-requires
refusal-requires c κs = search rules

same_length : tie.Need-shape_of-control-then-code-ne0
same_length c = search rules

returns-2 : tie.Need-returns-then-code-ne0
unfolding ask_call asks
returns-2 c = rw (eq-eqb _ 256 c.if-control-ne256.false, ← c.read_control-c.ensures, ← c.ask_answer-code.ensures, ne_eqb _ 0 c.if-code-ne0.true, ← c.refusal.ensures)

condition-for-requires : tie.Need-condition_for-requires
condition-for-requires c κs = search rules

with-ask-requires : tie.Need-with_ask-requires
with-ask-requires c κs = search rules

set-control-requires : tie.Need-set_control-requires
set-control-requires c κs = search rules

pass-requires : tie.Need-pass-requires
pass-requires c κs = search rules

same-length-2 : tie.Need-shape_of-control
same-length-2 c = search rules

returns-3 : tie.Need-returns
unfolding ask_call asks
returns-3 c = rw (eq-eqb _ 256 c.if-control-ne256.false, ← c.read_control-c.ensures, ← c.ask_answer-code.ensures, eq-eqb _ 0 c.if-code-ne0.false, ← c.condition_for.ensures, ← c.with_ask.ensures, c.set_control.ensures, ← c.pass.ensures)

pub ask_spec : {M : Type 1} → statement M
ask_spec = tie.close (tie.spec done-requires returns read-control-requires ask-answer-requires refusal-requires same_length returns-2 condition-for-requires with-ask-requires set-control-requires pass-requires same-length-2 returns-3)
