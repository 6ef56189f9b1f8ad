-- `object_machine::asks::ready` meets its contract. Assumes nothing.
use borrow.Author.Tests.{eq-eqb, ne_eqb}
use mathlib.Core.Path.{◌∙◌, sym}
use Rattle.object_machine.specs.Next.{ready_turn}
use borrow.Author.Rules.{rules}
use Rattle.object_machine.proofs.asks.ready.Statement.{statement}
use Rattle.object_machine.proofs.asks.ready.Tie as tie

done-requires : tie.Need-done-requires
done-requires c κs = search rules

returns : tie.Need-returns-then-control-ne256
unfolding ready_turn
returns c = rw (ne_eqb _ 256 c.if-control-ne256.true) c.done.ensures

read-control-requires : tie.Need-read_control-c-requires
read-control-requires c κs = search rules

known-requires : tie.Need-known-requires
known-requires c κs = search rules

done-requires-2 : tie.Need-done-requires-then-not-known
done-requires-2 c κs = search rules

returns-2 : tie.Need-returns-then-not-known
unfolding ready_turn
returns-2 c = rw (eq-eqb _ 256 c.if-control-ne256.false, ← c.read_control-c.ensures, sym c.known.ensures ∙ c.if-not-known.true) c.done-then-not-known.ensures

shut-requires : tie.Need-shut-requires
shut-requires c κs = search rules

refusal-requires : tie.Need-refusal-requires
refusal-requires c κs = search rules

returns-3 : tie.Need-returns
unfolding ready_turn
returns-3 c = rw (eq-eqb _ 256 c.if-control-ne256.false, ← c.read_control-c.ensures, sym c.known.ensures ∙ c.if-not-known.false, ← c.shut.ensures) c.refusal.ensures

pub ready_spec : {M : Type 1} → statement M
ready_spec = tie.close (tie.spec done-requires returns read-control-requires known-requires done-requires-2 returns-2 shut-requires refusal-requires returns-3)
