-- `object_machine::turns::passes` meets its contract. Assumes nothing.
use Rattle.object_machine.specs.Moves.{passes}
use borrow.Author.Rules.{rules}
use Rattle.object_machine.proofs.turns.passes.Statement.{statement}
use Rattle.object_machine.proofs.turns.passes.Tie as tie

pass-requires : tie.Need-pass-requires
pass-requires c κs = search rules

moved-requires : tie.Need-moved-requires
moved-requires c κs = search rules

returns : tie.Need-returns
unfolding passes
returns c = rw (← c.pass.ensures) c.moved.ensures

pub passes_spec : {M : Type 1} → statement M
passes_spec = tie.close (tie.spec pass-requires moved-requires returns)
