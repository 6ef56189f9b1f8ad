-- `object_machine::fields::with_condition` meets its contract. Assumes nothing.
use mathlib.Core.Path.{refl}
use Rattle.object_machine.specs.Control.{with_condition}
use Rattle.object_machine.proofs.fields.with_condition.Statement.{statement}
use Rattle.object_machine.proofs.fields.with_condition.Tie as tie

returns : tie.Need-returns
unfolding with_condition
returns c = refl

pub with_condition_spec : {M : Type 1} → statement M
with_condition_spec = tie.close (tie.spec returns)
