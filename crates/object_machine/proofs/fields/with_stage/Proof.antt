-- `object_machine::fields::with_stage` meets its contract. Assumes nothing.
use mathlib.Core.Path.{refl}
use Rattle.object_machine.specs.Control.{with_stage}
use Rattle.object_machine.proofs.fields.with_stage.Statement.{statement}
use Rattle.object_machine.proofs.fields.with_stage.Tie as tie

returns : tie.Need-returns
unfolding with_stage
returns c = refl

pub with_stage_spec : {M : Type 1} → statement M
with_stage_spec = tie.close (tie.spec returns)
