-- `object_machine::fields::with_batch` meets its contract. Assumes nothing.
use mathlib.Core.Path.{refl}
use Rattle.object_machine.specs.Control.{with_batch}
use Rattle.object_machine.proofs.fields.with_batch.Statement.{statement}
use Rattle.object_machine.proofs.fields.with_batch.Tie as tie

returns : tie.Need-returns
unfolding with_batch
returns c = refl

pub with_batch_spec : {M : Type 1} → statement M
with_batch_spec = tie.close (tie.spec returns)
