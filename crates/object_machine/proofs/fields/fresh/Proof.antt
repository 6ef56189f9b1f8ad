-- `object_machine::fields::fresh` meets its contract. Assumes nothing.
use mathlib.Core.Path.{refl}
use Rattle.object_machine.specs.Control.{fresh}
use Rattle.object_machine.proofs.fields.fresh.Statement.{statement}
use Rattle.object_machine.proofs.fields.fresh.Tie as tie

returns : tie.Need-returns
unfolding fresh
returns c = refl

pub fresh_spec : {M : Type 1} → statement M
fresh_spec = tie.close (tie.spec returns)
