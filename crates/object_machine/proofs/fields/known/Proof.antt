-- `object_machine::fields::known` meets its contract. Assumes nothing.
use mathlib.Core.Path.{refl}
use Rattle.object_machine.specs.Control.{known}
use Rattle.object_machine.proofs.fields.known.Statement.{statement}
use Rattle.object_machine.proofs.fields.known.Tie as tie

returns : tie.Need-returns
unfolding known
returns c = refl

pub known_spec : {M : Type 1} → statement M
known_spec = tie.close (tie.spec returns)
