-- `object_machine::fields::with_ask` meets its contract. Assumes nothing.
use mathlib.Core.Path.{refl}
use Rattle.object_machine.specs.Control.{with_ask}
use Rattle.object_machine.proofs.fields.with_ask.Statement.{statement}
use Rattle.object_machine.proofs.fields.with_ask.Tie as tie

returns : tie.Need-returns
unfolding with_ask
returns c = refl

pub with_ask_spec : {M : Type 1} → statement M
with_ask_spec = tie.close (tie.spec returns)
