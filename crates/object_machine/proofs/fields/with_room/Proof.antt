-- `object_machine::fields::with_room` meets its contract. Assumes nothing.
use mathlib.Core.Path.{refl}
use Rattle.object_machine.specs.Control.{with_room}
use Rattle.object_machine.proofs.fields.with_room.Statement.{statement}
use Rattle.object_machine.proofs.fields.with_room.Tie as tie

returns : tie.Need-returns
unfolding with_room
returns c = refl

pub with_room_spec : {M : Type 1} → statement M
with_room_spec = tie.close (tie.spec returns)
