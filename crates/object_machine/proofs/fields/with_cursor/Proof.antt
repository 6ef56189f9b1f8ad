-- `object_machine::fields::with_cursor` meets its contract. Assumes nothing.
use mathlib.Core.Path.{refl}
use Rattle.object_machine.specs.Control.{with_cursor}
use Rattle.object_machine.proofs.fields.with_cursor.Statement.{statement}
use Rattle.object_machine.proofs.fields.with_cursor.Tie as tie

returns : tie.Need-returns
unfolding with_cursor
returns c = refl

pub with_cursor_spec : {M : Type 1} → statement M
with_cursor_spec = tie.close (tie.spec returns)
