-- `object_machine::fields::set_control` meets its contract. Assumes nothing.
use Rattle.object_machine.specs.Control.{put_control}
use borrow.Author.Rules.{rules}
use Rattle.object_machine.proofs.fields.set_control.Statement.{statement}
use Rattle.object_machine.proofs.fields.set_control.Tie as tie

set-first-requires : tie.Need-set_first-requires
set-first-requires c κs = search rules

set-middle-requires : tie.Need-set_middle-requires
set-middle-requires c κs = search rules

set-last-requires : tie.Need-set_last-requires
set-last-requires c κs = search rules

same_length : tie.Need-shape_of-s
same_length c = search rules

returns : tie.Need-returns
unfolding put_control
returns c = rw (c.set_last.ensures, c.set_middle.ensures, c.set_first.ensures)

pub set_control_spec : {M : Type 1} → statement M
set_control_spec = tie.close (tie.spec set-first-requires set-middle-requires set-last-requires same_length returns)
