-- `object_machine::moves::may_make_room` meets its contract. Assumes nothing.
use Rattle.object_machine.specs.Moves.{may_make_room}
use borrow.Author.Rules.{rules}
use Rattle.object_machine.proofs.moves.may_make_room.Statement.{statement}
use Rattle.object_machine.proofs.moves.may_make_room.Tie as tie

possible-requires : tie.Need-possible-requires
possible-requires c κs = search rules

held-back-requires : tie.Need-held_back-requires
held-back-requires c κs = search rules

returns : tie.Need-returns
unfolding may_make_room
returns c = rw (← c.possible.ensures, ← c.held_back.ensures)

pub may_make_room_spec : {M : Type 1} → statement M
may_make_room_spec = tie.close (tie.spec possible-requires held-back-requires returns)
