-- `base_state::set_writer` meets its contract. Assumes nothing.
use Rattle.model.specs.State.{mode_offset, set_writer}
use borrow.Author.Rules.{rules}
use Rattle.base_state.proofs.writers.set_writer.Statement.{statement}
use Rattle.base_state.proofs.writers.set_writer.Tie as tie

offset-requires : tie.Need-offset-at-requires
offset-requires c κs = search rules

add-put-byte : tie.Need-overflow_add-w
add-put-byte c = search rules

put-byte-requires : tie.Need-put_byte-requires
put-byte-requires c κs = search rules

put-number-requires : tie.Need-put_number-requires
put-number-requires c κs = search rules

add-put-number : tie.Need-overflow_add-at
add-put-number c = search rules

put-number-requires-2 : tie.Need-put_number-requires-2
put-number-requires-2 c κs = search rules

add-put-number-2 : tie.Need-overflow_add-at-2
add-put-number-2 c = search rules

less-one-requires : tie.Need-less_one-requires
less-one-requires c κs = search rules

put-number-requires-3 : tie.Need-put_number-requires-3
put-number-requires-3 c κs = search rules

same_length : tie.Need-shape_of-s
same_length c = search rules

returns : tie.Need-returns
unfolding mode_offset set_writer
returns c = cc

pub set_writer_spec : {M : Type 1} → statement M
set_writer_spec =
    tie.close
    (tie.spec
    offset-requires
    add-put-byte
    put-byte-requires
    put-number-requires
    add-put-number
    put-number-requires-2
    add-put-number-2
    less-one-requires
    put-number-requires-3
    same_length
    returns)
