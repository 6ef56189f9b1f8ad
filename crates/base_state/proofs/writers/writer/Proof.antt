-- `base_state::writer` meets its contract. Assumes nothing.
use Rattle.model.specs.State.{mode_offset, writer_of}
use borrow.Author.Rules.{rules}
use Rattle.base_state.proofs.writers.writer.Statement.{statement}
use Rattle.base_state.proofs.writers.writer.Tie as tie

offset-requires : tie.Need-offset-at-requires
offset-requires c κs = search rules

add-byte : tie.Need-overflow_add-w
add-byte c = search rules

byte-requires : tie.Need-byte-mode-requires
byte-requires c κs = search rules

number-requires : tie.Need-number-home-requires
number-requires c κs = search rules

add-number : tie.Need-overflow_add-at
add-number c = search rules

number-requires-2 : tie.Need-number-first-requires
number-requires-2 c κs = search rules

add-number-2 : tie.Need-overflow_add-at-2
add-number-2 c = search rules

number-requires-3 : tie.Need-number-requires
number-requires-3 c κs = search rules

one-more-requires : tie.Need-one_more-count-requires
one-more-requires c κs = search rules

returns : tie.Need-returns
unfolding mode_offset writer_of
returns c = cc

pub writer_spec : {M : Type 1} → statement M
writer_spec =
    tie.close
    (tie.spec
    offset-requires
    add-byte
    byte-requires
    number-requires
    add-number
    number-requires-2
    add-number-2
    number-requires-3
    one-more-requires
    returns)
