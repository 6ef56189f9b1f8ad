-- `call_trim::move_start` meets its contract. Assumes nothing.
use borrow.Author.Rules.{rules}
use mathlib.Core.Path.{◌∙◌}
use Rattle.call_trim.proofs.moves.move_start.Statement.{statement}
use Rattle.call_trim.proofs.moves.move_start.Tie as tie

write-header-requires : tie.Need-write_header-requires
write-header-requires c κs = search rules

put-header-requires : tie.Need-put_header-requires
put-header-requires c κs = search rules

move-state-requires : tie.Need-move_state-requires
move-state-requires c κs = search rules

mul-forget : tie.Need-overflow_mul-start
mul-forget c = search rules

forget-requires : tie.Need-forget-requires
forget-requires c κs = search rules

carry-listed-requires : tie.Need-carry_listed-requires
carry-listed-requires c κs = search rules

same_length : tie.Need-shape_of-log
same_length c = search rules

same-length-2 : tie.Need-shape_of-state
same-length-2 c = search rules

same-length-3 : tie.Need-shape_of-newest
same-length-3 c = search rules

same-length-4 : tie.Need-shape_of-batch
same-length-4 c = search rules

returns : tie.Need-returns
returns c = (c.put_header.ensures, c.carry_listed.ensures ∙ rw c.move_state.ensures, c.forget.ensures, c.write_header.ensures)

pub move_start_spec : {M : Type 1} → statement M
move_start_spec =
    tie.close
    (tie.spec
    write-header-requires
    put-header-requires
    move-state-requires
    mul-forget
    forget-requires
    carry-listed-requires
    same_length
    same-length-2
    same-length-3
    same-length-4
    returns)
