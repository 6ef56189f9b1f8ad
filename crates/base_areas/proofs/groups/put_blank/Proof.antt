-- `base_areas::put_blank` meets its contract: its pieces stand one after the other. Assumes nothing.
use mathlib.Core.Path.{◌∙◌}
use Rattle.base_areas.proofs.GroupLaws.{blank-written}
use borrow.Author.Rules.{rules}
use Rattle.base_areas.proofs.groups.put_blank.Statement.{statement}
use Rattle.base_areas.proofs.groups.put_blank.Tie as tie

mul_at : tie.Need-overflow_mul-at
mul_at c = search rules

add_at : tie.Need-overflow_add-at
add_at c = search rules

put-group-mark-requires : tie.Need-put_group_mark-requires
put-group-mark-requires c κs = search rules

add-put-number : tie.Need-overflow_add-at-2
add-put-number c = search rules

put-number-requires : tie.Need-put_number-requires
put-number-requires c κs = search rules

add-clear : tie.Need-overflow_add-at-3
add-clear c = search rules

clear-requires : tie.Need-clear-requires
clear-requires c κs = search rules

add-put-turn-blocks : tie.Need-overflow_add-at-4
add-put-turn-blocks c = search rules

put-turn-blocks-requires : tie.Need-put_turn_blocks-requires
put-turn-blocks-requires c κs = search rules

same_length : tie.Need-shape_of-log
same_length c = search rules

returns : tie.Need-returns
returns c = λ groups t.
    let a = c.args in
    c.put_turn_blocks.ensures
    ∙ rw (c.clear.ensures, c.put_number.ensures, c.put_group_mark.ensures) (blank-written _ a.slot _ _ groups t)

pub put_blank_spec : {M : Type 1} → statement M
put_blank_spec =
    tie.close
    (tie.spec
    mul_at
    add_at
    put-group-mark-requires
    add-put-number
    put-number-requires
    add-clear
    clear-requires
    add-put-turn-blocks
    put-turn-blocks-requires
    same_length
    returns)
