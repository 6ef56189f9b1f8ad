-- `base_areas::put_header` meets its contract: its pieces stand one after the other. Assumes nothing.
use mathlib.Core.Path.{◌∙◌}
use borrow.Author.Rules.{rules}
use Rattle.base_areas.proofs.HeaderLaws.{header-written}
use Rattle.base_areas.proofs.header.put_header.Statement.{statement}
use Rattle.base_areas.proofs.header.put_header.Tie as tie

put-header-mark-requires : tie.Need-put_header_mark-requires
put-header-mark-requires c κs = search rules

add-put-number : tie.Need-overflow_add-at
add-put-number c = search rules

put-number-requires : tie.Need-put_number-requires
put-number-requires c κs = search rules

add-put-number-2 : tie.Need-overflow_add-at-2
add-put-number-2 c = search rules

put-number-requires-2 : tie.Need-put_number-requires-2
put-number-requires-2 c κs = search rules

add-put-number-3 : tie.Need-overflow_add-at-3
add-put-number-3 c = search rules

put-number-requires-3 : tie.Need-put_number-requires-3
put-number-requires-3 c κs = search rules

add-clear : tie.Need-overflow_add-at-4
add-clear c = search rules

clear-requires : tie.Need-clear-requires
clear-requires c κs = search rules

same_length : tie.Need-shape_of-dst
same_length c = search rules

returns : tie.Need-returns
returns c =
    c.clear.ensures
    ∙ rw (c.put_number-3.ensures, c.put_number-2.ensures, c.put_number.ensures, c.put_header_mark.ensures) (header-written _ _ _ _ _)

pub put_header_spec : {M : Type 1} → statement M
put_header_spec =
    tie.close
    (tie.spec
    put-header-mark-requires
    add-put-number
    put-number-requires
    add-put-number-2
    put-number-requires-2
    add-put-number-3
    put-number-requires-3
    add-clear
    clear-requires
    same_length
    returns)
