-- `base_batch::zero_home_write` meets its contract: its pieces stand one after the other. Assumes nothing.
use mathlib.Core.Path.{◌∙◌}
use borrow.Author.Rules.{rules}
use native.Mathlib.Omega.{arith}
use Rattle.base_batch.proofs.RecordLaws.{zero-home-written}
use Rattle.base_batch.proofs.records.zero_home_write.Statement.{statement}
use Rattle.base_batch.proofs.records.zero_home_write.Tie as tie

put-home-write-mark-requires : tie.Need-put_home_write_mark-requires
put-home-write-mark-requires c κs = search rules

add-put-number : tie.Need-overflow_add-at
add-put-number c = search rules

put-number-requires : tie.Need-put_number-requires
put-number-requires c κs = search rules

add-clear : tie.Need-overflow_add-at-2
add-clear c = search rules

clear-requires : tie.Need-clear-requires
clear-requires c κs = search rules

add-result : tie.Need-overflow_add-result
add-result c = search rules

same_length : tie.Need-shape_of-batch
same_length c = search rules

returns : tie.Need-returns
returns c =
    (omega arith, c.clear.ensures ∙ rw (c.put_number.ensures, c.put_home_write_mark.ensures) (zero-home-written _ _ _))

pub zero_home_write_spec : {M : Type 1} → statement M
zero_home_write_spec =
    tie.close
    (tie.spec
    put-home-write-mark-requires
    add-put-number
    put-number-requires
    add-clear
    clear-requires
    add-result
    same_length
    returns)
