-- `base_batch::unused_write` meets its contract: its pieces stand one after the other. Assumes nothing.
use mathlib.Core.Path.{◌∙◌}
use borrow.Author.Rules.{rules}
use native.Mathlib.Omega.{arith}
use Rattle.base_batch.proofs.RecordLaws.{unused-written}
use Rattle.base_batch.proofs.records.unused_write.Statement.{statement}
use Rattle.base_batch.proofs.records.unused_write.Tie as tie

put-group-write-mark-requires : tie.Need-put_group_write_mark-requires
put-group-write-mark-requires c κs = search rules

add-put-number : tie.Need-overflow_add-at
add-put-number c = search rules

put-number-requires : tie.Need-put_number-requires
put-number-requires c κs = search rules

add-put-unused : tie.Need-overflow_add-at-2
add-put-unused c = search rules

put-unused-requires : tie.Need-put_unused-requires
put-unused-requires c κs = search rules

add-result : tie.Need-overflow_add-result
add-result c = search rules

same_length : tie.Need-shape_of-batch
same_length c = search rules

returns : tie.Need-returns
returns c =
    (omega arith, c.put_unused.ensures ∙ rw (c.put_number.ensures, c.put_group_write_mark.ensures) (unused-written _ _ _ _))

pub unused_write_spec : {M : Type 1} → statement M
unused_write_spec =
    tie.close
    (tie.spec
    put-group-write-mark-requires
    add-put-number
    put-number-requires
    add-put-unused
    put-unused-requires
    add-result
    same_length
    returns)
