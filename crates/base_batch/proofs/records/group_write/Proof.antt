-- `base_batch::group_write` meets its contract: its pieces stand one after the other. Assumes nothing.
use mathlib.Core.Path.{◌∙◌}
use borrow.Author.Rules.{rules}
use native.Mathlib.Omega.{arith}
use Rattle.base_batch.proofs.RecordLaws.{group-written}
use Rattle.base_batch.proofs.records.group_write.Statement.{statement}
use Rattle.base_batch.proofs.records.group_write.Tie as tie

put-group-write-mark-requires : tie.Need-put_group_write_mark-requires
put-group-write-mark-requires c κs = search rules

add-put-number : tie.Need-overflow_add-at
add-put-number c = search rules

put-number-requires : tie.Need-put_number-requires
put-number-requires c κs = search rules

mul-from : tie.Need-overflow_mul-from
mul-from c = search rules

add-from : tie.Need-overflow_add-from
add-from c = search rules

add-copy : tie.Need-overflow_add-at-2
add-copy c = search rules

add-copy-2 : tie.Need-overflow_add-from-2
add-copy-2 c = search rules

sub-copy : tie.Need-slice_bounds-copy-count
sub-copy c = search rules

part-copy-start : tie.Need-slice_bounds-copy-start
part-copy-start c = search rules

part-copy-end : tie.Need-slice_bounds-copy-end
part-copy-end c = search rules

copy-requires : tie.Need-copy-requires
copy-requires c κs = search rules

add-result : tie.Need-overflow_add-result
add-result c = search rules

same_length : tie.Need-shape_of-batch
same_length c = search rules

returns : tie.Need-returns
returns c =
    let a = c.args in
    (omega arith, c.copy.ensures ∙ rw (c.put_number.ensures, c.put_group_write_mark.ensures) (group-written _ _ a.slot _))

pub group_write_spec : {M : Type 1} → statement M
group_write_spec =
    tie.close
    (tie.spec
    put-group-write-mark-requires
    add-put-number
    put-number-requires
    mul-from
    add-from
    add-copy
    add-copy-2
    sub-copy
    part-copy-start
    part-copy-end
    copy-requires
    add-result
    same_length
    returns)
