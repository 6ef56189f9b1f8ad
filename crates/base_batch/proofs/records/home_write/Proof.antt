-- `base_batch::home_write` meets its contract: its pieces stand one after the other. Assumes nothing.
use mathlib.Core.Path.{◌∙◌}
use borrow.Author.Rules.{rules}
use native.Mathlib.Omega.{arith}
use Rattle.base_batch.proofs.RecordLaws.{home-written}
use Rattle.base_batch.proofs.records.home_write.Statement.{statement}
use Rattle.base_batch.proofs.records.home_write.Tie as tie

put-home-write-mark-requires : tie.Need-put_home_write_mark-requires
put-home-write-mark-requires c κs = search rules

add-put-number : tie.Need-overflow_add-at
add-put-number c = search rules

put-number-requires : tie.Need-put_number-requires
put-number-requires c κs = search rules

add-copy-block : tie.Need-overflow_add-at-2
add-copy-block c = search rules

mul-copy-block : tie.Need-overflow_mul-home
mul-copy-block c = search rules

copy-block-requires : tie.Need-copy_block-requires
copy-block-requires c κs = search rules

add-result : tie.Need-overflow_add-result
add-result c = search rules

same_length : tie.Need-shape_of-batch
same_length c = search rules

returns : tie.Need-returns
returns c =
    let a = c.args in
    (omega arith, c.copy_block.ensures ∙ rw (c.put_number.ensures, c.put_home_write_mark.ensures) (home-written _ _ a.home _))

pub home_write_spec : {M : Type 1} → statement M
home_write_spec =
    tie.close
    (tie.spec
    put-home-write-mark-requires
    add-put-number
    put-number-requires
    add-copy-block
    mul-copy-block
    copy-block-requires
    add-result
    same_length
    returns)
