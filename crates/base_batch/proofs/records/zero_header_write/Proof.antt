-- `base_batch::zero_header_write` meets its contract: its pieces stand one after the other. Assumes nothing.
use mathlib.Core.Path.{◌∙◌}
use borrow.Author.Rules.{rules}
use native.Mathlib.Omega.{arith}
use Rattle.base_batch.proofs.RecordLaws.{header-written}
use Rattle.base_batch.proofs.records.zero_header_write.Statement.{statement}
use Rattle.base_batch.proofs.records.zero_header_write.Tie as tie

put-header-write-mark-requires : tie.Need-put_header_write_mark-requires
put-header-write-mark-requires c κs = search rules

add-clear : tie.Need-overflow_add-at
add-clear c = search rules

clear-requires : tie.Need-clear-requires
clear-requires c κs = search rules

add-result : tie.Need-overflow_add-result
add-result c = search rules

same_length : tie.Need-shape_of-batch
same_length c = search rules

returns : tie.Need-returns
returns c =
    (omega arith, c.clear.ensures ∙ rw c.put_header_write_mark.ensures (header-written _ _ _))

pub zero_header_write_spec : {M : Type 1} → statement M
zero_header_write_spec =
    tie.close
    (tie.spec
    put-header-write-mark-requires
    add-clear
    clear-requires
    add-result
    same_length
    returns)
