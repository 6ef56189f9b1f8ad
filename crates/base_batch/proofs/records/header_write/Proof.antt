-- `base_batch::header_write` meets its contract: its pieces stand one after the other. Assumes nothing.
use mathlib.Core.Path.{◌∙◌}
use borrow.Author.Rules.{rules}
use native.Mathlib.Omega.{arith}
use Rattle.base_batch.proofs.RecordLaws.{header-written}
use Rattle.base_batch.proofs.records.header_write.Statement.{statement}
use Rattle.base_batch.proofs.records.header_write.Tie as tie

put-header-write-mark-requires : tie.Need-put_header_write_mark-requires
put-header-write-mark-requires c κs = search rules

add-put-header : tie.Need-overflow_add-at
add-put-header c = search rules

put-header-requires : tie.Need-put_header-requires
put-header-requires c κs = search rules

add-result : tie.Need-overflow_add-result
add-result c = search rules

same_length : tie.Need-shape_of-batch
same_length c = search rules

returns : tie.Need-returns
returns c =
    (omega arith, c.put_header.ensures ∙ rw c.put_header_write_mark.ensures (header-written _ _ _))

pub header_write_spec : {M : Type 1} → statement M
header_write_spec =
    tie.close
    (tie.spec
    put-header-write-mark-requires
    add-put-header
    put-header-requires
    add-result
    same_length
    returns)
