-- `base_batch::fence` meets its contract. Assumes nothing.
use borrow.Author.Rules.{rules}
use native.Mathlib.Omega.{arith}
use Rattle.model.specs.Batch.{record_bytes}
use Rattle.base_batch.proofs.records.fence.Statement.{statement}
use Rattle.base_batch.proofs.records.fence.Tie as tie

put-fence-mark-requires : tie.Need-put_fence_mark-requires
put-fence-mark-requires c κs = search rules

add-result : tie.Need-overflow_add-result
add-result c = search rules

same_length : tie.Need-shape_of-batch
same_length c = search rules

returns : tie.Need-returns
unfolding record_bytes
returns c = (omega arith, c.put_fence_mark.ensures)

pub fence_spec : {M : Type 1} → statement M
fence_spec = tie.close (tie.spec put-fence-mark-requires add-result same_length returns)
