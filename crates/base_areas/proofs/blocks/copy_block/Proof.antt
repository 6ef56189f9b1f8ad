-- `base_areas::copy_block` meets its contract. Assumes nothing.
use mathlib.Core.Path.{◌∙◌}
use borrow.Author.Rules.{rules}
use Rattle.base_areas.proofs.CopyLaws.{part-copied}
use Rattle.base_areas.proofs.blocks.copy_block.Statement.{statement}
use Rattle.base_areas.proofs.blocks.copy_block.Tie as tie

add-copy : tie.Need-overflow_add-from
add-copy c = search rules

sub-copy : tie.Need-slice_bounds-copy-count
sub-copy c = search rules

part-copy-start : tie.Need-slice_bounds-copy-start
part-copy-start c = search rules

part-copy-end : tie.Need-slice_bounds-copy-end
part-copy-end c = search rules

copy-requires : tie.Need-copy-requires
copy-requires c κs = search rules

same_length : tie.Need-shape_of-dst
same_length c = search rules

returns : tie.Need-returns
returns c =
    let a = c.args in
    c.copy.ensures ∙ part-copied _ _ _ a.from

pub copy_block_spec : {M : Type 1} → statement M
copy_block_spec = tie.close (tie.spec add-copy sub-copy part-copy-start part-copy-end copy-requires same_length returns)
