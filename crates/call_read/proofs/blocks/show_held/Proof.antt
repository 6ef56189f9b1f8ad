-- `call_read::show_held` meets its contract. Assumes nothing.
use mathlib.Core.Path.{◌∙◌}
use borrow.Author.Rules.{rules}
use Rattle.call_read.proofs.ReadLaws.{held-copied}
use Rattle.call_read.proofs.blocks.show_held.Statement.{statement}
use Rattle.call_read.proofs.blocks.show_held.Tie as tie

mul-copy-block : tie.Need-overflow_mul-w
mul-copy-block c = search rules

add-copy-block : tie.Need-overflow_add-w
add-copy-block c = search rules

copy-block-requires : tie.Need-copy_block-requires
copy-block-requires c κs = search rules

same_length : tie.Need-shape_of-block
same_length c = search rules

returns : tie.Need-returns
returns c =
    let p = c.requires in
    c.copy_block.ensures ∙ held-copied _ _ _ p.0 p.1 p.2

pub show_held_spec : {M : Type 1} → statement M
show_held_spec =
    tie.close
    (tie.spec
    mul-copy-block
    add-copy-block
    copy-block-requires
    same_length
    returns)
