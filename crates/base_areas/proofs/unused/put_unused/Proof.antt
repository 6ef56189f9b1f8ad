-- `base_areas::put_unused` meets its contract: zeros, then the blocks with a turn bit. Assumes nothing.
use mathlib.Core.Path.{◌∙◌}
use Rattle.base_areas.proofs.UnusedLaws.{unused-written}
use borrow.Author.Rules.{rules}
use Rattle.base_areas.proofs.unused.put_unused.Statement.{statement}
use Rattle.base_areas.proofs.unused.put_unused.Tie as tie

clear-requires : tie.Need-clear-requires
clear-requires c κs = search rules

add-put-turn-blocks : tie.Need-overflow_add-at
add-put-turn-blocks c = search rules

put-turn-blocks-requires : tie.Need-put_turn_blocks-requires
put-turn-blocks-requires c κs = search rules

same_length : tie.Need-shape_of-dst
same_length c = search rules

returns : tie.Need-returns
returns c = c.put_turn_blocks.ensures ∙ rw c.clear.ensures (unused-written _ _ _)

pub put_unused_spec : {M : Type 1} → statement M
put_unused_spec =
    tie.close
    (tie.spec clear-requires add-put-turn-blocks put-turn-blocks-requires same_length returns)
