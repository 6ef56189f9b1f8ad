-- `base_areas::put_home` meets its contract. Assumes nothing.
use mathlib.Core.Path.{◌∙◌}
use borrow.Author.Rules.{rules}
use native.Mathlib.Omega.{arith}
use Rattle.model.specs.Layout.{put_home}
use Rattle.base_areas.proofs.CopyLaws.{whole-block}
use Rattle.base_areas.proofs.homes.put_home.Statement.{statement}
use Rattle.base_areas.proofs.homes.put_home.Tie as tie

mul-copy-block : tie.Need-overflow_mul-home
mul-copy-block c = search rules

copy-block-requires : tie.Need-copy_block-requires
copy-block-requires c κs = search rules

same_length : tie.Need-shape_of-area
same_length c = search rules

returns : tie.Need-returns
unfolding put_home
returns c = c.copy_block.ensures ∙ whole-block _ _ _ (omega arith)

pub put_home_spec : {M : Type 1} → statement M
put_home_spec = tie.close (tie.spec mul-copy-block copy-block-requires same_length returns)
