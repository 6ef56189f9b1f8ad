-- `base_areas::get_home` meets its contract: the home fills the block. Assumes nothing.
use mathlib.Core.Path.{◌∙◌}
use borrow.Author.Rules.{rules}
use native.Mathlib.Omega.{arith}
use Rattle.base_areas.proofs.CopyLaws.{home-read}
use Rattle.base_areas.proofs.homes.get_home.Statement.{statement}
use Rattle.base_areas.proofs.homes.get_home.Tie as tie

mul-copy-block : tie.Need-overflow_mul-home
mul-copy-block c = search rules

copy-block-requires : tie.Need-copy_block-requires
copy-block-requires c κs = search rules

same_length : tie.Need-shape_of-block
same_length c = search rules

returns : tie.Need-returns
returns c = c.copy_block.ensures ∙ home-read _ _ _ (omega arith) (omega arith)

pub get_home_spec : {M : Type 1} → statement M
get_home_spec = tie.close (tie.spec mul-copy-block copy-block-requires same_length returns)
