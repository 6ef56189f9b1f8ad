-- `base_state::clear` meets its contract: zeros over the whole strip are all of it. Assumes nothing.
use mathlib.Core.Path.{◌∙◌}
use borrow.Author.Rules.{rules}
use native.Mathlib.Omega.{arith}
use Rattle.model.specs.Bytes.{zeros}
use Rattle.model_laws.proofs.bytes.ByteLaws.{puts_whole, length-zeros}
use Rattle.base_state.proofs.fields.clear.Statement.{statement}
use Rattle.base_state.proofs.fields.clear.Tie as tie

clear-requires : tie.Need-clear-requires
clear-requires c κs = search rules

same_length : tie.Need-shape_of-s
same_length c = search rules

returns : tie.Need-returns
returns c = c.clear.ensures ∙ puts_whole _ (zeros 1024) (simp length-zeros (omega arith))

pub clear_spec : {M : Type 1} → statement M
clear_spec = tie.close (tie.spec clear-requires same_length returns)
