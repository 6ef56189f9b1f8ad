-- `call_open::format_area` meets its contract. Assumes nothing.
use mathlib.Core.Path.{◌∙◌}
use Rattle.call_open.proofs.FormatLaws.{area-formatted}
use borrow.Author.Rules.{rules}
use Rattle.call_open.proofs.formatting.format_area.Statement.{statement}
use Rattle.call_open.proofs.formatting.format_area.Tie as tie

clear-requires : tie.Need-clear-requires
clear-requires c κs = search rules

same_length : tie.Need-shape_of-area
same_length c = search rules

returns : tie.Need-returns
returns c = c.clear.ensures ∙ area-formatted _

pub format_area_spec : {M : Type 1} → statement M
format_area_spec = tie.close (tie.spec clear-requires same_length returns)
