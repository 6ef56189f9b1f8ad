-- `log_scan::tag_in` meets its contract. Assumes nothing.
use mathlib.Core.Path.{◌∙◌}
use borrow.Author.Rules.{rules}
use Rattle.log_scan.proofs.GroupLaws.{tag_read}
use Rattle.log_scan.proofs.groups.tag_in.Statement.{statement}
use Rattle.log_scan.proofs.groups.tag_in.Tie as tie

mul-number : tie.Need-overflow_mul-k
mul-number c = search rules

add-number : tie.Need-overflow_add-k
add-number c = search rules

number-requires : tie.Need-number-requires
number-requires c κs = search rules

read-tag-requires : tie.Need-read_tag-requires
read-tag-requires c κs = search rules

returns : tie.Need-returns
returns c = c.read_tag.ensures ∙ tag_read _ _ _ _ _ _ c.number.ensures.0

pub tag_in_spec : {M : Type 1} → statement M
tag_in_spec = tie.close (tie.spec mul-number add-number number-requires read-tag-requires returns)
