-- `log_scan::tag_there` meets its contract. Assumes nothing.
use mathlib.Core.Path.{◌∙◌}
use borrow.Author.Rules.{rules}
use Rattle.log_scan.proofs.groups.tag_there.Statement.{statement}
use Rattle.log_scan.proofs.groups.tag_there.Tie as tie

word-there-requires : tie.Need-word_there-requires
word-there-requires c κs = search rules

read-tag-requires : tie.Need-read_tag-requires
read-tag-requires c κs = search rules

returns : tie.Need-returns
returns c = c.read_tag.ensures ∙ rw c.word_there.ensures

pub tag_there_spec : {M : Type 1} → statement M
tag_there_spec = tie.close (tie.spec word-there-requires read-tag-requires returns)
