-- `log_scan::back_in` meets its contract. Assumes nothing.
use mathlib.Core.Path.{◌∙◌}
use borrow.Author.Rules.{rules}
use Rattle.log_scan.proofs.groups.back_in.Statement.{statement}
use Rattle.log_scan.proofs.groups.back_in.Tie as tie

word-there-requires : tie.Need-word_there-requires
word-there-requires c κs = search rules

tag-back-requires : tie.Need-tag_back-requires
tag-back-requires c κs = search rules

returns : tie.Need-returns
returns c = c.tag_back.ensures ∙ rw c.word_there.ensures

pub back_in_spec : {M : Type 1} → statement M
back_in_spec = tie.close (tie.spec word-there-requires tag-back-requires returns)
