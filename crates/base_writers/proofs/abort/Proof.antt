-- `base_writers::abort` meets its contract. Assumes nothing.
use borrow.Author.Rules.{rules}
use Rattle.base_writers.proofs.abort.Statement.{statement}
use Rattle.base_writers.proofs.abort.Tie as tie

writer-requires : tie.Need-writer-r-requires
writer-requires c κs = search rules

aborted-requires : tie.Need-aborted-requires
aborted-requires c κs = search rules

set-writer-requires : tie.Need-set_writer-requires
set-writer-requires c κs = search rules

same_length : tie.Need-shape_of-s
same_length c = search rules

returns : tie.Need-returns
returns c = cc

pub abort_spec : {M : Type 1} → statement M
abort_spec = tie.close (tie.spec writer-requires aborted-requires set-writer-requires same_length returns)
