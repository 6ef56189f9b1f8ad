-- `base_writers::begin` meets its contract. Assumes nothing.
use borrow.Author.Rules.{rules}
use Rattle.base_writers.proofs.begin.Statement.{statement}
use Rattle.base_writers.proofs.begin.Tie as tie

writer-requires : tie.Need-writer-r-requires
writer-requires c κs = search rules

begun-requires : tie.Need-begun-requires
begun-requires c κs = search rules

set-writer-requires : tie.Need-set_writer-requires
set-writer-requires c κs = search rules

same_length : tie.Need-shape_of-s
same_length c = search rules

returns : tie.Need-returns
returns c = cc

pub begin_spec : {M : Type 1} → statement M
begin_spec = tie.close (tie.spec writer-requires begun-requires set-writer-requires same_length returns)
