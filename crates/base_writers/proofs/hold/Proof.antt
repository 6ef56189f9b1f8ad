-- `base_writers::hold` meets its contract. Assumes nothing.
use borrow.Author.Rules.{rules}
use Rattle.base_writers.proofs.hold.Statement.{statement}
use Rattle.base_writers.proofs.hold.Tie as tie

held-requires : tie.Need-held-requires
held-requires c κs = search rules

set-writer-requires : tie.Need-set_writer-requires
set-writer-requires c κs = search rules

same_length : tie.Need-shape_of-s
same_length c = search rules

returns : tie.Need-returns
returns c = cc

pub hold_spec : {M : Type 1} → statement M
hold_spec = tie.close (tie.spec held-requires set-writer-requires same_length returns)
