-- `base_areas::header_start` meets its contract. Assumes nothing.
use borrow.Author.Rules.{rules}
use native.Mathlib.Omega.{arith}
use Rattle.model.specs.Layout.{header_start}
use Rattle.base_areas.proofs.header.header_start.Statement.{statement}
use Rattle.base_areas.proofs.header.header_start.Tie as tie

number-requires : tie.Need-number-requires
number-requires c κs = search rules

returns : tie.Need-returns
unfolding header_start
returns c = (c.number.ensures.0, omega arith)

pub header_start_spec : {M : Type 1} → statement M
header_start_spec = tie.close (tie.spec number-requires returns)
