-- `base_areas::log_groups` meets its contract: a log too short for a header has no group. Assumes nothing.
use native.Mathlib.Omega.{arith}
use Rattle.model.specs.Layout.{group_count}
use Rattle.base_areas.proofs.lengths.log_groups.Statement.{statement}
use Rattle.base_areas.proofs.lengths.log_groups.Tie as tie

returns : tie.Need-returns-then-len-lt64
unfolding group_count
returns c = omega arith

returns-2 : tie.Need-returns
unfolding group_count
returns-2 c = omega arith

pub log_groups_spec : {M : Type 1} → statement M
log_groups_spec = tie.close (tie.spec returns returns-2)
