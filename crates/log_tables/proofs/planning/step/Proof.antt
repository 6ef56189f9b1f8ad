-- `log_tables::step` meets its contract. Assumes nothing.
use native.Mathlib.Omega.{arith}
use borrow.Author.Rules.{rules}
use Rattle.log_tables.proofs.planning.step.Statement.{statement}
use Rattle.log_tables.proofs.planning.step.Tie as tie

bring-small-requires : tie.Need-bring_small-requires
bring-small-requires c κs = let p = c.requires in (p.0, p.1, omega arith, omega (arith, c.if-groups-le-SMALL.true))

same_length : tie.Need-shape_of-area-then-groups-le-SMALL
same_length c = search rules

same-length-2 : tie.Need-shape_of-batch-then-groups-le-SMALL
same-length-2 c = search rules

returns : tie.Need-returns-then-groups-le-SMALL
returns c = let r = c.bring_small.ensures in (r.0, r.1.1 c.requires.2)

bring-large-requires : tie.Need-bring_large-requires
bring-large-requires c κs = let p = c.requires in (p.0, p.1, omega arith)

same-length-3 : tie.Need-shape_of-area
same-length-3 c = search rules

same-length-4 : tie.Need-shape_of-batch
same-length-4 c = search rules

returns-2 : tie.Need-returns
returns-2 c = let r = c.bring_large.ensures in (r.0, r.1.1 c.requires.2)

pub step_spec : {M : Type 1} → statement M
step_spec = tie.close (tie.spec bring-small-requires same_length same-length-2 returns bring-large-requires same-length-3 same-length-4 returns-2)
