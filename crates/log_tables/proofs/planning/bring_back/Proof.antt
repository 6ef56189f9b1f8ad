-- `log_tables::bring_back` meets its contract. Assumes nothing.
use mathlib.Core.Path.{refl}
use native.Mathlib.Omega.{arith}
use borrow.Author.Rules.{rules}
use Rattle.log_tables.proofs.planning.bring_back.Statement.{statement}
use Rattle.log_tables.proofs.planning.bring_back.Tie as tie

bring-small-requires : tie.Need-bring_small-requires
bring-small-requires c κs = let p = c.requires in (p.0, p.1, p.2, omega (arith, c.if-groups-le-SMALL.true))

same_length : tie.Need-shape_of-area-then-groups-le-SMALL
same_length c = search rules

same-length-2 : tie.Need-shape_of-batch-then-groups-le-SMALL
same-length-2 c = search rules

returns : tie.Need-returns-then-groups-le-SMALL
returns c = let r = c.bring_small.ensures in let d = r.1.0 refl in (r.0, (d.0, d.1))

bring-large-requires : tie.Need-bring_large-requires
bring-large-requires c κs = let p = c.requires in (p.0, p.1, p.2)

same-length-3 : tie.Need-shape_of-area
same-length-3 c = search rules

same-length-4 : tie.Need-shape_of-batch
same-length-4 c = search rules

returns-2 : tie.Need-returns
returns-2 c = let r = c.bring_large.ensures in let d = r.1.0 refl in (r.0, (d.0, d.1))

pub bring_back_spec : {M : Type 1} → statement M
bring_back_spec = tie.close (tie.spec bring-small-requires same_length same-length-2 returns bring-large-requires same-length-3 same-length-4 returns-2)
