-- `log_scan::walk_to_256` meets its contract. Assumes nothing.
use native.Mathlib.Omega.{arith}
use borrow.Author.Rules.{rules}
use Rattle.log_scan.proofs.ScanLaws.{zeros-all, zeros-long}
use Rattle.log_scan.proofs.commits.walk_to_256.Statement.{statement}
use Rattle.log_scan.proofs.commits.walk_to_256.Tie as tie

slice-aggregate-walk-with : tie.Need-slice_bounds-walk_with-end
slice-aggregate-walk-with c = search rules

walk-with-requires : tie.Need-walk_with-requires
walk-with-requires c κs =
    let p = c.requires in
    (p.0, p.1, omega arith, p.3, p.4, p.5, zeros-long _ 1792 (omega arith), zeros-all 1792)

returns : tie.Need-returns
returns c = search rules

pub walk_to_256_spec : {M : Type 1} → statement M
walk_to_256_spec = tie.close (tie.spec slice-aggregate-walk-with walk-with-requires returns)
