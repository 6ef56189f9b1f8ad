-- `log_scan::count_entry` meets its contract. Assumes nothing.
use mathlib.Core.Path.{refl}
use borrow.Author.Rules.{rules}
use Rattle.log_scan.specs.Scan.{counted}
use Rattle.log_scan.proofs.commits.count_entry.Statement.{statement}
use Rattle.log_scan.proofs.commits.count_entry.Tie as tie

mul-n : tie.Need-offset_bounds-counts-i
mul-n c = search rules

slice-read-n : tie.Need-bounds-counts-i
slice-read-n c = search rules

add-n : tie.Need-overflow_add-n
add-n c = search rules

mul-counts : tie.Need-offset_bounds-counts-i-2
mul-counts c = search rules

slice-write-counts : tie.Need-bounds-counts-i-2
slice-write-counts c = search rules

cast-result : tie.Need-overflow_cast-result
cast-result c = search rules

same_length : tie.Need-shape_of-counts
same_length c = search rules

returns : tie.Need-returns
unfolding counted
returns c = (refl, refl)

pub count_entry_spec : {M : Type 1} → statement M
count_entry_spec =
    tie.close
    (tie.spec
    mul-n
    slice-read-n
    add-n
    mul-counts
    slice-write-counts
    cast-result
    same_length
    returns)
