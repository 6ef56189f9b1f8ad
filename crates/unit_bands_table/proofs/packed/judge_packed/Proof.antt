-- `unit_bands_table::packed::judge_packed` meets its contract. Assumes nothing.
use mathlib.Core.Path.{refl}
use native.Mathlib.Omega.{arith}
use borrow.Author.Rules.{rules}
use Rattle.unit_bands_table.proofs.TableLaws.{table-long, table-refused, table_taken}
use Rattle.unit_bands_table.proofs.packed.judge_packed.Statement.{statement}
use Rattle.unit_bands_table.proofs.packed.judge_packed.Tie as tie

shared-slice-read-count : tie.Need-bounds-packed-0
shared-slice-read-count c = search rules

cast-count : tie.Need-overflow_cast-count
cast-count c = omega (arith, c.shared_slice_known-2-1.given 0)

returns : tie.Need-returns-then-count-gt32
returns c = table-long _ refl c.if-count-gt32.true

mul-accepts : tie.Need-overflow_mul-count
mul-accepts c = search rules

add-accepts : tie.Need-overflow_add-count
add-accepts c = search rules

sub-accepts : tie.Need-slice_bounds-accepts-count
sub-accepts c = search rules

part-accepts-start : tie.Need-slice_bounds-accepts-start
part-accepts-start c = search rules

part-accepts-end : tie.Need-slice_bounds-accepts-end
part-accepts-end c = search rules

accepts-requires : tie.Need-accepts-requires
accepts-requires c κs = search rules

returns-2 : tie.Need-returns-then-not-accepts
returns-2 c = table-refused _ refl c.if-count-gt32.false c.accepts.ensures (c.if-not-accepts.true)

returns-3 : tie.Need-returns
returns-3 c = table_taken _ refl c.if-count-gt32.false c.accepts.ensures (c.if-not-accepts.false)

pub judge_packed_spec : {M : Type 1} → statement M
judge_packed_spec =
    tie.close
    (tie.spec
    shared-slice-read-count
    cast-count
    returns
    mul-accepts
    add-accepts
    sub-accepts
    part-accepts-start
    part-accepts-end
    accepts-requires
    returns-2
    returns-3)
