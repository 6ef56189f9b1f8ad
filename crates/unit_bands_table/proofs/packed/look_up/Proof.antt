-- `unit_bands_table::packed::look_up` meets its contract. Assumes nothing.
use native.Mathlib.Omega.{arith}
use borrow.Author.Rules.{rules}
use Rattle.unit_bands_table.proofs.TableLaws.{looked-none, looked-few, looked-whole, looked-row}
use Rattle.unit_bands_table.proofs.packed.look_up.Statement.{statement}
use Rattle.unit_bands_table.proofs.packed.look_up.Tie as tie

judge-packed-requires : tie.Need-judge_packed-count-requires
judge-packed-requires c κs = search rules

returns : tie.Need-returns-then-count-eq0
returns c = looked-none _ _ c.judge_packed-count.ensures c.if-count-eq0.true

mul-find : tie.Need-overflow_mul-count
mul-find c = omega (arith, looked-few c.args.packed.now c.args.mm c.judge_packed-count.ensures c.if-count-eq0.false)

add-find : tie.Need-overflow_add-count
add-find c = omega (arith, looked-few c.args.packed.now c.args.mm c.judge_packed-count.ensures c.if-count-eq0.false)

sub-find : tie.Need-slice_bounds-find-count
sub-find c = search rules

part-find-start : tie.Need-slice_bounds-find-start
part-find-start c = search rules

part-find-end : tie.Need-slice_bounds-find-end
part-find-end c = omega (arith, looked-few c.args.packed.now c.args.mm c.judge_packed-count.ensures c.if-count-eq0.false)

find-requires : tie.Need-find-row-requires
find-requires c κs = looked-whole c.args.packed.now c.args.mm c.judge_packed-count.ensures c.if-count-eq0.false

returns-2 : tie.Need-returns
returns-2 c = looked-row _ _ c.judge_packed-count.ensures c.if-count-eq0.false c.find-row.ensures

pub look_up_spec : {M : Type 1} → statement M
look_up_spec =
    tie.close
    (tie.spec
    judge-packed-requires
    returns
    mul-find
    add-find
    sub-find
    part-find-start
    part-find-end
    find-requires
    returns-2)
