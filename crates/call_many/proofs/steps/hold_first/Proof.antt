-- `call_many::hold_first` meets its contract. Assumes nothing.
use mathlib.Core.Path.{◌∙◌}
use Rattle.call_many.proofs.StepLaws.{lent-part, first-size, begun-holds}
use borrow.Author.Rules.{rules}
use native.Mathlib.Omega.{arith}
use Rattle.call_many.proofs.steps.hold_first.Statement.{statement}
use Rattle.call_many.proofs.steps.hold_first.Tie as tie

begin-requires : tie.Need-begin-requires
begin-requires c κs = search rules

writer-requires : tie.Need-writer-r-requires
writer-requires c κs = search rules

sub-store-first : tie.Need-slice_bounds-store_first-count
sub-store-first c = search rules

part-store-first-start : tie.Need-slice_bounds-store_first-start
part-store-first-start c = search rules

part-store-first-end : tie.Need-slice_bounds-store_first-end
part-store-first-end c = search rules

store-first-requires : tie.Need-store_first-requires
store-first-requires c κs =
    let p = c.requires in
    (omega arith, p.1, first-size c.args.blocks.now p.2, begun-holds _ _ _ _ p.0 p.1 c.begin.ensures c.writer-r.ensures)

same_length : tie.Need-shape_of-state
same_length c = search rules

returns : tie.Need-returns
returns c =
    c.store_first.ensures ∙ rw (c.begin.ensures, lent-part c.args.blocks.now 0 64 (omega arith))

pub hold_first_spec : {M : Type 1} → statement M
hold_first_spec =
    tie.close
    (tie.spec
    begin-requires
    writer-requires
    sub-store-first
    part-store-first-start
    part-store-first-end
    store-first-requires
    same_length
    returns)
