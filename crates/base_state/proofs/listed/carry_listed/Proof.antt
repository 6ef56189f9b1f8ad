-- `base_state::carry_listed` meets its contract. Assumes nothing.
use borrow.Author.Rules.{rules}
use borrow.Author.Tests.{le-leb, lt-leb}
use Rattle.model.specs.Bytes.{part}
use Rattle.model.specs.Newest.{carry_listed}
use Rattle.base_state.proofs.listed.carry_listed.Statement.{statement}
use Rattle.base_state.proofs.listed.carry_listed.Tie as tie

returns : tie.Need-returns-then-homes-lt12
unfolding carry_listed
returns c = rw (lt-leb 12 _ c.if-homes-lt12.true)

sub-set-listed : tie.Need-slice_bounds-set_listed-count
sub-set-listed c = search rules

part-set-listed-start : tie.Need-slice_bounds-set_listed-start
part-set-listed-start c = search rules

part-set-listed-end : tie.Need-slice_bounds-set_listed-end
part-set-listed-end c = search rules

set-listed-requires : tie.Need-set_listed-requires
set-listed-requires c κs = search rules

same_length : tie.Need-shape_of-s
same_length c = search rules

returns-2 : tie.Need-returns
unfolding carry_listed part
returns-2 c = rw (le-leb 12 _ c.if-homes-lt12.false) c.set_listed.ensures

pub carry_listed_spec : {M : Type 1} → statement M
carry_listed_spec =
    tie.close
    (tie.spec
    returns
    sub-set-listed
    part-set-listed-start
    part-set-listed-end
    set-listed-requires
    same_length
    returns-2)
