-- `log_newest::keep_one` meets its contract. Assumes nothing.
use mathlib.Core.Path.{refl}
use native.Mathlib.Omega.{arith}
use Rattle.log_newest.proofs.KeepLaws.{rest-taken, taken_start, kept-all}
use borrow.Author.Rules.{rules}
use Rattle.log_newest.proofs.commits.keep_one.Statement.{statement}
use Rattle.log_newest.proofs.commits.keep_one.Tie as tie

first-slot-requires : tie.Need-first_slot-ring-requires
first-slot-requires c κs = search rules

mul-from : tie.Need-overflow_mul-from
mul-from c = search rules

add-from : tie.Need-overflow_add-from
add-from c = search rules

add-group : tie.Need-overflow_add-group
add-group c = search rules

sub-group : tie.Need-slice_bounds-group-count
sub-group c = search rules

part-group-start : tie.Need-slice_bounds-group-start
part-group-start c = search rules

part-group-end : tie.Need-slice_bounds-group-end
part-group-end c = search rules

keep-alone-requires : tie.Need-keep_alone-requires
keep-alone-requires c κs = search rules

same_length : tie.Need-shape_of-newest
same_length c = search rules

returns : tie.Need-returns
returns c =
    kept-all _ _ _ _ _ _ _ (omega arith) (omega arith)
    (rest-taken _ _ _ _ _ _ _ _ _ _ _ _ _ c.first_slot-ring.ensures.same refl (omega arith) (omega arith) c.keep_alone.ensures
    (taken_start _ _ _ _ _ _ _ _ (omega arith) (omega arith)))

pub keep_one_spec : {M : Type 1} → statement M
keep_one_spec =
    tie.close
    (tie.spec
    first-slot-requires
    mul-from
    add-from
    add-group
    sub-group
    part-group-start
    part-group-end
    keep-alone-requires
    same_length
    returns)
