-- `log_newest::keep_rest` meets its contract. Assumes nothing.
use mathlib.Core.Path.{refl}
use borrow.Author.Rules.{rules}
use native.Mathlib.Omega.{arith}
use Rattle.log_newest.proofs.KeepLaws.{rest-taken}
use Rattle.log_newest.proofs.commits.keep_rest.Statement.{statement}
use Rattle.log_newest.proofs.commits.keep_rest.Tie as tie

mul-from : tie.Need-overflow_mul-from
mul-from c = search rules

add-from : tie.Need-overflow_add-from
add-from c = search rules

add-group : tie.Need-overflow_add-group
add-group c = search rules

sub-group : tie.Need-slice_bounds-group-count
sub-group c = search rules

part-group-start : tie.Need-slice_bounds-group-start
part-group-start c = search rules

part-group-end : tie.Need-slice_bounds-group-end
part-group-end c = search rules

keep-between-requires : tie.Need-keep_between-requires
keep-between-requires c κs = search rules

same_length : tie.Need-shape_of-newest
same_length c = search rules

returns : tie.Need-returns
returns c before e =
    rest-taken _ _ _ _ _ _ _ _ _ _ _ _ before c.requires.5.same refl (omega arith) (omega arith) c.keep_between.ensures e

pub keep_rest_spec : {M : Type 1} → statement M
keep_rest_spec =
    tie.close
    (tie.spec
    mul-from
    add-from
    add-group
    sub-group
    part-group-start
    part-group-end
    keep-between-requires
    same_length
    returns)
