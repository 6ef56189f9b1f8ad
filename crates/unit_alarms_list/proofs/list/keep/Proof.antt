-- `unit_alarms_list::list::keep` meets its contract. Assumes nothing.
use Prim.Native.Nat.{◌+◌, ◌-◌}
use mathlib.Core.Path.{◌≡◌}
use native.Mathlib.Omega.{arith}
use Rattle.model.specs.Bytes.{part}
use borrow.Author.Rules.{rules}
use Rattle.unit_alarms_list.proofs.list.keep.Statement.{statement}
use Rattle.unit_alarms_list.proofs.list.keep.Tie as tie

add-copy : tie.Need-overflow_add-from
add-copy c = search rules

sub-copy : tie.Need-slice_bounds-copy-count
sub-copy c = search rules

part-copy-start : tie.Need-slice_bounds-copy-start
part-copy-start c = search rules

part-copy-end : tie.Need-slice_bounds-copy-end
part-copy-end c = search rules

copy-requires : tie.Need-copy-requires
copy-requires c κs = search rules

same_length : tie.Need-shape_of-dst
same_length c = search rules

returns : tie.Need-returns
unfolding part
returns c =
    let a = c.args in
    let e : a.from + a.n - a.from ≡ a.n = omega arith in
    rw (← e) c.copy.ensures

pub keep_spec : {M : Type 1} → statement M
keep_spec =
    tie.close
    (tie.spec add-copy sub-copy part-copy-start part-copy-end copy-requires same_length returns)
