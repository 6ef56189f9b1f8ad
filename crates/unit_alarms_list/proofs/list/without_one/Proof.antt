-- `unit_alarms_list::list::without_one` meets its contract. Assumes nothing.
use Prim.Native.Nat.{ℕ, ◌<◌}
use mathlib.Core.Path.{◌∙◌}
use native.Mathlib.Omega.{arith}
use lib.ListN.{get_or}
use Rattle.unit_alarms_list.proofs.PackLaws.{cleared, packed-without}
use borrow.Author.Rules.{rules}
use Rattle.unit_alarms_list.proofs.list.without_one.Statement.{statement}
use Rattle.unit_alarms_list.proofs.list.without_one.Tie as tie

clear-requires : tie.Need-clear-requires
clear-requires c κs = search rules

mul-keep : tie.Need-overflow_mul-i
mul-keep c = search rules

keep-requires : tie.Need-keep-requires
keep-requires c κs = search rules

mul-keep-2 : tie.Need-overflow_mul-i-2
mul-keep-2 c = search rules

add-keep : tie.Need-overflow_add-i
add-keep c = search rules

mul-keep-3 : tie.Need-overflow_mul-i-3
mul-keep-3 c = search rules

add-keep-2 : tie.Need-overflow_add-i-2
add-keep-2 c = search rules

sub-keep : tie.Need-overflow_sub-n
sub-keep c = search rules

sub-keep-2 : tie.Need-overflow_sub-n-2
sub-keep-2 c = search rules

mul-keep-4 : tie.Need-overflow_mul-n
mul-keep-4 c = search rules

keep-requires-2 : tie.Need-keep-requires-2
keep-requires-2 c κs = search rules

sub-seal : tie.Need-overflow_sub-n-3
sub-seal c = search rules

seal-requires : tie.Need-seal-requires
seal-requires c κs = search rules

same_length : tie.Need-shape_of-output
same_length c = search rules

returns : tie.Need-returns
returns c =
    let byte : (i : ℕ) → get_or c.args.s.now i 0 < 256 = λ i. omega (arith, c.shared_slice_known-1.given i) in
    packed-without c.args.s.now byte c.requires.1 (c.clear.ensures ∙ cleared _ c.requires.0) c.args.n c.args.i c.requires.2 c.requires.3
    c.keep.ensures c.keep-2.ensures c.seal.ensures

pub without_one_spec : {M : Type 1} → statement M
without_one_spec =
    tie.close
    (tie.spec
    clear-requires
    mul-keep
    keep-requires
    mul-keep-2
    add-keep
    mul-keep-3
    add-keep-2
    sub-keep
    sub-keep-2
    mul-keep-4
    keep-requires-2
    sub-seal
    seal-requires
    same_length
    returns)
