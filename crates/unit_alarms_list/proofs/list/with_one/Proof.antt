-- `unit_alarms_list::list::with_one` meets its contract. Assumes nothing.
use Prim.Native.Nat.{ℕ, ◌<◌}
use mathlib.Core.Path.{◌∙◌}
use native.Mathlib.Omega.{arith}
use lib.ListN.{get_or}
use Rattle.unit_alarms_list.proofs.PackLaws.{cleared, packed-with}
use borrow.Author.Rules.{rules}
use Rattle.unit_alarms_list.proofs.list.with_one.Statement.{statement}
use Rattle.unit_alarms_list.proofs.list.with_one.Tie as tie

clear-requires : tie.Need-clear-requires
clear-requires c κs = search rules

mul-keep : tie.Need-overflow_mul-n
mul-keep c = search rules

keep-requires : tie.Need-keep-requires
keep-requires c κs = search rules

mul-put-alarm : tie.Need-overflow_mul-n-2
mul-put-alarm c = search rules

add-put-alarm : tie.Need-overflow_add-n
add-put-alarm c = search rules

put-alarm-requires : tie.Need-put_alarm-requires
put-alarm-requires c κs = search rules

add-seal : tie.Need-overflow_add-n-2
add-seal c = search rules

seal-requires : tie.Need-seal-requires
seal-requires c κs = search rules

same_length : tie.Need-shape_of-output
same_length c = search rules

returns : tie.Need-returns
returns c =
    let byte : (i : ℕ) → get_or c.args.s.now i 0 < 256 = λ i. omega (arith, c.shared_slice_known-1.given i) in
    packed-with c.args.s.now byte c.requires.1 (c.clear.ensures ∙ cleared _ c.requires.0) c.args.n c.args.a c.requires.2 c.requires.3
    c.keep.ensures c.put_alarm.ensures c.seal.ensures

pub with_one_spec : {M : Type 1} → statement M
with_one_spec =
    tie.close
    (tie.spec
    clear-requires
    mul-keep
    keep-requires
    mul-put-alarm
    add-put-alarm
    put-alarm-requires
    add-seal
    seal-requires
    same_length
    returns)
