-- `log_gather::tag_home` meets its contract. Assumes nothing.
use Prim.Native.Nat.{◌/◌, ◌^◌}
use native.Mathlib.Omega.{arith}
use lib.Bits.{and_mask}
use Rattle.model.specs.Tag.{field}
use Rattle.log_gather.proofs.walking.tag_home.Statement.{statement}
use Rattle.log_gather.proofs.walking.tag_home.Tie as tie

mul-result : tie.Need-overflow_mul-result
mul-result c = omega (arith, and_mask (c.args.word / 2 ^ 53) 4)

add-result : tie.Need-overflow_add-result
add-result c = omega (arith, and_mask (c.args.word / 2 ^ 2) 12, and_mask (c.args.word / 2 ^ 53) 4)

returns : tie.Need-returns
unfolding field
returns c = omega (arith, and_mask (c.args.word / 2 ^ 2) 12, and_mask (c.args.word / 2 ^ 53) 4)

pub tag_home_spec : {M : Type 1} → statement M
tag_home_spec = tie.close (tie.spec mul-result add-result returns)
