-- `base_codec::plain_home` meets its contract. Assumes nothing.
use native.Mathlib.Omega.{arith}
use lib.Bits.{xor_lt}
use Rattle.base_codec.proofs.PlainLaws.{apart-sum}
use Rattle.base_codec.proofs.plain.plain_home.Statement.{statement}
use Rattle.base_codec.proofs.plain.plain_home.Tie as tie

add-result : tie.Need-overflow_add-result
add-result c = omega (arith, xor_lt 64 c.args.word c.args.plain (omega arith) (omega arith))

returns : tie.Need-returns
returns c home back bit h m l e f = apart-sum _ _ home back bit h m e f l

pub plain_home_spec : {M : Type 1} → statement M
plain_home_spec = tie.close (tie.spec add-result returns)
