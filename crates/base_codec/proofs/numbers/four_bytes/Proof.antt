-- `base_codec::four_bytes` meets its contract: the upper half stands above the lower. Assumes nothing.
use borrow.Author.Rules.{rules}
use native.Mathlib.Omega.{arith}
use Rattle.base_codec.proofs.JoinLaws.{joined}
use Rattle.base_codec.proofs.numbers.four_bytes.Statement.{statement}
use Rattle.base_codec.proofs.numbers.four_bytes.Tie as tie

two-bytes-requires : tie.Need-two_bytes-requires
two-bytes-requires c κs = search rules

add-two-bytes : tie.Need-overflow_add-at
add-two-bytes c = search rules

two-bytes-requires-2 : tie.Need-two_bytes-requires-2
two-bytes-requires-2 c κs = search rules

returns : tie.Need-returns
returns c = joined 2 2 _ _ _ _ c.two_bytes.ensures c.two_bytes-2.ensures (omega arith)

pub four_bytes_spec : {M : Type 1} → statement M
four_bytes_spec = tie.close (tie.spec two-bytes-requires add-two-bytes two-bytes-requires-2 returns)
