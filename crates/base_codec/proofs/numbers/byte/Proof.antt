-- `base_codec::byte` meets its contract. Assumes nothing.
use mathlib.Core.Path.{sym}
use borrow.Author.Rules.{rules}
use native.Mathlib.Omega.{arith}
use Rattle.base_codec.proofs.JoinLaws.{number-one}
use Rattle.base_codec.proofs.numbers.byte.Statement.{statement}
use Rattle.base_codec.proofs.numbers.byte.Tie as tie

shared-slice-read-result : tie.Need-bounds-s-at
shared-slice-read-result c = search rules

cast-result : tie.Need-overflow_cast-result
cast-result c = omega (arith, c.shared_slice_known-1.given c.args.at)

returns : tie.Need-returns
returns c = (sym (number-one _ _), omega (arith, c.shared_slice_known-1.given c.args.at))

pub byte_spec : {M : Type 1} → statement M
byte_spec = tie.close (tie.spec shared-slice-read-result cast-result returns)
