-- `base_codec::top_bit` meets its contract. Assumes nothing.
use borrow.Author.Rules.{rules}
use Prim.Native.Nat.{◌+◌}
use native.Mathlib.Omega.{arith}
use Rattle.base_codec.proofs.TopBitLaws.{top_read}
use Rattle.base_codec.proofs.turns.top_bit.Statement.{statement}
use Rattle.base_codec.proofs.turns.top_bit.Tie as tie

add-result : tie.Need-overflow_add-result
add-result c = search rules

shared-slice-read-result : tie.Need-bounds-s-at
shared-slice-read-result c = search rules

cast-result : tie.Need-overflow_cast-result
cast-result c = omega (arith, c.shared_slice_known-1.given (c.args.at + 63))

returns : tie.Need-returns
returns c =
    let a = c.args in
    top_read a.s.now a.at (omega (arith, c.shared_slice_known-1.given (a.at + 63)))

pub top_bit_spec : {M : Type 1} → statement M
top_bit_spec = tie.close (tie.spec add-result shared-slice-read-result cast-result returns)
