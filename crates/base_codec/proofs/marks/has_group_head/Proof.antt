-- `base_codec::has_group_head` meets its contract. Assumes nothing.
use Prim.Native.Nat.{ℕ, ◌%◌, ◌^◌, ◌<◌}
use borrow.Author.Rules.{rules}
use native.Mathlib.Omega.{arith}
use lib.ListN.{get_or}
use Rattle.base_codec.proofs.MarkLaws.{head-word}
use Rattle.base_codec.proofs.marks.has_group_head.Statement.{statement}
use Rattle.base_codec.proofs.marks.has_group_head.Tie as tie

number-requires : tie.Need-number-mark-requires
number-requires c κs = search rules

number-requires-2 : tie.Need-number-requires
number-requires-2 c κs = search rules

mul-result : tie.Need-overflow_mul-result
mul-result c = search rules

add-result : tie.Need-overflow_add-result
add-result c = search rules

returns : tie.Need-returns
returns c =
    let a = c.args in
    let byte : (i : ℕ) → get_or a.s.now i 0 < 256 = λ i. omega (arith, c.shared_slice_known-1.given i) in
    rw (c.number.ensures.0, c.number-mark.ensures.0) (head-word a.s.now a.at (a.n % 2 ^ 48) (omega arith) byte)

pub has_group_head_spec : {M : Type 1} → statement M
has_group_head_spec = tie.close (tie.spec number-requires number-requires-2 mul-result add-result returns)
