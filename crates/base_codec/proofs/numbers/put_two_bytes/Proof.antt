-- `base_codec::put_two_bytes` meets its contract. Assumes nothing.
use borrow.Author.Rules.{rules}
use native.Mathlib.Omega.{arith}
use lib.ListN.{length-set}
use Rattle.base_codec.proofs.JoinLaws.{put_two}
use Rattle.base_codec.proofs.numbers.put_two_bytes.Statement.{statement}
use Rattle.base_codec.proofs.numbers.put_two_bytes.Tie as tie

cast-s : tie.Need-overflow_cast-s
cast-s c = search rules

slice-write-s : tie.Need-bounds-s-at
slice-write-s c = search rules

cast-s-2 : tie.Need-overflow_cast-s-2
cast-s-2 c = search rules

add-s : tie.Need-overflow_add-s
add-s c = search rules

slice-write-s-2 : tie.Need-bounds-s-at-2
slice-write-s-2 c = simp length-set (omega arith)

same_length : tie.Need-shape_of-s
same_length c = search rules

returns : tie.Need-returns
returns c = put_two _ _ _

pub put_two_bytes_spec : {M : Type 1} → statement M
put_two_bytes_spec = tie.close (tie.spec cast-s slice-write-s cast-s-2 add-s slice-write-s-2 same_length returns)
