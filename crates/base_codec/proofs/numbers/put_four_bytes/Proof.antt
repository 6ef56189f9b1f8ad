-- `base_codec::put_four_bytes` meets its contract: the upper half goes after the lower. Assumes nothing.
use mathlib.Core.Path.{◌∙◌}
use borrow.Author.Rules.{rules}
use Rattle.base_codec.proofs.JoinLaws.{put-joined}
use Rattle.base_codec.proofs.numbers.put_four_bytes.Statement.{statement}
use Rattle.base_codec.proofs.numbers.put_four_bytes.Tie as tie

put-two-bytes-requires : tie.Need-put_two_bytes-requires
put-two-bytes-requires c κs = search rules

add-put-two-bytes : tie.Need-overflow_add-at
add-put-two-bytes c = search rules

put-two-bytes-requires-2 : tie.Need-put_two_bytes-requires-2
put-two-bytes-requires-2 c κs = search rules

same_length : tie.Need-shape_of-s
same_length c = search rules

returns : tie.Need-returns
returns c =
    c.put_two_bytes-2.ensures ∙ rw c.put_two_bytes.ensures (put-joined 2 2 _ _ _)

pub put_four_bytes_spec : {M : Type 1} → statement M
put_four_bytes_spec = tie.close (tie.spec put-two-bytes-requires add-put-two-bytes put-two-bytes-requires-2 same_length returns)
