-- `base_codec::put_number` meets its contract: each width in use is written in its parts. Assumes nothing.
use mathlib.Core.Path.{◌∙◌}
use borrow.Author.Rules.{rules}
use Rattle.base_codec.proofs.JoinLaws.{put-joined}
use Rattle.base_codec.proofs.numbers.put_number.Statement.{statement}
use Rattle.base_codec.proofs.numbers.put_number.Tie as tie

put-four-bytes-requires : tie.Need-put_four_bytes-requires
put-four-bytes-requires c κs = search rules

add-put-four-bytes : tie.Need-overflow_add-at
add-put-four-bytes c = search rules

put-four-bytes-requires-2 : tie.Need-put_four_bytes-requires-then-k-eq8
put-four-bytes-requires-2 c κs = search rules

same_length : tie.Need-shape_of-s-then-k-eq8
same_length c = search rules

returns : tie.Need-returns-then-k-eq8
returns c =
    let a = c.args in
    rw c.if-k-eq8.true (c.put_four_bytes-then-k-eq8.ensures ∙ rw c.put_four_bytes.ensures (put-joined 4 4 _ a.at a.v))

put-four-bytes-requires-3 : tie.Need-put_four_bytes-requires-then-k-eq6
put-four-bytes-requires-3 c κs = search rules

add-put-two-bytes : tie.Need-overflow_add-at-then-k-eq6
add-put-two-bytes c = search rules

put-two-bytes-requires : tie.Need-put_two_bytes-requires
put-two-bytes-requires c κs = search rules

same-length-2 : tie.Need-shape_of-s-then-k-eq6
same-length-2 c = search rules

returns-2 : tie.Need-returns-then-k-eq6
returns-2 c =
    let a = c.args in
    rw c.if-k-eq6.true (c.put_two_bytes.ensures ∙ rw c.put_four_bytes-then-k-eq6.ensures (put-joined 4 2 _ a.at a.v))

put-two-bytes-requires-2 : tie.Need-put_two_bytes-requires-then-k-eq2
put-two-bytes-requires-2 c κs = search rules

same-length-3 : tie.Need-shape_of-s-then-k-eq2
same-length-3 c = search rules

returns-3 : tie.Need-returns-then-k-eq2
returns-3 c = rw c.if-k-eq2.true c.put_two_bytes-then-k-eq2.ensures

put-each-byte-requires : tie.Need-put_each_byte-requires
put-each-byte-requires c κs = search rules

same-length-4 : tie.Need-shape_of-s
same-length-4 c = search rules

returns-4 : tie.Need-returns
returns-4 c = search rules

pub put_number_spec : {M : Type 1} → statement M
put_number_spec =
    tie.close
    (tie.spec
    put-four-bytes-requires
    add-put-four-bytes
    put-four-bytes-requires-2
    same_length
    returns
    put-four-bytes-requires-3
    add-put-two-bytes
    put-two-bytes-requires
    same-length-2
    returns-2
    put-two-bytes-requires-2
    same-length-3
    returns-3
    put-each-byte-requires
    same-length-4
    returns-4)
