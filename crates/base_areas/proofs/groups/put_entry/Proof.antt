-- `base_areas::put_entry` meets its contract. Assumes nothing.
use mathlib.Core.Path.{◌∙◌}
use native.Mathlib.Omega.{arith}
use Rattle.base_areas.proofs.GroupLaws.{entry-written}
use borrow.Author.Rules.{rules}
use Rattle.base_areas.proofs.groups.put_entry.Statement.{statement}
use Rattle.base_areas.proofs.groups.put_entry.Tie as tie

mul_at : tie.Need-overflow_mul-at
mul_at c = search rules

add_at : tie.Need-overflow_add-at
add_at c = search rules

top-bit-requires : tie.Need-top_bit-requires
top-bit-requires c κs = search rules

with-displaced-requires : tie.Need-with_displaced-whole-requires
with-displaced-requires c κs = search rules

mul-put-number : tie.Need-overflow_mul-k
mul-put-number c = search rules

add-put-number : tie.Need-overflow_add-k
add-put-number c = search rules

add-put-number-2 : tie.Need-overflow_add-at-2
add-put-number-2 c = search rules

put-number-requires : tie.Need-put_number-requires
put-number-requires c κs = search rules

mul-copy-with-top-bit : tie.Need-overflow_mul-k-2
mul-copy-with-top-bit c = search rules

add-copy-with-top-bit : tie.Need-overflow_add-k-2
add-copy-with-top-bit c = search rules

add-copy-with-top-bit-2 : tie.Need-overflow_add-at-3
add-copy-with-top-bit-2 c = search rules

copy-with-top-bit-requires : tie.Need-copy_with_top_bit-requires
copy-with-top-bit-requires c κs = search rules

same_length : tie.Need-shape_of-log
same_length c = search rules

returns : tie.Need-returns
returns c =
    let a = c.args in
    c.copy_with_top_bit.ensures
    ∙ rw c.put_number.ensures (entry-written _ a.slot a.turn a.k a.word _ _ (omega arith) (c.with_displaced-whole.ensures ∙ rw c.top_bit.ensures.0))

pub put_entry_spec : {M : Type 1} → statement M
put_entry_spec =
    tie.close
    (tie.spec
    mul_at
    add_at
    top-bit-requires
    with-displaced-requires
    mul-put-number
    add-put-number
    add-put-number-2
    put-number-requires
    mul-copy-with-top-bit
    add-copy-with-top-bit
    add-copy-with-top-bit-2
    copy-with-top-bit-requires
    same_length
    returns)
