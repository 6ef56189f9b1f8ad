-- `base_areas::copy_entry` meets its contract. Assumes nothing.
use mathlib.Core.Path.{◌∙◌}
use native.Mathlib.Omega.{arith}
use Rattle.base_areas.proofs.GroupLaws.{entry-block}
use borrow.Author.Rules.{rules}
use Rattle.base_areas.proofs.groups.copy_entry.Statement.{statement}
use Rattle.base_areas.proofs.groups.copy_entry.Tie as tie

mul-from : tie.Need-overflow_mul-from
mul-from c = search rules

add-from : tie.Need-overflow_add-from
add-from c = search rules

mul-number : tie.Need-overflow_mul-k
mul-number c = search rules

add-number : tie.Need-overflow_add-k
add-number c = search rules

add-number-2 : tie.Need-overflow_add-from-2
add-number-2 c = search rules

number-requires : tie.Need-number-requires
number-requires c κs = search rules

displaced-requires : tie.Need-displaced-bit-requires
displaced-requires c κs = search rules

mul-copy-with-top-bit : tie.Need-overflow_mul-k-2
mul-copy-with-top-bit c = search rules

add-copy-with-top-bit : tie.Need-overflow_add-k-2
add-copy-with-top-bit c = search rules

add-copy-with-top-bit-2 : tie.Need-overflow_add-from-3
add-copy-with-top-bit-2 c = search rules

copy-with-top-bit-requires : tie.Need-copy_with_top_bit-requires
copy-with-top-bit-requires c κs = search rules

same_length : tie.Need-shape_of-dst
same_length c = search rules

returns : tie.Need-returns
returns c =
    let a = c.args in
    c.copy_with_top_bit.ensures
    ∙ rw (entry-block a.log.now a.slot a.k _ (omega arith) (c.displaced-bit.ensures.0 ∙ rw c.number.ensures.0))

pub copy_entry_spec : {M : Type 1} → statement M
copy_entry_spec =
    tie.close
    (tie.spec
    mul-from
    add-from
    mul-number
    add-number
    add-number-2
    number-requires
    displaced-requires
    mul-copy-with-top-bit
    add-copy-with-top-bit
    add-copy-with-top-bit-2
    copy-with-top-bit-requires
    same_length
    returns)
