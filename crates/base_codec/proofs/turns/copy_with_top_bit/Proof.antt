-- `base_codec::copy_with_top_bit` meets its contract: the last byte is written over once the block is copied. Assumes nothing.
use borrow.Author.Rules.{rules}
use Prim.Native.Nat.{◌+◌}
use native.Mathlib.Omega.{arith}
use Rattle.base_codec.proofs.TopBitLaws.{top-replaced}
use Rattle.base_codec.proofs.turns.copy_with_top_bit.Statement.{statement}
use Rattle.base_codec.proofs.turns.copy_with_top_bit.Tie as tie

add-copy : tie.Need-overflow_add-from
add-copy c = search rules

sub-copy : tie.Need-slice_bounds-copy-count
sub-copy c = search rules

part-copy-start : tie.Need-slice_bounds-copy-start
part-copy-start c = search rules

part-copy-end : tie.Need-slice_bounds-copy-end
part-copy-end c = search rules

copy-requires : tie.Need-copy-requires
copy-requires c κs = search rules

add-dst : tie.Need-overflow_add-dst
add-dst c = search rules

shared-slice-read-dst : tie.Need-bounds-src-from
shared-slice-read-dst c = search rules

cast-dst : tie.Need-overflow_cast-dst
cast-dst c = search rules

mul-dst : tie.Need-overflow_mul-dst
mul-dst c = search rules

add-dst-2 : tie.Need-overflow_add-dst-2
add-dst-2 c = search rules

add-dst-3 : tie.Need-overflow_add-dst-3
add-dst-3 c = search rules

slice-write-dst : tie.Need-bounds-dst-at
slice-write-dst c = search rules

same_length : tie.Need-shape_of-dst
same_length c = search rules

returns : tie.Need-returns
returns c =
    let a = c.args in
    top-replaced _ _ a.at a.src.now a.from a.bit (omega arith) (omega (arith, c.shared_slice_known-2-1.given (a.from + 63))) c.copy.ensures

pub copy_with_top_bit_spec : {M : Type 1} → statement M
copy_with_top_bit_spec =
    tie.close
    (tie.spec
    add-copy
    sub-copy
    part-copy-start
    part-copy-end
    copy-requires
    add-dst
    shared-slice-read-dst
    cast-dst
    mul-dst
    add-dst-2
    add-dst-3
    slice-write-dst
    same_length
    returns)
