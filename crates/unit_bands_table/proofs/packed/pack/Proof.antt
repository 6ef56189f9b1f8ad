-- `unit_bands_table::packed::pack` meets its contract. The loop's invariant: the first `i` bytes are those of the packed table. Assumes nothing.
use Prim.Native.Nat.{◌-◌, ◌≤◌}
use mathlib.Core.Path.{◌≡◌, ◌∙◌}
use native.Mathlib.Omega.{arith}
use borrow.Author.Rules.{rules}
use lib.ListN.{length, length-set}
use Rattle.unit_bands_table.specs.Packed.{pack}
use Rattle.unit_bands_table.proofs.PackLaws.{Alike, pack-first, pack-more, pack-done}
use Rattle.unit_bands_table.proofs.packed.pack.Statement.{statement}
use Rattle.unit_bands_table.proofs.packed.pack.Tie as tie

abbrev invariant-loop : tie.invariant-loop-i
invariant-loop rows packed₀ i₀ packed i = (1 ≤ i) × (i ≤ 192) × (length packed ≡ 192) × (length rows ≤ 160) × Alike i packed (pack rows)

abbrev decreases-loop : tie.decreases-loop-i
decreases-loop rows packed₀ i₀ packed i = 192 - i

cast-packed : tie.Need-overflow_cast-packed invariant-loop decreases-loop
cast-packed c = search rules

slice-write-packed : tie.Need-bounds-packed-0 invariant-loop decreases-loop
slice-write-packed c = search rules

loop-holds : tie.Need-loop-i-init invariant-loop decreases-loop
loop-holds c =
    let a = c.args in
    let p = c.requires in
    (omega arith, omega arith, length-set a.packed.now _ _ ∙ p.1, p.0, pack-first a.rows.now p.0 a.packed.now p.1)

sub-byte : tie.Need-overflow_sub-i invariant-loop decreases-loop
sub-byte c = search rules

byte-requires : tie.Need-byte-requires invariant-loop decreases-loop
byte-requires c κs = search rules

slice-write-packed-2 : tie.Need-bounds-packed-i invariant-loop decreases-loop
slice-write-packed-2 c = omega arith

add-i : tie.Need-overflow_add-i invariant-loop decreases-loop
add-i c = search rules

loop-less : tie.Need-loop-i-smaller invariant-loop decreases-loop
loop-less c = search rules

loop-again : tie.Need-loop-i-preserved invariant-loop decreases-loop
loop-again c =
    let a = c.args in
    let l = c.loop-i in (
      omega arith,
      omega arith,
      length-set l.packed _ _ ∙ l.invariant.2,
      l.invariant.3,
      pack-more a.rows.now l.invariant.3 l.packed l.i _ l.invariant.0 (omega arith) l.invariant.2 c.byte.ensures l.invariant.4,
    )

same_length : tie.Need-shape_of-packed invariant-loop decreases-loop
same_length c = search rules

returns : tie.Need-returns invariant-loop decreases-loop
returns c =
    let l = c.loop-i in
    pack-done _ l.invariant.3 _ l.i (omega arith) l.invariant.2 l.invariant.4

pub pack_spec : {M : Type 1} → statement M
pack_spec =
    tie.close
    (tie.spec
    invariant-loop
    decreases-loop
    cast-packed
    slice-write-packed
    loop-holds
    sub-byte
    byte-requires
    slice-write-packed-2
    add-i
    loop-less
    loop-again
    same_length
    returns)
