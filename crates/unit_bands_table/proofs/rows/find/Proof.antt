-- `unit_bands_table::rows::find` meets its contract. Assumes nothing.
use Prim.Native.Nat.{◌+◌}
use mathlib.Core.Path.{sym, ◌∙◌}
use native.Mathlib.Omega.{arith}
use borrow.Author.Rules.{rules}
use Rattle.unit_bands_table.proofs.LoopLaws.{place-blank, place-row, row_read}
use Rattle.unit_bands_table.proofs.rows.find.Statement.{statement}
use Rattle.unit_bands_table.proofs.rows.find.Tie as tie

holder-requires : tie.Need-holder-at-requires
holder-requires c κs = search rules

returns : tie.Need-returns-then-at-s
returns c = sym (place-blank _ _ c.requires c.holder-at.ensures c.if-at-s.true)

two-bytes-requires : tie.Need-two_bytes-requires
two-bytes-requires c κs = search rules

add-two-bytes : tie.Need-overflow_add-at
add-two-bytes c = search rules

two-bytes-requires-2 : tie.Need-two_bytes-requires-2
two-bytes-requires-2 c κs = search rules

add-t8 : tie.Need-overflow_add-result
add-t8 c = search rules

shared-slice-read-t10 : tie.Need-bounds-s-at
shared-slice-read-t10 c = search rules

cast-t11 : tie.Need-overflow_cast-result
cast-t11 c = omega (arith, c.shared_slice_known-2-1.given (c.holder-at.result + 4))

returns-2 : tie.Need-returns
returns-2 c =
    row_read _ _ c.two_bytes.ensures.0 c.two_bytes-2.ensures.0
    ∙ sym (place-row _ _ c.requires c.holder-at.ensures c.if-at-s.false)

pub find_spec : {M : Type 1} → statement M
find_spec =
    tie.close
    (tie.spec
    holder-requires
    returns
    two-bytes-requires
    add-two-bytes
    two-bytes-requires-2
    add-t8
    shared-slice-read-t10
    cast-t11
    returns-2)
