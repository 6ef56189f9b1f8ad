-- `unit_bands_table::rows::fit` meets its contract. Assumes nothing.
use mathlib.Core.Path.{sym}
use borrow.Author.Rules.{rules}
use Rattle.unit_bands_table.proofs.LoopLaws.{unordered, too-deep, pumps-left}
use Rattle.unit_bands_table.proofs.rows.fit.Statement.{statement}
use Rattle.unit_bands_table.proofs.rows.fit.Tie as tie

add-two-bytes : tie.Need-overflow_add-at
add-two-bytes c = search rules

two-bytes-requires : tie.Need-two_bytes-to-requires
two-bytes-requires c κs = search rules

two-bytes-requires-2 : tie.Need-two_bytes-requires
two-bytes-requires-2 c κs = search rules

returns : tie.Need-returns-then-two_bytes-to
returns c = sym (unordered _ _ c.two_bytes.ensures.0 c.two_bytes-to.ensures.0 c.if-two_bytes-to.true)

returns-2 : tie.Need-returns-then-to-ge-DEPTHS
returns-2 c = sym (too-deep _ _ c.two_bytes.ensures.0 c.two_bytes-to.ensures.0 c.if-two_bytes-to.false c.if-to-ge-DEPTHS.true)

add-result : tie.Need-overflow_add-result
add-result c = search rules

shared-slice-read-result : tie.Need-bounds-s-at
shared-slice-read-result c = search rules

returns-3 : tie.Need-returns
returns-3 c = pumps-left _ _ c.two_bytes.ensures.0 c.two_bytes-to.ensures.0 c.if-two_bytes-to.false c.if-to-ge-DEPTHS.false

pub fit_spec : {M : Type 1} → statement M
fit_spec =
    tie.close
    (tie.spec
    add-two-bytes
    two-bytes-requires
    two-bytes-requires-2
    returns
    returns-2
    add-result
    shared-slice-read-result
    returns-3)
