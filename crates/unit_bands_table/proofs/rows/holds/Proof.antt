-- `unit_bands_table::rows::holds` meets its contract. Assumes nothing.
use mathlib.Core.Path.{sym}
use borrow.Author.Rules.{rules}
use Rattle.unit_bands_table.proofs.LoopLaws.{above-it, end-left}
use Rattle.unit_bands_table.proofs.rows.holds.Statement.{statement}
use Rattle.unit_bands_table.proofs.rows.holds.Tie as tie

two-bytes-requires : tie.Need-two_bytes-requires
two-bytes-requires c κs = search rules

returns : tie.Need-returns-then-mm-two_bytes
returns c = sym (above-it _ _ _ c.two_bytes.ensures.0 c.if-mm-two_bytes.true)

add-two-bytes : tie.Need-overflow_add-at
add-two-bytes c = search rules

two-bytes-requires-2 : tie.Need-two_bytes-requires-2
two-bytes-requires-2 c κs = search rules

returns-2 : tie.Need-returns
returns-2 c = end-left _ _ _ c.two_bytes.ensures.0 c.two_bytes-2.ensures.0 c.if-mm-two_bytes.false

pub holds_spec : {M : Type 1} → statement M
holds_spec =
    tie.close (tie.spec two-bytes-requires returns add-two-bytes two-bytes-requires-2 returns-2)
