-- `unit_bands_table::rows::sized` meets its contract. Assumes nothing.
use mathlib.Core.Path.{sym}
use borrow.Author.Rules.{rules}
use Rattle.unit_bands_table.proofs.RowLaws.{sized-none, sized-long, sized-whole}
use Rattle.unit_bands_table.proofs.rows.sized.Statement.{statement}
use Rattle.unit_bands_table.proofs.rows.sized.Tie as tie

returns : tie.Need-returns-then-s-eq0
returns c = sym (sized-none _ c.if-s-eq0.true)

mul-if2 : tie.Need-overflow_mul-t-4
mul-if2 c = search rules

returns-2 : tie.Need-returns-then-s
returns-2 c = sym (sized-long _ c.if-s.true)

returns-3 : tie.Need-returns
returns-3 c = sym (sized-whole _ c.if-s-eq0.false c.if-s.false)

pub sized_spec : {M : Type 1} → statement M
sized_spec = tie.close (tie.spec returns mul-if2 returns-2 returns-3)
