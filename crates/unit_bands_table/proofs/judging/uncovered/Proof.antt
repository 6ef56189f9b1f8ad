-- `unit_bands_table::judging::uncovered` meets its contract. Assumes nothing.
use mathlib.Core.Path.{sym, ◌∙◌}
use borrow.Author.Rules.{rules}
use Rattle.unit_bands_table.proofs.RowLaws.{sound-whole}
use Rattle.unit_bands_table.proofs.JudgeLaws.{rising-covered}
use Rattle.unit_bands_table.proofs.judging.uncovered.Statement.{statement}
use Rattle.unit_bands_table.proofs.judging.uncovered.Tie as tie

rising-requires : tie.Need-rising-requires
rising-requires c κs = sound-whole _ c.requires

returns : tie.Need-returns-then-rising
returns c = rising-covered _ c.requires (sym c.rising.ensures ∙ c.if-rising.true)

walk-requires : tie.Need-walk-requires
walk-requires c κs = sound-whole _ c.requires

returns-2 : tie.Need-returns
returns-2 c = search rules

pub uncovered_spec : {M : Type 1} → statement M
uncovered_spec = tie.close (tie.spec rising-requires returns walk-requires returns-2)
