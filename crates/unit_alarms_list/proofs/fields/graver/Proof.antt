-- `unit_alarms_list::fields::graver` meets its contract. Assumes nothing.
use mathlib.Core.Path.{sym, ◌∙◌}
use Rattle.unit_alarms_list.proofs.OrderLaws.{graver-second, graver-first}
use borrow.Author.Rules.{rules}
use Rattle.unit_alarms_list.proofs.fields.graver.Statement.{statement}
use Rattle.unit_alarms_list.proofs.fields.graver.Tie as tie

goes-before-requires : tie.Need-goes_before-requires
goes-before-requires c κs = search rules

returns : tie.Need-returns-then-goes_before
returns c = graver-second _ _ (sym c.goes_before.ensures ∙ c.if-goes_before.true)

returns-2 : tie.Need-returns-else-goes_before
returns-2 c = graver-first _ _ (sym c.goes_before.ensures ∙ c.if-goes_before.false)

pub graver_spec : {M : Type 1} → statement M
graver_spec = tie.close (tie.spec goes-before-requires returns returns-2)
