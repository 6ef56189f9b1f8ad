-- `unit_alarms_list::list::open_count` meets its contract. Assumes nothing.
use Rattle.unit_alarms_list.proofs.WalkLaws.{open-few, open-many}
use borrow.Author.Rules.{rules}
use Rattle.unit_alarms_list.proofs.list.open_count.Statement.{statement}
use Rattle.unit_alarms_list.proofs.list.open_count.Tie as tie

number-requires : tie.Need-number-n-requires
number-requires c κs = search rules

returns : tie.Need-returns-then-n-le48
returns c = open-few _ c.number-n.ensures.0 c.if-n-le48.true

returns-2 : tie.Need-returns-else-n-le48
returns-2 c = open-many _ c.number-n.ensures.0 c.if-n-le48.false

pub open_count_spec : {M : Type 1} → statement M
open_count_spec = tie.close (tie.spec number-requires returns returns-2)
