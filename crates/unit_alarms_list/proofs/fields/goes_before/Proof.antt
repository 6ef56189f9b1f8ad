-- `unit_alarms_list::fields::goes_before` meets its contract. Assumes nothing.
use Rattle.unit_alarms_list.proofs.OrderLaws.{by-class, by-second, by-identity}
use Rattle.unit_alarms_list.proofs.fields.goes_before.Statement.{statement}
use Rattle.unit_alarms_list.proofs.fields.goes_before.Tie as tie

returns : tie.Need-returns-then-a-b
returns c = by-class _ _ c.if-a-b.true

returns-2 : tie.Need-returns-then-a-b-2
returns-2 c = by-second _ _ c.if-a-b.false c.if-a-b-2.true

returns-3 : tie.Need-returns
returns-3 c = by-identity _ _ c.if-a-b.false c.if-a-b-2.false

pub goes_before_spec : {M : Type 1} → statement M
goes_before_spec = tie.close (tie.spec returns returns-2 returns-3)
