-- `unit_alarms_list::fields::class_known` meets its contract. Assumes nothing.
use Rattle.unit_alarms_list.proofs.OrderLaws.{class_low, class-above}
use Rattle.unit_alarms_list.proofs.fields.class_known.Statement.{statement}
use Rattle.unit_alarms_list.proofs.fields.class_known.Tie as tie

returns : tie.Need-returns-then-class-lt1
returns c = class_low _ c.if-class-lt1.true

returns-2 : tie.Need-returns
returns-2 c = class-above _ c.if-class-lt1.false

pub class_known_spec : {M : Type 1} → statement M
class_known_spec = tie.close (tie.spec returns returns-2)
