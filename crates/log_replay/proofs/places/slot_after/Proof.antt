-- `log_replay::slot_after` meets its contract. Assumes nothing.
use mathlib.Core.Path.{refl}
use native.Mathlib.Omega.{arith}
use borrow.Author.Rules.{rules}
use Rattle.log_replay.proofs.PlaceLaws.{slot-within, slot-past}
use Rattle.log_replay.proofs.places.slot_after.Statement.{statement}
use Rattle.log_replay.proofs.places.slot_after.Tie as tie

add-next : tie.Need-overflow_add-next
add-next c = search rules

returns : tie.Need-returns-then-next-groups
returns c = (slot-within _ _ _ c.if-next-groups.true, c.if-next-groups.true)

returns-2 : tie.Need-returns-else-next-groups
returns-2 c = (slot-past _ _ _ _ (omega arith) (omega arith) c.if-next-groups.false refl, omega arith)

pub slot_after_spec : {M : Type 1} → statement M
slot_after_spec = tie.close (tie.spec add-next returns returns-2)
