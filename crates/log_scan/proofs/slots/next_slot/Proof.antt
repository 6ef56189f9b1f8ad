-- `log_scan::next_slot` meets its contract. Assumes nothing.
use native.Mathlib.Omega.{arith}
use Rattle.log_scan.proofs.SlotLaws.{slot-wraps, slot_next}
use borrow.Author.Rules.{rules}
use Rattle.log_scan.proofs.slots.next_slot.Statement.{statement}
use Rattle.log_scan.proofs.slots.next_slot.Tie as tie

add-slot : tie.Need-overflow_add-slot
add-slot c = search rules

sub-t5 : tie.Need-overflow_sub-result
sub-t5 c = search rules

returns : tie.Need-returns-then-slot-groups
returns c = (omega arith, λ n. slot-wraps _ _ n c.if-slot-groups.true)

returns-2 : tie.Need-returns
returns-2 c = (omega arith, λ n. slot_next _ _ n (omega arith) c.if-slot-groups.false)

pub next_slot_spec : {M : Type 1} → statement M
next_slot_spec = tie.close (tie.spec add-slot sub-t5 returns returns-2)
