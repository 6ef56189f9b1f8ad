-- `log_scan::previous_slot` meets its contract. Assumes nothing.
use native.Mathlib.Omega.{arith}
use Rattle.log_scan.proofs.SlotLaws.{slot-last, slot-before}
use borrow.Author.Rules.{rules}
use Rattle.log_scan.proofs.slots.previous_slot.Statement.{statement}
use Rattle.log_scan.proofs.slots.previous_slot.Tie as tie

sub-t6 : tie.Need-overflow_sub-result
sub-t6 c = search rules

sub-t7 : tie.Need-overflow_sub-result-then-slot-eq0
sub-t7 c = search rules

returns : tie.Need-returns-then-slot-eq0
returns c = (omega arith, λ n. slot-last _ _ n c.if-slot-eq0.true (omega arith))

sub-t8 : tie.Need-overflow_sub-result-2
sub-t8 c = search rules

returns-2 : tie.Need-returns
returns-2 c = (omega arith, λ n. slot-before _ _ n c.if-slot-eq0.false (omega arith))

pub previous_slot_spec : {M : Type 1} → statement M
previous_slot_spec = tie.close (tie.spec sub-t6 sub-t7 returns sub-t8 returns-2)
