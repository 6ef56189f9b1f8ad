-- `log_scan::short_slot` meets its contract. Assumes nothing.
use native.Mathlib.Nat.{mod-lt}
use native.Mathlib.Omega.{arith}
use Rattle.log_scan.proofs.SlotLaws.{slot-first}
use borrow.Author.Rules.{rules}
use Rattle.log_scan.proofs.slots.short_slot.Statement.{statement}
use Rattle.log_scan.proofs.slots.short_slot.Tie as tie

rem-t3 : tie.Need-nonzero_rem-result
rem-t3 c = search rules

cast-t4 : tie.Need-overflow_cast-result
cast-t4 c = let k = mod-lt c.args.n c.requires in omega (arith, k)

div-t5 : tie.Need-nonzero_div-result
div-t5 c = search rules

cast-t7 : tie.Need-overflow_cast-result-2
cast-t7 c = search rules

returns : tie.Need-returns
returns c = slot-first _ _ c.requires

pub short_slot_spec : {M : Type 1} → statement M
short_slot_spec = tie.close (tie.spec rem-t3 cast-t4 div-t5 cast-t7 returns)
