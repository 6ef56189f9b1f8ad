-- `log_scan::first_slot` meets its contract. Assumes nothing.
use native.Mathlib.Omega.{arith}
use Rattle.log_scan.proofs.SlotLaws.{slot-first}
use borrow.Author.Rules.{rules}
use Rattle.log_scan.proofs.slots.first_slot.Statement.{statement}
use Rattle.log_scan.proofs.slots.first_slot.Tie as tie

cast-short-slot : tie.Need-overflow_cast-n
cast-short-slot c = search rules

cast-short-slot-2 : tie.Need-overflow_cast-groups
cast-short-slot-2 c = search rules

short-slot-requires : tie.Need-short_slot-requires
short-slot-requires c κs = search rules

returns : tie.Need-returns-then-groups-le4294967295
returns c = search rules

rem-t7 : tie.Need-nonzero_rem-result
rem-t7 c = search rules

div-t8 : tie.Need-nonzero_div-result
div-t8 c = search rules

returns-2 : tie.Need-returns
returns-2 c = slot-first _ _ (omega arith)

pub first_slot_spec : {M : Type 1} → statement M
first_slot_spec =
    tie.close
    (tie.spec
    cast-short-slot
    cast-short-slot-2
    short-slot-requires
    returns
    rem-t7
    div-t8
    returns-2)
