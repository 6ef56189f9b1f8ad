-- `kagutin_pump_start` meets its contract: the pump, the reading, and the end by the book's own answer. Assumes nothing.
use mathlib.Core.Path.{refl}
use native.Mathlib.Omega.{arith}
use Rattle.model.specs.Bytes.{zeros}
use Rattle.unit_shared.proofs.UnitLaws.{event-unread, event-read}
use Rattle.unit_hours.proofs.CallLaws.{judging, event-unknown, event-known}
use borrow.Author.Rules.{rules}
use Rattle.unit_hours.proofs.kagutin_pump_start.Statement.{statement}
use Rattle.unit_hours.proofs.kagutin_pump_start.Tie as tie

refused-requires : tie.Need-refused-requires
refused-requires c κs = search rules

returns : tie.Need-returns-then-pump-gt-LAST_PUMP
returns c =
    let d = c.refused.ensures in
    event-unknown _ _ _ _ c.if-pump-gt-LAST_PUMP.true d.0 d.1 d.2

add-home : tie.Need-overflow_add-home
add-home c = search rules

slice-aggregate-kagutin-revise : tie.Need-slice_bounds-kagutin_revise-end
slice-aggregate-kagutin-revise c = search rules

kagutin-revise-requires : tie.Need-kagutin_revise-read-requires
kagutin-revise-requires c κs = search rules

refused-requires-2 : tie.Need-refused-requires-then-read-ne0
refused-requires-2 c κs = search rules

same_length : tie.Need-shape_of-log-then-read-ne0
same_length c = search rules

same-length-2 : tie.Need-shape_of-state-then-read-ne0
same-length-2 c = search rules

same-length-3 : tie.Need-shape_of-newest-then-read-ne0
same-length-3 c = search rules

returns-2 : tie.Need-returns-then-read-ne0
unfolding zeros
returns-2 c =
    let d = c.refused-then-read-ne0.ensures in
    event-known _ _ _ _ (omega (arith, c.if-pump-gt-LAST_PUMP.false))
    (event-unread _ _ _ _ _ _ _ _ _ refl _ c.kagutin_revise-read.ensures c.if-read-ne0.true d.0 d.1 d.2)

slice-aggregate-start : tie.Need-slice_bounds-start-end
slice-aggregate-start c = search rules

start-requires : tie.Need-start-code-requires
start-requires c κs = search rules

slice-aggregate-finish : tie.Need-slice_bounds-finish-end
slice-aggregate-finish c = search rules

finish-requires : tie.Need-finish-requires
finish-requires c κs = search rules

same-length-4 : tie.Need-shape_of-log
same-length-4 c = search rules

same-length-5 : tie.Need-shape_of-state
same-length-5 c = search rules

same-length-6 : tie.Need-shape_of-newest
same-length-6 c = search rules

same-length-7 : tie.Need-shape_of-batch
same-length-7 c = search rules

returns-3 : tie.Need-returns
unfolding zeros
returns-3 c =
    event-known _ _ _ _ (omega (arith, c.if-pump-gt-LAST_PUMP.false))
    (event-read _ _ _ _ _ _ _ _ _ refl _ c.kagutin_revise-read.ensures c.if-read-ne0.false _ _ (judging _ _ c.start-code.ensures)
    c.finish.ensures)

pub kagutin_pump_start_spec : {M : Type 1} → statement M
kagutin_pump_start_spec =
    tie.close
    (tie.spec
    refused-requires
    returns
    add-home
    slice-aggregate-kagutin-revise
    kagutin-revise-requires
    refused-requires-2
    same_length
    same-length-2
    same-length-3
    returns-2
    slice-aggregate-start
    start-requires
    slice-aggregate-finish
    finish-requires
    same-length-4
    same-length-5
    same-length-6
    same-length-7
    returns-3)
