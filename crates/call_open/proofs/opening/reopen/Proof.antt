-- `call_open::reopen` meets its contract. Assumes nothing.
use mathlib.Core.Path.{refl, ◌∙◌}
use native.Mathlib.Omega.{arith}
use Rattle.log_tables.proofs.PlanLaws.{planned}
use Rattle.call_open.proofs.OpenLaws.{openable, open-searchable, area-homes, newest-homes, open-refused, open-short, open_done}
use borrow.Author.Rules.{rules}
use Rattle.call_open.proofs.opening.reopen.Statement.{statement}
use Rattle.call_open.proofs.opening.reopen.Tie as tie

open-answer-requires : tie.Need-open_answer-code-requires
open-answer-requires c κs = search rules

refused-requires : tie.Need-refused-requires
refused-requires c κs = search rules

same_length : tie.Need-shape_of-log-then-code-ne0
same_length c = search rules

same-length-2 : tie.Need-shape_of-area-then-code-ne0
same-length-2 c = search rules

same-length-3 : tie.Need-shape_of-state-then-code-ne0
same-length-3 c = search rules

same-length-4 : tie.Need-shape_of-newest-then-code-ne0
same-length-4 c = search rules

returns : tie.Need-returns-then-code-ne0
returns c = open-refused _ _ _ _ _ _ _ _ _ c.open_answer-code.ensures c.if-code-ne0.true c.refused.ensures

measure-requires : tie.Need-measure-shape-requires
measure-requires c κs = omega (arith, (openable _ _ _ _ _ c.open_answer-code.ensures c.if-code-ne0.false))

mul-more : tie.Need-overflow_mul-more
mul-more c = omega (arith, openable _ _ _ _ _ c.open_answer-code.ensures c.if-code-ne0.false, c.measure-shape.ensures.0)

add-more : tie.Need-overflow_add-more
add-more c = omega (arith, openable _ _ _ _ _ c.open_answer-code.ensures c.if-code-ne0.false, c.measure-shape.ensures.0)

mul-bring-back : tie.Need-overflow_mul-groups
mul-bring-back c = omega (arith, openable _ _ _ _ _ c.open_answer-code.ensures c.if-code-ne0.false, c.measure-shape.ensures.0)

bring-back-requires : tie.Need-bring_back-replay-requires
bring-back-requires c κs =
    let o = openable _ _ _ _ _ c.open_answer-code.ensures c.if-code-ne0.false in
    let s = open-searchable _ _ _ _ _ _ _ o c.measure-shape.ensures in
    (record { long = s.long; least = s.least; most = s.most; homes-most = s.homes-most; low = s.low; within = omega arith }, area-homes _ _ _ _ _ o c.measure-shape.ensures.1, omega (arith, s.most))

refused-requires-2 : tie.Need-refused-requires-then-batch-size
refused-requires-2 c κs = search rules

same-length-5 : tie.Need-shape_of-log-then-batch-size
same-length-5 c = search rules

same-length-6 : tie.Need-shape_of-area-then-batch-size
same-length-6 c = search rules

same-length-7 : tie.Need-shape_of-state-then-batch-size
same-length-7 c = search rules

same-length-8 : tie.Need-shape_of-newest-then-batch-size
same-length-8 c = search rules

same-length-9 : tie.Need-shape_of-batch-then-batch-size
same-length-9 c = search rules

returns-2 : tie.Need-returns-then-batch-size
returns-2 c =
    let s = open-searchable _ _ _ _ _ _ _ (openable _ _ _ _ _ c.open_answer-code.ensures c.if-code-ne0.false) c.measure-shape.ensures in
    let b = c.bring_back-replay in
    let p = planned _ _ _ _ _ _ _ _ s b.ensures.0.ends b.ensures.0.numbered refl in
    open-short _ _ _ _ _ _ _ _ _ _ _ _ c.open_answer-code.ensures c.if-code-ne0.false c.measure-shape.ensures p _ _ _ _ _
    (omega (arith, c.if-batch-size.true, b.ensures.1.0, b.auto)) c.refused-then-batch-size.ensures (b.ensures.1.1.same_area (omega (arith, c.if-batch-size.true, b.auto)))
    (b.ensures.1.1.same-batch (omega (arith, c.if-batch-size.true, b.auto)))

sub-open-records : tie.Need-overflow_sub-size
sub-open-records c = omega (arith, c.bring_back-replay.ensures.1.0)

add-open-records : tie.Need-overflow_add-start
add-open-records c =
    omega (arith, (openable _ _ _ _ _ c.open_answer-code.ensures c.if-code-ne0.false), c.measure-shape.ensures)

open-records-requires : tie.Need-open_records-requires
open-records-requires c κs =
    (omega (arith, c.if-batch-size.false, c.bring_back-replay.ensures.1.0), omega (arith, openable _ _ _ _ _ c.open_answer-code.ensures c.if-code-ne0.false, c.measure-shape.ensures.0))

add-open-copies : tie.Need-overflow_add-start-2
add-open-copies c =
    omega (arith, (openable _ _ _ _ _ c.open_answer-code.ensures c.if-code-ne0.false), c.measure-shape.ensures)

open-copies-requires : tie.Need-open_copies-requires
open-copies-requires c κs =
    let b = c.bring_back-replay in
    let o = (openable _ _ _ _ _ c.open_answer-code.ensures c.if-code-ne0.false) in
    omega (arith, o, b.auto, area-homes _ _ _ _ _ o c.measure-shape.ensures.1, newest-homes _ _ _ _ _ o c.measure-shape.ensures.1, c.measure-shape.ensures.0, c.measure-shape.ensures.2)

done-requires : tie.Need-done-requires
done-requires c κs = search rules

same-length-10 : tie.Need-shape_of-log
same-length-10 c = search rules

same-length-11 : tie.Need-shape_of-area
same-length-11 c = search rules

same-length-12 : tie.Need-shape_of-state
same-length-12 c = search rules

same-length-13 : tie.Need-shape_of-newest
same-length-13 c = search rules

same-length-14 : tie.Need-shape_of-batch
same-length-14 c = search rules

returns-3 : tie.Need-returns
returns-3 c =
    let s = open-searchable _ _ _ _ _ _ _ (openable _ _ _ _ _ c.open_answer-code.ensures c.if-code-ne0.false) c.measure-shape.ensures in
    let b = c.bring_back-replay in
    let d = c.done.ensures in
    let p = planned _ _ _ _ _ _ _ _ s b.ensures.0.ends b.ensures.0.numbered refl in
    let k = c.open_copies.ensures in
    open_done _ _ _ _ _ _ _ _ _ _ _ _ c.open_answer-code.ensures c.if-code-ne0.false c.measure-shape.ensures p _ _ _ _ _ _ _ _ _ _
    (omega (arith, c.if-batch-size.false, b.ensures.1.0, b.auto)) (d.0, d.1, d.2 ∙ b.ensures.1.0)
    (b.ensures.1.1.copied (omega (arith, c.if-batch-size.false, b.auto))) (b.ensures.1.1.written (omega (arith, c.if-batch-size.false, b.auto)))
    c.open_records.ensures (omega (arith, b.ensures.1.0)) k.0 k.1 k.2

pub reopen_spec : {M : Type 1} → statement M
reopen_spec =
    tie.close
    (tie.spec
    open-answer-requires
    refused-requires
    same_length
    same-length-2
    same-length-3
    same-length-4
    returns
    measure-requires
    mul-more
    add-more
    mul-bring-back
    bring-back-requires
    refused-requires-2
    same-length-5
    same-length-6
    same-length-7
    same-length-8
    same-length-9
    returns-2
    sub-open-records
    add-open-records
    open-records-requires
    add-open-copies
    open-copies-requires
    done-requires
    same-length-10
    same-length-11
    same-length-12
    same-length-13
    same-length-14
    returns-3)
