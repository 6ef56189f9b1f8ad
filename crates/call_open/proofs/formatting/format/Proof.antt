-- `call_open::format` meets its contract: a refusal leaves all as it was, and what is done is what the definition says. Assumes nothing.
use native.Mathlib.Omega.{arith}
use Rattle.call_open.proofs.FormatLaws.{formattable, format-refused, format-done}
use borrow.Author.Rules.{rules}
use Rattle.call_open.proofs.formatting.format.Statement.{statement}
use Rattle.call_open.proofs.formatting.format.Tie as tie

format-answer-requires : tie.Need-format_answer-code-requires
format-answer-requires c κs = search rules

refused-requires : tie.Need-refused-requires
refused-requires c κs = search rules

same_length : tie.Need-shape_of-log-then-code-ne0
same_length c = search rules

same-length-2 : tie.Need-shape_of-area-then-code-ne0
same-length-2 c = search rules

same-length-3 : tie.Need-shape_of-batch-then-code-ne0
same-length-3 c = search rules

returns : tie.Need-returns-then-code-ne0
returns c = format-refused _ _ _ _ _ _ _ c.format_answer-code.ensures c.if-code-ne0.true c.refused.ensures

log-groups-requires : tie.Need-log_groups-groups-requires
log-groups-requires c κs = search rules

data-homes-requires : tie.Need-data_homes-homes-requires
data-homes-requires c κs = search rules

put-empty-log-requires : tie.Need-put_empty_log-requires
put-empty-log-requires c κs =
    omega (arith, formattable _ _ _ _ c.format_answer-code.ensures c.if-code-ne0.false, c.log_groups-groups.ensures)

format-area-requires : tie.Need-format_area-requires
format-area-requires c κs = search rules

format-batch-requires : tie.Need-format_batch-size-requires
format-batch-requires c κs =
    omega (arith, formattable _ _ _ _ c.format_answer-code.ensures c.if-code-ne0.false, c.log_groups-groups.ensures, c.data_homes-homes.ensures)

done-requires : tie.Need-done-requires
done-requires c κs = search rules

same-length-4 : tie.Need-shape_of-log
same-length-4 c = search rules

same-length-5 : tie.Need-shape_of-area
same-length-5 c = search rules

same-length-6 : tie.Need-shape_of-batch
same-length-6 c = search rules

returns-2 : tie.Need-returns
returns-2 c =
    format-done _ _ _ _ _ _ _ _ _ _ _ _ _ c.format_answer-code.ensures c.if-code-ne0.false c.done.ensures c.log_groups-groups.ensures c.data_homes-homes.ensures
    c.put_empty_log.ensures c.format_area.ensures c.format_batch-size.ensures.0.0 c.format_batch-size.ensures.1

pub format_spec : {M : Type 1} → statement M
format_spec =
    tie.close
    (tie.spec
    format-answer-requires
    refused-requires
    same_length
    same-length-2
    same-length-3
    returns
    log-groups-requires
    data-homes-requires
    put-empty-log-requires
    format-area-requires
    format-batch-requires
    done-requires
    same-length-4
    same-length-5
    same-length-6
    returns-2)
