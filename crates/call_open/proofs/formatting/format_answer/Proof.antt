-- `call_open::format_answer` meets its contract: each test is a question. Assumes nothing.
use mathlib.Core.Path.{sym, ◌∙◌}
use native.Mathlib.Omega.{arith}
use Rattle.call_open.proofs.FormatLaws.{format-log-wrong, format-area-wrong, format-batch-short, format-allowed, groups-most, homes-most}
use borrow.Author.Rules.{rules}
use Rattle.call_open.proofs.formatting.format_answer.Statement.{statement}
use Rattle.call_open.proofs.formatting.format_answer.Tie as tie

log-right-requires : tie.Need-log_right-requires
log-right-requires c κs = search rules

returns : tie.Need-returns-then-not-log_right
returns c = format-log-wrong _ _ _ (sym c.log_right.ensures ∙ c.if-not-log_right.true)

data-right-requires : tie.Need-data_right-requires
data-right-requires c κs = search rules

returns-2 : tie.Need-returns-then-not-data_right
returns-2 c = format-area-wrong _ _ _ (sym c.data_right.ensures ∙ c.if-not-data_right.true)

log-groups-requires : tie.Need-log_groups-groups-requires
log-groups-requires c κs = search rules

data-homes-requires : tie.Need-data_homes-homes-requires
data-homes-requires c κs = search rules

mul-if3 : tie.Need-overflow_mul-groups
mul-if3 c =
    omega (
      arith,
      groups-most _ (sym c.log_right.ensures ∙ c.if-not-log_right.false),
      homes-most _ (sym c.data_right.ensures ∙ c.if-not-data_right.false),
      c.log_groups-groups.ensures,
      c.data_homes-homes.ensures,
    )

add-if3 : tie.Need-overflow_add-groups
add-if3 c =
    omega (
      arith,
      groups-most _ (sym c.log_right.ensures ∙ c.if-not-log_right.false),
      homes-most _ (sym c.data_right.ensures ∙ c.if-not-data_right.false),
      c.log_groups-groups.ensures,
      c.data_homes-homes.ensures,
    )

mul-if3-2 : tie.Need-overflow_mul-homes
mul-if3-2 c =
    omega (
      arith,
      groups-most _ (sym c.log_right.ensures ∙ c.if-not-log_right.false),
      homes-most _ (sym c.data_right.ensures ∙ c.if-not-data_right.false),
      c.log_groups-groups.ensures,
      c.data_homes-homes.ensures,
    )

add-if3-2 : tie.Need-overflow_add-groups-2
add-if3-2 c =
    omega (
      arith,
      groups-most _ (sym c.log_right.ensures ∙ c.if-not-log_right.false),
      homes-most _ (sym c.data_right.ensures ∙ c.if-not-data_right.false),
      c.log_groups-groups.ensures,
      c.data_homes-homes.ensures,
    )

returns-3 : tie.Need-returns-then-batch-groups
returns-3 c =
    format-batch-short _ _ _ (sym c.log_right.ensures ∙ c.if-not-log_right.false) (sym c.data_right.ensures ∙ c.if-not-data_right.false)
    (omega (
      arith,
      groups-most _ (sym c.log_right.ensures ∙ c.if-not-log_right.false),
      homes-most _ (sym c.data_right.ensures ∙ c.if-not-data_right.false),
      c.log_groups-groups.ensures,
      c.data_homes-homes.ensures,
    ))

returns-4 : tie.Need-returns
returns-4 c =
    format-allowed _ _ _ (sym c.log_right.ensures ∙ c.if-not-log_right.false) (sym c.data_right.ensures ∙ c.if-not-data_right.false)
    (omega (
      arith,
      groups-most _ (sym c.log_right.ensures ∙ c.if-not-log_right.false),
      homes-most _ (sym c.data_right.ensures ∙ c.if-not-data_right.false),
      c.log_groups-groups.ensures,
      c.data_homes-homes.ensures,
    ))

pub format_answer_spec : {M : Type 1} → statement M
format_answer_spec =
    tie.close
    (tie.spec
    log-right-requires
    returns
    data-right-requires
    returns-2
    log-groups-requires
    data-homes-requires
    mul-if3
    add-if3
    mul-if3-2
    add-if3-2
    returns-3
    returns-4)
