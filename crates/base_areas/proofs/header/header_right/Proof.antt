-- `base_areas::header_right` meets its contract: each return follows the tests that led to it. Assumes nothing.
use mathlib.Core.Path.{sym, ◌∙◌}
use borrow.Author.Rules.{rules}
use Rattle.base_areas.proofs.HeaderLaws.{mark-wrong, groups-wrong, homes-wrong, zeros-decide}
use Rattle.base_areas.proofs.header.header_right.Statement.{statement}
use Rattle.base_areas.proofs.header.header_right.Tie as tie

has-header-mark-requires : tie.Need-has_header_mark-requires
has-header-mark-requires c κs = search rules

returns : tie.Need-returns-then-not-has_header_mark
returns c = sym (mark-wrong _ _ _ (sym c.has_header_mark.ensures ∙ c.if-not-has_header_mark.true))

number-requires : tie.Need-number-requires
number-requires c κs = search rules

returns-2 : tie.Need-returns-then-number-groups
returns-2 c =
    sym (groups-wrong _ _ _ (sym c.has_header_mark.ensures ∙ c.if-not-has_header_mark.false) (λ e. c.if-number-groups.true (c.number.ensures.0 ∙ e)))

number-requires-2 : tie.Need-number-requires-2
number-requires-2 c κs = search rules

returns-3 : tie.Need-returns-then-number-homes
returns-3 c =
    sym (homes-wrong _ _ _ (sym c.has_header_mark.ensures ∙ c.if-not-has_header_mark.false) (sym c.number.ensures.0 ∙ c.if-number-groups.false)
    (λ e. c.if-number-homes.true (c.number-2.ensures.0 ∙ e)))

all-zero-requires : tie.Need-all_zero-requires
all-zero-requires c κs = search rules

returns-4 : tie.Need-returns
returns-4 c =
    c.all_zero.ensures
    ∙ sym (zeros-decide _ _ _ (sym c.has_header_mark.ensures ∙ c.if-not-has_header_mark.false) (sym c.number.ensures.0 ∙ c.if-number-groups.false)
    (sym c.number-2.ensures.0 ∙ c.if-number-homes.false))

pub header_right_spec : {M : Type 1} → statement M
header_right_spec =
    tie.close
    (tie.spec
    has-header-mark-requires
    returns
    number-requires
    returns-2
    number-requires-2
    returns-3
    all-zero-requires
    returns-4)
