-- `log_scan::group_valid` meets its contract: each return follows the tests that led to it. Assumes nothing.
use mathlib.Core.Path.{sym, ◌∙◌}
use borrow.Author.Rules.{rules}
use native.Mathlib.Omega.{arith}
use Rattle.log_scan.proofs.GroupLaws.{valid-other, valid-before, valid-range}
use Rattle.log_scan.proofs.groups.group_valid.Statement.{statement}
use Rattle.log_scan.proofs.groups.group_valid.Tie as tie

has-group-head-requires : tie.Need-has_group_head-requires
has-group-head-requires c κs = search rules

returns : tie.Need-returns-then-not-has_group_head
returns c = valid-other _ _ _ _ (omega arith) (sym c.has_group_head.ensures ∙ c.if-not-has_group_head.true)

returns-2 : tie.Need-returns-then-n-start
returns-2 c = valid-before _ _ _ _ c.if-n-start.true

add-result : tie.Need-overflow_add-result
add-result c = search rules

returns-3 : tie.Need-returns
returns-3 c =
    valid-range _ _ _ _ (omega arith) (sym c.has_group_head.ensures ∙ c.if-not-has_group_head.false) c.if-n-start.false

pub group_valid_spec : {M : Type 1} → statement M
group_valid_spec = tie.close (tie.spec has-group-head-requires returns returns-2 add-result returns-3)
