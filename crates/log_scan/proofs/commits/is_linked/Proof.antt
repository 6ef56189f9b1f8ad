-- `log_scan::is_linked` meets its contract. Assumes nothing.
use borrow.Author.Rules.{rules}
use Rattle.log_scan.proofs.DecideLaws.{linked-after, linked-none, linked-before}
use Rattle.log_scan.proofs.commits.is_linked.Statement.{statement}
use Rattle.log_scan.proofs.commits.is_linked.Tie as tie

add-result : tie.Need-overflow_add-result
add-result c = search rules

add-result-2 : tie.Need-overflow_add-result-then-end-ne0
add-result-2 c = search rules

returns : tie.Need-returns-then-end-ne0
returns c = linked-after _ _ _ _ c.if-end-ne0.true

returns-2 : tie.Need-returns-then-link-eq0
returns-2 c = linked-none _ _ _ _ c.if-end-ne0.false c.if-link-eq0.true

add-result-3 : tie.Need-overflow_add-result-2
add-result-3 c = search rules

returns-3 : tie.Need-returns
returns-3 c = linked-before _ _ _ _ c.if-end-ne0.false c.if-link-eq0.false

pub is_linked_spec : {M : Type 1} → statement M
is_linked_spec =
    tie.close (tie.spec add-result add-result-2 returns returns-2 add-result-3 returns-3)
