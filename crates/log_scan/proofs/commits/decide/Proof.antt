-- `log_scan::judge` meets its contract: each return follows the tests that led to it. Assumes nothing.
use mathlib.Core.Path.{sym, ◌∙◌}
use borrow.Author.Rules.{rules}
use Rattle.log_scan.proofs.DecideLaws.{decided-stopped, decided-unlinked, decided-incomplete, decided-taken}
use Rattle.log_scan.proofs.commits.decide.Statement.{statement}
use Rattle.log_scan.proofs.commits.decide.Tie as tie

returns : tie.Need-returns-then-progress-ne0
returns c = decided-stopped _ _ _ _ _ c.if-progress-ne0.true

is-linked-requires : tie.Need-is_linked-requires
is-linked-requires c κs = search rules

returns-2 : tie.Need-returns-then-not-is_linked
returns-2 c = decided-unlinked _ _ _ _ _ (sym c.is_linked.ensures ∙ c.if-not-is_linked.true)

returns-3 : tie.Need-returns-then-not-complete
returns-3 c = decided-incomplete _ _ _ _ _ (c.if-not-complete.true)

add-t11 : tie.Need-overflow_add-result
add-t11 c = search rules

add-t12 : tie.Need-overflow_add-result-2
add-t12 c = search rules

returns-4 : tie.Need-returns
returns-4 c =
    decided-taken _ _ _ _ _ c.if-progress-ne0.false (sym c.is_linked.ensures ∙ c.if-not-is_linked.false) (c.if-not-complete.false)

pub decide_spec : {M : Type 1} → statement M
decide_spec =
    tie.close (tie.spec returns is-linked-requires returns-2 returns-3 add-t11 add-t12 returns-4)
