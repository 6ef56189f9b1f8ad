-- `call_ask::lengths_right` meets its contract: each return follows the tests that led to it. Assumes nothing.
use mathlib.Core.Path.{sym, ◌∙◌}
use borrow.Author.Rules.{rules}
use Rattle.call_ask.proofs.lengths_right.Statement.{statement}
use Rattle.call_ask.proofs.lengths_right.Tie as tie

log-right-requires : tie.Need-log_right-requires
log-right-requires c κs = search rules

returns : tie.Need-returns-then-not-log_right
returns c = rw (sym c.log_right.ensures ∙ c.if-not-log_right.true)

data-right-requires : tie.Need-data_right-requires
data-right-requires c κs = search rules

returns-2 : tie.Need-returns-then-not-data_right
returns-2 c =
    rw (sym c.log_right.ensures ∙ c.if-not-log_right.false, sym c.data_right.ensures ∙ c.if-not-data_right.true)

returns-3 : tie.Need-returns
returns-3 c =
    rw (sym c.log_right.ensures ∙ c.if-not-log_right.false, sym c.data_right.ensures ∙ c.if-not-data_right.false)

pub lengths_right_spec : {M : Type 1} → statement M
lengths_right_spec =
    tie.close (tie.spec log-right-requires returns data-right-requires returns-2 returns-3)
