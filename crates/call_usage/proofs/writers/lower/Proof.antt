-- `call_usage::lower` meets its contract. Assumes nothing.
use mathlib.Core.Path.{sym, ◌∙◌}
use Rattle.call_usage.proofs.UsageLaws.{lower-none, lower-not, lower-first, lower-less}
use borrow.Author.Rules.{rules}
use Rattle.call_usage.proofs.writers.lower.Statement.{statement}
use Rattle.call_usage.proofs.writers.lower.Tie as tie

writer-requires : tie.Need-writer-r-requires
writer-requires c κs = search rules

has-logged-requires : tie.Need-has_logged-requires
has-logged-requires c κs = search rules

returns : tie.Need-returns-then-not-has_logged
returns c = lower-none _ _ c.writer-r.ensures _ _ (sym c.has_logged.ensures ∙ c.if-not-has_logged.true)

returns-2 : tie.Need-returns-then-h-r
returns-2 c =
    lower-not _ _ c.writer-r.ensures _ _ (sym c.has_logged.ensures ∙ c.if-not-has_logged.false) c.if-h-ne8.true c.if-h-r.true

returns-3 : tie.Need-returns-else-h-r
returns-3 c =
    lower-less _ _ c.writer-r.ensures _ _ (sym c.has_logged.ensures ∙ c.if-not-has_logged.false) c.if-h-ne8.true c.if-h-r.false

returns-4 : tie.Need-returns-else-h-ne8
returns-4 c =
    lower-first _ _ c.writer-r.ensures _ _ (sym c.has_logged.ensures ∙ c.if-not-has_logged.false) c.if-h-ne8.false

pub lower_spec : {M : Type 1} → statement M
lower_spec =
    tie.close (tie.spec writer-requires has-logged-requires returns returns-2 returns-3 returns-4)
