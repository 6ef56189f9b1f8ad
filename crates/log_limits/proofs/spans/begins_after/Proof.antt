-- `log_limits::begins_after` meets its contract. Assumes nothing.
use mathlib.Core.Bool.{false≢true}
use native.Mathlib.Omega.{arith}
use borrow.Author.Rules.{rules}
use Rattle.log_limits.proofs.spans.begins_after.Statement.{statement}
use Rattle.log_limits.proofs.spans.begins_after.Tie as tie

tag-back-requires : tie.Need-tag_back-back-requires
tag-back-requires c κs = search rules

returns : tie.Need-returns-then-position-back
returns c = λ e. absurd (false≢true e)

returns-2 : tie.Need-returns-then-position-back-2
returns-2 c = λ e. absurd (false≢true e)

returns-3 : tie.Need-returns
returns-3 c = λ e. omega (arith, c.tag_back-back.ensures)

pub begins_after_spec : {M : Type 1} → statement M
begins_after_spec = tie.close (tie.spec tag-back-requires returns returns-2 returns-3)
