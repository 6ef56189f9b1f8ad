-- `call_trim::kept_last` meets its contract. Assumes nothing.
use native.Mathlib.Omega.{arith}
use borrow.Author.Rules.{rules}
use Rattle.call_trim.proofs.TrimmingLaws.{last_none, last-kept}
use Rattle.call_trim.proofs.moves.kept_last.Statement.{statement}
use Rattle.call_trim.proofs.moves.kept_last.Tie as tie

mul-if1 : tie.Need-overflow_mul-start
mul-if1 c = search rules

returns : tie.Need-returns-then-last-start
returns c = last_none _ _ (omega arith)

returns-2 : tie.Need-returns-else-last-start
returns-2 c = last-kept _ _ (omega arith)

pub kept_last_spec : {M : Type 1} → statement M
kept_last_spec = tie.close (tie.spec mul-if1 returns returns-2)
