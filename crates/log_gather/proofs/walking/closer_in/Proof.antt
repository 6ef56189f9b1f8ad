-- `log_gather::closer_in` meets its contract. Assumes nothing.
use Rattle.log_gather.proofs.WalkSteps.{closer-counts, closer-closed}
use Rattle.log_gather.proofs.walking.closer_in.Statement.{statement}
use Rattle.log_gather.proofs.walking.closer_in.Tie as tie

returns : tie.Need-returns-then-cell-lt-CLOSED
returns c = closer-counts _ c.if-cell-lt-CLOSED.true

returns-2 : tie.Need-returns-else-cell-lt-CLOSED
returns-2 c = closer-closed _ c.if-cell-lt-CLOSED.false

pub closer_in_spec : {M : Type 1} → statement M
closer_in_spec = tie.close (tie.spec returns returns-2)
