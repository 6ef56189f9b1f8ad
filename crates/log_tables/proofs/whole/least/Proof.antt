-- `log_tables::least` meets its contract. Assumes nothing.
use mathlib.Core.Path.{refl}
use mathlib.Core.Logic.{inl, inr}
use native.Mathlib.Omega.{arith}
use Rattle.log_tables.proofs.whole.least.Statement.{statement}
use Rattle.log_tables.proofs.whole.least.Tie as tie

returns : tie.Need-returns-then-a-b
returns c = (omega arith, omega (arith, c.if-a-b.true), inl refl)

returns-2 : tie.Need-returns-else-a-b
returns-2 c = (omega (arith, c.if-a-b.false), omega arith, inr refl)

pub least_spec : {M : Type 1} → statement M
least_spec = tie.close (tie.spec returns returns-2)
