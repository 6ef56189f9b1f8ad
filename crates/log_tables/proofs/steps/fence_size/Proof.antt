-- `log_tables::fence_size` meets its contract. Assumes nothing.
use mathlib.Core.Path.{sym, ap}
use mathlib.Core.Bool.{Bool, cond}
use Prim.Native.Nat.{ℕ}
use borrow.Author.Tests.{le-leb, lt-leb}
use Rattle.log_tables.proofs.steps.fence_size.Statement.{statement}
use Rattle.log_tables.proofs.steps.fence_size.Tie as tie

returns : tie.Need-returns-then-limit-found
returns c = sym (ap (λ (b : Bool). cond {A = ℕ} b 2 0) (lt-leb _ _ c.if-limit-found.true))

returns-2 : tie.Need-returns-else-limit-found
returns-2 c = sym (ap (λ (b : Bool). cond {A = ℕ} b 2 0) (le-leb _ _ c.if-limit-found.false))

pub fence_size_spec : {M : Type 1} → statement M
fence_size_spec = tie.close (tie.spec returns returns-2)
