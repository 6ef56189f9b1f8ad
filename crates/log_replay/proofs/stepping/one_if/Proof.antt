-- `log_replay::one_if` meets its contract. Assumes nothing.
use mathlib.Core.Path.{sym, ap}
use mathlib.Core.Bool.{Bool, cond}
use Prim.Native.Nat.{ℕ}
use borrow.Author.Tests.{eq-eqb, ne_eqb}
use Rattle.log_replay.proofs.stepping.one_if.Statement.{statement}
use Rattle.log_replay.proofs.stepping.one_if.Tie as tie

returns : tie.Need-returns-then-code-eq0
returns c = sym (ap (λ (b : Bool). cond {A = ℕ} b 0 1) (eq-eqb _ 0 c.if-code-eq0.true))

returns-2 : tie.Need-returns-else-code-eq0
returns-2 c = sym (ap (λ (b : Bool). cond {A = ℕ} b 0 1) (ne_eqb _ 0 c.if-code-eq0.false))

pub one_if_spec : {M : Type 1} → statement M
one_if_spec = tie.close (tie.spec returns returns-2)
