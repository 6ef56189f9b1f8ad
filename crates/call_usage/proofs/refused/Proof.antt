-- `call_usage::refused` meets its contract. Assumes nothing.
use mathlib.Core.Path.{refl}
use Rattle.abstract_store.specs.Usage.{usage_refused}
use Rattle.call_usage.proofs.refused.Statement.{statement}
use Rattle.call_usage.proofs.refused.Tie as tie

returns : tie.Need-returns
unfolding usage_refused
returns c = refl

pub refused_spec : {M : Type 1} → statement M
refused_spec = tie.close (tie.spec returns)
