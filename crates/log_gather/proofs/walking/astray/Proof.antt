-- `log_gather::astray` meets its contract. Assumes nothing.
use mathlib.Core.Path.{refl}
use Rattle.log_gather.specs.Walks.{strayed}
use Rattle.log_gather.proofs.walking.astray.Statement.{statement}
use Rattle.log_gather.proofs.walking.astray.Tie as tie

returns : tie.Need-returns
unfolding strayed
returns c = refl

pub astray_spec : {M : Type 1} → statement M
astray_spec = tie.close (tie.spec returns)
