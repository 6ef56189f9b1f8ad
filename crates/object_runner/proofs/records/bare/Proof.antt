-- `object_runner::records::bare` meets its contract. Assumes nothing.
use mathlib.Core.Path.{refl}
use Rattle.object_runner.specs.Next.{bare}
use Rattle.object_runner.proofs.records.bare.Statement.{statement}
use Rattle.object_runner.proofs.records.bare.Tie as tie

returns : tie.Need-returns
unfolding bare
returns c = refl

pub bare_spec : {M : Type 1} → statement M
bare_spec = tie.close (tie.spec returns)
