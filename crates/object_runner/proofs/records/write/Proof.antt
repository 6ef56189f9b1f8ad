-- `object_runner::records::write` meets its contract. Assumes nothing.
use mathlib.Core.Path.{refl}
use Rattle.object_runner.specs.Next.{write}
use Rattle.object_runner.proofs.records.write.Statement.{statement}
use Rattle.object_runner.proofs.records.write.Tie as tie

returns : tie.Need-returns
unfolding write
returns c = refl

pub write_spec : {M : Type 1} → statement M
write_spec = tie.close (tie.spec returns)
