-- `object_machine::moves::in_round` meets its contract. Assumes nothing.
use mathlib.Core.Path.{refl}
use Rattle.model.specs.State.{under_way}
use Rattle.object_machine.proofs.moves.in_round.Statement.{statement}
use Rattle.object_machine.proofs.moves.in_round.Tie as tie

returns : tie.Need-returns
unfolding under_way
returns c = refl

pub in_round_spec : {M : Type 1} → statement M
in_round_spec = tie.close (tie.spec returns)
