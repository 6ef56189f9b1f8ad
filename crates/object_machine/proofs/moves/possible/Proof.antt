-- `object_machine::moves::possible` meets its contract. Assumes nothing.
use mathlib.Core.Path.{refl}
use Rattle.object_machine.specs.Moves.{possible}
use borrow.Author.Rules.{rules}
use Rattle.object_machine.proofs.moves.possible.Statement.{statement}
use Rattle.object_machine.proofs.moves.possible.Tie as tie

mul-result : tie.Need-overflow_mul-result
mul-result c = search rules

returns : tie.Need-returns
unfolding possible
returns c = refl

pub possible_spec : {M : Type 1} → statement M
possible_spec = tie.close (tie.spec mul-result returns)
