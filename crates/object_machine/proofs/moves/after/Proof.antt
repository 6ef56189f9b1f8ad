-- `object_machine::moves::after` meets its contract. Assumes nothing.
use mathlib.Core.Path.{refl}
use Rattle.object_machine.specs.Moves.{after}
use borrow.Author.Rules.{rules}
use Rattle.object_machine.proofs.moves.after.Statement.{statement}
use Rattle.object_machine.proofs.moves.after.Tie as tie

mul-result : tie.Need-offset_bounds-stage
mul-result c = search rules

array-read-result : tie.Need-bounds-stage
array-read-result c = search rules

returns : tie.Need-returns
unfolding after
returns c = refl

pub after_spec : {M : Type 1} → statement M
after_spec = tie.close (tie.spec mul-result array-read-result returns)
