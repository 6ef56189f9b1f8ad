-- `object_machine::moves::at_stage` meets its contract. Assumes nothing.
use Rattle.object_machine.specs.Moves.{at_stage, call_at, call_in_round}
use borrow.Author.Rules.{rules}
use Rattle.object_machine.proofs.moves.at_stage.Statement.{statement}
use Rattle.object_machine.proofs.moves.at_stage.Tie as tie

in-round-requires : tie.Need-in_round-requires
in-round-requires c κs = search rules

mul-result : tie.Need-offset_bounds-stage
mul-result c = search rules

array-read-result : tie.Need-bounds-stage
array-read-result c = search rules

returns : tie.Need-returns-then-in_round
unfolding at_stage call_in_round
returns c = rw (← c.in_round.ensures, c.if-in_round.true)

mul-result-2 : tie.Need-offset_bounds-stage-2
mul-result-2 c = search rules

array-read-result-2 : tie.Need-bounds-stage-2
array-read-result-2 c = search rules

returns-2 : tie.Need-returns
unfolding at_stage call_at
returns-2 c = rw (← c.in_round.ensures, c.if-in_round.false)

pub at_stage_spec : {M : Type 1} → statement M
at_stage_spec = tie.close (tie.spec in-round-requires mul-result array-read-result returns mul-result-2 array-read-result-2 returns-2)
