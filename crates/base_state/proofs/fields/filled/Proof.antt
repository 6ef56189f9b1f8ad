-- `base_state::filled` meets its contract. Assumes nothing.
use borrow.Author.Rules.{rules}
use Rattle.model.specs.State.{state_of}
use Rattle.base_state.proofs.fields.filled.Statement.{statement}
use Rattle.base_state.proofs.fields.filled.Tie as tie

number-requires : tie.Need-number-requires
number-requires c κs = search rules

returns : tie.Need-returns
unfolding state_of
returns c = c.number.ensures

pub filled_spec : {M : Type 1} → statement M
filled_spec = tie.close (tie.spec number-requires returns)
