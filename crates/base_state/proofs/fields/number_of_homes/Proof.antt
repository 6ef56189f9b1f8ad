-- `base_state::number_of_homes` meets its contract. Assumes nothing.
use borrow.Author.Rules.{rules}
use Rattle.model.specs.State.{state_of}
use Rattle.base_state.proofs.fields.number_of_homes.Statement.{statement}
use Rattle.base_state.proofs.fields.number_of_homes.Tie as tie

number-requires : tie.Need-number-requires
number-requires c κs = search rules

returns : tie.Need-returns
unfolding state_of
returns c = c.number.ensures

pub number_of_homes_spec : {M : Type 1} → statement M
number_of_homes_spec = tie.close (tie.spec number-requires returns)
