-- `base_state::set_round` meets its contract. Assumes nothing.
use borrow.Author.Rules.{rules}
use Rattle.model.specs.State.{set_round}
use Rattle.base_state.proofs.fields.set_round.Statement.{statement}
use Rattle.base_state.proofs.fields.set_round.Tie as tie

put-number-requires : tie.Need-put_number-requires
put-number-requires c κs = search rules

same_length : tie.Need-shape_of-s
same_length c = search rules

returns : tie.Need-returns
unfolding set_round
returns c = c.put_number.ensures

pub set_round_spec : {M : Type 1} → statement M
set_round_spec = tie.close (tie.spec put-number-requires same_length returns)
