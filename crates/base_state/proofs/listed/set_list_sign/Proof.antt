-- `base_state::set_list_sign` meets its contract. Assumes nothing.
use borrow.Author.Rules.{rules}
use Rattle.model.specs.State.{set_list_sign}
use Rattle.base_state.proofs.listed.set_list_sign.Statement.{statement}
use Rattle.base_state.proofs.listed.set_list_sign.Tie as tie

put-number-requires : tie.Need-put_number-requires
put-number-requires c κs = search rules

same_length : tie.Need-shape_of-s
same_length c = search rules

returns : tie.Need-returns
unfolding set_list_sign
returns c = c.put_number.ensures

pub set_list_sign_spec : {M : Type 1} → statement M
set_list_sign_spec = tie.close (tie.spec put-number-requires same_length returns)
