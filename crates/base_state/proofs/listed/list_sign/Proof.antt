-- `base_state::list_sign` meets its contract. Assumes nothing.
use borrow.Author.Rules.{rules}
use Rattle.model.specs.State.{list_sign}
use Rattle.base_state.proofs.listed.list_sign.Statement.{statement}
use Rattle.base_state.proofs.listed.list_sign.Tie as tie

number-requires : tie.Need-number-requires
number-requires c κs = search rules

returns : tie.Need-returns
unfolding list_sign
returns c = c.number.ensures.0

pub list_sign_spec : {M : Type 1} → statement M
list_sign_spec = tie.close (tie.spec number-requires returns)
