-- `base_state::set_groups` meets its contract. Assumes nothing.
use borrow.Author.Rules.{rules}
use Rattle.model.specs.State.{set_groups}
use Rattle.base_state.proofs.fields.set_groups.Statement.{statement}
use Rattle.base_state.proofs.fields.set_groups.Tie as tie

put-number-requires : tie.Need-put_number-requires
put-number-requires c κs = search rules

same_length : tie.Need-shape_of-s
same_length c = search rules

returns : tie.Need-returns
unfolding set_groups
returns c = c.put_number.ensures

pub set_groups_spec : {M : Type 1} → statement M
set_groups_spec = tie.close (tie.spec put-number-requires same_length returns)
