-- `base_state::set_listed` meets its contract. Assumes nothing.
use borrow.Author.Rules.{rules}
use Rattle.model.specs.State.{set_listed}
use Rattle.base_state.proofs.listed.set_listed.Statement.{statement}
use Rattle.base_state.proofs.listed.set_listed.Tie as tie

copy-requires : tie.Need-copy-requires
copy-requires c κs = search rules

same_length : tie.Need-shape_of-s
same_length c = search rules

returns : tie.Need-returns
unfolding set_listed
returns c = c.copy.ensures

pub set_listed_spec : {M : Type 1} → statement M
set_listed_spec = tie.close (tie.spec copy-requires same_length returns)
