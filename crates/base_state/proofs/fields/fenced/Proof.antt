-- `base_state::fenced` meets its contract. Assumes nothing.
use borrow.Author.Rules.{rules}
use Rattle.model.specs.State.{state_of}
use Rattle.base_state.proofs.fields.fenced.Statement.{statement}
use Rattle.base_state.proofs.fields.fenced.Tie as tie

number-requires : tie.Need-number-requires
number-requires c κs = search rules

returns : tie.Need-returns
unfolding state_of
returns c = c.number.ensures

pub fenced_spec : {M : Type 1} → statement M
fenced_spec = tie.close (tie.spec number-requires returns)
