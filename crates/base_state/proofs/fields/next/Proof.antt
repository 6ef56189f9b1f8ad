-- `base_state::next` meets its contract. Assumes nothing.
use borrow.Author.Rules.{rules}
use Rattle.model.specs.State.{state_of}
use Rattle.base_state.proofs.fields.next.Statement.{statement}
use Rattle.base_state.proofs.fields.next.Tie as tie

number-requires : tie.Need-number-requires
number-requires c κs = search rules

returns : tie.Need-returns
unfolding state_of
returns c = c.number.ensures

pub next_spec : {M : Type 1} → statement M
next_spec = tie.close (tie.spec number-requires returns)
