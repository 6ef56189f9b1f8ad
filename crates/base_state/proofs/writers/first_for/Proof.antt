-- `base_state::first_for` meets its contract. Assumes nothing.
use borrow.Author.Rules.{rules}
use Rattle.model.specs.State.{first_for}
use Rattle.base_state.proofs.writers.first_for.Statement.{statement}
use Rattle.base_state.proofs.writers.first_for.Tie as tie

has-logged-requires : tie.Need-has_logged-requires
has-logged-requires c κs = search rules

returns : tie.Need-returns-then-has_logged
unfolding first_for
returns c = rw (← c.has_logged.ensures, c.if-has_logged.true)

returns-2 : tie.Need-returns-else-has_logged
unfolding first_for
returns-2 c = rw (← c.has_logged.ensures, c.if-has_logged.false)

pub first_for_spec : {M : Type 1} → statement M
first_for_spec = tie.close (tie.spec has-logged-requires returns returns-2)
