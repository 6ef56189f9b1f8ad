-- `object_machine::moves::gives_up` meets its contract. Assumes nothing.
use Rattle.object_machine.specs.Moves.{gives_up_at}
use borrow.Author.Rules.{rules}
use Rattle.object_machine.proofs.moves.gives_up.Statement.{statement}
use Rattle.object_machine.proofs.moves.gives_up.Tie as tie

full-requires : tie.Need-full-code-requires
full-requires c κs = search rules

tells-holder-requires : tie.Need-tells_holder-requires
tells-holder-requires c κs = search rules

answers-requires : tie.Need-answers-requires
answers-requires c κs = search rules

returns : tie.Need-returns
unfolding gives_up_at
returns c = rw (← c.full-code.ensures, ← c.tells_holder.ensures) c.answers.ensures

pub gives_up_spec : {M : Type 1} → statement M
gives_up_spec = tie.close (tie.spec full-requires tells-holder-requires answers-requires returns)
