-- `object_machine::moves::follows` meets its contract. Assumes nothing.
use borrow.Author.Tests.{le-leb, lt-leb}
use Rattle.object_machine.specs.Next.{follows}
use borrow.Author.Rules.{rules}
use Rattle.object_machine.proofs.moves.follows.Statement.{statement}
use Rattle.object_machine.proofs.moves.follows.Tie as tie

called-requires : tie.Need-called-requires
called-requires c κs = search rules

returns : tie.Need-returns-then-c-le18
unfolding follows
returns c = rw (le-leb _ 18 c.if-c-le18.true) c.called.ensures

uncalled-requires : tie.Need-uncalled-requires
uncalled-requires c κs = search rules

returns-2 : tie.Need-returns
unfolding follows
returns-2 c = rw (lt-leb _ 18 c.if-c-le18.false) c.uncalled.ensures

pub follows_spec : {M : Type 1} → statement M
follows_spec = tie.close (tie.spec called-requires returns uncalled-requires returns-2)
