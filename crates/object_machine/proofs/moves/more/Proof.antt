-- `object_machine::moves::more` meets its contract. Assumes nothing.
use Rattle.object_machine.specs.Moves.{more}
use borrow.Author.Rules.{rules}
use Rattle.object_machine.proofs.moves.more.Statement.{statement}
use Rattle.object_machine.proofs.moves.more.Tie as tie

in-round-requires : tie.Need-in_round-requires
in-round-requires c κs = search rules

settled-requires : tie.Need-settled-requires
settled-requires c κs = search rules

returns : tie.Need-returns-then-in_round-settled
unfolding more
returns c = rw (← c.in_round.ensures, ← c.settled.ensures, c.if-in_round-settled.true)

returns-2 : tie.Need-returns
unfolding more
returns-2 c = rw (← c.in_round.ensures, ← c.settled.ensures, c.if-in_round-settled.false)

pub more_spec : {M : Type 1} → statement M
more_spec = tie.close (tie.spec in-round-requires settled-requires returns returns-2)
