-- `object_machine::next::under_way` meets its contract. Assumes nothing.
use Rattle.object_machine.specs.Next.{under_way}
use borrow.Author.Rules.{rules}
use Rattle.object_machine.proofs.next.under_way.Statement.{statement}
use Rattle.object_machine.proofs.next.under_way.Tie as tie

known-requires : tie.Need-known-requires
known-requires c κs = search rules

returns : tie.Need-returns
unfolding under_way
returns c = rw (← c.known.ensures)

pub under_way_spec : {M : Type 1} → statement M
under_way_spec = tie.close (tie.spec known-requires returns)
