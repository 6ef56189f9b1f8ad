-- `object_machine::next::holder_for` meets its contract. Assumes nothing.
use Rattle.abstract_store.specs.Usage.{no_holder}
use Rattle.object_machine.specs.Next.{holder_for}
use borrow.Author.Rules.{rules}
use Rattle.object_machine.proofs.next.holder_for.Statement.{statement}
use Rattle.object_machine.proofs.next.holder_for.Tie as tie

returns : tie.Need-returns-then-code-stage
unfolding holder_for no_holder
returns c = rw c.if-code-stage.true

holder-requires : tie.Need-holder-requires
holder-requires c κs = search rules

returns-2 : tie.Need-returns
unfolding holder_for
returns-2 c = rw c.if-code-stage.false c.holder.ensures

pub holder_for_spec : {M : Type 1} → statement M
holder_for_spec = tie.close (tie.spec returns holder-requires returns-2)
