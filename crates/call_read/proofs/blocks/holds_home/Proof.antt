-- `call_read::holds_home` meets its contract. Assumes nothing.
use borrow.Author.Rules.{rules}
use Rattle.call_read.proofs.ReadLaws.{held-other, held-tested}
use Rattle.call_read.proofs.blocks.holds_home.Statement.{statement}
use Rattle.call_read.proofs.blocks.holds_home.Tie as tie

holds-requires : tie.Need-holds-requires
holds-requires c κs = search rules

returns : tie.Need-returns-then-not-holds
returns c = held-other _ _ _ c.holds.ensures (c.if-not-holds.true)

returns-2 : tie.Need-returns
returns-2 c = held-tested _ _ _ c.holds.ensures (c.if-not-holds.false)

pub holds_home_spec : {M : Type 1} → statement M
holds_home_spec = tie.close (tie.spec holds-requires returns returns-2)
