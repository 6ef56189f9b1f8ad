-- `call_store::link_from` meets its contract. Assumes nothing.
use Rattle.call_store.proofs.LogLaws.{link-none, link-some}
use native.Mathlib.Omega.{arith}
use borrow.Author.Rules.{rules}
use Rattle.call_store.proofs.entry.link_from.Statement.{statement}
use Rattle.call_store.proofs.entry.link_from.Tie as tie

mul-if1 : tie.Need-overflow_mul-st
mul-if1 c = search rules

returns : tie.Need-returns-then-st
returns c = link-none _ _ (omega (arith, c.if-st.true))

add-result : tie.Need-overflow_add-result
add-result c = search rules

sub-result : tie.Need-overflow_sub-result
sub-result c = search rules

returns-2 : tie.Need-returns
returns-2 c = link-some _ _ (omega (arith, c.if-st.false))

pub link_from_spec : {M : Type 1} → statement M
link_from_spec = tie.close (tie.spec mul-if1 returns add-result sub-result returns-2)
