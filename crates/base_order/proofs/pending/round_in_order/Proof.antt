-- `base_order::round_in_order` meets its contract: each return follows the tests that led to it. Assumes nothing.
use borrow.Author.Rules.{rules}
use Rattle.base_order.proofs.OrderTests.{round-none, round-low, round-last}
use Rattle.base_order.proofs.pending.round_in_order.Statement.{statement}
use Rattle.base_order.proofs.pending.round_in_order.Tie as tie

returns : tie.Need-returns-then-st-eq0
returns c = round-none _ c.if-st-eq0.true

returns-2 : tie.Need-returns-then-st
returns-2 c = round-low _ c.if-st-eq0.false c.if-st.true

sub-result : tie.Need-overflow_sub-result
sub-result c = search rules

returns-3 : tie.Need-returns
returns-3 c = round-last _ c.if-st-eq0.false c.if-st.false

pub round_in_order_spec : {M : Type 1} → statement M
round_in_order_spec = tie.close (tie.spec returns returns-2 sub-result returns-3)
