-- `base_order::asked` meets its contract: each return follows the tests that led to it. Assumes nothing.
use borrow.Author.Rules.{rules}
use native.Mathlib.Omega.{arith}
use Rattle.base_order.proofs.AskedLaws.{asked-none, asked-idle, asked-open}
use Rattle.base_order.proofs.pending.asked.Statement.{statement}
use Rattle.base_order.proofs.pending.asked.Tie as tie

promise-requires : tie.Need-promise-n-requires
promise-requires c κs = search rules

returns : tie.Need-returns-then-n-eq0
returns c = (asked-none _ _ _ c.promise-n.ensures.0 c.if-n-eq0.true, omega arith)

add-byte : tie.Need-overflow_add-w
add-byte c = search rules

byte-requires : tie.Need-byte-requires
byte-requires c κs = search rules

returns-2 : tie.Need-returns-then-byte-eq0
returns-2 c =
    (asked-idle _ _ _ c.promise-n.ensures.0 _ c.if-n-eq0.false c.byte.ensures.0 c.if-byte-eq0.true, omega arith)

returns-3 : tie.Need-returns
returns-3 c =
    let n = c.promise-n.ensures in
    (asked-open _ _ _ n.0 _ c.byte.ensures.0 c.if-byte-eq0.false, n.1)

pub asked_spec : {M : Type 1} → statement M
asked_spec = tie.close (tie.spec promise-requires returns add-byte byte-requires returns-2 returns-3)
