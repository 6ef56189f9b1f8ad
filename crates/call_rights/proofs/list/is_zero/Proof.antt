-- `call_rights::is_zero` meets its contract. Assumes nothing.
use Rattle.call_rights.proofs.PlaceLaws.{zero-home, zero-entry}
use borrow.Author.Rules.{rules}
use Rattle.call_rights.proofs.list.is_zero.Statement.{statement}
use Rattle.call_rights.proofs.list.is_zero.Tie as tie

add-zero-block : tie.Need-overflow_add-i
add-zero-block c = search rules

mul-zero-block : tie.Need-overflow_mul-i
mul-zero-block c = search rules

zero-block-requires : tie.Need-zero_block-requires
zero-block-requires c κs = search rules

returns : tie.Need-returns-then-found-eq0
returns c = zero-home _ _ _ _ _ c.if-found-eq0.true c.zero_block.ensures

zero-entry-requires : tie.Need-zero_entry-requires
zero-entry-requires c κs = c.requires.2 c.if-found-eq0.false

returns-2 : tie.Need-returns
returns-2 c = zero-entry _ _ _ _ _ c.if-found-eq0.false c.zero_entry.ensures

pub is_zero_spec : {M : Type 1} → statement M
is_zero_spec =
    tie.close
    (tie.spec
    add-zero-block
    mul-zero-block
    zero-block-requires
    returns
    zero-entry-requires
    returns-2)
