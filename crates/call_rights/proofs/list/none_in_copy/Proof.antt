-- `call_rights::none_in_copy` meets its contract. Assumes nothing.
use borrow.Author.Rules.{rules}
use mathlib.Core.Path.{sym, ◌∙◌}
use Rattle.call_rights.proofs.list.none_in_copy.Statement.{statement}
use Rattle.call_rights.proofs.list.none_in_copy.Tie as tie

zero-block-requires : tie.Need-zero_block-requires
zero-block-requires c κs = search rules

returns : tie.Need-returns-then-not-zero_block
returns c = rw (sym c.zero_block.ensures ∙ c.if-not-zero_block.true)

zero-block-requires-2 : tie.Need-zero_block-requires-2
zero-block-requires-2 c κs = search rules

returns-2 : tie.Need-returns-then-not-zero_block-2
returns-2 c = rw (sym c.zero_block.ensures ∙ c.if-not-zero_block.false, sym c.zero_block-2.ensures ∙ c.if-not-zero_block-2.true)

zero-block-requires-3 : tie.Need-zero_block-requires-3
zero-block-requires-3 c κs = search rules

returns-3 : tie.Need-returns-then-not-zero_block-3
returns-3 c = rw (sym c.zero_block.ensures ∙ c.if-not-zero_block.false, sym c.zero_block-2.ensures ∙ c.if-not-zero_block-2.false, sym c.zero_block-3.ensures ∙ c.if-not-zero_block-3.true)

zero-block-requires-4 : tie.Need-zero_block-requires-4
zero-block-requires-4 c κs = search rules

returns-4 : tie.Need-returns
returns-4 c = rw (sym c.zero_block.ensures ∙ c.if-not-zero_block.false, sym c.zero_block-2.ensures ∙ c.if-not-zero_block-2.false, sym c.zero_block-3.ensures ∙ c.if-not-zero_block-3.false) c.zero_block-4.ensures

pub none_in_copy_spec : {M : Type 1} → statement M
none_in_copy_spec =
    tie.close
    (tie.spec
    zero-block-requires
    returns
    zero-block-requires-2
    returns-2
    zero-block-requires-3
    returns-3
    zero-block-requires-4
    returns-4)
