-- `log_gather::join_closing` meets its contract. Assumes nothing.
use Rattle.log_gather.proofs.WalkSteps.{closing-strayed, closing-failed, closing-joined}
use borrow.Author.Rules.{rules}
use Rattle.log_gather.proofs.walking.join_closing.Statement.{statement}
use Rattle.log_gather.proofs.walking.join_closing.Tie as tie

mul-cell : tie.Need-offset_bounds-cells-first
mul-cell c = search rules

slice-read-cell : tie.Need-bounds-cells-first
slice-read-cell c = search rules

astray-requires : tie.Need-astray-requires
astray-requires c κs = search rules

returns : tie.Need-returns-then-cell-ge-CLOSED
returns c = closing-strayed _ _ _ _ _ _ _ c.if-cell-ge-CLOSED.true _ c.astray.ensures

cast-decide : tie.Need-overflow_cast-cell
cast-decide c = search rules

add-decide : tie.Need-overflow_add-cell
add-decide c = search rules

decide-requires : tie.Need-decide-judged-requires
decide-requires c κs = search rules

returns-2 : tie.Need-returns-then-judged-ne0
returns-2 c = closing-failed _ _ _ _ _ _ _ c.if-cell-ge-CLOSED.false _ c.decide-judged.ensures c.if-judged-ne0.true

sub-offset : tie.Need-overflow_sub-offset
sub-offset c = search rules

add-cells : tie.Need-overflow_add-cells
add-cells c = search rules

cast-cells : tie.Need-overflow_cast-cells
cast-cells c = search rules

add-cells-2 : tie.Need-overflow_add-cells-2
add-cells-2 c = search rules

mul-cells : tie.Need-offset_bounds-cells-first-2
mul-cells c = search rules

slice-write-cells : tie.Need-bounds-cells-first-2
slice-write-cells c = search rules

chain-requires : tie.Need-chain-requires
chain-requires c κs = search rules

same_length : tie.Need-shape_of-cells
same_length c = search rules

same-length-2 : tie.Need-shape_of-heads
same-length-2 c = search rules

same-length-3 : tie.Need-shape_of-links
same-length-3 c = search rules

returns-3 : tie.Need-returns
returns-3 c = closing-joined _ _ _ _ _ _ _ c.if-cell-ge-CLOSED.false _ c.decide-judged.ensures c.if-judged-ne0.false _ _ c.chain.ensures.0 c.chain.ensures.1

pub join_closing_spec : {M : Type 1} → statement M
join_closing_spec =
    tie.close
    (tie.spec
    mul-cell
    slice-read-cell
    astray-requires
    returns
    cast-decide
    add-decide
    decide-requires
    returns-2
    sub-offset
    add-cells
    cast-cells
    add-cells-2
    mul-cells
    slice-write-cells
    chain-requires
    same_length
    same-length-2
    same-length-3
    returns-3)
