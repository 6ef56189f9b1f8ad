-- `log_gather::join_entry` meets its contract. Assumes nothing.
use Rattle.log_gather.proofs.WalkSteps.{entry-strayed, entry-joined}
use borrow.Author.Rules.{rules}
use Rattle.log_gather.proofs.walking.join_entry.Statement.{statement}
use Rattle.log_gather.proofs.walking.join_entry.Tie as tie

mul-cell : tie.Need-offset_bounds-cells-first
mul-cell c = search rules

slice-read-cell : tie.Need-bounds-cells-first
slice-read-cell c = search rules

astray-requires : tie.Need-astray-requires
astray-requires c κs = search rules

returns : tie.Need-returns-then-cell-ge-CLOSED
returns c = entry-strayed _ _ _ _ c.if-cell-ge-CLOSED.true _ c.astray.ensures

add-cells : tie.Need-overflow_add-cells
add-cells c = search rules

mul-cells : tie.Need-offset_bounds-cells-first-2
mul-cells c = search rules

slice-write-cells : tie.Need-bounds-cells-first-2
slice-write-cells c = search rules

chain-requires : tie.Need-chain-requires
chain-requires c κs = search rules

same_length : tie.Need-shape_of-cells
same_length c = search rules

same-length-2 : tie.Need-shape_of-heads
same-length-2 c = search rules

same-length-3 : tie.Need-shape_of-links
same-length-3 c = search rules

returns-2 : tie.Need-returns
returns-2 c = entry-joined _ _ _ _ c.if-cell-ge-CLOSED.false _ _ c.chain.ensures.0 c.chain.ensures.1

pub join_entry_spec : {M : Type 1} → statement M
join_entry_spec =
    tie.close
    (tie.spec
    mul-cell
    slice-read-cell
    astray-requires
    returns
    add-cells
    mul-cells
    slice-write-cells
    chain-requires
    same_length
    same-length-2
    same-length-3
    returns-2)
