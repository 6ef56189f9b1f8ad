-- `log_replay::offer` meets its contract. Assumes nothing.
use borrow.Author.Rules.{rules}
use Rattle.log_replay.proofs.NewestLaws.{offered-now, offered-not}
use Rattle.log_replay.proofs.words.offer.Statement.{statement}
use Rattle.log_replay.proofs.words.offer.Tie as tie

mul-if1 : tie.Need-offset_bounds-closers-k
mul-if1 c = search rules

slice-read-if1 : tie.Need-bounds-closers-k
slice-read-if1 c = search rules

mul-closers : tie.Need-offset_bounds-closers-k-then-closers-k
mul-closers c = search rules

slice-write-closers : tie.Need-bounds-closers-k-then-closers-k
slice-write-closers c = search rules

mul-table : tie.Need-offset_bounds-table-k
mul-table c = search rules

slice-write-table : tie.Need-bounds-table-k
slice-write-table c = search rules

mark-requires : tie.Need-mark-requires
mark-requires c κs = search rules

same_length : tie.Need-shape_of-closers
same_length c = search rules

same-length-2 : tie.Need-shape_of-table
same-length-2 c = search rules

same-length-3 : tie.Need-shape_of-map
same-length-3 c = search rules

returns : tie.Need-returns-then-closers-k
returns c = offered-now _ _ _ _ _ c.if-closers-k.true c.mark.ensures.0

returns-2 : tie.Need-returns-else-closers-k
returns-2 c = offered-not _ _ _ _ c.if-closers-k.false

pub offer_spec : {M : Type 1} → statement M
offer_spec =
    tie.close
    (tie.spec
    mul-if1
    slice-read-if1
    mul-closers
    slice-write-closers
    mul-table
    slice-write-table
    mark-requires
    same_length
    same-length-2
    same-length-3
    returns
    returns-2)
