-- `unit_hours_book::write` meets its contract. Assumes nothing.
use Rattle.unit_hours_book.specs.Pump.{block_of}
use Rattle.unit_hours_book.proofs.BlockLaws.{cleared}
use borrow.Author.Rules.{rules}
use Rattle.unit_hours_book.proofs.write.Statement.{statement}
use Rattle.unit_hours_book.proofs.write.Tie as tie

clear-requires : tie.Need-clear-requires
clear-requires c κs = search rules

put-number-requires : tie.Need-put_number-requires
put-number-requires c κs = search rules

put-number-requires-2 : tie.Need-put_number-requires-2
put-number-requires-2 c κs = search rules

put-number-requires-3 : tie.Need-put_number-requires-3
put-number-requires-3 c κs = search rules

flag-requires : tie.Need-flag-requires
flag-requires c κs = search rules

put-number-requires-4 : tie.Need-put_number-requires-4
put-number-requires-4 c κs = search rules

same_length : tie.Need-shape_of-block
same_length c = search rules

returns : tie.Need-returns
unfolding block_of
returns c =
    rw (c.put_number-4.ensures, c.flag.ensures, c.put_number-3.ensures, c.put_number-2.ensures, c.put_number.ensures, c.clear.ensures, cleared _ c.requires)

pub write_spec : {M : Type 1} → statement M
write_spec =
    tie.close
    (tie.spec
    clear-requires
    put-number-requires
    put-number-requires-2
    put-number-requires-3
    flag-requires
    put-number-requires-4
    same_length
    returns)
